use Rattle.std.proofs.Common.{◌≡◌, ◌≢◌, List, [], ℕ, ◌+◌, ◌<◌, ◌≤◌, Bool, false, refl, sym, ap, ◌∙◌, arith, drop, get_or, length, slice_range}
use Rattle.std.specs.List.{list_any}
use Rattle.wire.specs.Fields.{is_close, names_close, pieces_after}
use Rattle.httparse.proofs.TrimLemmas.{slice_empty}
use Rattle.wire.proofs.FieldLemmas.{pieces_comma, pieces_other}
use Rattle.wire.proofs.fields.has_close.Goals.{then-byte-eq44+else-is_close_token, else-byte-eq44}
use Rattle.wire.proofs.fields.has_close.Goals as goal

pub loop-place-init : goal.loop-place-init
unfolding names_close
loop-place-init c = (omega arith, refl)

-- after a piece that is no token
passed : (list : List ℕ) (start place next : ℕ) (b : Bool) → place < length list → get_or list place 0 ≡ 44 → is_close
    (slice_range list start place) ≡ false → next ≡ place + 1
    → b ≡ list_any is_close (pieces_after (slice_range list start place) (drop place list))
    → (next ≤ place + 1) × (b ≡ list_any is_close (pieces_after (slice_range list next (place + 1)) (drop (place + 1) list)))
passed list start place next b inside comma other e known =
    let empty : slice_range list next (place + 1) ≡ [] = slice_empty list next (place + 1) e (omega arith) in (
      omega arith,
      known ∙ ap (list_any is_close) (pieces_comma list start place inside comma)
          ∙ rw other (ap (λ p. list_any is_close (pieces_after p (drop (place + 1) list))) (sym empty)),
    )

kept : (list : List ℕ) (start place next : ℕ) (b : Bool) → start ≤ place → place < length list → get_or list place 0 ≢ 44 → next ≡ start
    → b ≡ list_any is_close (pieces_after (slice_range list start place) (drop place list))
    → (next ≤ place + 1) × (b ≡ list_any is_close (pieces_after (slice_range list next (place + 1)) (drop (place + 1) list)))
kept list start place next b order inside other e known = (
  omega arith,
  known ∙ ap (list_any is_close) (pieces_other list start place order inside other) ∙ ap (λ n. list_any is_close (pieces_after
      (slice_range list n (place + 1)) (drop (place + 1) list))) (sym e),
)

pub loop-place-preserved : goal.loop-place-preserved
loop-place-preserved c =
    elim c.if-byte-eq44.branch [
      | then-byte-eq44+else-is_close_token w ↦
          passed c.args.list.now c.loop-place.start c.loop-place.place c.if-byte-eq44.start
          (names_close c.args.list.now) c.loop-place-test.true w.if-byte-eq44.true
          (sym w.is_close_token.ensures ∙ w.if-is_close_token.false) w.start-is c.loop-place.invariant.1
      | else-byte-eq44 w ↦
          kept c.args.list.now c.loop-place.start c.loop-place.place c.if-byte-eq44.start
          (names_close c.args.list.now) c.loop-place.invariant.0 c.loop-place-test.true w.if-byte-eq44.false
          w.start-is c.loop-place.invariant.1
    ]
