use Rattle.std.proofs.Common.{◌≡◌, ℕ, List, length, reverse, slice_range, sym, ap, ◌∙◌, arith}
use Rattle.std.proofs.lemmas.List.{reverse-reverse}
use Rattle.httparse.specs.Grammar.{skip_ows, trim_ows}
use Rattle.httparse.proofs.TrimLemmas.{skip_ows_yes, skip_ows_no, slice_first, slice_last, slice_empty}
use Rattle.wire.proofs.fields.trim.Goals.{then-loop-start-test+else-is_blank, else-loop-start-test, then-loop-end-test+else-is_blank-2, else-loop-end-test}
use Rattle.wire.proofs.fields.trim.Goals as goal

pub loop-start-preserved : goal.loop-start-preserved
loop-start-preserved c = (
  omega arith,
  c.loop-start.invariant.1 ∙ skip_ows_yes (slice_first c.args.bytes.now _ _ c.loop-start-test.true (omega arith)) c.if-is_blank.ensures,
)

pub loop-end-init : goal.loop-end-init
unfolding trim_ows
loop-end-init c =
    let bytes = c.args.bytes.now in
    let here = slice_range bytes c.loop-start.start (length bytes) in
    let stays : skip_ows here ≡ here =
    elim c.loop-start-test.branch [
      | then-loop-start-test+else-is_blank w ↦
          let first = slice_first bytes _ (length bytes) w.loop-start-test.true (omega arith) in
          skip_ows_no first w.if-is_blank.ensures
      | else-loop-start-test w ↦
          let empty = slice_empty bytes c.loop-start.start (length bytes) (omega arith) (omega arith) in
          ap skip_ows empty ∙ sym empty
    ] in (
      c.loop-start.invariant.0,
      omega arith,
      ap (λ (t : List ℕ). reverse (skip_ows (reverse t))) (c.loop-start.invariant.1 ∙ stays),
    )

pub loop-end-preserved : goal.loop-end-preserved
loop-end-preserved c =
    let last = slice_last c.args.bytes.now _ _ c.loop-end-test.true (omega arith) in (
      omega arith,
      omega arith,
      c.loop-end.invariant.2 ∙ ap reverse (skip_ows_yes last c.if-is_blank-2.ensures),
    )

pub returns : goal.returns
returns c =
    let bytes = c.args.bytes.now in
    let here = slice_range bytes c.loop-start.start c.loop-end.end in
    let stays : skip_ows (reverse here) ≡ reverse here =
    elim c.loop-end-test.branch [
      | then-loop-end-test+else-is_blank-2 w ↦
          let last = slice_last bytes _ _ w.loop-end-test.true (omega arith) in
          skip_ows_no last w.if-is_blank-2.ensures
      | else-loop-end-test w ↦
          let empty = slice_empty bytes c.loop-start.start c.loop-end.end (omega arith) (omega arith) in
          ap (λ (t : List ℕ). skip_ows (reverse t)) empty ∙ ap reverse (sym empty)
    ] in
    sym (c.loop-end.invariant.2 ∙ ap reverse stays ∙ reverse-reverse here)
