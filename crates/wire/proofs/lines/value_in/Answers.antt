-- The field of a line ends its name at the first colon.
use Rattle.std.proofs.Common.{◌≡◌, ◌==◌, ◌+◌, ◌<◌, ℕ, List, [], ◌∷◌, true, take, drop, length, get_or, arith, ap, sym, ◌∙◌, subst, inl, inr}
use Rattle.std.specs.Str.{str_eq_ignore_ascii_case}
use Rattle.std.proofs.lemmas.Bool.{cases_lt, eq-eqb, eqb-true}
use Rattle.std.proofs.lemmas.List.{take_rest}
use Rattle.std.proofs.lemmas.List.Sums.{passes_at_first}
use Rattle.httparse.specs.Grammar.{trim_ows}
use Rattle.wire.specs.Fields.{Pair, values_of}
use Rattle.wire.specs.Lines.{name_end, value_after}
use Rattle.wire.proofs.LineLemmas.{field_at, found_at, named_one, other_name}
use Rattle.wire.proofs.lines.value_in.Goals.{then-line-name-via-then-line-name, then-line-name-via-else-line-name+then-line-name-ne58}
use Rattle.wire.proofs.lines.value_in.Goals as goal

-- a name ends at a colon
colon_at : (line : List ℕ) (k : ℕ) → name_end line ≡ k → name_end line < length line → get_or line k 0 ≡ 58
colon_at line k e low =
    let colon : get_or line (name_end line) 0 ≡ 58 = eqb-true (get_or line (name_end line) 0) 58
    (passes_at_first (λ b. b == 58) line 0 low) in
    subst (λ n. get_or line n 0 ≡ 58) e colon

pub returns-then-line-name : goal.returns-then-line-name
returns-then-line-name c =
    let line = c.args.line.now in
    let name = c.args.name.now in
    elim c.then-line-name.branch [
      | then-line-name-via-then-line-name w ↦ other_name line name (λ low e. absurd (omega (arith, low, e, w.if-line-name.true)))
      | then-line-name-via-else-line-name+then-line-name-ne58 w ↦
          other_name line name (λ low e. absurd (w.if-line-name-ne58.true (colon_at line (length name) e low)))
    ]

pub returns-then-not-is_same : goal.returns-then-not-is_same
returns-then-not-is_same c =
    let line = c.args.line.now in
    let name = c.args.name.now in
    other_name line name
    (λ low e. ap (λ n. str_eq_ignore_ascii_case (take n line) name) e ∙ sym c.is_same.ensures ∙ c.if-not-is_same.true)

pub returns-then-colon-name : goal.returns-then-colon-name
returns-then-colon-name c =
    let line = c.args.line.now in
    let name = c.args.name.now in
    let at_colon = found_at 58 line c.in_ok-colon.colon c.in_ok-colon.ensures in
    other_name line name (λ low e. absurd (omega (arith, at_colon, e, c.if-colon-name.true)))

pub returns : goal.returns
returns c =
    let line = c.args.line.now in
    let name = c.args.name.now in
    let k = c.in_ok-colon.colon in
    let found = c.in_ok-colon.ensures in
    let colon : (get_or line (length name) 0 == 58) ≡ true = eq-eqb (get_or line (length name) 0) 58 c.if-line-name-ne58.false in
    let first : k ≡ length name = elim (cases_lt (length name) k) [
      | inl before ↦ absurd (found.0.before (length name) (omega arith) before colon)
      | inr not ↦ omega (arith, not, c.if-colon-name.false)
    ] in
    let f : Pair = (take k line, value_after (drop (k + 1) line)) in
    let same : str_eq_ignore_ascii_case (take k line) name ≡ true = ap (λ n. str_eq_ignore_ascii_case (take n line) name) first
    ∙ sym c.is_same.ensures ∙ c.if-not-is_same.false in
    let value : c.trim.result.now ≡ value_after (drop (k + 1) line) = c.trim.ensures
    ∙ ap trim_ows c.before_return.ensures
    ∙ ap value_after (take_rest line (k + 1)) in
    ap (values_of name) (field_at line k (found_at 58 line k found) found.0.high)
    ∙ named_one name f same
    ∙ ap (λ v. v ∷ []) (sym value)
