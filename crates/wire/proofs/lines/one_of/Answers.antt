-- Each line has its field, and so has the last.
use Rattle.std.proofs.Common.{◌≡◌, ℕ, ◌++◌, List, [], ◌∷◌, Option, Some, None, refl, sym, ap, ◌∙◌, subst, take, append_assoc}
use Rattle.std.specs.Borrow.{Bor}
use Rattle.memchr.specs.Find.{IsFirstByte, is_byte}
use Rattle.wire.specs.Fields.{Pair, only, values_of}
use Rattle.wire.specs.Known.{IsCount}
use Rattle.wire.specs.Lines.{field_in, fields_in}
use Rattle.wire.specs.declared.fields.Values.{Values}
use Rattle.wire.specs.declared.fields.Values.TheVariants.{Absent, One, Many}
use Rattle.wire.proofs.FieldLemmas.{values_of-none}
use Rattle.wire.proofs.LineLemmas.{after_line, first_line, found_at, lacks_unfound, last_line}
use Rattle.wire.proofs.lines.one_of.Goals as goal

pub loop-end-init : goal.loop-end-init
loop-end-init c = ([], refl, values_of-none c.args.name.now)

pub loop-end-preserved : goal.loop-end-preserved
loop-end-preserved c =
    let (before, e, count) = c.loop-end.invariant in
    let rest = c.loop-end.rest.now in
    let k = c.in-Some.end in
    let found = c.in-Some.ensures in
    let line = field_in (take k rest) in
    let left = after_line rest k in (
      before ++ line,
      e ∙ ap (λ l. before ++ l) (first_line rest k (found_at 10 rest k found) found.0.high ∙ ap (λ t. line ++ fields_in t) (sym left))
          ∙ sym (append_assoc before line (fields_in _)),
      c.and_line-values.ensures before count,
    )

-- the last line has no line feed, and its field was counted too
counted : (lines rest name : List ℕ) (before : List Pair) (r : Option ℕ) (k : Values) → fields_in lines ≡ before ++ fields_in rest
    → ((n : ℕ) → r ≡ Some n → ⊥) → IsFirstByte (is_byte 10) rest r → IsCount (values_of name (before ++ field_in rest)) k
    → IsCount (values_of name (fields_in lines)) k
counted lines rest name before r k e none found count =
    subst (λ fields. IsCount (values_of name fields) k)
    (sym (e ∙ ap (λ l. before ++ l) (last_line rest (lacks_unfound 10 rest r none found)))) count

only_one : (values : List (List ℕ)) (k : Values) (value : Bor (List ℕ)) → k ≡ One value → IsCount values k → Some value.now ≡ only values
only_one values k value is count =
    let one : values ≡ value.now ∷ [] = subst (λ x. IsCount values x) is count in
    sym (ap only one)

only_none : (values : List (List ℕ)) (k : Values) → ((value : Bor (List ℕ)) → k ≡ One value → ⊥) → IsCount values k → None ≡ only values
only_none values Absent other count = sym (ap only count)
only_none values (One value) other count = absurd (other value refl)
only_none values Many other (first, second, others, e) = sym (ap only e)

pub returns-in-One : goal.returns-in-One
returns-in-One c =
    let (before, e, count) = c.loop-end.invariant in
    let name = c.args.name.now in
    let lines = c.args.lines.now in
    let known = counted lines c.loop-end.rest.now name before c.memchr.result c.and_line.result e c.in_default.not-Some c.memchr.ensures
    (c.and_line.ensures before count) in
    only_one (values_of name (fields_in lines)) c.and_line.result c.in-One.value c.in-One.is known

pub returns-in_default-and_line : goal.returns-in_default-and_line
returns-in_default-and_line c =
    let (before, e, count) = c.loop-end.invariant in
    let name = c.args.name.now in
    let lines = c.args.lines.now in
    let known = counted lines c.loop-end.rest.now name before c.memchr.result c.and_line.result e c.in_default.not-Some c.memchr.ensures
    (c.and_line.ensures before count) in
    only_none (values_of name (fields_in lines)) c.and_line.result c.in_default-and_line.not-One known
