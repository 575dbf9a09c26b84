-- Two texts whose fronts are equal, and whose rests are, are equal.
use Rattle.std.proofs.Common.{◌≡◌, ◌≤◌, ◌-◌, ◌++◌, ℕ, List, true, length, take, drop, arith, ap, ap₂, sym, ◌∙◌}
use Rattle.std.specs.Str.{bytes_eq}
use Rattle.std.proofs.lemmas.List.{length-drop, length-take-le, take-append-drop, take_all}
use Rattle.std.proofs.lemmas.Slice.Eq.{bytes_eq-Decides}
use Rattle.wire.proofs.fields.is_exact.Goals as goal

in_two : (name wanted : List ℕ) (f : ℕ) → f ≤ length wanted → length name ≡ length wanted → bytes_eq (take f wanted) (take (length (take f wanted)) name) ≡ true
    → bytes_eq (drop f wanted) (take (length (drop f wanted)) (drop f name)) ≡ true → name ≡ wanted
in_two name wanted f fits same front rest =
    let long : length (take f wanted) ≡ f = length-take-le f wanted fits in
    let fronts : take f wanted ≡ take f name = (bytes_eq-Decides (take f wanted) (take (length (take f wanted)) name)).0 front ∙ ap (λ n. take n name) long in
    let whole : take (length (drop f wanted)) (drop f name) ≡ drop f name = take_all _ _ (omega (arith, same, length-drop f name, length-drop f wanted)) in
    let rests : drop f wanted ≡ drop f name = (bytes_eq-Decides (drop f wanted) (take (length (drop f wanted)) (drop f name))).0 rest ∙ whole in
    sym (take-append-drop f name) ∙ ap₂ (λ (x y : List ℕ). x ++ y) (sym fronts) (sym rests) ∙ take-append-drop f wanted

-- a slice to the end
to_end : (text : List ℕ) (f : ℕ) → take (length text - f) (drop f text) ≡ drop f text
to_end text f = take_all _ _ (omega (arith, length-drop f text))

pub returns-then-starts_with : goal.returns-then-starts_with
returns-then-starts_with c = λ rest.
    let name = c.args.name.now in
    let wanted = c.args.wanted.now in
    let f = c.min-front.result in
    in_two name wanted f (omega (arith, c.min-front.ensures)) c.requires (sym c.starts_with.ensures.value ∙ c.if-starts_with.true)
    (rw (to_end name f, to_end wanted f) at (sym c.starts_with-then-starts_with.ensures.value ∙ rest))
