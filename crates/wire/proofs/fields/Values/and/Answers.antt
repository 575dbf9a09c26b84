-- One value more than some is many.
use Rattle.std.proofs.Common.{◌≡◌, ℕ, List, [], ◌∷◌, ◌++◌, Bool, true, ap, sym, refl, subst, if◌then◌else◌}
use Rattle.wire.specs.Known.{IsCount}
use Rattle.wire.specs.declared.fields.Values.{Values}
use Rattle.wire.specs.declared.fields.Values.TheVariants.{Absent, One, Many}
use Rattle.wire.proofs.fields.Values.and.Goals as goal

some_more : (values : List (List ℕ)) (value : List ℕ) (k : Values) → (k ≡ Absent → ⊥) → IsCount values k → IsCount
    (values ++ value ∷ []) Many
some_more values value Absent other count = absurd (other refl)
some_more values value (One x) other count = (x.now, value, [], ap (λ l. l ++ value ∷ []) count)
some_more values value Many other (x, y, others, e) = (x, y, others ++ value ∷ [], ap (λ l. l ++ value ∷ []) e)

when_named : (values : List (List ℕ)) (value : List ℕ) (is : Bool) → is ≡ true → IsCount (values ++ value ∷ []) Many
    → IsCount (if is then values ++ value ∷ [] else values) Many
when_named values value is e count = subst (λ t. IsCount (if t then values ++ value ∷ [] else values) Many) (sym e) count

pub returns-in-One : goal.returns-in-One
returns-in-One c = λ values count.
    when_named values c.args.value.now c.args.is_named c.if-not-is_named.false (some_more values c.args.value.now c.args.self (λ e. cc
    (e, c.in-One.is)) count)

pub returns-in-Many : goal.returns-in-Many
returns-in-Many c = λ values count.
    when_named values c.args.value.now c.args.is_named c.if-not-is_named.false (some_more values c.args.value.now c.args.self (λ e. cc
    (e, c.in-Many.is)) count)
