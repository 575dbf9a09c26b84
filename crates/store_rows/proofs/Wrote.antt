-- A house of which one table was written.
use Rattle.std.proofs.Common.{◌≡◌, ◌≢◌, ◌⊎◌, inl, inr, ℕ, Bool, true, false, cond, eqb, List, [], ◌∷◌, ◌++◌, map, length, Ok, Err, Result, refl, sym, ap, subst, ◌∙◌, arith}
use Rattle.std.specs.List.{AllByRecursion}
use Rattle.sqlite_value.specs.Order.{Row}
use Rattle.sqlite_trees.specs.Tree.{Trees}
use Rattle.sqlite_trees.specs.View.{IsShaped}
use Rattle.sqlite_trees.specs.declared.store.Shape.TheVariants.{Table}
use Rattle.sqlite_schema.specs.declared.schema.Action.{Action}
use Rattle.sqlite_schema.specs.declared.schema.Action.TheVariants.{NoAction}
use Rattle.sqlite_schema.specs.declared.schema.Keys.TheVariants.{Enforced}
use Rattle.sqlite_schema.specs.declared.schema.Table.{Table as SqlTable}
use Rattle.sqlite_rules.specs.Action.{works}
use Rattle.sqlite.specs.Effect.{Database, IsDatabase}
use Rattle.store_rows.specs.Schema.{house_by, house_schema}
use Rattle.store_rows.specs.House.{IsHouse, KeepsOthers}
use Rattle.store_rows.proofs.TextLemmas.{same_number}

-- a table has these rows, and every other is as it was
pub record Wrote (tree : ℕ) (rows : List Row) (old new : Database) : Type 0 where
  pub schema : new.schema ≡ old.schema
  pub rows_are : new.trees tree ≡ rows
  pub others : KeepsOthers tree old new
  pub sound : IsDatabase new

other_number : (a b : ℕ) → eqb a b ≡ false → a ≢ b
other_number a b h e = absurd (grind arith)

module _ (tree : ℕ) (old new : Trees) (shaped : IsShaped Table (new tree)) where
  each_shaped : (tables : List SqlTable) → AllByRecursion (λ t. IsShaped Table (old t.tree)) tables → AllByRecursion (λ t. t.tree ≢ tree → new t.tree ≡ old t.tree) tables
      → AllByRecursion (λ t. IsShaped Table (new t.tree)) tables
  each_shaped [] was others = tt
  each_shaped (t ∷ tables) was others = (go (eqb t.tree tree) refl, each_shaped tables was.1 others.1)
    where
      go : (b : Bool) → eqb t.tree tree ≡ b → IsShaped Table (new t.tree)
      go true e = subst (λ k. IsShaped Table (new k)) (sym (same_number t.tree tree e)) shaped
      go false e = subst (IsShaped Table) (sym (others.0 (other_number t.tree tree e))) was.0

pub still_house : (tree : ℕ) (rows : List Row) (old new : Database) → IsHouse old → Wrote tree rows old new → IsShaped Table rows → IsHouse new
still_house tree rows old new house w shaped = record {
  is_indexed = house.is_indexed;
  schema = w.schema ∙ house.schema;
  shaped = each_shaped tree old.trees new.trees (subst (IsShaped Table) (sym w.rows_are) shaped) house_schema.tables house.shaped w.others;
  sound = w.sound;
}

same_action : (d : Bool) (a : Action) → cond d a a ≡ a
same_action true a = refl
same_action false a = refl

-- no foreign key of the schema acts
pub no_works : (b : Bool) (tree : ℕ) (olds news : List Row) → works (house_by b) Enforced 0 tree olds news ≡ []
no_works b tree olds news = rw (same_action (eqb (length news) 0) NoAction) refl

-- a part that gave a value did not stop on the way
pub went : {B E R : Type 0} {b : B} {Stops : E → Type 0} → ((stop : E) × Stops stop × (Ok b ≡ Err stop)) ⊎ R → R
went (inl stopped) = absurd (let e = stopped.2 in cc)
went (inr on) = on

pub same_value : {B E : Type 0} {a b : B} → ◌≡◌ {A = Result B E} (Ok a) (Ok b) → a ≡ b
same_value e = cc

pub map_more : {X Y : Type 0} (f : X → Y) (xs : List X) (x : X) → map f (xs ++ x ∷ []) ≡ map f xs ++ f x ∷ []
map_more f [] x = refl
map_more f (y ∷ xs) x = ap (λ l. f y ∷ l) (map_more f xs x)

pub all_more : {X : Type 0} (P : X → Type 0) (xs : List X) (x : X) → AllByRecursion P xs → P x → AllByRecursion P (xs ++ x ∷ [])
all_more P [] x all last = (last, tt)
all_more P (y ∷ xs) x all last = (all.0, all_more P xs x all.1 last)
