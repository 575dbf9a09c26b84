-- What a text defines on a table goes by its columns and not by its tree.
use Rattle.std.proofs.Common.{◌≡◌, ◌∙◌, ◌++◌, ℕ, Bool, true, false, cond, List, [], ◌∷◌, Ok, Err, not, reverse, refl, ap, ap₂}
use Rattle.sqlite_ast.specs.declared.CreateIndex.{CreateIndex}
use Rattle.sqlite_ast.specs.declared.Keyed.{Keyed}
use Rattle.sqlite_ast.specs.declared.Statement.{Statement}
use Rattle.sqlite_ast.specs.declared.Statement.TheVariants as written
use Rattle.sqlite_resolve.specs.Compile.{first, index_defined_by, index_in}
use Rattle.sqlite_resolve.specs.Define as define
use Rattle.sqlite_resolve.specs.Lowering.{Checked, and_then, or_else}
use Rattle.sqlite_resolve.specs.Scope.{Name}
use Rattle.sqlite_resolve.specs.declared.error.CompileError.TheVariants.{Misuse, NoSuchColumn, TooBig}
use Rattle.sqlite_schema.specs.Names.{column_named, place_of, same_name}
use Rattle.sqlite_schema.specs.declared.schema.Index.{Index}
use Rattle.sqlite_schema.specs.declared.schema.Table.{Table}
use Rattle.sqlite_syntax.specs.declared.statement.Parsed.{Parsed}
use Rattle.sqlite_value.specs.Keys.{joined, plain}
use Rattle.sqlite_value.specs.declared.keys.Order.{Order}

same_then : {A B : Type 0} (r : Checked A) (f g : A → Checked B) → ((x : A) → f x ≡ g x) → and_then r f ≡ and_then r g
same_then (Ok x) f g same = same x
same_then (Err e) f g same = refl

-- an index as it is, on a table with this tree
abbrev on_tree : ℕ → Checked Index → Checked Index
on_tree k (Ok i) = Ok (record i { table = k })
on_tree k (Err e) = Err e

module _ (t : Table) (k : ℕ) where
  places_moved : (done : List ℕ) (names : List Name) → define.places_from (record t { tree = k }) done names ≡ define.places_from t done names
  places_moved done [] = refl
  places_moved done (name ∷ more) = same_then (or_else (column_named t name) NoSuchColumn) _ _ (λ at. places_moved (done ++ place_of t at ∷ []) more)

  order_moved : (later : Order) (keys : List Keyed) → define.order_from (record t { tree = k }) later keys ≡ define.order_from t later keys
  unfolding define.key_for define.declared
  order_moved later [] = refl
  order_moved later (key ∷ more) = same_then (or_else (joined (define.key_for t key) later) TooBig) _ _ (λ o. order_moved o more)

  sorted_moved : (keys : List Keyed) → define.sorted (record t { tree = k }) keys ≡ define.sorted t keys
  unfolding define.sorted define.places define.order_of
  sorted_moved keys =
      ap₂ (λ (p : Checked (List ℕ)) (o : Checked Order). and_then p (λ at. and_then o (λ (x : Order). Ok (at, x))))
      (places_moved [] (define.names_in keys)) (order_moved plain (reverse keys))

  split : (def : CreateIndex) (b : Bool) (r : Checked (List ℕ × Order))
      → cond b (Err Misuse) (and_then r (λ at. Ok (record { name = def.name; tree = 0; table = k; columns = at.0; order = at.1; is_unique = def.is_unique })))
      ≡ on_tree k (cond b (Err Misuse) (and_then r (λ at. Ok (record { name = def.name; tree = 0; table = t.tree; columns = at.0; order = at.1; is_unique = def.is_unique }))))
  split def true r = refl
  split def false (Ok at) = refl
  split def false (Err e) = refl

  index_moved : (def : CreateIndex) → define.index (record t { tree = k }) def ≡ on_tree k (define.index t def)
  unfolding define.index
  index_moved def =
      ap (λ (r : Checked (List ℕ × Order)). cond (not (same_name t.name def.table)) (Err Misuse) (and_then r (λ at. Ok (record { name = def.name; tree = 0; table = k; columns = at.0; order = at.1; is_unique = def.is_unique }))))
      (sorted_moved def.columns)
      ∙ split def (not (same_name t.name def.table)) (define.sorted t def.columns)

  statement_moved : (s : Statement) → index_in (record t { tree = k }) s ≡ on_tree k (index_in t s)
  unfolding index_in
  statement_moved written.Empty = refl
  statement_moved (written.Select s) = refl
  statement_moved (written.Insert a b c d e f) = refl
  statement_moved (written.Update a b c d) = refl
  statement_moved (written.Delete a b c) = refl
  statement_moved (written.Pragma a b) = refl
  statement_moved (written.CreateTable def) = refl
  statement_moved (written.CreateIndex def) = index_moved def
  statement_moved (written.CreateView a b c d) = refl
  statement_moved (written.DropTable a b) = refl
  statement_moved (written.DropIndex a b) = refl
  statement_moved (written.DropView a b) = refl
  statement_moved written.Begin = refl
  statement_moved written.Commit = refl
  statement_moved written.Rollback = refl
  statement_moved (written.Savepoint a) = refl
  statement_moved (written.Release a) = refl
  statement_moved (written.RollbackTo a) = refl

  text_moved : (sql : List ℕ) → index_defined_by (record t { tree = k }) sql ≡ on_tree k (index_defined_by t sql)
  unfolding index_defined_by
  text_moved sql = go (first sql)
    where
      go : (r : Checked Parsed) → and_then r (λ p. index_in (record t { tree = k }) p.statement) ≡ on_tree k (and_then r (λ p. index_in t p.statement))
      go (Ok p) = statement_moved p.statement
      go (Err e) = refl

  pub index_defined_moved : (sql : List ℕ) (made : Index) → index_defined_by t sql ≡ Ok made → index_defined_by (record t { tree = k }) sql ≡ Ok (record made { table = k })
  index_defined_moved sql made is = text_moved sql ∙ ap (on_tree k) is
