-- What an UPDATE by number makes of its table.
use Rattle.std.proofs.Common.{◌≡◌, ◌≢◌, inl, ℕ, ◌^◌, ◌<◌, ◌≤◌, ◌+◌, ℤ, pos, ◌<ℤ◌, Bool, true, false, ◌&&◌, ◌||◌, cond, zero, suc, List, [], ◌∷◌, map, filter, length, slice_get, Ok, Option, Some, None, refl, sym, ap, subst, ◌∙◌, arith, IsTrue, Less, Greater, true≢false, eqb, int_eq}
use Rattle.std.specs.List.{AllByRecursion}
use Rattle.std.specs.Ordering.{int_cmp}
use Rattle.std.proofs.lemmas.Int.{ints}
use Rattle.sqlite_value.specs.declared.value.Value.{Value}
use Rattle.sqlite_value.specs.declared.value.Value.TheVariants.{Null, Int, Real, Text, Blob}
use Rattle.sqlite_value.specs.Order.{Row, value_cmp, column}
use Rattle.sqlite_value.proofs.OrderLemmas.{value_cmp-Int}
use Rattle.sqlite_trees.specs.Tree.{Trees, rowid, put_row, without_rowid, has_rowid}
use Rattle.sqlite_trees.specs.View.{is_int, IsShaped}
use Rattle.sqlite_trees.specs.declared.store.Shape.TheVariants.{Table}
use Rattle.sqlite_trees.proofs.TreeLemmas.{IsShaped-put_row, IsShaped-filter}
use Rattle.sqlite_rules.proofs.TableLemmas.{int_is}
use Rattle.sqlite_rules.specs.Lists.{Has}
use Rattle.sqlite_rules.proofs.ListLemmas.{some_from, has_filtered}
use Rattle.sqlite_schema.specs.declared.schema.Column.{Column}
use Rattle.sqlite_schema.specs.declared.schema.Kind.{Kind}
use Rattle.sqlite_schema.specs.declared.schema.Kind.TheVariants as kind
use Rattle.sqlite_schema.specs.Rules.{are_typed, suits, is_of}
use Rattle.sqlite_schema.specs.Names.{is_key}
use Rattle.sqlite_keyed.specs.Keyed.{IsKeyedBy}
use Rattle.sqlite_keyed.proofs.KeyedLemmas.{Less-from_lt}
use Rattle.sqlite_keyed.proofs.RuleLemmas.{first_of_both, second_of_both}
use Rattle.sqlite.specs.Cast.{cast}
use Rattle.sqlite_keyed.proofs.ListLemmas.{all_kept, all-filter, all_both, map-map}
use Rattle.sqlite.specs.Edit.{Edit, edit_of, edited}
use Rattle.sqlite_rules.specs.Calls.{ids_of}
use Rattle.sqlite.specs.Rowids.TheVariants.{Given}
use Rattle.sqlite_sql.specs.Term.{Term, col}
use Rattle.sqlite_sql.specs.Query.{Output}
use Rattle.sqlite_sql.specs.Program.{overlay}
use Rattle.sqlite_schema.specs.declared.schema.Keys.TheVariants.{Enforced}
use Rattle.sqlite.specs.Command.TheVariants.{Update}
use Rattle.sqlite.specs.Edit.{taken_by}
use Rattle.sqlite.specs.Does.{Tally, Does}
use Rattle.sqlite.specs.Rows.{Written}
use Rattle.sqlite.specs.Listing.{understood}
use Rattle.sqlite.specs.Effect.{Database}
use Rattle.sqlite.specs.State.{State, mode_of, Executes}
use Rattle.sqlite.proofs.Callers.{statement_of, runs_as, one_step}
use Rattle.std.proofs.lemmas.List.Sorted.{length_permutation}
use Rattle.std.proofs.Common.{IsPermutation}
use Rattle.sqlite.proofs.Callers.{IsPlain, command_of, one_permutation}
use Rattle.sqlite.specs.Does.{AtPlace, OnRows}
use Rattle.sqlite.specs.Rows.{Task}
use Rattle.sqlite_schema.specs.declared.schema.Table.{Table as SqlTable}
use Rattle.sqlite_rules.specs.Cast.{cast_row}
use Rattle.store_rows.specs.Plain.{plain_query, passes, shown_by}
use Rattle.store_rows.specs.Rows.{number_in}
use Rattle.store_rows.specs.Schema.{house_by, house_schema, Layout, table_of}
use Rattle.store_rows.proofs.RowLemmas.{row_key, keyed, one_row, key_of_number, other_key, equals_number, filter_same_on}
use Rattle.store_rows.proofs.Select.{IsListOf, outputs, listed, equals}
use Rattle.store_rows.proofs.Insert.{cast_null, cast_int}
use Rattle.store_rows.proofs.Wrote.{Wrote, no_works, went, same_value}

-- ---- a value that suits a strict column is left as it is

-- the kinds of the columns here
abbrev pub IsPlainKind : Kind → Type 0
IsPlainKind kind.Integer = Unit {0}
IsPlainKind kind.Text = Unit {0}
IsPlainKind _ = ⊥

pub cast_kept : (k : Kind) (v : Value) → IsPlainKind k → is_of k v ≡ true → cast k v ≡ v
cast_kept kind.Integer Null here h = cast_null
cast_kept kind.Integer (Int n) here h = cast_int n
cast_kept kind.Integer (Real x) here h = absurd (true≢false (sym h))
cast_kept kind.Integer (Text x) here h = absurd (true≢false (sym h))
cast_kept kind.Integer (Blob x) here h = absurd (true≢false (sym h))
cast_kept kind.Text Null here h = refl
cast_kept kind.Text (Int n) here h = absurd (true≢false (sym h))
cast_kept kind.Text (Real x) here h = absurd (true≢false (sym h))
cast_kept kind.Text (Text x) here h = refl
cast_kept kind.Text (Blob x) here h = absurd (true≢false (sym h))
cast_kept kind.Real v here h = absurd here
cast_kept kind.Blob v here h = absurd here
cast_kept kind.Any v here h = absurd here

abbrev pub IsStrict : Column → Type 0
IsStrict c = IsTrue c.is_strict × IsPlainKind c.kind

-- each column from `at` on holds what a cast leaves alone
abbrev pub Kept : ℕ → List Column → List Value → Type 0
Kept at [] vs = Unit {0}
Kept at (c ∷ cs) vs = (cast c.kind (column vs 0) ≡ column vs 0) × Kept (at + 1) cs (Rattle.std.specs.Prelude.drop 1 vs)

pub kept_all : (key : Option ℕ) (at : ℕ) (cs : List Column) (vs : List Value) → AllByRecursion IsStrict cs → are_typed key at cs vs ≡ true → Kept at cs vs
kept_all key at [] vs all h = tt
kept_all key at (c ∷ cs) [] all h = (cast_kept c.kind Null all.0.1 (null_suits c.kind), kept_all key (at + 1) cs [] all.1 (second_of_both _ _ h))
  where
    null_suits : (k : Kind) → is_of k Null ≡ true
    null_suits k = refl
kept_all key at (c ∷ cs) (v ∷ vs) all h = (go (is_key key at) c v all.0 (first_of_both _ _ h), kept_all key (at + 1) cs vs all.1 (second_of_both _ _ h))
  where
    null_is : (v : Value) → Rattle.sqlite.specs.Ops.is_null v ≡ true → v ≡ Null
    null_is Null h = refl
    null_is (Int n) h = absurd (true≢false (sym h))
    null_is (Real n) h = absurd (true≢false (sym h))
    null_is (Text n) h = absurd (true≢false (sym h))
    null_is (Blob n) h = absurd (true≢false (sym h))

    go : (b : Bool) (c : Column) (v : Value) → IsStrict c → cond b (Rattle.sqlite.specs.Ops.is_null v) (suits c v) ≡ true → cast c.kind v ≡ v
    go true c v strict h = rw (null_is v h) (cast_kept c.kind Null strict.1 refl)
    go false c v strict h = cast_kept c.kind v strict.1 (rw strict.0 at h)

pub column_drop : (n : ℕ) (r : Row) → column (Rattle.std.specs.Prelude.drop n r) 0 ≡ column r n
column_drop zero r = refl
column_drop (suc n) [] = refl
column_drop (suc n) (v ∷ r) = column_drop n r

drop_suc : (n : ℕ) (r : Row) → Rattle.std.specs.Prelude.drop 1 (Rattle.std.specs.Prelude.drop n r) ≡ Rattle.std.specs.Prelude.drop (suc n) r
drop_suc zero r = refl
drop_suc (suc n) [] = refl
drop_suc (suc n) (v ∷ r) = drop_suc n r

pub drop_one : (n : ℕ) (r : Row) → Rattle.std.specs.Prelude.drop 1 (Rattle.std.specs.Prelude.drop n r) ≡ Rattle.std.specs.Prelude.drop (n + 1) r
drop_one n r = rw Rattle.std.proofs.Common.add-one (drop_suc n r)

-- a cast leaves each column of the row alone, from a place on
abbrev pub Stays : ℕ → List Column → Row → Type 0
Stays at [] r = Unit {0}
Stays at (c ∷ cs) r = (cast c.kind (column r (at + 1)) ≡ column r (at + 1)) × Stays (at + 1) cs r

stays : (at : ℕ) (cs : List Column) (r : Row) → Kept at cs (Rattle.std.specs.Prelude.drop (at + 1) r) → Stays at cs r
stays at [] r h = tt
stays at (c ∷ cs) r h = (subst (λ v. cast c.kind v ≡ v) (column_drop (at + 1) r) h.0, stays (at + 1) cs r (subst (Kept (at + 1) cs) (drop_one (at + 1) r) h.1))

pub stays_all : (key : Option ℕ) (cs : List Column) (r : Row) → AllByRecursion IsStrict cs → are_typed key 0 cs (Rattle.std.specs.Prelude.drop 1 r) ≡ true → Stays 0 cs r
stays_all key cs r strict typed = stays 0 cs r (kept_all key 0 cs (Rattle.std.specs.Prelude.drop 1 r) strict typed)

-- an answer of at most one row is what it is made of
pub few : {X : Type 0} (xs ys : List X) → length xs ≤ 1 → IsPermutation xs ys → ys ≡ xs
few [] [] low same = refl
few [] (y ∷ ys) low same = absurd (omega (arith, length_permutation _ _ same))
few (x ∷ []) ys low same = one_permutation x ys same
few (x ∷ z ∷ xs) ys low same = absurd (omega arith)

pub length_mapped : {X Y : Type 0} (f : X → Y) (xs : List X) → length (map f xs) ≡ length xs
length_mapped f [] = refl
length_mapped f (x ∷ xs) = omega (arith, length_mapped f xs)

pub by_number : (rows : List Row) (n : ℕ) (more : Row) → IsShaped Table rows → n < 2 ^ 32 → filter (passes (equals 0 ∷ []) (Int (pos n) ∷ more)) rows ≡ filter (λ r. is_int (rowid r) && eqb (number_in (rowid r)) n) rows
by_number rows n more shaped low =
    filter_same_on (λ r. IsTrue (is_int (rowid r))) (passes (equals 0 ∷ []) (Int (pos n) ∷ more)) (λ r. is_int (rowid r) && eqb (number_in (rowid r)) n)
    (λ r is. rw (equals_number (rowid r) n is low, is) (both _)) rows shaped.1
  where
    both : (b : Bool) → (b && true) ≡ b
    both true = refl
    both false = refl

-- ---- the row with a rowid is replaced in its place

module _ (new : Row) (id : ℤ) (is : rowid new ≡ Int id) where
  abbrev here : Row → Bool
  here s = int_eq (row_key s) id

  same_test : (a b : ℤ) → Rattle.std.specs.Ordering.is_eq (int_cmp a b) ≡ int_eq a b
  same_test a b = grind (arith, ints)

  has_is : (s : Row) → IsTrue (is_int (rowid s)) → has_rowid id s ≡ here s
  has_is s int = rw (int_is (rowid s) int) (ap Rattle.std.specs.Ordering.is_eq (value_cmp-Int (row_key s) id) ∙ same_test (row_key s) id)

  order_is : (s : Row) → IsTrue (is_int (rowid s)) → value_cmp (rowid s) (rowid new) ≡ int_cmp (row_key s) id
  order_is s int = rw (int_is (rowid s) int, is) (value_cmp-Int (row_key s) id)

  apart : (a b : ℤ) → a <ℤ b → int_eq b a ≡ false
  apart a b h = grind (arith, ints)

  kept_above : (rows : List Row) → AllByRecursion (λ s. IsTrue (is_int (rowid s))) rows → AllByRecursion (λ s. id <ℤ row_key s) rows
      → (without_rowid id rows ≡ rows) × (map (λ s. cond (here s) new s) rows ≡ rows)
  kept_above [] int high = (refl, refl)
  kept_above (s ∷ rows) int high =
      let more = kept_above rows int.1 high.1 in
      let no = apart id (row_key s) high.0 in
      (rw (has_is s int.0, no) (ap (λ l. s ∷ l) more.0), rw no (ap (λ l. s ∷ l) more.1))

  put_first : (rows : List Row) → AllByRecursion (λ s. IsTrue (is_int (rowid s))) rows → AllByRecursion (λ s. id <ℤ row_key s) rows → put_row new rows ≡ new ∷ rows
  put_first [] int high = refl
  put_first (s ∷ rows) int high =
      let first = high.0 in
      let greater : int_cmp (row_key s) id ≡ Greater = grind (arith, ints) in
      rw (order_is s int.0, greater) refl

  reached : (k : ℤ) (rows : List Row) → AllByRecursion (λ s. k <ℤ row_key s) rows → Rattle.std.specs.List.list_any here rows ≡ true → k <ℤ id
  reached k [] high any = absurd (true≢false (sym any))
  reached k (s ∷ rows) high any = go (reached k rows high.1) (here s) refl any
    where
      go : (Rattle.std.specs.List.list_any here rows ≡ true → k <ℤ id) → (b : Bool) → here s ≡ b → (b || Rattle.std.specs.List.list_any here rows) ≡ true → k <ℤ id
      go more true e h = let first = high.0 in let same = Rattle.sqlite_keyed.proofs.KeyedLemmas.same_int (row_key s) id e in omega (arith, ints, same, first)
      go more false e h = more h

  pub replaced : (rows : List Row) → AllByRecursion (λ s. IsTrue (is_int (rowid s))) rows → IsKeyedBy row_key rows → Rattle.std.specs.List.list_any here rows ≡ true
      → put_row new (without_rowid id rows) ≡ map (λ s. cond (here s) new s) rows
  replaced [] int up any = absurd (true≢false (sym any))
  replaced (s ∷ rows) int up any = go (replaced rows int.1 up.1) (here s) refl any
    where
      go : (Rattle.std.specs.List.list_any here rows ≡ true → put_row new (without_rowid id rows) ≡ map (λ t. cond (here t) new t) rows) → (b : Bool) → here s ≡ b → (b || Rattle.std.specs.List.list_any here rows) ≡ true → put_row new (without_rowid id (s ∷ rows)) ≡ map (λ s. cond (here s) new s) (s ∷ rows)
      go more true e h =
          let same = Rattle.sqlite_keyed.proofs.KeyedLemmas.same_int (row_key s) id e in
          let high = rw same at up.0 in
          let rest = kept_above rows int.1 high in
          rw (has_is s int.0, e, rest.0, rest.1) (put_first rows int.1 high)
      go more false e h =
          let low = reached (row_key s) rows up.0 h in
          rw (has_is s int.0, e, order_is s int.0, Less-from_lt (row_key s) id low) (ap (λ l. s ∷ l) (more h))

-- ---- lists

pub only_one : {X : Type 0} (p : X → Bool) (xs : List X) (x : X) → filter p xs ≡ x ∷ [] → AllByRecursion (λ y. p y ≡ true → y ≡ x) xs
only_one p xs x e = all_kept (λ y. y ≡ x) p xs (subst (AllByRecursion (λ y. y ≡ x)) (sym e) (refl, tt))

pub none_there : {X : Type 0} (p : X → Bool) (xs : List X) → filter p xs ≡ [] → AllByRecursion (λ y. p y ≡ false) xs
none_there p [] e = tt
none_there p (x ∷ xs) e = go (p x) refl e (none_there p xs)
  where
    go : (b : Bool) → p x ≡ b → cond b (x ∷ filter p xs) (filter p xs) ≡ [] → (filter p xs ≡ [] → AllByRecursion (λ y. p y ≡ false) xs) → (p x ≡ false) × AllByRecursion (λ y. p y ≡ false) xs
    go true h e more = absurd (omega (arith, ap length e))
    go false h e more = (h, more e)

pub map_on : {X Y : Type 0} (P : X → Type 0) (f g : X → Y) → ((x : X) → P x → f x ≡ g x) → (xs : List X) → AllByRecursion P xs → map f xs ≡ map g xs
map_on P f g same [] all = refl
map_on P f g same (x ∷ xs) all = rw (same x all.0) (ap (λ l. g x ∷ l) (map_on P f g same xs all.1))

pub numbered_passes : {X : Type 0} (p : X → Bool) (xs : List X) → AllByRecursion (λ x. p x ≡ true) (filter p xs)
numbered_passes p [] = tt
numbered_passes p (x ∷ xs) = go (p x) refl (numbered_passes p xs)
  where
    go : (b : Bool) → p x ≡ b → AllByRecursion (λ y. p y ≡ true) (filter p xs) → AllByRecursion (λ y. p y ≡ true) (cond b (x ∷ filter p xs) (filter p xs))
    go true e more = (e, more)
    go false e more = more

-- ---- the statement

-- the row with this number
abbrev pub is_numbered : ℕ → Row → Bool
is_numbered n s = is_int (rowid s) && eqb (number_in (rowid s)) n

-- the rows after those with this number are set
abbrev pub set_rows : ℕ → (Row → Row) → List Row → List Row
set_rows n set rows = map (λ s. cond (is_numbered n s) (set s) s) rows

pub none_set : (p : Row → Bool) (set : Row → Row) (rows : List Row) → AllByRecursion (λ s. p s ≡ false) rows → map (λ s. cond (p s) (set s) s) rows ≡ rows
none_set p set [] none = refl
none_set p set (s ∷ rows) none = rw none.0 (ap (λ l. s ∷ l) (none_set p set rows none.1))

-- The rows that are set, as typed rows.
pub typed_set : {T : Type 0} (inside : Row → T) (f : T → T) (n : ℕ) (set : Row → Row) (rows : List Row) → AllByRecursion (λ r. IsTrue (is_int (rowid r))) rows
    → ((r : Row) → eqb (number_in (rowid r)) n ≡ true → inside (set r) ≡ f (inside r)) → ((r : Row) → eqb (number_in (rowid r)) n ≡ false → inside r ≡ f (inside r))
    → map inside (set_rows n set rows) ≡ map f (map inside rows)
typed_set inside f n set [] int here other = refl
typed_set {T} inside f n set (r ∷ rows) int here other = rw int.0 (go (typed_set inside f n set rows int.1 here other) (eqb (number_in (rowid r)) n) refl)
  where
    go : map inside (set_rows n set rows) ≡ map f (map inside rows) → (b : Bool) → eqb (number_in (rowid r)) n ≡ b → inside (cond b (set r) r) ∷ map inside (set_rows n set rows) ≡ f (inside r) ∷ map f (map inside rows)
    go more true e = Rattle.std.proofs.Common.ap₂ ◌∷◌ (here r e) more
    go more false e = Rattle.std.proofs.Common.ap₂ ◌∷◌ (other r e) more

-- The same, where a fact of each row is needed.
pub typed_set_on : {T : Type 0} (inside : Row → T) (f : T → T) (n : ℕ) (set : Row → Row) (Q : Row → Type 0) (rows : List Row) → AllByRecursion (λ r. IsTrue (is_int (rowid r))) rows → AllByRecursion Q rows
    → ((r : Row) → Q r → eqb (number_in (rowid r)) n ≡ true → inside (set r) ≡ f (inside r)) → ((r : Row) → eqb (number_in (rowid r)) n ≡ false → inside r ≡ f (inside r))
    → map inside (set_rows n set rows) ≡ map f (map inside rows)
typed_set_on inside f n set Q [] int all here other = refl
typed_set_on {T} inside f n set Q (r ∷ rows) int all here other = rw int.0 (go (typed_set_on inside f n set Q rows int.1 all.1 here other) (eqb (number_in (rowid r)) n) refl)
  where
    go : map inside (set_rows n set rows) ≡ map f (map inside rows) → (b : Bool) → eqb (number_in (rowid r)) n ≡ b → inside (cond b (set r) r) ∷ map inside (set_rows n set rows) ≡ f (inside r) ∷ map f (map inside rows)
    go more true e = Rattle.std.proofs.Common.ap₂ ◌∷◌ (here r all.0 e) more
    go more false e = Rattle.std.proofs.Common.ap₂ ◌∷◌ (other r e) more

module _ (layout : Layout) (n : ℕ) (low : n < 2 ^ 32) (set : Row → Row) (same_id : (r : Row) → rowid (set r) ≡ rowid r) (P : Row → Type 0)
    (casts : (r : Row) → P r → IsTrue (is_int (rowid r)) → cast_row (table_of layout) (set r) ≡ set r) (db : Trees) (shaped : IsShaped Table (db layout.tree)) (all : AllByRecursion P (db layout.tree)) where
  abbrev rows : List Row
  rows = db layout.tree

  abbrev edit_with : List Row → Edit
  edit_with found = edit_of db (table_of layout) (ids_of found) Given 1 found

  -- one row is taken out and put in again
  one_set : (r : Row) → P r → IsTrue (is_int (rowid r)) → edited db (edit_with ((rowid r ∷ set r) ∷ [])) ≡ put_row (set r) (without_rowid (row_key r) rows)
  one_set r fits int = ap (λ (new : Row). put_row new (without_rowid (row_key r) rows)) (casts r fits int)

  matched : (r s : Row) → (is_numbered n s ≡ true → s ≡ r) → IsTrue (is_int (rowid s)) → row_key r ≡ pos n → cond (int_eq (row_key s) (row_key r)) (set r) s ≡ cond (is_numbered n s) (set s) s
  matched r s one int key = go (is_numbered n s) refl
    where
      go : (b : Bool) → is_numbered n s ≡ b → cond (int_eq (row_key s) (row_key r)) (set r) s ≡ cond b (set s) s
      go true e =
          let same = one e in
          let here : int_eq (row_key s) (row_key r) ≡ true = rw (key, ap row_key same ∙ key) (grind (arith, ints)) in
          rw here (ap set (sym same))
      go false e =
          let other : int_eq (row_key s) (row_key r) ≡ false = rw key (other_key (rowid s) n int low (rw int at e)) in
          rw other refl

  abbrev IsSet : List Row → Type 0
  IsSet new = (new ≡ set_rows n set rows) × IsShaped Table new

  set_in : (found : List Row) → filter (is_numbered n) rows ≡ found → length found ≤ 1 → IsSet (edited db (edit_with (map (λ r. rowid r ∷ set r) found)))
  set_in [] none short = (sym (none_set (is_numbered n) set rows (none_there (is_numbered n) rows none)), shaped)
  set_in (r ∷ []) only short =
      let int : IsTrue (is_int (rowid r)) = (subst (AllByRecursion (λ s. IsTrue (is_int (rowid s)))) only (all-filter _ (is_numbered n) rows shaped.1)).0 in
      let fits : P r = (subst (AllByRecursion P) only (all-filter P (is_numbered n) rows all)).0 in
      let is : is_numbered n r ≡ true = (subst (AllByRecursion (λ s. is_numbered n s ≡ true)) only (numbered_passes (is_numbered n) rows)).0 in
      let key : row_key r ≡ pos n = Rattle.sqlite_keyed.proofs.KeyedLemmas.same_int (row_key r) (pos n) (key_of_number (rowid r) n int low (second_of_both _ _ is)) in
      let is_edit = one_set r fits int in
      let new = set r in
      let id : rowid new ≡ Int (row_key r) = same_id r ∙ int_is (rowid r) int in
      let any : Rattle.std.specs.List.list_any (λ s. int_eq (row_key s) (row_key r)) rows ≡ true =
      some_from (λ s. int_eq (row_key s) (row_key r)) rows r (has_filtered (is_numbered n) rows r (subst (λ l. Has l r) (sym only) (inl refl))).0 (grind (arith, ints)) in
      let is_map = replaced new (row_key r) id rows shaped.1 (keyed rows shaped.0 shaped.1) any in
      let each = all_both (λ s. IsTrue (is_int (rowid s))) (λ s. is_numbered n s ≡ true → s ≡ r)
      (λ s. cond (int_eq (row_key s) (row_key r)) new s ≡ cond (is_numbered n s) (set s) s) (λ s int one. matched r s one int key) rows shaped.1 (only_one (is_numbered n) rows r only) in
      let new_int : IsTrue (is_int (rowid new)) = rw (same_id r) int in (
        is_edit ∙ is_map ∙ map_on _ _ (λ s. cond (is_numbered n s) (set s) s) (λ s h. h) rows each,
        subst (IsShaped Table) (sym is_edit) (IsShaped-put_row new _ new_int (IsShaped-filter Table _ rows shaped)),
      )
  set_in (r ∷ s ∷ found) only short = absurd (omega arith)

  pub table_set : (terms : List Term) (more : Row) (answer : List Row) → ((r : Row) → shown_by terms (Int (pos n) ∷ more) r ≡ set r)
      → IsListOf rows (equals 0 ∷ []) (col 1 0 ∷ terms) [] (Int (pos n) ∷ more) answer → IsSet (edited db (edit_with answer))
  table_set terms more answer sets a =
      let params = Int (pos n) ∷ more in
      let kept : filter (passes (equals 0 ∷ []) params) rows ≡ filter (is_numbered n) rows = by_number rows n more shaped low in
      let short : length (outputs (equals 0 ∷ []) (col 1 0 ∷ terms) [] params rows) ≤ 1 =
      omega (arith, length_mapped {Y = Output} (λ r. ([], shown_by (col 1 0 ∷ terms) params r)) (filter (passes (equals 0 ∷ []) params) rows), ap length kept, one_row rows n shaped low) in
      let shown : answer ≡ map (λ r. rowid r ∷ set r) (filter (is_numbered n) rows) =
      a.shown ∙ ap (map (λ (o : Output). o.1)) (few _ _ short a.same) ∙ map-map (λ (o : Output). o.1) _ _
      ∙ Rattle.sqlite_keyed.proofs.ListLemmas.map_same _ (λ r. rowid r ∷ set r) (λ r. ap (λ l. rowid r ∷ l) (sets r)) _ ∙ ap (map (λ r. rowid r ∷ set r)) kept in
      subst (λ found. IsSet (edited db (edit_with found))) (sym shown) (set_in (filter (is_numbered n) rows) refl (one_row rows n shaped low))

module _ (b : Bool) (sql : List ℕ) (at : ℕ) (layout : Layout) (terms : List Term) (n : ℕ) (more : Row) (low : n < 2 ^ 32)
    (found : slice_get house_schema.tables at ≡ Some (table_of layout)) (alone : (db : Trees) → overlay db [] layout.tree ≡ db layout.tree)
    (is : command_of (understood (house_by b) sql) ≡ Update at (record { lets = []; body = plain_query layout.tree (equals 0 ∷ []) (col 1 0 ∷ terms) [] }))
    (plain : IsPlain (understood (house_by b) sql))
    (set : Row → Row) (sets : (r : Row) → shown_by terms (Int (pos n) ∷ more) r ≡ set r) (same_id : (r : Row) → rowid (set r) ≡ rowid r) (P : Row → Type 0)
    (casts : (r : Row) → P r → IsTrue (is_int (rowid r)) → cast_row (table_of layout) (set r) ≡ set r) where
  -- The row with the number is set, and the others stay.
  pub updates : (old new : State) (count : ℕ) → old.now.schema ≡ house_by b → IsShaped Table (old.now.trees layout.tree) → AllByRecursion P (old.now.trees layout.tree)
      → Executes sql (Int (pos n) ∷ more) old new (Ok count)
      → Wrote layout.tree (set_rows n set (old.now.trees layout.tree)) old.now new.now × IsShaped Table (set_rows n set (old.now.trees layout.tree))
  updates old new count schema shaped all h =
      let params = Int (pos n) ∷ more in
      let db = old.now.trees in
      let command = Update at (record { lets = []; body = plain_query layout.tree (equals 0 ∷ []) (col 1 0 ∷ terms) [] }) in
      let w = runs_as sql params old new (house_by b) schema command is plain count h in
      let text = statement_of sql (understood (house_by b) sql) in
      let task : SqlTable → Task = λ t. record { limit = old.step_limit; keys = (mode_of old).keys; schema = house_by b; table = t; params = params } in
      let on = subst (λ s. Does old.step_limit (mode_of old) params (record old.now { schema = s }) text None command (Ok (w.tally, new.now))) schema w.changed in
      let whole = subst (λ o. AtPlace (λ t. OnRows (task t) (mode_of old) None command db) o (Ok (w.tally, new.now))) found on in
      let done = went whole in
      let now = ap (λ (p : Tally × Database). p.1) (same_value (went (went done.2).2).2) in
      let given = went done.1 in
      let written = went given.2 in
      let trees : done.0.trees ≡ written.0 = ap (λ (it : Written). it.trees) (same_value written.2) in
      let edit = edit_of db (table_of layout) (ids_of given.0) Given 1 given.0 in
      let applied = one_step (house_by b) Enforced db written.0 edit (no_works b layout.tree (taken_by db edit) edit.news) written.1 in
      let answer = subst (λ (l : List Row). IsListOf l (equals 0 ∷ []) (col 1 0 ∷ terms) [] params given.0) (alone db) (listed layout.tree (equals 0 ∷ []) (col 1 0 ∷ terms) [] (overlay db []) params given.0 (given.1.answer Null)) in
      let is_set = table_set layout n low set same_id P casts db shaped all terms more given.0 sets answer in
      let end : new.now.trees ≡ written.0 = ap (λ (d : Database). d.trees) now ∙ trees in (
        record {
          schema = ap (λ (d : Database). d.schema) now ∙ sym schema;
          rows_are = ap (λ (t : Trees). t layout.tree) end ∙ applied.rows ∙ is_set.0;
          others = subst (λ (t : Trees). AllByRecursion (λ s. (s.tree ≡ layout.tree → ⊥) → t s.tree ≡ db s.tree) house_schema.tables) (sym end) applied.tables;
          sound = w.sound;
        },
        subst (IsShaped Table) is_set.0 is_set.1,
      )
