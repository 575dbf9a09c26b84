-- What the statements on the numbers of a table answer.
use Rattle.std.proofs.Common.{◌≡◌, ℕ, ◌<◌, ◌^◌, pos, Bool, false, List, [], ◌∷◌, map, filter, length, min, Some, Result, Ok, Err, inl, inr, refl, sym, ap, subst, ◌∙◌, arith, IsTrue}
use Rattle.std.specs.List.{AllByRecursion}
use Rattle.std.specs.Prelude.{IsErrAnd, OnErr, OnOk}
use Rattle.std.proofs.lemmas.List.{length-map}
use Rattle.sqlite_value.specs.declared.value.Value.TheVariants.{Int, Null}
use Rattle.sqlite_value.specs.Order.{Row}
use Rattle.sqlite_sql.specs.Program.{overlay}
use Rattle.sqlite_sql.specs.Term.{Term, col}
use Rattle.sqlite_trees.specs.Tree.{Trees, rowid}
use Rattle.sqlite_trees.specs.View.{is_int}
use Rattle.sqlite_trees.specs.declared.store.Store.{Ghosts}
use Rattle.sqlite.specs.Held.{Held, state}
use Rattle.sqlite.specs.State.{State, HasCleanDisk, IsUnchanged, KeepsCounts, Shown}
use Rattle.sqlite.proofs.Callers.{reads_as}
use Rattle.sqlite.proofs.StateLemmas.{survives_then}
use Rattle.house_rows.specs.Fits.{IsWithin}
use Rattle.house_rows.specs.Taken.{IsUndamaged}
use Rattle.house_rows.specs.declared.fault.KeepFault.{KeepFault}
use Rattle.store_rows.specs.Counts.{first_number}
use Rattle.store_rows.specs.Frames.{Finds, OnlyReads}
use Rattle.store_rows.specs.House.{IsHouse, KeepsCommitted}
use Rattle.store_rows.specs.Plain.{passes, shown_by}
use Rattle.store_rows.proofs.CountLemmas.{counted, every}
use Rattle.store_rows.proofs.RowLemmas.{alone}
use Rattle.store_rows.proofs.Select.{by_rowid, in_order, listed}
use Rattle.store_rows.proofs.Update.{none_there}
use Rattle.store_house.specs.Numbers.{AreWithin, CountsRows, IsTableTree, ShowsNumbers, ShowsRows, is_above, is_below, row_number}
use Rattle.store_house.specs.Opening.{IsCount}
use Rattle.store_house.proofs.NumberLemmas.{number_between, number_within}
use Rattle.store_rows.specs.Statements.{AlwaysPlain}

abbrev shown : List Term
shown = col 1 0 ∷ []

no_map : {X Y : Type 0} (f : X → Y) (xs : List X) → [] ≡ map f xs → xs ≡ []
no_map f [] e = refl
no_map f (x ∷ xs) e = absurd (omega (arith, ap length e))

none_kept : {X : Type 0} (p : X → Bool) (xs : List X) → AllByRecursion (λ x. p x ≡ false) xs → filter p xs ≡ []
none_kept p [] none = refl
none_kept p (x ∷ xs) none = rw none.0 (none_kept p xs none.1)

-- a table of which no row is below 1 or above n has numbers from 1 to n
pub within : (n : ℕ) → n < 2 ^ 32 → (table : List Row) → AllByRecursion (λ r. IsTrue (is_int (rowid r))) table
    → AllByRecursion (λ r. passes is_below [] r ≡ false) table → AllByRecursion (λ r. passes is_above (Int (pos n) ∷ []) r ≡ false) table → AreWithin n table
within n low [] int below above = tt
within n low (r ∷ table) int below above = (
  number_within (rowid r) n low int.0 (sym (alone _) ∙ below.0) (sym (alone _) ∙ above.0),
  within n low table int.1 below.1 above.1,
)

-- and the other way round
pub between : (n : ℕ) → n < 2 ^ 32 → (table : List Row) → AreWithin n table
    → AllByRecursion (λ r. passes is_below [] r ≡ false) table × AllByRecursion (λ r. passes is_above (Int (pos n) ∷ []) r ≡ false) table
between n low [] all = (tt, tt)
between n low (r ∷ table) all =
    let first = number_between (rowid r) n low all.0 in
    let more = between n low table all.1 in
    ((alone _ ∙ first.0, more.0), (alone _ ∙ first.1, more.1))

module _ (tree : ℕ) (is : IsTableTree tree) (old new : State) (house : IsHouse old.now) where
  -- what a query shows
  pub answered : (sql : List ℕ) (test terms : List Term) (names : List (List ℕ)) (params : Row) → AlwaysPlain sql → ShowsRows sql tree test terms names
      → (rows : List Row) → Shown sql params old new rows → rows ≡ map (shown_by terms params) (filter (passes test params) (old.now.trees tree))
  answered sql test terms names params plain shows rows h =
      let read = reads_as sql params old new _ house.schema _ (shows _).0 (plain _) (shows _).1 rows h in
      in_order test terms params (old.now.trees tree) rows (is.shaped old.now house).0 (rw (is.over old.now.trees) at (listed tree test terms by_rowid (overlay old.now.trees []) params rows (read.answer Null)))

  -- where no row is shown, none passes WHERE
  pub none_pass : (sql : List ℕ) (test : List Term) (params : Row) → AlwaysPlain sql → ShowsNumbers sql tree test → Shown sql params old new []
      → AllByRecursion (λ r. passes test params r ≡ false) (old.now.trees tree)
  none_pass sql test params plain shows h = none_there (passes test params) (old.now.trees tree) (no_map _ _ (answered sql test shown _ params plain shows [] h))

  -- and the other way round
  pub none_shown : (sql : List ℕ) (test : List Term) (params : Row) → AlwaysPlain sql → ShowsNumbers sql tree test
      → AllByRecursion (λ r. passes test params r ≡ false) (old.now.trees tree) → (rows : List Row) → Shown sql params old new rows → rows ≡ []
  none_shown sql test params plain shows none rows h = answered sql test shown _ params plain shows rows h ∙ ap (map (shown_by shown params)) (none_kept (passes test params) (old.now.trees tree) none)

  pub rows_counted : (sql : List ℕ) → AlwaysPlain sql → CountsRows sql tree → (rows : List Row) → Shown sql [] old new rows
      → first_number rows ≡ Some (min (length (old.now.trees tree)) 9223372036854775807)
  rows_counted sql plain counts rows h =
      let read = reads_as sql [] old new _ house.schema _ (counts _).0 (plain _) (counts _).1 rows h in
      ap first_number (rw (is.over old.now.trees) at (counted tree [] (overlay old.now.trees []) [] rows (read.answer Null)))
      ∙ ap (λ n. Some (min n 9223372036854775807)) (every [] (old.now.trees tree))

-- typed rows are as many as those of the table, and have their numbers
module _ {T : Type 0} (inside : Row → T) (number : T → ℕ) (same : (r : Row) → number (inside r) ≡ row_number r) where
  typed : (n : ℕ) (rows : List Row) → AreWithin n rows → AllByRecursion (λ x. IsWithin 1 n (number x)) (map inside rows)
  typed n [] all = tt
  typed n (r ∷ rows) all = (subst (IsWithin 1 n) (sym (same r)) all.0, typed n rows all.1)

  untyped : (n : ℕ) (rows : List Row) → AllByRecursion (λ x. IsWithin 1 n (number x)) (map inside rows) → AreWithin n rows
  untyped n [] all = tt
  untyped n (r ∷ rows) all = (subst (IsWithin 1 n) (same r) all.0, untyped n rows all.1)

  pub typed_count : (n : ℕ) (rows : List Row) → IsCount n row_number rows → (length (map inside rows) ≡ n) × IsCount (length (map inside rows)) number (map inside rows)
  typed_count n rows is =
      let many : length (map inside rows) ≡ n = length-map rows inside ∙ is.count in
      (many, subst (λ k. IsCount k number (map inside rows)) (sym many) (record { count = many; few = is.few; within = typed n rows is.within }))

  pub row_count : (rows : List Row) → length (map inside rows) < 2 ^ 32 → AllByRecursion (λ x. IsWithin 1 (length (map inside rows)) (number x)) (map inside rows) → IsCount (length rows) row_number rows
  row_count rows few all =
      let many : length (map inside rows) ≡ length rows = length-map rows inside in
      record { count = refl; few = subst (λ k. k < 2 ^ 32) many few; within = subst (λ k. AreWithin k rows) many (untyped _ rows all) }

-- ---- queries one after the other

kept_counts : (a b c : State) → KeepsCounts a b → KeepsCounts b c → KeepsCounts a c
kept_counts a b c one two = record { changes = two.changes ∙ one.changes; last_rowid = two.last_rowid ∙ one.last_rowid }

-- what was unchanged until now is unchanged
still_same : (a b c : State) → IsUnchanged a b → IsUnchanged b c → IsUnchanged a c
still_same a b c one two = (
  record {
    was_open = one.0.was_open;
    is_open = two.0.is_open;
    now_is = two.0.now_is ∙ one.0.now_is;
    committed_is = two.0.committed_is ∙ one.0.committed_is;
    mode = two.0.mode ∙ one.0.mode;
  },
  kept_counts a b c one.1 two.1,
  two.2 ∙ one.2,
)

still_committed : (a b c : State) → IsUnchanged a b → KeepsCommitted b c → KeepsCommitted a c
still_committed a b c one (inl same) = inl (still_same a b c one same)
still_committed a b c one (inr back) = inr (record {
  was_open = λ _. one.0.was_open;
  undone = λ live. let was = back.undone live in (was.0 ∙ one.0.committed_is, was.1 ∙ one.0.committed_is);
  autocommit = back.autocommit;
  unmarked = back.unmarked;
  counts = kept_counts a b c one.1 back.counts;
})

on_ok : {T E P Q : Type 0} (r : Result T E) → (P → Q) → OnOk r P → OnOk r Q
on_ok (Ok x) f h = f h
on_ok (Err e) f h = h

on_err : {T E P Q : Type 0} (r : Result T E) → (P → Q) → OnErr r P → OnErr r Q
on_err (Ok x) f h = h
on_err (Err e) f h = f h

-- a query after one that answered: both only read
pub reads_then : {A B E F : Type 0} {x : A} (a b c : State) (r : Result B F) → OnlyReads {A = A} {E = E} a b (Ok x) → OnlyReads b c r → OnlyReads a c r
reads_then a b c r one two = record {
  same = λ clean. on_ok r (still_same a b c (one.same (omega (arith, two.crash.clean, clean)))) (two.same clean);
  err = λ clean. on_err r (still_committed a b c (one.same (omega (arith, two.crash.clean, clean)))) (two.err clean);
  mode = λ rests. two.mode (one.mode rests);
  crash = survives_then a b c (λ _. ⊥) (λ _. ⊥) (λ _. ⊥) (λ _ _ none. none) (λ _ _ none. none) one.crash two.crash;
}

-- whatever is answered after it
pub reads_still : {A B E F : Type 0} {x : A} (a b : State) (r : Result B F) → OnlyReads {A = A} {E = E} a b (Ok x) → OnlyReads a b r
reads_still a b (Ok y) one = record { same = one.same; err = λ _. tt; mode = one.mode; crash = one.crash }
reads_still a b (Err f) one = record { same = λ _. tt; err = λ clean. inl (one.same clean); mode = one.mode; crash = one.crash }

-- a failure that is handed on
pub reads_err : {A B E : Type 0} {e : E} (a b : State) (r : Result B E) → IsErrAnd r (λ f. f ≡ e) → OnlyReads {A = A} a b (Err e) → OnlyReads a b r
reads_err a b (Ok x) is one = absurd is
reads_err a b (Err f) is one = record { same = λ _. tt; err = one.err; mode = one.mode; crash = one.crash }

abbrev fault_or : {A E : Type 0} → E → Result A E → E
fault_or e (Ok x) = e
fault_or e (Err f) = f

-- a look-up of which a query failed, and not as damaged where the rows fit
pub finds_err : {S A X : Type 0} (g : Ghosts S) (old new : Held S) (e : KeepFault) (r : Result A KeepFault) (IsAnswer : Trees → A → Type 0) (Fit : Trees → Type 0) → IsErrAnd r (λ f. f ≡ e)
    → (HasCleanDisk (state g new) → Fit (state g old).now.trees → IsUndamaged {A = X} (Err e)) → OnlyReads (state g old) (state g new) r → Finds g old new r IsAnswer Fit
finds_err g old new e (Ok x) IsAnswer Fit is calm read = absurd is
finds_err g old new e (Err f) IsAnswer Fit is calm read = record {
  value = λ _. tt;
  damaged = λ clean fits damaged. calm clean fits (ap (λ x. Err x) (sym is ∙ ap (fault_or e) damaged));
  read = read;
}

-- a look-up that answers
pub finds_ok : {S A : Type 0} (g : Ghosts S) (old new : Held S) (x : A) (IsAnswer : Trees → A → Type 0) (Fit : Trees → Type 0)
    → (HasCleanDisk (state g new) → IsAnswer (state g old).now.trees x) → OnlyReads {E = KeepFault} (state g old) (state g new) (Ok x) → Finds g old new (Ok x) IsAnswer Fit
finds_ok g old new x IsAnswer Fit is read = record { value = is; damaged = λ clean fits damaged. absurd (cc); read = read }
