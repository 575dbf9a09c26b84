-- What a member watches, among rows that rise.
use Rattle.std.proofs.Common.{◌≡◌, ℕ, List, [], ◌∷◌, filter, true, false, not, refl, ap, ◌∙◌, arith, inl, inr, Option, Some, None, Result, Ok, Err, Bor}
use Rattle.std.specs.Prelude.{⊤, find, is_some, OnOk}
use Rattle.std.specs.Option.{option_copied}
use Rattle.std.specs.List.{AllByRecursion, list_any}
use Rattle.std.proofs.lemmas.Bool.Decides.{nat_tests}
use Rattle.house_rows.specs.declared.fault.KeepFault.{KeepFault}
use Rattle.house_rows.specs.declared.fault.KeepFault.TheVariants.{Store, Damaged}
use Rattle.house_rows.specs.History.{Key, is_less, put_by}
use Rattle.house_rows.specs.Watches.{WatchRow, is_watch, unwatched, watch_key}
use Rattle.house_rows.proofs.Put.{by_test, filter_alike}
use Rattle.list_rows.specs.Blocks.{IsRising, same_key}
use Rattle.list_rows.specs.Makes.{Makes}

abbrev key_of : ℕ → ℕ → Key
key_of member item = record { first = member; second = item; third = 0 }

abbrev watch_of : ℕ → ℕ → WatchRow
watch_of member item = record { member = member; item = item }

-- a watch is named by its key
pub named : (member item : ℕ) (w : WatchRow) → same_key (watch_key w) (key_of member item) ≡ is_watch member item w
named member item w = grind (arith, nat_tests)

-- what is found is there
pub found_any : (member item : ℕ) (rows : List WatchRow) → is_some (find (λ w. same_key (watch_key w) (key_of member item)) rows) ≡ list_any (is_watch member item) rows
found_any member item [] = refl
found_any member item (w ∷ rows) =
    elim (by_test (is_watch member item w)) [
      | inl is ↦ rw (named member item w, is) refl
      | inr other ↦ rw (named member item w, other) (found_any member item rows)
    ]

-- all watches but one, by its key
pub cut_unwatched : (member item : ℕ) (rows : List WatchRow) → filter (λ w. not (same_key (watch_key w) (key_of member item))) rows ≡ unwatched member item rows
cut_unwatched member item rows =
    filter_alike (λ w. not (same_key (watch_key w) (key_of member item))) (λ w. not (is_watch member item w)) rows (λ w. ap not (named member item w))

-- where it isn't there, none is taken away
pub unwatched_none : (member item : ℕ) (rows : List WatchRow) → list_any (is_watch member item) rows ≡ false → unwatched member item rows ≡ rows
unwatched_none member item [] none = refl
unwatched_none member item (w ∷ rows) none =
    elim (by_test (is_watch member item w)) [
      | inl is ↦ absurd (let e : true ≡ false = rw is at none in cc)
      | inr other ↦ rw other (ap (λ rest. w ∷ rest) (unwatched_none member item rows (rw other at none)))
    ]

-- its key is free then
pub key_free : (member item : ℕ) (rows : List WatchRow) → list_any (λ w. same_key (watch_key w) (key_of member item)) rows ≡ list_any (is_watch member item) rows
key_free member item [] = refl
key_free member item (w ∷ rows) = rw (named member item w, key_free member item rows) refl

-- none of the rows after a key has it
none_after : (member item : ℕ) (rows : List WatchRow) → AllByRecursion (λ w. is_less (key_of member item) (watch_key w) ≡ true) rows → list_any (is_watch member item) rows ≡ false
none_after member item [] all = refl
none_after member item (w ∷ rows) all =
    let less = all.0 in let other : is_watch member item w ≡ false = grind (arith, nat_tests, less) in rw other (none_after member item rows all.1)

-- a row that comes before all others is put first
put_first : (member item : ℕ) (rows : List WatchRow) → AllByRecursion (λ w. is_less (key_of member item) (watch_key w) ≡ true) rows
    → put_by watch_key (watch_of member item) rows ≡ watch_of member item ∷ rows
put_first member item [] all = refl
put_first member item (w ∷ rows) all = rw all.0 refl

-- a watch is its member and item
is_same : (member item : ℕ) (w : WatchRow) → is_watch member item w ≡ true → w ≡ watch_of member item
is_same member item w is = let m : w.member ≡ member = grind (arith, nat_tests, is) in let i : w.item ≡ item = grind (arith, nat_tests, is) in ap (λ n. watch_of n w.item) m ∙ ap (watch_of member) i

-- one that is there comes after an earlier row
not_before : (member item : ℕ) (w : WatchRow) (rows : List WatchRow) → AllByRecursion (λ v. is_less (watch_key w) (watch_key v) ≡ true) rows → list_any (is_watch member item) rows ≡ true
    → is_less (key_of member item) (watch_key w) ≡ false
not_before member item w [] all any = absurd (let e : false ≡ true = any in cc)
not_before member item w (v ∷ rows) all any =
    elim (by_test (is_watch member item v)) [
      | inl is ↦ (let less = all.0 in grind (arith, nat_tests, less, is))
      | inr other ↦ not_before member item w rows all.1 (rw other at any)
    ]

-- a watch that is there is put back in its place
pub put_back : (member item : ℕ) (rows : List WatchRow) → IsRising watch_key rows → list_any (is_watch member item) rows ≡ true
    → rows ≡ put_by watch_key (watch_of member item) (unwatched member item rows)
put_back member item [] rising any = absurd (let e : false ≡ true = any in cc)
put_back member item (w ∷ rows) rising any =
    elim (by_test (is_watch member item w)) [
      | inl is ↦ (let same = is_same member item w is in let rest_after : AllByRecursion (λ v. is_less (key_of member item) (watch_key v) ≡ true) rows = rw same at rising.0 in
          rw (is, unwatched_none member item rows (none_after member item rows rest_after), put_first member item rows rest_after) (ap (λ first. first ∷ rows) same))
      | inr other ↦ (let there : list_any (is_watch member item) rows ≡ true = rw other at any in
          rw (other, not_before member item w rows rising.0 there) (ap (λ rest. w ∷ rest) (put_back member item rows rising.1 there)))
    ]

-- what is there after a reference is there
pub some_copied : {A : Type 0} (o : Option (Bor A)) → is_some o ≡ is_some (option_copied o)
some_copied None = refl
some_copied (Some x) = refl

-- what is known anyway is known of an answer
always_ok : {A E P : Type 0} (r : Result A E) → P → OnOk r P
always_ok (Ok a) known = known
always_ok (Err e) known = tt

-- what is done is no fault
no_error : (fault : KeepFault) → Ok (tt {0}) ≡ Err fault → ⊥
no_error fault e = cc

-- nothing is to be done where it is watched already
pub watched_already : (member item : ℕ) (rows : List WatchRow) → IsRising watch_key rows → list_any (is_watch member item) rows ≡ true
    → Makes (Ok tt) rows rows (put_by watch_key (watch_of member item) (unwatched member item rows)) ⊤
watched_already member item rows rising any = record {
  ok = put_back member item rows rising any;
  err = tt;
  free = tt;
  damaged = λ e free. no_error Damaged e;
  taken = λ not_free. absurd (not_free tt);
  store = no_error Store;
}

-- where it isn't, its row is put, and can't be taken
pub watched_newly : (r : Result (Unit {0}) KeepFault) (member item : ℕ) (old new : List WatchRow) → list_any (is_watch member item) old ≡ false
    → Makes r old new (put_by watch_key (watch_of member item) old) (list_any (λ w. same_key (watch_key w) (key_of member item)) old ≡ false)
    → Makes r old new (put_by watch_key (watch_of member item) (unwatched member item old)) ⊤
watched_newly r member item old new none makes = record {
  ok = rw (unwatched_none member item old none) makes.ok;
  err = makes.err;
  free = always_ok r tt;
  damaged = λ e free. makes.damaged e (key_free member item old ∙ none);
  taken = λ not_free. absurd (not_free tt);
  store = makes.store;
}
