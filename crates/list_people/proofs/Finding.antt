-- Rows by their number and by the place of their name.
use Rattle.std.proofs.Common.{◌≡◌, ℕ, ◌+◌, ◌-◌, ◌≤◌, ◌<◌, List, [], ◌∷◌, ◌++◌, length, Bool, true, false, refl, ◌∙◌, ap, sym, arith, inl, inr, Some, None, Ok, Err, zero, suc, length-append}
use Rattle.std.specs.Prelude.{Option, if◌then◌else◌, ◌==◌, nat_lt, find, position, slice_get}
use Rattle.std.specs.Borrow.{Bor}
use Rattle.std.specs.List.{position_or_len}
use Rattle.std.specs.Option.{option_copied}
use Rattle.std.specs.Slice.{IsItemAt}
use Rattle.std.proofs.lemmas.Bool.Decides.{nat_tests}
use Rattle.std.proofs.lemmas.List.Folds.{find_at, position_or_len_push}
use Rattle.std.proofs.lemmas.Option.{slice_get_past, slice_get_read}
use Rattle.std.proofs.lemmas.Slice.Eq.{bytes_eq-Decides}
use Rattle.house_rows.specs.Keeping.{AreInTurn}
use Rattle.house_rows.specs.Text.{same_text}
use Rattle.house_rows.proofs.InTurn.{turn_more}
use Rattle.house_rows.proofs.Put.{by_test}
use Rattle.list_people.specs.declared.names.Names.{Names}
use Rattle.house_rows.specs.declared.fault.KeepFault.{KeepFault}
use Rattle.list_rows.specs.Makes.{Makes}
use Rattle.list_people.specs.Named.{AreNamed, fault_of, place_in}

-- no row has a number before the first
turn_below : {A : Type 0} (number : A → ℕ) (next : ℕ) (rows : List A) (n : ℕ) → AreInTurn number next rows → n < next → find (λ row. number row == n) rows ≡ None
turn_below number next [] n are lt = refl
turn_below number next (x ∷ rows) n are lt =
    let first : number x ≡ next = are.0 in
    let other : (number x == n) ≡ false = grind (arith, nat_tests) in
    rw other (turn_below number (next + 1) rows n are.1 (omega arith))

-- the row of a number is as far after the first as its number is
turn_from : {A : Type 0} (number : A → ℕ) (next : ℕ) (rows : List A) (n i : ℕ) → AreInTurn number next rows → n ≡ i + next → find (λ row. number row == n) rows ≡ slice_get rows i
turn_from number next [] n i are is = refl
turn_from number next (x ∷ rows) n zero are is =
    let first : number x ≡ next = are.0 in
    let here : (number x == n) ≡ true = grind (arith, nat_tests) in
    rw here refl
turn_from number next (x ∷ rows) n (suc i) are is =
    let first : number x ≡ next = are.0 in
    let other : (number x == n) ≡ false = grind (arith, nat_tests) in
    rw other (turn_from number (next + 1) rows n i are.1 (omega arith))

-- where numbers run from 1 on, a number is a place
by_number : {A : Type 0} (number : A → ℕ) (rows : List A) (n : ℕ) → AreInTurn number 1 rows → (if n == 0 then None else slice_get rows (n - 1)) ≡ find (λ row. number row == n) rows
by_number number rows n are =
    elim (by_test (n == 0)) [
      | inl is ↦ rw is (sym (turn_below number 1 rows n are (grind (arith, nat_tests, is))))
      | inr not ↦ rw not (sym (turn_from number 1 rows n (n - 1) are (grind (arith, nat_tests, not))))
    ]

-- so the row at that place is the one of that number
pub number_found : {A : Type 0} (number : A → ℕ) (rows kept seen : List A) (n : ℕ) (found : Option A) → found ≡ (if n == 0 then None else slice_get rows (n - 1)) → rows ≡ kept → kept ≡ seen → AreInTurn number 1 kept
    → found ≡ find (λ row. number row == n) seen
number_found {A = A} number rows kept seen n found is same view are =
    is ∙ ap (λ (xs : List A). if n == 0 then None else slice_get xs (n - 1)) same ∙ by_number number kept n are ∙ ap (λ (xs : List A). find (λ row. number row == n) xs) view

within : {A : Type 0} (p : A → Bool) (xs : List A) → position_or_len p xs ≤ length xs
within p [] = omega arith
within p (x ∷ xs) = let le = within p xs in elim (by_test (p x)) [ inl is ↦ rw is (omega arith) | inr not ↦ rw not (omega arith) ]

-- the place of the first that passes
position_at : {A : Type 0} (p : A → Bool) (xs : List A) (i : ℕ) → position_or_len p xs ≡ i → i < length xs → position p xs ≡ Some i
position_at p xs i is lt = let less : nat_lt (position_or_len p xs) (length xs) ≡ true = grind (arith, nat_tests) in rw less (rw is refl)

position_past : {A : Type 0} (p : A → Bool) (xs : List A) → length xs ≤ position_or_len p xs → position p xs ≡ None
position_past p xs le = let past : nat_lt (position_or_len p xs) (length xs) ≡ false = grind (arith, nat_tests) in rw past refl

-- the row at the first place that passes is the first that passes
at_place : {A : Type 0} (p : A → Bool) (xs : List A) (i : ℕ) → position p xs ≡ Some i → slice_get xs i ≡ find p xs
at_place p xs i found =
    elim (by_test (nat_lt (position_or_len p xs) (length xs))) [
      | inl is ↦ (let e : Some (position_or_len p xs) ≡ Some i = rw is at found in let same : position_or_len p xs ≡ i = cc in rw (← same) (sym (find_at p xs)))
      | inr not ↦ absurd (let e : None ≡ Some i = rw not at found in cc)
    ]

-- where there is no such place, no row passes
at_none : {A : Type 0} (p : A → Bool) (xs : List A) → position p xs ≡ None → find p xs ≡ None
at_none p xs none =
    elim (by_test (nat_lt (position_or_len p xs) (length xs))) [
      | inl is ↦ absurd (let e : Some (position_or_len p xs) ≡ None = rw is at none in cc)
      | inr not ↦ find_at p xs ∙ slice_get_past xs (position_or_len p xs) (grind (arith, nat_tests, not))
    ]

-- where no row passes, the first that does would come after all
past_all : {A : Type 0} (p : A → Bool) (xs : List A) → find p xs ≡ None → position_or_len p xs ≡ length xs
past_all p [] none = refl
past_all p (x ∷ xs) none =
    elim (by_test (p x)) [
      | inl is ↦ absurd (let e : Some x ≡ None = rw is at none in cc)
      | inr not ↦ (let rest : find p xs ≡ None = rw not at none in rw not (let e = past_all p xs rest in omega arith))
    ]

-- one more row that passes, the first that does
place_new : {A : Type 0} (p : A → Bool) (xs : List A) (x : A) → find p xs ≡ None → p x ≡ true → position p (xs ++ x ∷ []) ≡ Some (length xs)
place_new p xs x none is =
    let past : position_or_len p xs ≡ length xs = past_all p xs none in
    let all : (position_or_len p xs == length xs) ≡ true = grind (arith, nat_tests) in
    let here : position_or_len p (xs ++ x ∷ []) ≡ length xs = rw (position_or_len_push p xs x, all, is) (omega arith) in
    position_at p (xs ++ x ∷ []) (length xs) here (simp length-append (omega arith))

-- one more that doesn't leaves the place
place_same : {A : Type 0} (p : A → Bool) (xs : List A) (x : A) → p x ≡ false → position p (xs ++ x ∷ []) ≡ position p xs
place_same p xs x not =
    elim (by_test (position_or_len p xs == length xs)) [
      | inl all ↦ (let past : position_or_len p xs ≡ length xs = grind (arith, nat_tests, all) in
          let here : position_or_len p (xs ++ x ∷ []) ≡ length xs + 1 = rw (position_or_len_push p xs x, all, not) refl in
          position_past p (xs ++ x ∷ []) (simp length-append (omega arith)) ∙ sym (position_past p xs (omega arith)))
      | inr some ↦ (let le = within p xs in let lt : position_or_len p xs < length xs = grind (arith, nat_tests, some, le) in
          let here : position_or_len p (xs ++ x ∷ []) ≡ position_or_len p xs = rw (position_or_len_push p xs x, some) refl in
          position_at p (xs ++ x ∷ []) (position_or_len p xs) here (simp length-append (omega arith)) ∙ sym (position_at p xs (position_or_len p xs) refl lt))
    ]

-- the row that a slice gives at a place
pub item_at : {A : Type 0} (xs : List A) (i : ℕ) (found : Option (Bor A)) → IsItemAt xs i found → option_copied found ≡ slice_get xs i
item_at xs i None is = sym (slice_get_past xs i (let past = is.0 in grind (arith, nat_tests, past)))
item_at xs i (Some x) is = sym (slice_get_read xs (length xs) i x.now refl (let there = is.0 in grind (arith, nat_tests, there)) is.1)

-- the row at the place of a name is the first of that name
pub name_found : {A : Type 0} (number : A → ℕ) (name : A → List ℕ) (rows kept seen : List A) (names : Names) (wanted : List ℕ) (i : ℕ) (place : Option ℕ) (found : Option A) → AreNamed number name kept names
    → place ≡ place_in names wanted → place ≡ Some i → found ≡ slice_get rows i → rows ≡ kept → kept ≡ seen → found ≡ find (λ row. same_text (name row) wanted) seen
name_found {A = A} number name rows kept seen names wanted i place found are has some is same view =
    let at' : position (λ row. same_text (name row) wanted) kept ≡ Some i = sym (are.places wanted) ∙ sym has ∙ some in
    is ∙ ap (λ (xs : List A). slice_get xs i) same ∙ at_place (λ row. same_text (name row) wanted) kept i at' ∙ ap (λ (xs : List A). find (λ row. same_text (name row) wanted) xs) view

-- and where the index has none, no row has the name
pub name_unknown : {A : Type 0} (number : A → ℕ) (name : A → List ℕ) (kept seen : List A) (names : Names) (wanted : List ℕ) (place : Option ℕ) → AreNamed number name kept names
    → place ≡ place_in names wanted → place ≡ None → kept ≡ seen → find (λ row. same_text (name row) wanted) seen ≡ None
name_unknown {A = A} number name kept seen names wanted place are has none view =
    let nowhere : position (λ row. same_text (name row) wanted) kept ≡ None = sym (are.places wanted) ∙ sym has ∙ none in
    sym (ap (λ (xs : List A). find (λ row. same_text (name row) wanted) xs) view) ∙ at_none (λ row. same_text (name row) wanted) kept nowhere

-- one more row, with the next number and a name that none has, and the index that has its place besides
pub named_more : {A : Type 0} (number : A → ℕ) (name : A → List ℕ) (rows seen more : List A) (names after : Names) (row : A) → AreNamed number name rows names → rows ≡ seen → number row ≡ length rows + 1
    → find (λ other. same_text (name other) (name row)) seen ≡ None → more ≡ rows ++ row ∷ []
    → ((other : List ℕ) → place_in after other ≡ (if same_text (name row) other then Some (length rows) else place_in names other)) → AreNamed number name more after
named_more number name rows seen more names after row are view next free is places = record {
  in_turn = rw is (turn_more number 1 rows row are.in_turn next);
  places = λ wanted. places wanted ∙ rw is (elim (by_test (same_text (name row) wanted)) [
    | inl same ↦ (let e : name row ≡ wanted = (bytes_eq-Decides (name row) wanted).0 same in
        rw same (sym (place_new (λ other. same_text (name other) wanted) rows row (rw (← e, view) free) same)))
    | inr not ↦ rw not (are.places wanted ∙ sym (place_same (λ other. same_text (name other) wanted) rows row not))
  ]);
}

-- where no row has the name, the index has no place for it
place_unknown : {A : Type 0} (number : A → ℕ) (name : A → List ℕ) (kept seen : List A) (names : Names) (wanted : List ℕ) → AreNamed number name kept names → kept ≡ seen
    → find (λ row. same_text (name row) wanted) seen ≡ None → place_in names wanted ≡ None
place_unknown {A = A} number name kept seen names wanted are view none =
    let free : find (λ row. same_text (name row) wanted) kept ≡ None = ap (λ (xs : List A). find (λ row. same_text (name row) wanted) xs) view ∙ none in
    let past = past_all (λ row. same_text (name row) wanted) kept free in
    are.places wanted ∙ position_past (λ row. same_text (name row) wanted) kept (omega arith)

-- a row that isn't made, whose fault goes by its name
unmade : {A : Type 0} (place : Option ℕ) (fault : KeepFault) (old new wanted : List A) (free : Type 0) → fault ≡ fault_of place → (place ≡ None → free) → (free → place ≡ None) → new ≡ old
    → Makes (Err fault) old new wanted free
unmade None fault old new wanted free is unknown known same = record {
  ok = tt;
  err = same;
  free = tt;
  damaged = λ damaged taken. cc;
  taken = λ taken. absurd (taken (unknown refl));
  store = λ store. cc;
}
unmade (Some i) fault old new wanted free is unknown known same = record {
  ok = tt;
  err = same;
  free = tt;
  damaged = λ damaged taken. (let some = known taken in cc);
  taken = λ taken. rw is refl;
  store = λ store. cc;
}

-- the same by what the index has
pub unmade_named : {A : Type 0} (number : A → ℕ) (name : A → List ℕ) (kept seen new wanted : List A) (names : Names) (text : List ℕ) (fault : KeepFault) → AreNamed number name kept names → kept ≡ seen
    → fault ≡ fault_of (place_in names text) → new ≡ seen → Makes (Err fault) seen new wanted (find (λ row. same_text (name row) text) seen ≡ None)
unmade_named number name kept seen new wanted names text fault are view is same =
    unmade (place_in names text) fault seen new wanted (find (λ row. same_text (name row) text) seen ≡ None) is
    (λ none. name_unknown number name kept seen names text (place_in names text) are refl none view)
    (place_unknown number name kept seen names text are view) same

-- a row that is made
pub made_new : {A : Type 0} (old new wanted : List A) (free : Type 0) → new ≡ wanted → free → Makes (Ok tt) old new wanted free
made_new old new wanted free same is = record {
  ok = same;
  err = tt;
  free = is;
  damaged = λ damaged. cc;
  taken = λ taken. absurd (taken is);
  store = λ store. cc;
}
