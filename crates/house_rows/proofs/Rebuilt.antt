-- Editions by the tables that were set: an item has the table of its edition, and what is public
-- says with which items they begin.
use Rattle.std.proofs.Common.{◌≡◌, ℕ, suc, ◌+◌, ◌≤◌, List, [], ◌∷◌, ◌++◌, map, length, Bool, true, false, refl, ◌∙◌, ap, sym, arith, inl, inr, Some, append_assoc}
use Rattle.std.specs.Prelude.{◌==◌, nat_lt}
use Rattle.std.specs.List.{AllByRecursion}
use Rattle.std.proofs.lemmas.Bool.Decides.{nat_tests}
use Rattle.std.proofs.lemmas.List.{append-nil, length-append, length-map, map-append}
use Rattle.house_rows.specs.declared.command.Command.{Command}
use Rattle.house_rows.specs.declared.command.Command.TheVariants.{List as Listed, SetBands}
use Rattle.house_rows.specs.declared.edition.Edition.{Edition}
use Rattle.house_rows.specs.declared.item.ItemShown.{ItemShown}
use Rattle.house_rows.specs.declared.settings.Settings.{Settings}
use Rattle.house_rows.specs.Editions.{editions, table_from, table_of}
use Rattle.house_rows.specs.History.{History, counted}
use Rattle.house_rows.specs.Items.{items_shown, shown_now}
use Rattle.house_rows.specs.Listings.{Listing, bands_by, edition_by, listing_at, listings, newest_of, tables_set}
use Rattle.house_rows.specs.Runs.{entry}
use Rattle.house_rows.specs.Views.{Public, public_view}
use Rattle.house_rows.proofs.Every.{every_as, every_more, found_has}
use Rattle.house_rows.proofs.GoesBy.{set_count}
use Rattle.house_rows.proofs.Lists.{map_twice}
use Rattle.house_rows.proofs.Put.{by_test}

-- the newest table has the last number, whatever comes after it
last_of : (next : ℕ) (first : List (ℕ × ℕ)) (set more : List (List (ℕ × ℕ))) → table_from next (first ∷ (set ++ more)) (length set + next) ≡ Some (newest_of first set)
last_of next first [] more = let here : (next == 0 + next) ≡ true = grind (arith, nat_tests) in rw here refl
last_of next first (bands ∷ set) more =
    let other : (next == length (bands ∷ set) + next) ≡ false = grind (arith, nat_tests) in
    let e : length (bands ∷ set) + next ≡ length set + (next + 1) = omega arith in
    rw other (ap (table_from (next + 1) (bands ∷ (set ++ more))) e ∙ last_of (next + 1) bands set more)

-- what was set before a listing stays the beginning of what is set
record Begins (set : List (List (ℕ × ℕ))) (l : Listing) : Type 0 where
  more : List (List (ℕ × ℕ))
  parts : set ≡ l.set ++ more

begins_more : (set : List (List (ℕ × ℕ))) (bands : List (ℕ × ℕ)) (l : Listing) → Begins set l → Begins (set ++ bands ∷ []) l
begins_more set bands l is = record {
  more = is.more ++ bands ∷ [];
  parts = ap (λ (s : List (List (ℕ × ℕ))). s ++ bands ∷ []) is.parts ∙ append_assoc l.set is.more (bands ∷ []);
}

begins_step : (h : History) (t c : ℕ) (command : Command) → AllByRecursion (Begins (tables_set h)) (listings h)
    → AllByRecursion (Begins (tables_set (entry t c command ∷ h))) (listings (entry t c command ∷ h))
begins_step h t c (SetBands bands) all =
    simp append-nil (every_as (Begins (tables_set h)) (Begins (tables_set h ++ bands ∷ [])) (listings h) (begins_more (tables_set h) bands) all)
begins_step h t c (Listed category lot title text start buy_now end reserve) all =
    every_more (Begins (tables_set h)) (listings h) _ all (record { more = []; parts = sym (append-nil (tables_set h)) })
begins_step h t c command all = simp append-nil all

begins : (h : History) → AllByRecursion (Begins (tables_set h)) (listings h)
begins [] = tt
begins (e ∷ h) = begins_step h e.moment e.caller e.command (begins h)

pub table_is_of : (settings : Settings) (h : History) (l : Listing) → listing_at (listings h) l.item ≡ Some l → table_of settings.bands (tables_set h) (edition_by l) ≡ Some (bands_by settings l)
table_is_of settings h l listed =
    let is = found_has (Begins (tables_set h)) (λ (a : Listing). a.item == l.item) (listings h) l (begins h) listed in
    ap (λ (s : List (List (ℕ × ℕ))). table_of settings.bands s (edition_by l)) is.parts ∙ last_of 1 settings.bands l.set is.more

-- the editions, by the tables that were set and by the editions of the items: each begins after the items of those before it
abbrev first_of : ℕ → List ℕ → ℕ
first_of n numbers = counted (λ m. nat_lt m n) numbers + 1

abbrev rebuilt : ℕ → List (List (ℕ × ℕ)) → List ℕ → List Edition
rebuilt n [] numbers = []
rebuilt n (bands ∷ set) numbers = record { edition = n; first = first_of n numbers; bands = bands } ∷ rebuilt (n + 1) set numbers

rebuilt_more : (n : ℕ) (set : List (List (ℕ × ℕ))) (bands : List (ℕ × ℕ)) (numbers : List ℕ)
    → rebuilt n (set ++ bands ∷ []) numbers ≡ rebuilt n set numbers ++ record { edition = length set + n; first = first_of (length set + n) numbers; bands = bands } ∷ []
rebuilt_more n [] bands numbers = let e : 0 + n ≡ n = omega arith in rw e refl
rebuilt_more n (b ∷ set) bands numbers =
    let e : length (b ∷ set) + n ≡ length set + (n + 1) = omega arith in
    rw e (ap (λ (es : List Edition). record { edition = n; first = first_of n numbers; bands = b } ∷ es) (rebuilt_more (n + 1) set bands numbers))

counted_not : (p : ℕ → Bool) (xs : List ℕ) (x : ℕ) → p x ≡ false → counted p (xs ++ x ∷ []) ≡ counted p xs
counted_not p [] x not = rw not refl
counted_not p (y ∷ xs) x not = elim (by_test (p y)) [ inl is ↦ rw is (ap (λ (n : ℕ). suc n) (counted_not p xs x not)) | inr other ↦ rw other (counted_not p xs x not) ]

counted_all : (p : ℕ → Bool) (xs : List ℕ) → AllByRecursion (λ x. p x ≡ true) xs → counted p xs ≡ length xs
counted_all p [] all = refl
counted_all p (x ∷ xs) all = rw all.0 (ap (λ (n : ℕ). suc n) (counted_all p xs all.1))

rebuilt_listed : (n : ℕ) (set : List (List (ℕ × ℕ))) (numbers : List ℕ) (m : ℕ) → length set + n ≤ m + 1 → rebuilt n set (numbers ++ m ∷ []) ≡ rebuilt n set numbers
rebuilt_listed n [] numbers m le = refl
rebuilt_listed n (bands ∷ set) numbers m le =
    let least : n ≤ m = omega arith in
    let not_before : nat_lt m n ≡ false = grind (arith, nat_tests, least) in
    rw (counted_not (λ x. nat_lt x n) numbers m not_before, rebuilt_listed (n + 1) set numbers m (omega arith)) refl

-- the items' editions are before the next one
early : (set : List (List (ℕ × ℕ))) (ls : List Listing) → AllByRecursion (Begins set) ls → AllByRecursion (λ m. nat_lt m (length set + 2) ≡ true) (map edition_by ls)
early set [] all = tt
early set (l ∷ ls) all = (one all.0, early set ls all.1) where
  one : Begins set l → nat_lt (edition_by l) (length set + 2) ≡ true
  one is = let parts = ap (λ (s : List (List (ℕ × ℕ))). length s) is.parts in let more = length-append l.set is.more in
      let few : length l.set ≤ length set = omega arith in grind (arith, nat_tests, few)

rebuilt_step : (h : History) (t c : ℕ) (command : Command) → editions h ≡ rebuilt 2 (tables_set h) (map edition_by (listings h))
    → editions (entry t c command ∷ h) ≡ rebuilt 2 (tables_set (entry t c command ∷ h)) (map edition_by (listings (entry t c command ∷ h)))
rebuilt_step h t c (SetBands bands) same =
    let all : counted (λ m. nat_lt m (length (tables_set h) + 2)) (map edition_by (listings h)) ≡ length (listings h) =
    counted_all (λ m. nat_lt m (length (tables_set h) + 2)) (map edition_by (listings h)) (early (tables_set h) (listings h) (begins h)) ∙ length-map (listings h) edition_by in
    simp append-nil (rw (rebuilt_more 2 (tables_set h) bands (map edition_by (listings h)), all, ← same, set_count h) refl)
rebuilt_step h t c (Listed category lot title text start buy_now end reserve) same =
    same ∙ sym (ap (rebuilt 2 (tables_set h)) (map-append edition_by (listings h) _) ∙ rebuilt_listed 2 (tables_set h) (map edition_by (listings h)) (length (tables_set h) + 1) (omega arith))
rebuilt_step h t c command same = simp append-nil same

rebuilt_is : (h : History) → editions h ≡ rebuilt 2 (tables_set h) (map edition_by (listings h))
rebuilt_is [] = refl
rebuilt_is (e ∷ h) = rebuilt_step h e.moment e.caller e.command (rebuilt_is h)

numbers_are : (settings : Settings) (h : History) → map (λ (it : ItemShown). it.edition) (items_shown settings h) ≡ map edition_by (listings h)
unfolding items_shown
numbers_are settings h = map_twice (shown_now settings h) (λ (it : ItemShown). it.edition) (listings h)

-- where the same is public, the editions are the same, with the items that they begin with
pub editions_same : (settings : Settings) (h k : History) → public_view settings h ≡ public_view settings k → editions h ≡ editions k
editions_same settings h k same =
    let numbers : map edition_by (listings h) ≡ map edition_by (listings k) =
    sym (numbers_are settings h) ∙ ap (map (λ (it : ItemShown). it.edition)) (ap (λ (p : Public). p.items) same) ∙ numbers_are settings k in
    rebuilt_is h ∙ rw (ap (λ (p : Public). p.tables) same, numbers) (sym (rebuilt_is k))
