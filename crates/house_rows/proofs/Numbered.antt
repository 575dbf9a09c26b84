-- Items are numbered apart: each listing is the one of its number.
use Rattle.std.proofs.Common.{◌≡◌, ℕ, ◌+◌, ◌≤◌, ◌<◌, List, [], ◌∷◌, ◌++◌, length, true, refl, arith, inl, inr, Some}
use Rattle.std.specs.Prelude.{◌==◌}
use Rattle.std.specs.List.{AllByRecursion}
use Rattle.std.proofs.lemmas.Bool.Decides.{nat_tests}
use Rattle.std.proofs.lemmas.List.{append-nil, length-append}
use Rattle.house_rows.specs.declared.command.Command.{Command}
use Rattle.house_rows.specs.declared.command.Command.TheVariants.{Register, AddCategory, List as Listed, Bid, Buy, Close, Settle, Watch, Unwatch, Ask, Answer, Feedback, SetBands}
use Rattle.house_rows.specs.History.{History}
use Rattle.house_rows.specs.Listings.{Listing, listing_at, listing_in, listings, tables_set}
use Rattle.house_rows.proofs.Every.{every_as, every_more, found_more}
use Rattle.house_rows.proofs.Put.{by_test}

pub record AreNumbered (ls : List Listing) : Type 0 where
  pub small : AllByRecursion (λ l. l.item ≤ length ls) ls
  pub own : AllByRecursion (λ l. listing_at ls l.item ≡ Some l) ls

none_above : (n i : ℕ) (ls : List Listing) (l : Listing) → AllByRecursion (λ l. l.item ≤ n) ls → n < i → (l.item == i) ≡ true → listing_at (ls ++ l ∷ []) i ≡ Some l
none_above n i [] l all lt is = rw is refl
none_above n i (a ∷ ls) l all lt is =
    elim (by_test (a.item == i)) [ inl here ↦ absurd (let le = all.0 in let e : a.item ≡ i = grind (arith, nat_tests, here) in omega arith) | inr not ↦ rw not (none_above n i ls l all.1 lt is) ]

one_more : (ls : List Listing) (l : Listing) → l.item ≡ length ls + 1 → AreNumbered ls → AreNumbered (ls ++ l ∷ [])
one_more ls l at are = record {
  small = every_more (λ a. a.item ≤ length (ls ++ l ∷ [])) ls l
      (every_as (λ a. a.item ≤ length ls) (λ a. a.item ≤ length (ls ++ l ∷ [])) ls (λ a le. simp length-append (omega arith)) are.small) (simp length-append (omega arith));
  own = every_more (λ a. listing_at (ls ++ l ∷ []) a.item ≡ Some a) ls l
      (every_as (λ a. listing_at ls a.item ≡ Some a) (λ a. listing_at (ls ++ l ∷ []) a.item ≡ Some a) ls (λ a found. found_more (λ b. b.item == a.item) ls (l ∷ []) a found) are.own)
      (none_above (length ls) l.item ls l are.small (omega arith) (grind (arith, nat_tests)));
}

step : (ls : List Listing) (set : List (List (ℕ × ℕ))) (caller : ℕ) (command : Command) → AreNumbered ls → AreNumbered (ls ++ listing_in (length ls + 1) set caller command)
step ls set caller (Listed category lot title text start buy_now end reserve) are = one_more ls _ refl are
step ls set caller (Register name) are = simp append-nil are
step ls set caller (AddCategory name) are = simp append-nil are
step ls set caller (Bid i m) are = simp append-nil are
step ls set caller (Buy i) are = simp append-nil are
step ls set caller Close are = simp append-nil are
step ls set caller (Settle i) are = simp append-nil are
step ls set caller (Watch i) are = simp append-nil are
step ls set caller (Unwatch i) are = simp append-nil are
step ls set caller (Ask i text) are = simp append-nil are
step ls set caller (Answer i asker number text) are = simp append-nil are
step ls set caller (Feedback i rating text) are = simp append-nil are
step ls set caller (SetBands bands) are = simp append-nil are

pub numbered : (h : History) → AreNumbered (listings h)
numbered [] = record { small = tt; own = tt }
numbered (e ∷ h) = step (listings h) (tables_set h) e.caller e.command (numbered h)
