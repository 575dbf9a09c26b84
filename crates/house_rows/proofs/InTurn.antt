-- Members, categories, items and editions have the numbers from 1 on, in turn.
use Rattle.std.proofs.Common.{◌≡◌, ℕ, ◌+◌, List, [], ◌∷◌, ◌++◌, map, length, refl, ◌∙◌, arith}
use Rattle.std.proofs.lemmas.List.{append-nil}
use Rattle.house_rows.specs.declared.command.Command.{Command}
use Rattle.house_rows.specs.declared.command.Command.TheVariants.{Register, AddCategory, List as Listed, SetBands}
use Rattle.house_rows.specs.declared.edition.Edition.{Edition}
use Rattle.house_rows.specs.declared.people.Category.{Category}
use Rattle.house_rows.specs.declared.people.Member.{Member}
use Rattle.house_rows.specs.Editions.{editions, with_edition}
use Rattle.house_rows.specs.History.{History}
use Rattle.house_rows.specs.Keeping.{AreInTurn}
use Rattle.house_rows.specs.Listings.{Listing, listing_in, listings, tables_set}
use Rattle.house_rows.specs.People.{categories, category_in, member_in, members}

-- one more, with the next number
pub turn_more : {A : Type 0} (number : A → ℕ) (next : ℕ) (xs : List A) (x : A) → AreInTurn number next xs → number x ≡ length xs + next → AreInTurn number next (xs ++ x ∷ [])
turn_more number next [] x are here = (let e : 0 + next ≡ next = omega arith in here ∙ e, tt)
turn_more number next (y ∷ xs) x are here =
    (are.0, turn_more number (next + 1) xs x are.1 (let e : length (y ∷ xs) + next ≡ length xs + (next + 1) = omega arith in here ∙ e))

-- rows made of others that keep their numbers
pub turn_map : {A B : Type 0} (number : A → ℕ) (of_row : B → ℕ) (f : A → B) (next : ℕ) (xs : List A) → ((x : A) → of_row (f x) ≡ number x) → AreInTurn number next xs → AreInTurn of_row next (map f xs)
turn_map number of_row f next [] same are = tt
turn_map number of_row f next (x ∷ xs) same are = (same x ∙ are.0, turn_map number of_row f (next + 1) xs same are.1)

members_step : (ms : List Member) (command : Command) → AreInTurn (λ m. m.member) 1 ms → AreInTurn (λ m. m.member) 1 (ms ++ member_in (length ms + 1) command)
members_step ms (Register name) are = turn_more (λ (m : Member). m.member) 1 ms _ are refl
members_step ms command are = simp append-nil are

pub members_in_turn : (h : History) → AreInTurn (λ m. m.member) 1 (members h)
members_in_turn [] = tt
members_in_turn (e ∷ h) = members_step (members h) e.command (members_in_turn h)

categories_step : (ks : List Category) (command : Command) → AreInTurn (λ k. k.category) 1 ks → AreInTurn (λ k. k.category) 1 (ks ++ category_in (length ks + 1) command)
categories_step ks (AddCategory name) are = turn_more (λ (k : Category). k.category) 1 ks _ are refl
categories_step ks command are = simp append-nil are

pub categories_in_turn : (h : History) → AreInTurn (λ k. k.category) 1 (categories h)
categories_in_turn [] = tt
categories_in_turn (e ∷ h) = categories_step (categories h) e.command (categories_in_turn h)

listings_step : (ls : List Listing) (set : List (List (ℕ × ℕ))) (caller : ℕ) (command : Command) → AreInTurn (λ l. l.item) 1 ls → AreInTurn (λ l. l.item) 1 (ls ++ listing_in (length ls + 1) set caller command)
listings_step ls set caller (Listed category lot title text start buy_now end reserve) are = turn_more (λ (l : Listing). l.item) 1 ls _ are refl
listings_step ls set caller command are = simp append-nil are

pub listings_in_turn : (h : History) → AreInTurn (λ l. l.item) 1 (listings h)
listings_in_turn [] = tt
listings_in_turn (e ∷ h) = listings_step (listings h) (tables_set h) e.caller e.command (listings_in_turn h)

editions_step : (es : List Edition) (next : ℕ) (command : Command) → AreInTurn (λ e. e.edition) 2 es → AreInTurn (λ e. e.edition) 2 (with_edition es next command)
editions_step es next (SetBands bands) are = turn_more (λ (e : Edition). e.edition) 2 es _ are refl
editions_step es next command are = are

pub editions_in_turn : (h : History) → AreInTurn (λ e. e.edition) 2 (editions h)
editions_in_turn [] = tt
editions_in_turn (e ∷ h) = editions_step (editions h) (length (listings h) + 1) e.command (editions_in_turn h)
