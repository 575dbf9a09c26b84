-- For a keep: no row of the house has a number from 2^32 on, so what is looked for by one is not there.
use Rattle.std.proofs.Common.{◌≡◌, ◌==◌, ◌≤◌, ◌<◌, ◌^◌, ℕ, pos, negsuc, Bool, true, false, cond, nat_lt, List, [], ◌∷◌, map, filter, find, length, None, refl, ap, arith}
use Rattle.std.specs.List.{AllByRecursion, list_any}
use Rattle.sqlite_value.specs.declared.value.Value.{Value}
use Rattle.sqlite_value.specs.declared.value.Value.TheVariants.{Null, Int, Real, Text, Blob}
use Rattle.sqlite_value.specs.Order.{column}
use Rattle.sqlite_trees.specs.Tree.{Trees}
use Rattle.house_rows.specs.Bids.{BidRow}
use Rattle.house_rows.specs.Watches.{WatchRow}
use Rattle.house_rows.specs.declared.people.Category.{Category}
use Rattle.house_rows.specs.declared.people.Member.{Member}
use Rattle.house_rows.specs.declared.talk.Feedback.{Feedback}
use Rattle.house_rows.specs.declared.talk.Question.{Question}
use Rattle.store_rows.specs.Rows.{bid_in, bids_in, categories_in, category_in, feedback_in, is_rating, member_in, members_in, number_in, one_feedback_in, question_in, questions_in, watch_in, watches_in}

other_none : (n : ℕ) → n < 2 ^ 64 → (2 ^ 64 == n) ≡ false
other_none n low = grind arith

-- no value gives such a number
pub not_reported : (v : Value) (n : ℕ) → 2 ^ 32 ≤ n → n < 2 ^ 64 → (number_in v == n) ≡ false
not_reported (Int (pos m)) n high low = go (nat_lt m (2 ^ 32)) refl
  where
    go : (b : Bool) → nat_lt m (2 ^ 32) ≡ b → (cond b m (2 ^ 64) == n) ≡ false
    go true e = grind arith
    go false e = other_none n low
not_reported (Int (negsuc m)) n high low = other_none n low
not_reported Null n high low = other_none n low
not_reported (Real x) n high low = other_none n low
not_reported (Text x) n high low = other_none n low
not_reported (Blob x) n high low = other_none n low

-- ---- lists of which no row passes a test

pub none_found : {X T : Type 0} (inside : X → T) (p : T → Bool) → ((x : X) → p (inside x) ≡ false) → (xs : List X) → find p (map inside xs) ≡ None
none_found inside p none [] = refl
none_found inside p none (x ∷ xs) = rw (none x) (none_found inside p none xs)

pub none_kept : {X T : Type 0} (inside : X → T) (p : T → Bool) → ((x : X) → p (inside x) ≡ false) → (xs : List X) → filter p (map inside xs) ≡ []
none_kept inside p none [] = refl
none_kept inside p none (x ∷ xs) = rw (none x) (none_kept inside p none xs)

-- what passes a narrower test is not there either
module _ {T : Type 0} (p q : T → Bool) (narrower : (x : T) → p x ≡ false → q x ≡ false) where
  fails : (xs : List T) → filter p xs ≡ [] → AllByRecursion (λ x. q x ≡ false) xs
  fails [] e = tt
  fails (x ∷ xs) e = go (p x) refl e (fails xs)
    where
      go : (b : Bool) → p x ≡ b → cond b (x ∷ filter p xs) (filter p xs) ≡ [] → (filter p xs ≡ [] → AllByRecursion (λ y. q y ≡ false) xs) → (q x ≡ false) × AllByRecursion (λ y. q y ≡ false) xs
      go true is h more = absurd (omega (arith, ap length h))
      go false is h more = (narrower x is, more h)

  none_of : (xs : List T) → AllByRecursion (λ x. q x ≡ false) xs → (find q xs ≡ None) × (filter q xs ≡ []) × (list_any q xs ≡ false)
  none_of [] none = (refl, refl, refl)
  none_of (x ∷ xs) none = rw none.0 (none_of xs none.1)

  pub none_narrower : (xs : List T) → filter p xs ≡ [] → (find q xs ≡ None) × (filter q xs ≡ []) × (list_any q xs ≡ false)
  none_narrower xs e = none_of xs (fails xs e)

-- ---- the tables

module _ (db : Trees) (n : ℕ) (high : 2 ^ 32 ≤ n) (low : n < 2 ^ 64) where
  pub no_member : find (λ m. m.member == n) (members_in db) ≡ None
  no_member = none_found member_in (λ (m : Member). m.member == n) (λ r. not_reported (column r 0) n high low) (db 2)

  pub no_category : find (λ k. k.category == n) (categories_in db) ≡ None
  no_category = none_found category_in (λ (k : Category). k.category == n) (λ r. not_reported (column r 0) n high low) (db 4)

  pub no_bids_by : filter (λ b. b.bid.member == n) (bids_in db) ≡ []
  no_bids_by = none_kept bid_in (λ (b : BidRow). b.bid.member == n) (λ r. not_reported (column r 3) n high low) (db 8)

  pub no_bids_on : filter (λ b. b.item == n) (bids_in db) ≡ []
  no_bids_on = none_kept bid_in (λ (b : BidRow). b.item == n) (λ r. not_reported (column r 1) n high low) (db 8)

  pub no_watches_by : filter (λ w. w.member == n) (watches_in db) ≡ []
  no_watches_by = none_kept watch_in (λ (w : WatchRow). w.member == n) (λ r. not_reported (column r 1) n high low) (db 10)

  pub no_watches_of : filter (λ w. w.item == n) (watches_in db) ≡ []
  no_watches_of = none_kept watch_in (λ (w : WatchRow). w.item == n) (λ r. not_reported (column r 2) n high low) (db 10)

  pub no_questions_on : filter (λ q. q.item == n) (questions_in db) ≡ []
  no_questions_on = none_kept question_in (λ (q : Question). q.item == n) (λ r. not_reported (column r 1) n high low) (db 12)

  pub no_questions_by : filter (λ q. q.asker == n) (questions_in db) ≡ []
  no_questions_by = none_kept question_in (λ (q : Question). q.asker == n) (λ r. not_reported (column r 2) n high low) (db 12)

  pub no_questions_numbered : filter (λ q. q.number == n) (questions_in db) ≡ []
  no_questions_numbered = none_kept question_in (λ (q : Question). q.number == n) (λ r. not_reported (column r 3) n high low) (db 12)

  pub no_feedback_to : filter (λ f. f.to == n) (feedback_in db) ≡ []
  no_feedback_to = none_kept one_feedback_in (λ (f : Feedback). f.to == n) (λ r. not_reported (column r 3) n high low) (db 14)

  pub no_feedback_from : filter (λ f. f.from == n) (feedback_in db) ≡ []
  no_feedback_from = none_kept one_feedback_in (λ (f : Feedback). f.from == n) (λ r. not_reported (column r 2) n high low) (db 14)

  -- nor where the rating is none
  rated : (v : Value) (is : Bool) → (cond is (number_in v) (2 ^ 64) == n) ≡ false
  rated v true = not_reported v n high low
  rated v false = other_none n low

  pub no_feedback_on : filter (λ f. f.item == n) (feedback_in db) ≡ []
  no_feedback_on = none_kept one_feedback_in (λ (f : Feedback). f.item == n) (λ r. rated (column r 1) (is_rating (column r 4))) (db 14)
