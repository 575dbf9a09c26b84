-- How often members were rated, with one rating more.
use Rattle.std.proofs.Common.{◌≡◌, ◌+◌, ℕ, List, [], ◌∷◌, length, Bool, true, false, refl, ap, sym, ◌∙◌, arith, inl, inr, set, Result, Ok, Err}
use Rattle.std.specs.Prelude.{◌==◌, ◌&&◌, ◌<◌, find, is_some, IfErr, OnErr, OnOk}
use Rattle.std.specs.List.{list_any}
use Rattle.std.proofs.lemmas.Bool.Decides.{nat_tests}
use Rattle.std.proofs.lemmas.List.{get_or-set_same, get_or-set_other}
use Rattle.house_rows.specs.declared.fault.KeepFault.{KeepFault}
use Rattle.house_rows.specs.declared.fault.KeepFault.TheVariants.{Memory}
use Rattle.house_rows.specs.declared.people.Ratings.{Ratings}
use Rattle.house_rows.specs.declared.rating.Rating.{Rating}
use Rattle.house_rows.specs.declared.rating.Rating.TheVariants.{Minus, Zero, Plus}
use Rattle.house_rows.specs.declared.talk.Feedback.{Feedback}
use Rattle.house_rows.specs.History.{Key, counted, is_less, put_by}
use Rattle.house_rows.specs.Pages.{ratings_of}
use Rattle.house_rows.specs.Ratings.{feedback_key, is_minus, is_plus, is_zero}
use Rattle.house_rows.proofs.Put.{by_test}
use Rattle.list_rows.specs.Blocks.{same_key}
use Rattle.list_rows.specs.Makes.{Makes}
use Rattle.list_rows.proofs.Making.{makes_memory, makes_ok}
use Rattle.list_talk.specs.Rated.{AreCounted, unrated, with_rating}

abbrev key_of : ℕ → ℕ → Key
key_of item giver = record { first = item; second = giver; third = 0 }

-- feedback is named by its key
named : (item giver : ℕ) (f : Feedback) → same_key (feedback_key f) (key_of item giver) ≡ ((f.item == item) && (f.from == giver))
named item giver f = grind (arith, nat_tests)

-- what is found is there
pub given_any : (item giver : ℕ) (rows : List Feedback) → is_some (find (λ f. same_key (feedback_key f) (key_of item giver)) rows) ≡ list_any (λ f. (f.item == item) && (f.from == giver)) rows
given_any item giver [] = refl
given_any item giver (f ∷ rows) =
    elim (by_test ((f.item == item) && (f.from == giver))) [
      | inl is ↦ rw (named item giver f, is) refl
      | inr other ↦ rw (named item giver f, other) (given_any item giver rows)
    ]

-- a key is free where there is none
pub given_free : (item giver : ℕ) (rows : List Feedback) → list_any (λ f. same_key (feedback_key f) (key_of item giver)) rows ≡ list_any (λ f. (f.item == item) && (f.from == giver)) rows
given_free item giver [] = refl
given_free item giver (f ∷ rows) = rw (named item giver f, given_free item giver rows) refl

-- a row that passes counts
put_passing : {A : Type 0} (key : A → Key) (p : A → Bool) (x : A) (ys : List A) → p x ≡ true → counted p (put_by key x ys) ≡ counted p ys + 1
put_passing key p x [] is = rw is refl
put_passing key p x (y ∷ ys) is =
    elim (by_test (is_less (key x) (key y))) [
      | inl less ↦ rw (less, is) (omega arith)
      | inr later ↦ rw later (let rest = put_passing key p x ys is in elim (by_test (p y)) [ inl also ↦ rw also (omega arith) | inr not ↦ rw not rest ])
    ]

-- one that does not makes no difference
put_other : {A : Type 0} (key : A → Key) (p : A → Bool) (x : A) (ys : List A) → p x ≡ false → counted p (put_by key x ys) ≡ counted p ys
put_other key p x [] not = rw not refl
put_other key p x (y ∷ ys) not =
    elim (by_test (is_less (key x) (key y))) [
      | inl less ↦ rw (less, not) refl
      | inr later ↦ rw later (let rest = put_other key p x ys not in elim (by_test (p y)) [ inl also ↦ rw also (omega arith) | inr other ↦ rw other rest ])
    ]

abbrev counts : ℕ → ℕ → ℕ → Ratings
counts good fair bad = record { plus = good; zero = fair; minus = bad }

-- three counts alike
three : (a b c d e f : ℕ) → a ≡ d → b ≡ e → c ≡ f → counts a b c ≡ counts d e f
three a b c d e f p q r = ap (λ n. counts n b c) p ∙ ap (λ n. counts d n c) q ∙ ap (λ n. counts d e n) r

abbrev row_of : ℕ → ℕ → ℕ → Rating → List ℕ → Feedback
row_of item giver to rating text = record { item = item; from = giver; to = to; rating = rating; text = text }

abbrev of_plus : ℕ → Feedback → Bool
of_plus member f = (f.to == member) && is_plus f.rating

abbrev of_zero : ℕ → Feedback → Bool
of_zero member f = (f.to == member) && is_zero f.rating

abbrev of_minus : ℕ → Feedback → Bool
of_minus member f = (f.to == member) && is_minus f.rating

-- who is rated has one rating more
one_more : (item giver to : ℕ) (rating : Rating) (text : List ℕ) (rows : List Feedback) → ratings_of (put_by feedback_key (row_of item giver to rating text) rows) to ≡ with_rating rating (ratings_of rows to)
one_more item giver to Plus text rows =
    let x : Feedback = row_of item giver to Plus text in
    three _ _ _ _ _ _ (put_passing feedback_key (of_plus to) x rows (grind (arith, nat_tests))) (put_other feedback_key (of_zero to) x rows (grind (arith, nat_tests))) (put_other feedback_key (of_minus to) x rows (grind (arith, nat_tests)))
one_more item giver to Zero text rows =
    let x : Feedback = row_of item giver to Zero text in
    three _ _ _ _ _ _ (put_other feedback_key (of_plus to) x rows (grind (arith, nat_tests))) (put_passing feedback_key (of_zero to) x rows (grind (arith, nat_tests))) (put_other feedback_key (of_minus to) x rows (grind (arith, nat_tests)))
one_more item giver to Minus text rows =
    let x : Feedback = row_of item giver to Minus text in
    three _ _ _ _ _ _ (put_other feedback_key (of_plus to) x rows (grind (arith, nat_tests))) (put_other feedback_key (of_zero to) x rows (grind (arith, nat_tests))) (put_passing feedback_key (of_minus to) x rows (grind (arith, nat_tests)))

-- and nobody else has
none_more : (item giver to : ℕ) (rating : Rating) (text : List ℕ) (rows : List Feedback) (member : ℕ) → (to == member) ≡ false
    → ratings_of (put_by feedback_key (row_of item giver to rating text) rows) member ≡ ratings_of rows member
none_more item giver to rating text rows member other =
    let x : Feedback = row_of item giver to rating text in
    three _ _ _ _ _ _ (put_other feedback_key (of_plus member) x rows (rw other refl)) (put_other feedback_key (of_zero member) x rows (rw other refl)) (put_other feedback_key (of_minus member) x rows (rw other refl))

-- the count of the member that is rated goes up with its rows, and no other does
pub counted_more : (item giver to : ℕ) (rating : Rating) (text : List ℕ) (rows : List Feedback) (old new : List Ratings) (count : Ratings) → AreCounted old rows → to < length old
    → count ≡ with_rating rating (ratings_of rows to) → new ≡ set old to count → AreCounted new (put_by feedback_key (row_of item giver to rating text) rows)
counted_more item giver to rating text rows old new count are lt is made = λ member.
    elim (by_test (to == member)) [
      | inl same ↦ (let e : to ≡ member = grind (arith, nat_tests, same) in
          rw (made, ← e) (get_or-set_same old to count unrated lt ∙ is ∙ sym (one_more item giver to rating text rows)))
      | inr other ↦ (let apart : member ≡ to → ⊥ = λ e. grind (arith, nat_tests, other, e) in
          rw made (get_or-set_other old to member count unrated apart ∙ are member ∙ sym (none_more item giver to rating text rows member other)))
    ]

-- what is made, or wants memory, where the key is free
pub makes_free : {X : Type 0} (r : Result (Unit {0}) KeepFault) (old new wanted : X) (is_free : Type 0) → is_free → OnOk r (new ≡ wanted) → OnErr r (new ≡ old) → IfErr r (λ e. e ≡ Memory) → Makes r old new wanted is_free
makes_free (Ok done) old new wanted is_free free ok err memory = makes_ok old new wanted is_free free ok
makes_free (Err e) old new wanted is_free free ok err memory = rw memory (makes_memory old new wanted is_free free err)
