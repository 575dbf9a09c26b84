-- A question is among its asker's own, and among those that wait for the seller as long as it has no answer.
use Rattle.std.proofs.Common.{◌≡◌, ℕ, ◌+◌, List, [], ◌∷◌, ◌++◌, map, filter, subst, Bool, true, false, not, refl, ◌∙◌, ap, arith, inl, inr, ◌⊎◌, None}
use Rattle.std.specs.Prelude.{◌==◌, ◌&&◌, is_some}
use Rattle.std.specs.List.{Contains}
use Rattle.std.proofs.lemmas.Bool.Decides.{nat_tests}
use Rattle.std.proofs.lemmas.List.Elements.{Contains-append_left, Contains-append_right, Contains-push}
use Rattle.house_rows.specs.declared.command.Command.{Command}
use Rattle.house_rows.specs.declared.command.Command.TheVariants.{Ask}
use Rattle.house_rows.specs.declared.talk.Question.{Question}
use Rattle.house_rows.specs.History.{Entry, History, Key, is_less, put_by}
use Rattle.house_rows.specs.Listings.{is_seller, listing_at, listings}
use Rattle.house_rows.specs.Questions.{Asked, answer_to, answered, answers, ask_count, asked, asked_key, questions, waiting, with_question}
use Rattle.house_rows.specs.Runs.{entry}
use Rattle.house_rows.specs.Views.{own_questions}
use Rattle.house_rows.proofs.Put.{by_test}
use Rattle.house_laws.specs.Asking.{is_answered, new_question}
use Rattle.house_laws.proofs.Asking.{none_there}

-- an element, by cases on the list
abbrev IsIn : {A : Type 0} → A → List A → Type 0
IsIn x [] = ⊥
IsIn x (y ∷ ys) = (y ≡ x) ⊎ IsIn x ys

contains : {A : Type 0} (x : A) (xs : List A) → IsIn x xs → Contains xs x
contains x [] is = absurd is
contains x (y ∷ xs) (inl e) = subst (λ z. Contains (y ∷ xs) z) e (Contains-append_left (y ∷ []) xs y (Contains-push [] y))
contains x (y ∷ xs) (inr more) = Contains-append_right (y ∷ []) xs x (contains x xs more)

in_put : {A : Type 0} (key : A → Key) (x : A) (xs : List A) → IsIn x (put_by key x xs)
in_put key x [] = inl refl
in_put key x (y ∷ xs) =
    elim (by_test (is_less (key x) (key y))) [ inl less ↦ rw less (inl refl) | inr not ↦ rw not (inr (in_put key x xs)) ]

still_in : {A : Type 0} (key : A → Key) (x y : A) (xs : List A) → IsIn x xs → IsIn x (put_by key y xs)
still_in key x y [] is = absurd is
still_in key x y (z ∷ xs) (inl e) =
    elim (by_test (is_less (key y) (key z))) [ inl less ↦ rw less (inr (inl e)) | inr not ↦ rw not (inl e) ]
still_in key x y (z ∷ xs) (inr more) =
    elim (by_test (is_less (key y) (key z))) [ inl less ↦ rw less (inr (inr more)) | inr not ↦ rw not (inr (still_in key x y xs more)) ]

in_filter : {A : Type 0} (p : A → Bool) (x : A) (xs : List A) → p x ≡ true → IsIn x xs → IsIn x (filter p xs)
in_filter p x [] passes is = absurd is
in_filter p x (y ∷ xs) passes (inl e) =
    let here : p y ≡ true = ap p e ∙ passes in rw here (inl e)
in_filter p x (y ∷ xs) passes (inr more) =
    elim (by_test (p y)) [ inl is ↦ rw is (inr (in_filter p x xs passes more)) | inr not ↦ rw not (in_filter p x xs passes more) ]

in_map : {A B : Type 0} (f : A → B) (x : A) (xs : List A) → IsIn x xs → IsIn (f x) (map f xs)
in_map f x [] is = absurd is
in_map f x (y ∷ xs) (inl e) = inl (ap f e)
in_map f x (y ∷ xs) (inr more) = inr (in_map f x xs more)

-- a question stays
stays_asked : (q : Asked) (qs : List Asked) (c : ℕ) (command : Command) → IsIn q qs → IsIn q (with_question qs c command)
stays_asked q qs c (Ask i text) is = still_in asked_key q (record { item = i; asker = c; number = ask_count qs c i + 1; text = text }) qs is
stays_asked q qs c command is = is

asked_later : (q : Asked) (h : History) (later : List Entry) → IsIn q (asked h) → IsIn q (asked (later ++ h))
asked_later q h [] is = is
asked_later q h (e ∷ later) is = stays_asked q (asked (later ++ h)) e.caller e.command (asked_later q h later is)

is_asked : (t d i : ℕ) (text : List ℕ) (h : History) (later : List Entry) → IsIn (new_question h d i text) (asked (later ++ entry t d (Ask i text) ∷ h))
is_asked t d i text h later =
    asked_later (new_question h d i text) (entry t d (Ask i text) ∷ h) later (in_put asked_key (new_question h d i text) (asked h))

-- its asker has it
pub asker_has : (t d i : ℕ) (text : List ℕ) (h : History) (later : List Entry)
    → Contains (own_questions (later ++ entry t d (Ask i text) ∷ h) d) (new_question h d i text)
unfolding own_questions
asker_has t d i text h later =
    let q : Asked = new_question h d i text in
    let k : History = later ++ entry t d (Ask i text) ∷ h in
    let mine : (d == d) ≡ true = grind (arith, nat_tests) in
    contains q (filter (λ (q : Asked). q.asker == d) (asked k)) (in_filter (λ (q : Asked). q.asker == d) q (asked k) mine (is_asked t d i text h later))

-- and it waits for the seller
pub seller_has : (c t d i : ℕ) (text : List ℕ) (h : History) (later : List Entry) → is_seller (listing_at (listings (later ++ entry t d (Ask i text) ∷ h)) i) c ≡ true
    → is_answered (later ++ entry t d (Ask i text) ∷ h) (new_question h d i text) ≡ false
    → Contains (waiting (later ++ entry t d (Ask i text) ∷ h) c) (answered [] (new_question h d i text))
unfolding waiting questions
seller_has c t d i text h later sells unanswered =
    let q : Asked = new_question h d i text in
    let k : History = later ++ entry t d (Ask i text) ∷ h in
    let waits : Question → Bool = λ p. not (is_some p.answer) && is_seller (listing_at (listings k) p.item) c in
    let none : answer_to (answers k) q ≡ None = none_there (answer_to (answers k) q) unanswered in
    let same : answered (answers k) q ≡ answered [] q = rw none refl in
    let there : IsIn (answered (answers k) q) (map (answered (answers k)) (asked k)) = in_map (answered (answers k)) q (asked k) (is_asked t d i text h later) in
    let it : IsIn (answered [] q) (map (answered (answers k)) (asked k)) = subst (λ (p : Question). IsIn p (map (answered (answers k)) (asked k))) same there in
    contains (answered [] q) (filter waits (map (answered (answers k)) (asked k)))
    (in_filter waits (answered [] q) (map (answered (answers k)) (asked k)) (rw sells refl) it)
