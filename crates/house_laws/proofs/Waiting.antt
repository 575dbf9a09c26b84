-- Of others' commands only a question on a member's item changes what waits for the member.
use Rattle.std.proofs.Common.{◌≡◌, ℕ, List, [], ◌∷◌, ◌++◌, map, filter, length, Bool, true, false, not, refl, ap, arith, inl, inr, Option, Some, None}
use Rattle.std.specs.Prelude.{◌==◌, ◌&&◌, is_some}
use Rattle.std.proofs.lemmas.Bool.Decides.{nat_tests}
use Rattle.std.proofs.lemmas.List.{append-nil}
use Rattle.proxy.specs.Rules.{first_failing}
use Rattle.house_rows.specs.declared.command.Command.{Command}
use Rattle.house_rows.specs.declared.command.Command.TheVariants.{Register, AddCategory, List as Listed, Bid, Buy, Close, Settle, Watch, Unwatch, Ask, Answer, Feedback, SetBands}
use Rattle.house_rows.specs.declared.item.Terms.{Terms}
use Rattle.house_rows.specs.declared.refusal.Refusal.TheVariants.{SellerOnly}
use Rattle.house_rows.specs.declared.settings.Settings.{Settings}
use Rattle.house_rows.specs.History.{History, clock, put_by}
use Rattle.house_rows.specs.People.{members}
use Rattle.house_rows.specs.Items.{items_shown}
use Rattle.house_rows.specs.Listings.{Listing, is_seller, listing_at, listings}
use Rattle.house_rows.specs.Questions.{Asked, answer_to, answered, answers, asked, asked_key, names, questions, waiting}
use Rattle.house_rows.specs.Runs.{entry}
use Rattle.house_rows.specs.Verdict.{Rule, by_terms, common_rules, of_item, rules, verdict}
use Rattle.house_rows.proofs.Passed.{find_item, item_from, later_pass}
use Rattle.house_rows.proofs.Put.{by_test, filter_alike, filter_put_other}

-- whether a question waits for a member, by the listings and the answers
abbrev waits : List Listing → List Asked → ℕ → Asked → Bool
waits ls given c q = not (is_some (answer_to given q)) && is_seller (listing_at ls q.item) c

-- the waiting questions, as answered those that wait
waiting_of : (ls : List Listing) (given : List Asked) (c : ℕ) (qs : List Asked) →
    filter (λ q. not (is_some q.answer) && is_seller (listing_at ls q.item) c) (map (answered given) qs) ≡ map (answered given) (filter (waits ls given c) qs)
waiting_of ls given c [] = refl
waiting_of ls given c (q ∷ qs) =
    elim (by_test (waits ls given c q)) [
      | inl is ↦ rw is (ap (λ rest. answered given q ∷ rest) (waiting_of ls given c qs))
      | inr not ↦ rw not (waiting_of ls given c qs)
    ]

-- another lists an item
seller_more : (ls : List Listing) (l : Listing) (i c : ℕ) → (l.seller == c) ≡ false → is_seller (listing_at (ls ++ l ∷ []) i) c ≡ is_seller (listing_at ls i) c
seller_more [] l i c other = grind (arith, nat_tests)
seller_more (a ∷ ls) l i c other = grind (arith, nat_tests, seller_more ls l i c other)

-- another answers a question on an item that isn't the member's
answer_more : (given : List Asked) (a q : Asked) → names a q ≡ false → answer_to (given ++ a ∷ []) q ≡ answer_to given q
answer_more [] a q other = rw other refl
answer_more (b ∷ given) a q other =
    elim (by_test (names b q)) [ inl is ↦ rw is refl | inr not ↦ rw not (answer_more given a q other) ]

names_item : (a q : Asked) → names a q ≡ true → a.item ≡ q.item
names_item a q is = grind (arith, nat_tests)

never : (b : Bool) → (not b && false) ≡ false
never true = refl
never false = refl

-- what waits, after another's answer on another's item
filter_answered : (ls : List Listing) (given : List Asked) (a : Asked) (c : ℕ) (qs : List Asked) → is_seller (listing_at ls a.item) c ≡ false →
    map (answered (given ++ a ∷ [])) (filter (waits ls (given ++ a ∷ []) c) qs) ≡ map (answered given) (filter (waits ls given c) qs)
filter_answered ls given a c [] other = refl
filter_answered ls given a c (q ∷ qs) other =
    elim (by_test (names a q)) [
      | inl is ↦ (let at : a.item ≡ q.item = names_item a q is in let none : is_seller (listing_at ls q.item) c ≡ false = rw (← at) other in
          rw (none, never (is_some (answer_to (given ++ a ∷ []) q)), never (is_some (answer_to given q))) (filter_answered ls given a c qs other))
      | inr not ↦ rw (answer_more given a q not)
          (elim (by_test (waits ls given c q)) [
            | inl here ↦ rw here (rw (answer_more given a q not) (ap (λ rest. answered given q ∷ rest) (filter_answered ls given a c qs other)))
            | inr gone ↦ rw gone (filter_answered ls given a c qs other)
          ])
    ]

answerer_sells : (o : Option Listing) (settings : Settings) (h : History) (d c : ℕ) (more : Terms → List Rule)
    → first_failing (of_item (item_from settings h o) (by_terms (λ terms. (not (terms.seller == d), SellerOnly) ∷ more terms))) ≡ None → (d == c) ≡ false → is_seller o c ≡ false
answerer_sells None settings h d c more none other = cc
answerer_sells (Some l) settings h d c more none other = grind (arith, nat_tests)

answerer_is_seller : (settings : Settings) (h : History) (t d i asker number : ℕ) (text : List ℕ) (c : ℕ) → verdict settings h t d (Answer i asker number text) ≡ None → (d == c) ≡ false
    → is_seller (listing_at (listings h) i) c ≡ false
unfolding verdict items_shown
answerer_is_seller settings h t d i asker number text c none other =
    let all = later_pass (common_rules (clock h) (length (members h)) t d false) (rules settings h t d (Answer i asker number text)) none in
    answerer_sells (listing_at (listings h) i) settings h d c _ (rw (find_item settings h (listings h) i) at all) other

waiting_is : (h : History) (c : ℕ) → waiting h c ≡ map (answered (answers h)) (filter (waits (listings h) (answers h) c) (asked h))
unfolding waiting questions
waiting_is h c = waiting_of (listings h) (answers h) c (asked h)

asked_other : (ls : List Listing) (given : List Asked) (c : ℕ) (q : Asked) (qs : List Asked) → is_seller (listing_at ls q.item) c ≡ false → filter (waits ls given c) (put_by asked_key q qs) ≡ filter (waits ls given c) qs
asked_other ls given c q qs other = filter_put_other asked_key (waits ls given c) q qs (rw other (never (is_some (answer_to given q))))

listed_other : (ls : List Listing) (given qs : List Asked) (l : Listing) (c : ℕ) → (l.seller == c) ≡ false → filter (waits (ls ++ l ∷ []) given c) qs ≡ filter (waits ls given c) qs
listed_other ls given qs l c other =
    filter_alike (waits (ls ++ l ∷ []) given c) (waits ls given c) qs (λ q. ap (λ sells. not (is_some (answer_to given q)) && sells) (seller_more ls l q.item c other))

-- Local, for what waits
pub waiting_local : (settings : Settings) (c : ℕ) (h : History) (t d : ℕ) (command : Command) → (d == c) ≡ false → verdict settings h t d command ≡ None
    → ((i : ℕ) (text : List ℕ) → command ≡ Ask i text → is_seller (listing_at (listings h) i) c ≡ false)
    → waiting (entry t d command ∷ h) c ≡ waiting h c
waiting_local settings c h t d (Listed category lot title text start buy_now end reserve) other none asks =
    rw (waiting_is (entry t d (Listed category lot title text start buy_now end reserve) ∷ h) c, waiting_is h c) (simp append-nil (ap (map (answered (answers h))) (listed_other (listings h) (answers h) (asked h) _ c other)))
waiting_local settings c h t d (Answer i asker number text) other none asks =
    rw (waiting_is (entry t d (Answer i asker number text) ∷ h) c, waiting_is h c) (simp append-nil (filter_answered (listings h) (answers h) _ c (asked h) (answerer_is_seller settings h t d i asker number text c none other)))
waiting_local settings c h t d (Ask i text) other none asks =
    rw (waiting_is (entry t d (Ask i text) ∷ h) c, waiting_is h c) (simp append-nil (ap (map (answered (answers h))) (asked_other (listings h) (answers h) c _ (asked h) (asks i text refl))))
waiting_local settings c h t d (Register name) other none asks = rw (waiting_is (entry t d (Register name) ∷ h) c, waiting_is h c) (simp append-nil)
waiting_local settings c h t d (AddCategory name) other none asks = rw (waiting_is (entry t d (AddCategory name) ∷ h) c, waiting_is h c) (simp append-nil)
waiting_local settings c h t d (Bid i maximum) other none asks = rw (waiting_is (entry t d (Bid i maximum) ∷ h) c, waiting_is h c) (simp append-nil)
waiting_local settings c h t d (Buy i) other none asks = rw (waiting_is (entry t d (Buy i) ∷ h) c, waiting_is h c) (simp append-nil)
waiting_local settings c h t d Close other none asks = rw (waiting_is (entry t d Close ∷ h) c, waiting_is h c) (simp append-nil)
waiting_local settings c h t d (Settle i) other none asks = rw (waiting_is (entry t d (Settle i) ∷ h) c, waiting_is h c) (simp append-nil)
waiting_local settings c h t d (Watch i) other none asks = rw (waiting_is (entry t d (Watch i) ∷ h) c, waiting_is h c) (simp append-nil)
waiting_local settings c h t d (Unwatch i) other none asks = rw (waiting_is (entry t d (Unwatch i) ∷ h) c, waiting_is h c) (simp append-nil)
waiting_local settings c h t d (Feedback i rating text) other none asks = rw (waiting_is (entry t d (Feedback i rating text) ∷ h) c, waiting_is h c) (simp append-nil)
waiting_local settings c h t d (SetBands bands) other none asks = rw (waiting_is (entry t d (SetBands bands) ∷ h) c, waiting_is h c) (simp append-nil)
