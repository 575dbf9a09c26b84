-- What a read shows a member depends on what is public, on its own view and on what waits for it.
use Rattle.std.proofs.Common.{◌≡◌, ℕ, List, [], ◌∷◌, ◌++◌, map, filter, subst, Bool, true, false, not, refl, ◌∙◌, ap, sym, arith, inl, inr, ◌⊎◌, Option, Some, None}
use Rattle.std.specs.Prelude.{◌==◌, ◌&&◌, if◌then◌else◌, is_some, nat_le, nat_lt}
use Rattle.std.specs.List.{AllByRecursion, list_any}
use Rattle.std.proofs.lemmas.Bool.Decides.{nat_tests}
use Rattle.std.proofs.lemmas.List.{append_assoc}
use Rattle.house_rows.specs.declared.item.ItemShown.{ItemShown}
use Rattle.house_rows.specs.declared.item.OwnBid.{OwnBid}
use Rattle.house_rows.specs.declared.item.Terms.{Terms}
use Rattle.house_rows.specs.declared.query.Query.{Query}
use Rattle.house_rows.specs.declared.query.Query.TheVariants as query
use Rattle.house_rows.specs.declared.settings.Settings.{Settings}
use Rattle.house_rows.specs.declared.talk.Question.{Question}
use Rattle.house_rows.specs.History.{History}
use Rattle.house_rows.specs.Items.{items_shown}
use Rattle.house_rows.specs.Questions.{Asked, answer_to, answered, answers, asked, names, published, questions}
use Rattle.house_rows.specs.Pages.{own_bid, own_bids, page_of, reserves_shown, report_reserve}
use Rattle.house_rows.specs.Views.{own_questions, own_view}
use Rattle.house_laws.specs.Alike.{AreAlike}
use Rattle.house_rows.proofs.Put.{by_test}
use Rattle.house_laws.proofs.Output.{categories_same, clocks, feedback_same, greatest_same, items_same, members_same, mine_same, published_same, questions_same, tables_same, watches_same, reserves_same}

-- the same item, asker and number
abbrev is_same : Asked → Asked → Bool
is_same q r = (q.item == r.item) && ((q.asker == r.asker) && (q.number == r.number))

-- a question's answer as it is published
abbrev pub published_text : List Question → Asked → Option (List ℕ)
published_text [] q = None
published_text (p ∷ ps) q = if (p.item == q.item) && ((p.asker == q.asker) && (p.number == q.number)) then p.answer else published_text ps q

abbrev pub with_published : List Question → Asked → Question
with_published ps q = record { item = q.item; asker = q.asker; number = q.number; text = q.text; answer = published_text ps q }

abbrev text_in : List Asked → List Asked → Asked → Option (List ℕ)
text_in given qs q = published_text (filter (λ p. is_some p.answer) (map (answered given) qs)) q

-- an answer goes by item, asker and number
answer_same : (given : List Asked) (r q : Asked) → is_same r q ≡ true → answer_to given r ≡ answer_to given q
answer_same [] r q same = refl
answer_same (a ∷ given) r q same =
    let e : names a r ≡ names a q = grind (arith, nat_tests, same) in
    rw (e, answer_same given r q same) refl

-- the published text of one more question
text_step : (given : List Asked) (r : Asked) (rs : List Asked) (q : Asked) →
    ((answer_to given r ≡ None) × (text_in given (r ∷ rs) q ≡ text_in given rs q))
    ⊎ ((is_same r q ≡ true) × (text_in given (r ∷ rs) q ≡ answer_to given q))
    ⊎ ((is_same r q ≡ false) × (text_in given (r ∷ rs) q ≡ text_in given rs q))
text_step given r rs q =
    by_answer (answer_to given r) refl where
      by_answer : (o : Option (List ℕ)) → answer_to given r ≡ o →
          ((answer_to given r ≡ None) × (text_in given (r ∷ rs) q ≡ text_in given rs q))
          ⊎ ((is_same r q ≡ true) × (text_in given (r ∷ rs) q ≡ answer_to given q))
          ⊎ ((is_same r q ≡ false) × (text_in given (r ∷ rs) q ≡ text_in given rs q))
      by_answer None e = inl (e, rw e refl)
      by_answer (Some t) e =
          let now : text_in given (r ∷ rs) q ≡ (if is_same r q then Some t else text_in given rs q) = rw e refl in
          elim (by_test (is_same r q)) [
            | inl same ↦ inr (inl (same, now ∙ rw same (sym e ∙ answer_same given r q same)))
            | inr other ↦ inr (inr (other, now ∙ rw other refl))
          ]

-- a published text is the answer, if there is one
text_none : (given qs : List Asked) (q : Asked) → answer_to given q ≡ None → text_in given qs q ≡ None
text_none given [] q none = refl
text_none given (r ∷ rs) q none =
    elim (text_step given r rs q) [
      | inl unanswered ↦ unanswered.1 ∙ text_none given rs q none
      | inr kept ↦ elim kept [ inl here ↦ here.1 ∙ none | inr there ↦ there.1 ∙ text_none given rs q none ]
    ]

-- whether a question is among some
abbrev is_among : Asked → List Asked → Bool
is_among q qs = list_any (λ r. is_same r q) qs

text_among : (given qs : List Asked) (q : Asked) → is_among q qs ≡ true → text_in given qs q ≡ answer_to given q
text_among given [] q among = absurd (let e : false ≡ true = among in cc)
text_among given (r ∷ rs) q among =
    elim (by_test (is_same r q)) [
      | inl same ↦ elim (text_step given r rs q) [
        | inl unanswered ↦ (let none : answer_to given q ≡ None = sym (answer_same given r q same) ∙ unanswered.0 in unanswered.1 ∙ text_none given rs q none ∙ sym none)
        | inr kept ↦ elim kept [ inl here ↦ here.1 | inr there ↦ absurd (let e : true ≡ false = sym same ∙ there.0 in cc) ]
      ]
      | inr other ↦ (let rest : is_among q rs ≡ true = rw other at among in elim (text_step given r rs q) [
        | inl unanswered ↦ unanswered.1 ∙ text_among given rs q rest
        | inr kept ↦ elim kept [ inl here ↦ here.1 | inr there ↦ there.1 ∙ text_among given rs q rest ]
      ])
    ]

is_itself : (q : Asked) → is_same q q ≡ true
is_itself q = grind (arith, nat_tests)

among_here : (before : List Asked) (q : Asked) (later : List Asked) → is_among q (before ++ q ∷ later) ≡ true
among_here [] q later = rw (is_itself q) refl
among_here (r ∷ before) q later =
    elim (by_test (is_same r q)) [ inl same ↦ rw same refl | inr other ↦ rw other (among_here before q later) ]

-- each question of a list shows its answer as it is published among them
all_shown : (given before qs : List Asked) → AllByRecursion (λ q. answer_to given q ≡ text_in given (before ++ qs) q) qs
all_shown given before [] = tt
all_shown given before (q ∷ qs) = (
  sym (text_among given (before ++ q ∷ qs) q (among_here before q qs)),
  subst (λ all. AllByRecursion (λ p. answer_to given p ≡ text_in given all p) qs) (append_assoc before (q ∷ []) qs) (all_shown given (before ++ q ∷ []) qs),
)

-- the questions that pass a test, each as it is published
shown_filter : (given qs : List Asked) (ps : List Question) (mine : Asked → Bool) → AllByRecursion (λ q. answer_to given q ≡ published_text ps q) qs
    → map (answered given) (filter mine qs) ≡ map (with_published ps) (filter mine qs)
shown_filter given [] ps mine all = refl
shown_filter given (q ∷ qs) ps mine all =
    elim (by_test (mine q)) [
      | inl is ↦ rw is (rw (all.0, shown_filter given qs ps mine all.1) refl)
      | inr not ↦ rw not (shown_filter given qs ps mine all.1)
    ]

mine_among : (given : List Asked) (c from : ℕ) (qs : List Asked) → filter (λ q. (q.asker == c) && nat_le from q.item) (map (answered given) qs)
    ≡ map (answered given) (filter (λ q. nat_le from q.item) (filter (λ q. q.asker == c) qs))
mine_among given c from [] = refl
mine_among given c from (q ∷ qs) =
    elim (by_test (q.asker == c)) [
      | inl mine ↦ elim (by_test (nat_le from q.item)) [
        | inl is ↦ rw (mine, is) (ap (λ rest. answered given q ∷ rest) (mine_among given c from qs))
        | inr not ↦ rw (mine, not) (mine_among given c from qs)
      ]
      | inr other ↦ rw other (mine_among given c from qs)
    ]

all_mine : (c : ℕ) (qs : List Asked) (P : Asked → Type 0) → AllByRecursion P qs → AllByRecursion P (filter (λ q. q.asker == c) qs)
all_mine c [] P all = tt
all_mine c (q ∷ qs) P all = elim (by_test (q.asker == c)) [ inl is ↦ rw is (all.0, all_mine c qs P all.1) | inr not ↦ rw not (all_mine c qs P all.1) ]

-- a member's own questions are those of its own view, with the answers that are public
pub my_questions_are : (h : History) (c from : ℕ) → filter (λ q. (q.asker == c) && nat_le from q.item) (questions h)
    ≡ map (with_published (published h)) (filter (λ q. nat_le from q.item) (own_questions h c))
unfolding questions published own_questions
my_questions_are h c from =
    mine_among (answers h) c from (asked h)
    ∙ shown_filter (answers h) (filter (λ q. q.asker == c) (asked h)) (published h) (λ q. nat_le from q.item)
    (all_mine c (asked h) (λ q. answer_to (answers h) q ≡ published_text (published h) q) (all_shown (answers h) [] (asked h)))

my_questions_same : (settings : Settings) (c from : ℕ) (h k : History) → AreAlike settings c h k
    → filter (λ q. (q.asker == c) && nat_le from q.item) (questions h) ≡ filter (λ q. (q.asker == c) && nat_le from q.item) (questions k)
my_questions_same settings c from h k alike =
    my_questions_are h c from
    ∙ ap (λ ps. map (with_published ps) (filter (λ q. nat_le from q.item) (own_questions h c))) (published_same settings h k alike.public)
    ∙ ap (λ qs. map (with_published (published k)) (filter (λ q. nat_le from q.item) qs)) (questions_same h k c alike.own)
    ∙ sym (my_questions_are k c from)

own_bid_same : (h k : History) (c : ℕ) (terms : Terms) → own_view h c ≡ own_view k c → own_bid h c terms ≡ own_bid k c terms
own_bid_same h k c terms e = rw (greatest_same h k c terms.item e, mine_same h k c terms.item e) refl

own_bids_all : (h k : History) (c : ℕ) (its : List ItemShown) → own_view h c ≡ own_view k c → map (λ it. own_bid h c it.item.terms) its ≡ map (λ it. own_bid k c it.item.terms) its
own_bids_all h k c [] e = refl
own_bids_all h k c (it ∷ its) e = rw (own_bid_same h k c it.item.terms e, own_bids_all h k c its e) refl

own_bids_same : (h k : History) (c : ℕ) (its : List ItemShown) → own_view h c ≡ own_view k c → own_bids h c its ≡ own_bids k c its
unfolding own_bids
own_bids_same h k c its e = ap (filter (λ (b : OwnBid). nat_lt 0 b.mine)) (own_bids_all h k c its e)

reserves_shown_same : (h k : History) (c : ℕ) (its : List ItemShown) → own_view h c ≡ own_view k c → reserves_shown h c its ≡ reserves_shown k c its
unfolding reserves_shown
reserves_shown_same h k c its e = ap (map (report_reserve its)) (reserves_same h k c e)

-- Output, for what a member reads
pub page_same : (settings : Settings) (c : ℕ) (h k : History) (q : Query) → AreAlike settings c h k → page_of settings h c q ≡ page_of settings k c q
unfolding page_of
page_same settings c h k query.House alike =
    rw (members_same settings h k alike.public, categories_same settings h k alike.public, items_same settings h k alike.public, clocks settings h k alike.public) refl
page_same settings c h k query.Bands alike = rw (members_same settings h k alike.public, tables_same settings h k alike.public) refl
page_same settings c h k (query.BandsOf edition) alike = rw (members_same settings h k alike.public, tables_same settings h k alike.public) refl
page_same settings c h k query.Categories alike = rw (members_same settings h k alike.public, categories_same settings h k alike.public) refl
page_same settings c h k (query.ItemsIn category from) alike =
    rw (members_same settings h k alike.public, categories_same settings h k alike.public, items_same settings h k alike.public) refl
page_same settings c h k (query.Item i) alike = rw (members_same settings h k alike.public, items_same settings h k alike.public) refl
page_same settings c h k (query.Questions i from) alike =
    rw (members_same settings h k alike.public, items_same settings h k alike.public, published_same settings h k alike.public) refl
page_same settings c h k (query.Member m) alike = rw (members_same settings h k alike.public, feedback_same settings h k alike.public) refl
page_same settings c h k (query.FeedbackTo m from) alike = rw (members_same settings h k alike.public, feedback_same settings h k alike.public) refl
page_same settings c h k (query.MyBids from) alike =
    rw (members_same settings h k alike.public, items_same settings h k alike.public, own_bids_same h k c (items_shown settings k) alike.own) refl
page_same settings c h k (query.MyReserves from) alike =
    rw (members_same settings h k alike.public, items_same settings h k alike.public, reserves_shown_same h k c (items_shown settings k) alike.own) refl
page_same settings c h k query.MyWatches alike =
    rw (members_same settings h k alike.public, items_same settings h k alike.public, watches_same h k c alike.own) refl
page_same settings c h k (query.MyQuestions from) alike =
    rw (members_same settings h k alike.public, my_questions_same settings c from h k alike) refl
page_same settings c h k query.MyWaiting alike = rw (members_same settings h k alike.public, alike.waiting) refl
page_same settings c h k (query.MyStatement from to) alike = rw (members_same settings h k alike.public, items_same settings h k alike.public) refl
