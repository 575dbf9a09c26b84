-- Which rows a look-up or a list of a keep takes: that these fit is enough for it not to be damaged.
use Rattle.std.specs.Prelude.{◌≡◌, ◌-◌, ◌==◌, ◌||◌, ◌&&◌, ◌<◌, ◌^◌, if◌then◌else◌, ℕ, List, [], ◌∷◌, Bool, true, IfSome, Result, IsErrOf, filter, is_some, nat_le, nat_lt, not, take}
use Rattle.std.specs.List.{AllByRecursion}
use Rattle.proxy.specs.Bids.{is_leader}
use Rattle.house_rows.specs.declared.fault.KeepFault.{KeepFault}
use Rattle.house_rows.specs.declared.fault.KeepFault.TheVariants.{Damaged}
use Rattle.house_rows.specs.declared.talk.Feedback.{Feedback}
use Rattle.house_rows.specs.declared.talk.Question.{Question}
use Rattle.house_rows.specs.Changed.{is_item}
use Rattle.house_rows.specs.Fits.{BidRowFits, CategoryFits, FeedbackFits, IsItem, MemberFits, QuestionFits, WatchRowFits}
use Rattle.house_rows.specs.Found.{category_at, category_named, is_watched, item_with_lot, member_named, question_at, row_at, sells}
use Rattle.house_rows.specs.History.{counted}
use Rattle.house_rows.specs.Items.{is_due}
use Rattle.house_rows.specs.Keeping.{RowFits}
use Rattle.house_rows.specs.Limits.{most_shown}
use Rattle.house_rows.specs.Pages.{member_at}
use Rattle.house_rows.specs.Reached.{FitsSoFar}
use Rattle.house_rows.specs.Tables.{ItemRow, Tables, band_tables}

abbrev pub IsUndamaged : {A : Type 0} → Result A KeepFault → Type 0
IsUndamaged result = ¬ (IsErrOf result Damaged)

-- each row that passes a test fits
abbrev pub FitWhere : {A : Type 0} → (A → Bool) → (A → Type 0) → List A → Type 0
FitWhere test Fits rows = AllByRecursion (λ row. test row ≡ true → Fits row) rows

-- of the items each by its own band table
abbrev pub ItemsFitWhere : (ItemRow → Bool) → Tables → Type 0
ItemsFitWhere test t = FitWhere test (RowFits t) t.items

-- whether a member may be a party to the sale of an item; the number 0, which no member has, may be
-- of any
abbrev pub may_be_party : ℕ → ItemRow → Bool
may_be_party member row =
    (member == 0)
    || ((row.item.terms.seller == member) || is_leader row.item.terms.leader member)

-- whether a member sells an item, it has a reserve, and its number is not below another
abbrev pub has_own_reserve : ℕ → ℕ → ItemRow → Bool
has_own_reserve member from row =
    (row.item.terms.seller == member)
    && (is_some row.standing.reserve && nat_le from row.item.terms.item)

-- where a list begins that is asked for from a number on: at the last number of 32 bits at most
abbrev pub start_of : ℕ → ℕ
start_of from = if nat_lt from 4294967295 then from else 4294967295

-- the rows of a list up to the one with which so many have passed a test
abbrev pub up_to : {A : Type 0} → ℕ → (A → Bool) → List A → List A
up_to n test [] = []
up_to n test (x ∷ xs) =
    if n == 0 then [] else x ∷ up_to (if test x then n - 1 else n) test xs

-- whether fewer than fifty of the rows that pass a test have a lesser number
abbrev pub is_near : {A : Type 0} → (A → Bool) → (A → ℕ) → List A → A → Bool
is_near test number rows x =
    nat_lt (counted (λ y. test y && nat_lt (number y) (number x)) rows) most_shown

-- of the rows that pass a test those fit which a list of at most fifty takes that goes by a number:
-- up to the last number shown
abbrev pub FirstFit : {A : Type 0} → (A → Bool) → (A → ℕ) → (A → Type 0) → List A → Type 0
FirstFit test number Fits rows =
    AllByRecursion (λ x. test x ≡ true → is_near test number rows x ≡ true → Fits x) rows

-- of the items that pass a test the first fifty fit
abbrev pub FirstItemsFit : (ItemRow → Bool) → Tables → Type 0
FirstItemsFit test t = AllByRecursion (RowFits t) (take most_shown (filter test t.items))

-- of a category's items, from a number on, those fit that the list takes
abbrev pub CategoryItemsFit : ℕ → ℕ → Tables → Type 0
CategoryItemsFit category from =
    FirstItemsFit (λ row. (row.item.terms.category == category)
    && nat_le (start_of from) row.item.terms.item)

-- of what a member sells the items fit whose reserves the list takes, and up to the last of them each number is one of 32 bits
abbrev pub OwnReservesFit : ℕ → ℕ → Tables → Type 0
OwnReservesFit member from t =
    AllByRecursion (λ row. row.item.terms.item < 2 ^ 32) (up_to most_shown
    (has_own_reserve member from) (filter (λ row. row.item.terms.seller == member) t.items))
    × FirstItemsFit (has_own_reserve member from) t

-- a member's watches fit, and the items that it watches
abbrev pub WatchedFit : ℕ → Tables → Type 0
WatchedFit member t =
    FitWhere (λ w. w.member == member) WatchRowFits t.watches
    × ItemsFitWhere (λ row. is_watched t member row.item.terms.item) t

-- of the published questions on an item, from an asker on, those fit that the list takes
abbrev pub PublishedFit : ℕ → ℕ → List Question → Type 0
PublishedFit item from rows = FirstFit (λ q. ((q.item == item) && is_some q.answer) && nat_le from q.asker) (λ q. q.asker) QuestionFits rows

-- of a member's questions, from an item on
abbrev pub AskedFit : ℕ → ℕ → List Question → Type 0
AskedFit asker from rows = FirstFit (λ q. (q.asker == asker) && nat_le from q.item) (λ q. q.item) QuestionFits rows

-- of the feedback to a member, from an item on; and all of it that has no item of ours, since the list may take it wherever
-- it is stored
pub record GivenFit (member from : ℕ) (rows : List Feedback) : Type 0 where
  pub near : FirstFit (λ f. (f.to == member) && nat_le from f.item) (λ f. f.item) FeedbackFits rows
  pub far : FitWhere (λ f. (f.to == member) && nat_le 4294967296 f.item) FeedbackFits rows

-- whether a question waits for a member's answer
abbrev pub waits_for : Tables → ℕ → Question → Bool
waits_for t member q = not (is_some q.answer) && sells (row_at t q.item) member

-- the items that a member sells fit, each of which is found before the first question is looked for,
-- and the questions that wait for its answer
abbrev pub AllWaitingFit : ℕ → Tables → Type 0
AllWaitingFit member t =
    ItemsFitWhere (λ row. row.item.terms.seller == member) t
    × FitWhere (waits_for t member) QuestionFits t.questions

-- and of these questions those that a list of at most fifty takes
abbrev pub FirstWaitingFit : ℕ → Tables → Type 0
FirstWaitingFit member t =
    ItemsFitWhere (λ row. row.item.terms.seller == member) t
    × FirstFit (waits_for t member) (λ q. q.item) QuestionFits t.questions

-- ---- what each look-up of a keep takes, by what it is asked for

abbrev pub MemberFitsAt : ℕ → Tables → Type 0
MemberFitsAt member t = IfSome (member_at t.members member) MemberFits

abbrev pub MemberFitsNamed : List ℕ → Tables → Type 0
MemberFitsNamed name t = IfSome (member_named t name) MemberFits

abbrev pub CategoryFitsAt : ℕ → Tables → Type 0
CategoryFitsAt category t = IfSome (category_at t category) CategoryFits

abbrev pub CategoryFitsNamed : List ℕ → Tables → Type 0
CategoryFitsNamed name t = IfSome (category_named t name) CategoryFits

abbrev pub ItemFitsAt : ℕ → Tables → Type 0
ItemFitsAt item = ItemsFitWhere (is_item item)

-- the number of a seller's item with a lot is one of ours
abbrev pub ItemIsOurs : ℕ → List ℕ → Tables → Type 0
ItemIsOurs seller lot t = IfSome (item_with_lot t seller lot) IsItem

-- a member's bids on an item
abbrev pub OwnBidsFitOn : ℕ → ℕ → Tables → Type 0
OwnBidsFitOn item member t =
    FitWhere (λ b. (b.bid.member == member) && (b.item == item)) BidRowFits t.bids

abbrev pub WatchesFit : ℕ → Tables → Type 0
WatchesFit member t = FitWhere (λ w. w.member == member) WatchRowFits t.watches

abbrev pub QuestionFitsAt : ℕ → ℕ → ℕ → Tables → Type 0
QuestionFitsAt item asker number t = IfSome (question_at t item asker number) QuestionFits

abbrev pub FeedbackFitsFrom : ℕ → Tables → Type 0
FeedbackFitsFrom giver t = FitWhere (λ f. f.from == giver) FeedbackFits t.feedback

abbrev pub FeedbackFitsTo : ℕ → Tables → Type 0
FeedbackFitsTo member t = FitWhere (λ f. f.to == member) FeedbackFits t.feedback

-- the items that a close at a moment takes
abbrev pub DueItemsFit : ℕ → Tables → Type 0
DueItemsFit moment = ItemsFitWhere (λ row. is_due moment row.item.terms)

-- what a member's list of its bids takes. An item whose number is none of ours stands in the tables
-- under one that a bid may name, first or last: so the list takes the number of each item
abbrev pub OwnBidsFit : ℕ → ℕ → Tables → Type 0
OwnBidsFit member from t = FitsSoFar (band_tables t) t member from

abbrev pub FirstPublishedFit : ℕ → ℕ → Tables → Type 0
FirstPublishedFit item from t = PublishedFit item (start_of from) t.questions

abbrev pub FirstAskedFit : ℕ → ℕ → Tables → Type 0
FirstAskedFit member from t = AskedFit member (start_of from) t.questions

abbrev pub FirstGivenFit : ℕ → ℕ → Tables → Type 0
FirstGivenFit member from t = GivenFit member (start_of from) t.feedback

abbrev pub AllPublishedFit : Tables → Type 0
AllPublishedFit t = FitWhere (λ q. is_some q.answer) QuestionFits t.questions

-- the rows that everybody may see: of bids, of watches and of questions without an answer nothing is
-- asked
pub record PublicRowsFit (t : Tables) : Type 0 where
  pub members : AllByRecursion MemberFits t.members
  pub categories : AllByRecursion CategoryFits t.categories
  pub items : AllByRecursion (RowFits t) t.items
  pub questions : AllPublishedFit t
  pub feedback : AllByRecursion FeedbackFits t.feedback

-- the items to whose sale a member may be a party
abbrev pub SalesFit : ℕ → Tables → Type 0
SalesFit member = ItemsFitWhere (may_be_party member)
