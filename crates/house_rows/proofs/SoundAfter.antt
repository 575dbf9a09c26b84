-- A change that fits sound tables leaves them sound.
use Rattle.std.proofs.Common.{◌≡◌, ℕ, ◌+◌, ◌≤◌, ◌<◌, List, [], ◌∷◌, ◌++◌, filter, map, length, Bool, true, false, not, refl, ◌∙◌, subst, sym, arith, inl, inr, Some, None}
use Rattle.std.specs.Prelude.{◌==◌, ◌&&◌, find, is_some}
use Rattle.std.specs.List.{AllByRecursion}
use Rattle.std.proofs.lemmas.Bool.Decides.{nat_tests}
use Rattle.std.proofs.lemmas.List.{length-append, length-map}
use Rattle.proxy.specs.declared.bid.Bid as bid
use Rattle.proxy.specs.Kept.{Kept}
use Rattle.house_rows.specs.declared.change.Change.{Change}
use Rattle.house_rows.specs.declared.change.NewItem.{NewItem}
use Rattle.house_rows.specs.declared.change.Change.TheVariants.{Register, AddCategory, List as Listed, Bid, Buy, Close, Settle, Watch, Unwatch, Ask, Answer, Feedback, SetBands}
use Rattle.house_rows.specs.declared.edition.Edition.{Edition}
use Rattle.house_rows.specs.declared.people.Category.{Category}
use Rattle.house_rows.specs.declared.people.Member.{Member}
use Rattle.house_rows.specs.declared.rating.Rating.{Rating}
use Rattle.house_rows.specs.declared.talk.Feedback as feedback
use Rattle.house_rows.specs.declared.talk.Question.{Question}
use Rattle.house_rows.specs.Asks.{AnswerFits, BidFits, ChangeFits, HasItem, HasMember, ListingFits, NameFits, PurchaseFits, QuestionAsked, RatingFits, SettlementFits, TableFits, WatchFits}
use Rattle.house_rows.specs.Bids.{BidRow, bid_key}
use Rattle.house_rows.specs.Changed.{changed, new_item, question_key, with_answer, with_close, with_purchase, with_settlement, with_standing}
use Rattle.house_rows.specs.Fits.{BidRowFits, CategoryFits, EditionFits, FeedbackFits, IsItem, IsMember, IsMoment, IsWithin, MemberFits, QuestionFits, WatchRowFits}
use Rattle.house_rows.specs.Found.{ask_count}
use Rattle.house_rows.specs.History.{Key, counted, is_less, put_by}
use Rattle.house_rows.specs.Keeping.{AreInTurn, AreSound, ItemRowFits, RowFits}
use Rattle.house_rows.specs.Limits.{most_bids, most_categories, most_editions, most_items, most_members, most_questions, most_watches}
use Rattle.house_rows.specs.Questions.{is_question}
use Rattle.house_rows.specs.Ratings.{feedback_key, other_party}
use Rattle.house_rows.specs.Tables.{ItemRow, Tables, bands_for, row_opening}
use Rattle.house_rows.specs.Text.{is_text}
use Rattle.house_rows.specs.Watches.{WatchRow, unwatched, watch_key}
use Rattle.house_rows.proofs.ChangedRows.{close_fits, close_number, new_fits, fits_at, one_changed, purchase_fits, purchase_number, purchase_other, room_for, settlement_fits, settlement_number, settlement_other, standing_fits, standing_number, standing_other, there_fits, there_fits_by, there_is, there_numbered, there_within}
use Rattle.house_rows.proofs.GoesBy.{bands_more}
use Rattle.house_rows.proofs.Every.{every_as, every_both, every_map, every_more, every_put}
use Rattle.house_rows.proofs.InTurn.{turn_map, turn_more}
use Rattle.house_rows.proofs.Put.{by_test, filter_put_other}
use Rattle.house_rows.proofs.RangedTables.{every_filter}
use Rattle.house_rows.proofs.RangedTalk.{other_fits}

-- sound tables with one part given anew
clock_after : (t : Tables) (clock : ℕ) → AreSound t → IsMoment clock → AreSound (record t { clock = clock })
clock_after t clock sound fits = record {
  clock = fits;
  members = sound.members;
  members_in_turn = sound.members_in_turn;
  few_members = sound.few_members;
  categories = sound.categories;
  categories_in_turn = sound.categories_in_turn;
  few_categories = sound.few_categories;
  items = sound.items;
  items_in_turn = sound.items_in_turn;
  few_items = sound.few_items;
  bids = sound.bids;
  watches = sound.watches;
  few_watches = sound.few_watches;
  questions = sound.questions;
  feedback = sound.feedback;
  editions = sound.editions;
  editions_in_turn = sound.editions_in_turn;
  few_editions = sound.few_editions;
}

members_after : (t : Tables) (members : List Member) → AreSound t → AllByRecursion MemberFits members → AreInTurn (λ m. m.member) 1 members → length members ≤ most_members → AreSound (record t { members = members })
members_after t members sound fit in_turn few = record {
  clock = sound.clock;
  members = fit;
  members_in_turn = in_turn;
  few_members = few;
  categories = sound.categories;
  categories_in_turn = sound.categories_in_turn;
  few_categories = sound.few_categories;
  items = sound.items;
  items_in_turn = sound.items_in_turn;
  few_items = sound.few_items;
  bids = sound.bids;
  watches = sound.watches;
  few_watches = sound.few_watches;
  questions = sound.questions;
  feedback = sound.feedback;
  editions = sound.editions;
  editions_in_turn = sound.editions_in_turn;
  few_editions = sound.few_editions;
}

categories_after : (t : Tables) (categories : List Category) → AreSound t → AllByRecursion CategoryFits categories → AreInTurn (λ k. k.category) 1 categories → length categories ≤ most_categories
    → AreSound (record t { categories = categories })
categories_after t categories sound fit in_turn few = record {
  clock = sound.clock;
  members = sound.members;
  members_in_turn = sound.members_in_turn;
  few_members = sound.few_members;
  categories = fit;
  categories_in_turn = in_turn;
  few_categories = few;
  items = sound.items;
  items_in_turn = sound.items_in_turn;
  few_items = sound.few_items;
  bids = sound.bids;
  watches = sound.watches;
  few_watches = sound.few_watches;
  questions = sound.questions;
  feedback = sound.feedback;
  editions = sound.editions;
  editions_in_turn = sound.editions_in_turn;
  few_editions = sound.few_editions;
}

items_after : (t : Tables) (items : List ItemRow) → AreSound t → AllByRecursion (RowFits t) items → AreInTurn (λ row. row.item.terms.item) 1 items → length items ≤ most_items
    → AreSound (record t { items = items })
items_after t items sound fit in_turn few = record {
  clock = sound.clock;
  members = sound.members;
  members_in_turn = sound.members_in_turn;
  few_members = sound.few_members;
  categories = sound.categories;
  categories_in_turn = sound.categories_in_turn;
  few_categories = sound.few_categories;
  items = fit;
  items_in_turn = in_turn;
  few_items = few;
  bids = sound.bids;
  watches = sound.watches;
  few_watches = sound.few_watches;
  questions = sound.questions;
  feedback = sound.feedback;
  editions = sound.editions;
  editions_in_turn = sound.editions_in_turn;
  few_editions = sound.few_editions;
}

bids_after : (t : Tables) (bids : List BidRow) → AreSound t → AllByRecursion BidRowFits bids → AreSound (record t { bids = bids })
bids_after t bids sound fit = record {
  clock = sound.clock;
  members = sound.members;
  members_in_turn = sound.members_in_turn;
  few_members = sound.few_members;
  categories = sound.categories;
  categories_in_turn = sound.categories_in_turn;
  few_categories = sound.few_categories;
  items = sound.items;
  items_in_turn = sound.items_in_turn;
  few_items = sound.few_items;
  bids = fit;
  watches = sound.watches;
  few_watches = sound.few_watches;
  questions = sound.questions;
  feedback = sound.feedback;
  editions = sound.editions;
  editions_in_turn = sound.editions_in_turn;
  few_editions = sound.few_editions;
}

watches_after : (t : Tables) (watches : List WatchRow) → AreSound t → AllByRecursion WatchRowFits watches → ((m : ℕ) → counted (λ w. w.member == m) watches ≤ most_watches) → AreSound (record t { watches = watches })
watches_after t watches sound fit few = record {
  clock = sound.clock;
  members = sound.members;
  members_in_turn = sound.members_in_turn;
  few_members = sound.few_members;
  categories = sound.categories;
  categories_in_turn = sound.categories_in_turn;
  few_categories = sound.few_categories;
  items = sound.items;
  items_in_turn = sound.items_in_turn;
  few_items = sound.few_items;
  bids = sound.bids;
  watches = fit;
  few_watches = few;
  questions = sound.questions;
  feedback = sound.feedback;
  editions = sound.editions;
  editions_in_turn = sound.editions_in_turn;
  few_editions = sound.few_editions;
}

questions_after : (t : Tables) (questions : List Question) → AreSound t → AllByRecursion QuestionFits questions → AreSound (record t { questions = questions })
questions_after t questions sound fit = record {
  clock = sound.clock;
  members = sound.members;
  members_in_turn = sound.members_in_turn;
  few_members = sound.few_members;
  categories = sound.categories;
  categories_in_turn = sound.categories_in_turn;
  few_categories = sound.few_categories;
  items = sound.items;
  items_in_turn = sound.items_in_turn;
  few_items = sound.few_items;
  bids = sound.bids;
  watches = sound.watches;
  few_watches = sound.few_watches;
  questions = fit;
  feedback = sound.feedback;
  editions = sound.editions;
  editions_in_turn = sound.editions_in_turn;
  few_editions = sound.few_editions;
}

feedback_after : (t : Tables) (given : List feedback.Feedback) → AreSound t → AllByRecursion FeedbackFits given → AreSound (record t { feedback = given })
feedback_after t given sound fit = record {
  clock = sound.clock;
  members = sound.members;
  members_in_turn = sound.members_in_turn;
  few_members = sound.few_members;
  categories = sound.categories;
  categories_in_turn = sound.categories_in_turn;
  few_categories = sound.few_categories;
  items = sound.items;
  items_in_turn = sound.items_in_turn;
  few_items = sound.few_items;
  bids = sound.bids;
  watches = sound.watches;
  few_watches = sound.few_watches;
  questions = sound.questions;
  feedback = fit;
  editions = sound.editions;
  editions_in_turn = sound.editions_in_turn;
  few_editions = sound.few_editions;
}

editions_after : (t : Tables) (editions : List Edition) → AreSound t → AllByRecursion EditionFits editions → AreInTurn (λ e. e.edition) 2 editions → length editions < most_editions
    → AllByRecursion (RowFits (record t { editions = editions })) t.items → AreSound (record t { editions = editions })
editions_after t editions sound fit in_turn few items = record {
  clock = sound.clock;
  members = sound.members;
  members_in_turn = sound.members_in_turn;
  few_members = sound.few_members;
  categories = sound.categories;
  categories_in_turn = sound.categories_in_turn;
  few_categories = sound.few_categories;
  items = items;
  items_in_turn = sound.items_in_turn;
  few_items = sound.few_items;
  bids = sound.bids;
  watches = sound.watches;
  few_watches = sound.few_watches;
  questions = sound.questions;
  feedback = sound.feedback;
  editions = fit;
  editions_in_turn = in_turn;
  few_editions = few;
}

-- who is there has a member's number
member_there : (t : Tables) (n : ℕ) → AreSound t → HasMember t n → IsMember n
member_there t n sound there = let few = sound.few_members in let most = there.1 in (there.0, omega arith)

item_there : (t : Tables) (i : ℕ) → AreSound t → HasItem t i → IsItem i
item_there t i sound there = there_within t i there.0 sound there.1

category_there : (ks : List Category) (n : ℕ) → AllByRecursion CategoryFits ks → is_some (find (λ k. k.category == n) ks) ≡ true → IsWithin 1 most_categories n
category_there [] n all there = cc
category_there (k ∷ ks) n all there =
    elim (by_test (k.category == n)) [
      | inl is ↦ (let e : k.category ≡ n = grind (arith, nat_tests, is) in subst (λ (x : ℕ). IsWithin 1 most_categories x) e all.0.category)
      | inr other ↦ category_there ks n all.1 (rw other at there)
    ]

-- where every item keeps its number and fits
rows_after : (t : Tables) (moment : ℕ) (f : ItemRow → ItemRow) → AreSound t → IsMoment moment → ((row : ItemRow) → (f row).item.terms.item ≡ row.item.terms.item)
    → AllByRecursion (RowFits t) (map f t.items) → AreSound (record t { clock = moment; items = map f t.items })
rows_after t moment f sound moment_fits same fit =
    items_after (record t { clock = moment }) (map f t.items) (clock_after t moment sound moment_fits) fit
    (turn_map (λ (row : ItemRow). row.item.terms.item) (λ (row : ItemRow). row.item.terms.item) f 1 t.items same sound.items_in_turn)
    (simp length-map sound.few_items)

register_after : (t : Tables) (moment : ℕ) (name : List ℕ) → AreSound t → NameFits moment name (length t.members) most_members
    → AreSound (record t { clock = moment; members = t.members ++ record { member = length t.members + 1; name = name } ∷ [] })
register_after t moment name sound fits =
    let m : Member = record { member = length t.members + 1; name = name } in
    let room : length t.members < most_members = fits.room in
    members_after (record t { clock = moment }) (t.members ++ m ∷ []) (clock_after t moment sound fits.moment_fits)
    (every_more MemberFits t.members m sound.members (record { member = (omega arith, omega arith); name = fits.name_fits }))
    (turn_more (λ (m : Member). m.member) 1 t.members m sound.members_in_turn refl)
    (simp length-append (omega arith))

category_after : (t : Tables) (moment : ℕ) (name : List ℕ) → AreSound t → NameFits moment name (length t.categories) most_categories
    → AreSound (record t { clock = moment; categories = t.categories ++ record { category = length t.categories + 1; name = name } ∷ [] })
category_after t moment name sound fits =
    let k : Category = record { category = length t.categories + 1; name = name } in
    let room : length t.categories < most_categories = fits.room in
    categories_after (record t { clock = moment }) (t.categories ++ k ∷ []) (clock_after t moment sound fits.moment_fits)
    (every_more CategoryFits t.categories k sound.categories (record { category = (omega arith, omega arith); name = fits.name_fits }))
    (turn_more (λ (k : Category). k.category) 1 t.categories k sound.categories_in_turn refl)
    (simp length-append (omega arith))

listing_after : (t : Tables) (moment : ℕ) (item : NewItem) → AreSound t → ListingFits t moment item
    → AreSound (record t { clock = moment; items = t.items ++ new_item (length t.items + 1) item ∷ [] })
listing_after t moment item sound fits =
    let row : ItemRow = new_item (length t.items + 1) item in
    let room : length t.items < most_items = fits.room in
    items_after (record t { clock = moment }) (t.items ++ row ∷ []) (clock_after t moment sound fits.moment_fits)
    (every_more (RowFits t) t.items row sound.items
    (new_fits (bands_for t (length t.items + 1)) (length t.items + 1) item (omega arith, omega arith) (member_there t item.seller sound fits.seller_there)
    (category_there t.categories item.category sound.categories fits.category_there) fits.lot_fits fits.title_fits fits.text_fits fits.start_fits fits.buy_now_fits fits.end_fits fits.reserve_fits))
    (turn_more (λ (row : ItemRow). row.item.terms.item) 1 t.items row sound.items_in_turn refl)
    (simp length-append (omega arith))

bid_after : (t : Tables) (moment item : ℕ) (placed : bid.Bid) (standing : Kept) → AreSound t → BidFits t moment item placed standing
    → AreSound (record t { clock = moment; items = map (with_standing item standing) t.items; bids = put_by bid_key (record { item = item; bid = placed }) t.bids })
bid_after t moment item placed standing sound fits =
    let row : ItemRow = fits.row in
    let bids : List bid.Bid = fits.bids in
    let member : IsMember placed.member = member_there t placed.member sound fits.bidder_there in
    let new : bid.Bid = record { member = placed.member; maximum = placed.maximum; no = length bids + 1 } in
    let room : length bids < most_bids = room_for (bands_for t item) (row_opening row) bids placed.member placed.maximum (fits.accepted bids new [] refl).accepted in
    let numbered : placed.no ≡ length bids + 1 = fits.numbered in
    let row_fits : RowFits t (with_standing item standing row) =
    fits_at t item (with_standing item standing row) (standing_number item standing row ∙ there_numbered t item row fits.row_there)
    (standing_fits (bands_for t item) item standing row bids placed.member placed.maximum (there_is t item row fits.row_there) (there_fits_by t item row sound fits.row_there)
    fits.is_open fits.is_consistent member fits.apart fits.maximum_fits fits.accepted fits.is_consistent_after) in
    bids_after (record t { clock = moment; items = map (with_standing item standing) t.items }) (put_by bid_key (record { item = item; bid = placed }) t.bids)
    (rows_after t moment (with_standing item standing) sound fits.moment_fits (standing_number item standing)
    (one_changed t item row (with_standing item standing) sound fits.row_there (standing_other item standing) row_fits))
    (every_put bid_key BidRowFits (record { item = item; bid = placed }) t.bids sound.bids (record {
      item = there_within t item row sound fits.row_there;
      member = member;
      maximum = fits.maximum_fits;
      number = (omega arith, omega arith);
    }))

purchase_after : (t : Tables) (moment item buyer price : ℕ) → AreSound t → PurchaseFits t moment item buyer price
    → AreSound (record t { clock = moment; items = map (with_purchase item buyer price moment) t.items })
purchase_after t moment item buyer price sound fits =
    rows_after t moment (with_purchase item buyer price moment) sound fits.moment_fits (purchase_number item buyer price moment)
    (one_changed t item fits.row (with_purchase item buyer price moment) sound fits.row_there (purchase_other item buyer price moment)
    (fits_at t fits.row.item.terms.item (with_purchase item buyer price moment fits.row) (purchase_number item buyer price moment fits.row)
    (purchase_fits (bands_for t fits.row.item.terms.item) item buyer price moment fits.row (there_is t item fits.row fits.row_there) (there_fits t item fits.row sound fits.row_there)
    (member_there t buyer sound fits.buyer_there) fits.apart fits.moment_fits fits.no_bid fits.at_price)))

close_after : (t : Tables) (moment : ℕ) → AreSound t → IsMoment moment → AreSound (record t { clock = moment; items = map (with_close moment) t.items })
close_after t moment sound fits =
    rows_after t moment (with_close moment) sound fits (close_number moment)
    (every_map (with_close moment) (RowFits t) t.items
    (every_as (RowFits t) (λ row. RowFits t (with_close moment row)) t.items
    (λ row fits. fits_at t row.item.terms.item (with_close moment row) (close_number moment row) (close_fits (bands_for t row.item.terms.item) moment row fits)) sound.items))

settlement_after : (t : Tables) (moment item : ℕ) → AreSound t → SettlementFits t moment item → AreSound (record t { clock = moment; items = map (with_settlement item) t.items })
settlement_after t moment item sound fits =
    rows_after t moment (with_settlement item) sound fits.moment_fits (settlement_number item)
    (one_changed t item fits.row (with_settlement item) sound fits.row_there (settlement_other item)
    (fits_at t fits.row.item.terms.item (with_settlement item fits.row) (settlement_number item fits.row)
    (settlement_fits (bands_for t fits.row.item.terms.item) item fits.row (there_is t item fits.row fits.row_there) (there_fits t item fits.row sound fits.row_there) fits.is_sold)))

-- what a row that is put adds to a count, and what is left of one
counted_put : {A : Type 0} (key : A → Key) (p : A → Bool) (x : A) (xs : List A) → p x ≡ true → counted p (put_by key x xs) ≡ counted p xs + 1
counted_put key p x [] is = rw is refl
counted_put key p x (y ∷ ys) is =
    elim (by_test (is_less (key x) (key y))) [
      | inl less ↦ rw (less, is) (omega arith)
      | inr not ↦ rw not (let rest = counted_put key p x ys is in elim (by_test (p y)) [ inl here ↦ rw here (omega arith) | inr other ↦ rw other rest ])
    ]

counted_left : {A : Type 0} (p q : A → Bool) (xs : List A) → counted p (filter q xs) ≤ counted p xs
counted_left p q [] = omega arith
counted_left p q (x ∷ xs) =
    let rest = counted_left p q xs in
    elim (by_test (q x)) [
      | inl is ↦ elim (by_test (p x)) [ inl here ↦ rw (is, here) (omega arith) | inr other ↦ rw (is, other) rest ]
      | inr not ↦ elim (by_test (p x)) [ inl here ↦ rw (not, here) (omega arith) | inr other ↦ rw (not, other) rest ]
    ]

others_counted : (c i : ℕ) (ws : List WatchRow) → counted (λ w. w.member == c) (unwatched c i ws) ≡ counted (λ w. (w.member == c) && not (w.item == i)) ws
others_counted c i [] = refl
others_counted c i (w ∷ ws) = grind (arith, nat_tests, others_counted c i ws)

unwatch_fits : (t : Tables) (member item : ℕ) → AreSound t → (m : ℕ) → counted (λ w. w.member == m) (unwatched member item t.watches) ≤ most_watches
unwatch_fits t member item sound m =
    let left = counted_left (λ (w : WatchRow). w.member == m) (λ w. not ((w.member == member) && (w.item == item))) t.watches in
    let few = sound.few_watches m in omega arith

watch_fits : (t : Tables) (member item : ℕ) → AreSound t → WatchFits t member item → (m : ℕ) → counted (λ w. w.member == m) (put_by watch_key (record { member = member; item = item }) (unwatched member item t.watches)) ≤ most_watches
watch_fits t member item sound fits m =
    elim (by_test (member == m)) [
      | inl mine ↦ (let e : member ≡ m = grind (arith, nat_tests) in
          let here : (member == member) ≡ true = grind (arith, nat_tests) in
          let room : counted (λ w. (w.member == member) && not (w.item == item)) t.watches < most_watches = fits.room in
          let own : counted (λ w. w.member == member) (put_by watch_key (record { member = member; item = item }) (unwatched member item t.watches)) ≤ most_watches =
          rw (counted_put watch_key (λ w. w.member == member) (record { member = member; item = item }) (unwatched member item t.watches) here, others_counted member item t.watches) (omega arith) in
          subst (λ (n : ℕ). counted (λ w. w.member == n) (put_by watch_key (record { member = member; item = item }) (unwatched member item t.watches)) ≤ most_watches) e own)
      | inr other ↦ rw (filter_put_other watch_key (λ w. w.member == m) (record { member = member; item = item }) (unwatched member item t.watches) other)
          (unwatch_fits t member item sound m)
    ]

watch_after : (t : Tables) (member item : ℕ) → AreSound t → WatchFits t member item → AreSound (record t { watches = put_by watch_key (record { member = member; item = item }) (unwatched member item t.watches) })
watch_after t member item sound fits =
    watches_after t (put_by watch_key (record { member = member; item = item }) (unwatched member item t.watches)) sound
    (every_put watch_key WatchRowFits (record { member = member; item = item }) (unwatched member item t.watches) (every_filter WatchRowFits _ t.watches sound.watches) (record {
      member = member_there t member sound fits.member_there;
      item = item_there t item sound fits.item_there;
    }))
    (watch_fits t member item sound fits)

unwatch_after : (t : Tables) (member item : ℕ) → AreSound t → AreSound (record t { watches = unwatched member item t.watches })
unwatch_after t member item sound =
    watches_after t (unwatched member item t.watches) sound (every_filter WatchRowFits _ t.watches sound.watches) (unwatch_fits t member item sound)

question_after : (t : Tables) (item asker number : ℕ) (text : List ℕ) → AreSound t → QuestionAsked t item asker number text
    → AreSound (record t { questions = put_by question_key (record { item = item; asker = asker; number = number; text = text; answer = None }) t.questions })
question_after t item asker number text sound fits =
    let q : Question = record { item = item; asker = asker; number = number; text = text; answer = None } in
    let room : ask_count t asker item < most_questions = fits.room in
    let numbered : number ≡ ask_count t asker item + 1 = fits.numbered in
    questions_after t (put_by question_key q t.questions) sound
    (every_put question_key QuestionFits q t.questions sound.questions (record {
      item = item_there t item sound fits.item_there;
      asker = member_there t asker sound fits.asker_there;
      number = (omega arith, omega arith);
      text = fits.text_fits;
      answer = tt;
    }))

answered_fits : (item asker number : ℕ) (text : List ℕ) → is_text 1 500 text ≡ true → (q : Question) → QuestionFits q → QuestionFits (with_answer item asker number text q)
answered_fits item asker number text text_fits q fits =
    elim (by_test (is_question item asker number q)) [
      | inl is ↦ subst (λ (x : Question). QuestionFits x) (sym (answered_here is)) (record { item = fits.item; asker = fits.asker; number = fits.number; text = fits.text; answer = text_fits })
      | inr other ↦ subst (λ (x : Question). QuestionFits x) (sym (answered_other other)) fits
    ] where
      answered_here : is_question item asker number q ≡ true → with_answer item asker number text q ≡ record q { answer = Some text }
      answered_here is = rw is refl

      answered_other : is_question item asker number q ≡ false → with_answer item asker number text q ≡ q
      answered_other other = rw other refl

answer_after : (t : Tables) (moment item asker number : ℕ) (text : List ℕ) → AreSound t → AnswerFits t moment item asker number text
    → AreSound (record t { clock = moment; questions = map (with_answer item asker number text) t.questions })
answer_after t moment item asker number text sound fits =
    questions_after (record t { clock = moment }) (map (with_answer item asker number text) t.questions) (clock_after t moment sound fits.moment_fits)
    (every_map (with_answer item asker number text) QuestionFits t.questions
    (every_as QuestionFits (λ q. QuestionFits (with_answer item asker number text q)) t.questions (answered_fits item asker number text fits.text_fits) sound.questions))

rating_after : (t : Tables) (moment item from to : ℕ) (rating : Rating) (text : List ℕ) → AreSound t → RatingFits t moment item from to text
    → AreSound (record t { clock = moment; feedback = put_by feedback_key (record { item = item; from = from; to = to; rating = rating; text = text }) t.feedback })
rating_after t moment item from to rating text sound fits =
    let given : feedback.Feedback = record { item = item; from = from; to = to; rating = rating; text = text } in
    let row : ItemRow = fits.row in
    let terms = (there_fits t item row sound fits.row_there).item.terms in
    let other : IsMember (other_party row.item.terms.seller row.item.terms.leader from) = other_fits row.item.terms.seller from row.item.terms.leader terms.seller terms.leader (terms.sold_led fits.was_sold) in
    feedback_after (record t { clock = moment }) (put_by feedback_key given t.feedback) (clock_after t moment sound fits.moment_fits)
    (every_put feedback_key FeedbackFits given t.feedback sound.feedback (record {
      item = there_within t item row sound fits.row_there;
      from = member_there t from sound fits.giver_there;
      to = subst IsMember (sym fits.receiver) other;
      text = fits.text_fits;
    }))

-- numbers in turn are small
turn_small : {A : Type 0} (number : A → ℕ) (next : ℕ) (xs : List A) → AreInTurn number next xs → AllByRecursion (λ x. number x < next + length xs) xs
turn_small number next [] are = tt
turn_small number next (x ∷ xs) are =
    ((let e = are.0 in omega arith), every_as (λ x. number x < next + 1 + length xs) (λ y. number y < next + length (x ∷ xs)) xs (λ y lt. omega arith) (turn_small number (next + 1) xs are.1))

-- a band table that is set leaves those of the items that are there
table_after : (t : Tables) (moment : ℕ) (bands : List (ℕ × ℕ)) → AreSound t → TableFits t moment bands
    → AreSound (record t { clock = moment; editions = t.editions ++ record { edition = length t.editions + 2; first = length t.items + 1; bands = bands } ∷ [] })
table_after t moment bands sound fits =
    let e : Edition = record { edition = length t.editions + 2; first = length t.items + 1; bands = bands } in
    let room : length t.editions + 1 < most_editions = fits.room in
    editions_after (record t { clock = moment }) (t.editions ++ e ∷ []) (clock_after t moment sound fits.moment_fits)
    (every_more EditionFits t.editions e sound.editions (record { edition = (omega arith, omega arith); bands = fits.valid }))
    (turn_more (λ (e : Edition). e.edition) 2 t.editions e sound.editions_in_turn refl)
    (simp length-append room)
    (every_both (λ (row : ItemRow). row.item.terms.item < 1 + length t.items) (RowFits t) (RowFits (record t { editions = t.editions ++ e ∷ [] })) t.items
    (λ row small row_fits. subst (λ (b : List (ℕ × ℕ)). ItemRowFits b row) (sym (bands_more t.settings.bands t.editions e row.item.terms.item (omega arith))) row_fits)
    (turn_small (λ (row : ItemRow). row.item.terms.item) 1 t.items sound.items_in_turn) sound.items)

-- sound tables stay sound with every change that fits them
pub sound_after : (t : Tables) (change : Change) → AreSound t → ChangeFits t change → AreSound (changed t change)
unfolding changed
sound_after t (Register moment name) sound fits = register_after t moment name.now sound fits
sound_after t (AddCategory moment name) sound fits = category_after t moment name.now sound fits
sound_after t (Listed moment item) sound fits = listing_after t moment item sound fits
sound_after t (Bid moment item placed standing) sound fits = bid_after t moment item placed standing sound fits
sound_after t (Buy moment item buyer price) sound fits = purchase_after t moment item buyer price sound fits
sound_after t (Close moment) sound fits = close_after t moment sound fits
sound_after t (Settle moment item) sound fits = settlement_after t moment item sound fits
sound_after t (Watch member item) sound fits = watch_after t member item sound fits
sound_after t (Unwatch member item) sound fits = unwatch_after t member item sound
sound_after t (Ask item asker number text) sound fits = question_after t item asker number text.now sound fits
sound_after t (Answer moment item asker number text) sound fits = answer_after t moment item asker number text.now sound fits
sound_after t (Feedback moment item from to rating text) sound fits = rating_after t moment item from to rating text.now sound fits
sound_after t (SetBands moment bands) sound fits = table_after t moment bands.now sound fits
