-- A band table that is set changes nothing that anybody sees of items.
use Rattle.std.proofs.Common.{◌≡◌, ℕ, List, ◌∷◌, map, filter, false, refl, ◌∙◌, ap}
use Rattle.std.specs.Prelude.{is_some, nat_lt}
use Rattle.std.proofs.lemmas.List.{append-nil}
use Rattle.house_rows.specs.declared.command.Command.TheVariants.{SetBands}
use Rattle.house_rows.specs.declared.item.ItemShown.{ItemShown}
use Rattle.house_rows.specs.declared.item.OwnBid.{OwnBid}
use Rattle.house_rows.specs.declared.query.Query.{Query}
use Rattle.house_rows.specs.declared.query.Query.TheVariants as query
use Rattle.house_rows.specs.declared.settings.Settings.{Settings}
use Rattle.house_rows.specs.declared.talk.Question.{Question}
use Rattle.house_rows.specs.Bids.{bids_on}
use Rattle.house_rows.specs.History.{History}
use Rattle.house_rows.specs.Items.{items_shown, shown_now}
use Rattle.house_rows.specs.Listings.{Listing, listings}
use Rattle.house_rows.specs.Pages.{own_bid, own_bids, page_of, reserves_shown, report_reserve}
use Rattle.house_rows.specs.People.{categories, members}
use Rattle.house_rows.specs.Questions.{answers, published, questions, waiting}
use Rattle.house_rows.specs.Runs.{entry}
use Rattle.house_rows.specs.Views.{own_reserves, own_watches}
use Rattle.house_rows.proofs.Lists.{map_same}
use Rattle.house_laws.specs.Reads.{tells_clock_or_bands}

shown_still : (settings : Settings) (h : History) (t c : ℕ) (bands : List (ℕ × ℕ)) (l : Listing) → shown_now settings (entry t c (SetBands bands) ∷ h) l ≡ shown_now settings h l
shown_still settings h t c bands l = simp append-nil refl

pub items_still : (settings : Settings) (h : History) (t c : ℕ) (bands : List (ℕ × ℕ)) → items_shown settings (entry t c (SetBands bands) ∷ h) ≡ items_shown settings h
unfolding items_shown
items_still settings h t c bands =
    ap (map (shown_now settings (entry t c (SetBands bands) ∷ h))) (append-nil (listings h))
    ∙ map_same (shown_now settings (entry t c (SetBands bands) ∷ h)) (shown_now settings h) (listings h) (shown_still settings h t c bands)

questions_still : (h : History) (t c : ℕ) (bands : List (ℕ × ℕ)) → questions (entry t c (SetBands bands) ∷ h) ≡ questions h
unfolding questions
questions_still h t c bands = rw (append-nil (answers h)) refl

published_still : (h : History) (t c : ℕ) (bands : List (ℕ × ℕ)) → published (entry t c (SetBands bands) ∷ h) ≡ published h
unfolding published
published_still h t c bands = ap (filter (λ (q : Question). is_some q.answer)) (questions_still h t c bands)

waiting_still : (h : History) (t c : ℕ) (bands : List (ℕ × ℕ)) (d : ℕ) → waiting (entry t c (SetBands bands) ∷ h) d ≡ waiting h d
unfolding waiting
waiting_still h t c bands d = rw (append-nil (listings h), questions_still h t c bands) refl

own_watches_still : (h : History) (t c : ℕ) (bands : List (ℕ × ℕ)) (d : ℕ) → own_watches (entry t c (SetBands bands) ∷ h) d ≡ own_watches h d
unfolding own_watches
own_watches_still h t c bands d = refl

one_bid_still : (h : History) (t c : ℕ) (bands : List (ℕ × ℕ)) (d : ℕ) (it : ItemShown) → own_bid (entry t c (SetBands bands) ∷ h) d it.item.terms ≡ own_bid h d it.item.terms
one_bid_still h t c bands d it = rw (append-nil (bids_on h it.item.terms.item)) refl

own_bids_still : (h : History) (t c : ℕ) (bands : List (ℕ × ℕ)) (d : ℕ) (its : List ItemShown) → own_bids (entry t c (SetBands bands) ∷ h) d its ≡ own_bids h d its
unfolding own_bids
own_bids_still h t c bands d its =
    ap (filter (λ (b : OwnBid). nat_lt 0 b.mine))
    (map_same (λ (it : ItemShown). own_bid (entry t c (SetBands bands) ∷ h) d it.item.terms) (λ (it : ItemShown). own_bid h d it.item.terms) its (one_bid_still h t c bands d))

own_reserves_still : (h : History) (t c : ℕ) (bands : List (ℕ × ℕ)) (d : ℕ) → own_reserves (entry t c (SetBands bands) ∷ h) d ≡ own_reserves h d
unfolding own_reserves
own_reserves_still h t c bands d = rw (append-nil (listings h)) refl

reserves_still : (h : History) (t c : ℕ) (bands : List (ℕ × ℕ)) (d : ℕ) (its : List ItemShown) → reserves_shown (entry t c (SetBands bands) ∷ h) d its ≡ reserves_shown h d its
unfolding reserves_shown
reserves_still h t c bands d its = ap (map (report_reserve its)) (own_reserves_still h t c bands d)

-- nor does it change any page that shows neither the clock nor a band table
pub pages_still : (settings : Settings) (h : History) (t c : ℕ) (bands : List (ℕ × ℕ)) (d : ℕ) (q : Query) → tells_clock_or_bands q ≡ false
    → page_of settings (entry t c (SetBands bands) ∷ h) d q ≡ page_of settings h d q
unfolding page_of
pages_still settings h t c bands d query.House not = cc
pages_still settings h t c bands d query.Bands not = cc
pages_still settings h t c bands d (query.BandsOf edition) not = cc
pages_still settings h t c bands d query.Categories not = rw (append-nil (members h), append-nil (categories h)) refl
pages_still settings h t c bands d (query.ItemsIn category from) not = rw (append-nil (members h), append-nil (categories h), items_still settings h t c bands) refl
pages_still settings h t c bands d (query.Item i) not = rw (append-nil (members h), items_still settings h t c bands) refl
pages_still settings h t c bands d (query.Questions i from) not = rw (append-nil (members h), items_still settings h t c bands, published_still h t c bands) refl
pages_still settings h t c bands d (query.Member m) not = rw (append-nil (members h)) refl
pages_still settings h t c bands d (query.FeedbackTo m from) not = rw (append-nil (members h)) refl
pages_still settings h t c bands d (query.MyBids from) not =
    rw (append-nil (members h), items_still settings h t c bands, own_bids_still h t c bands d (items_shown settings h)) refl
pages_still settings h t c bands d (query.MyReserves from) not =
    rw (append-nil (members h), items_still settings h t c bands, reserves_still h t c bands d (items_shown settings h)) refl
pages_still settings h t c bands d query.MyWatches not = rw (append-nil (members h), items_still settings h t c bands, own_watches_still h t c bands d) refl
pages_still settings h t c bands d (query.MyQuestions from) not = rw (append-nil (members h), questions_still h t c bands) refl
pages_still settings h t c bands d query.MyWaiting not = rw (append-nil (members h), waiting_still h t c bands d) refl
pages_still settings h t c bands d (query.MyStatement from to) not = rw (append-nil (members h), items_still settings h t c bands) refl
