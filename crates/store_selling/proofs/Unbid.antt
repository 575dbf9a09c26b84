-- What the rows of an item say before it is settled or bought.
use Rattle.proxy.specs.Opening.{Opening}
use Rattle.std.proofs.Common.{◌≡◌, ◌≤◌, ◌<◌, ◌^◌, ℕ, Bool, true, not, ◌&&◌, List, [], ◌∷◌, find, length, option_map, Option, Some, None, refl, sym, ap, subst, ◌∙◌, arith, true≢false}
use Rattle.std.specs.Prelude.{◌==◌, is_some}
use Rattle.std.proofs.lemmas.Bool.Decides.{nat_tests}
use Rattle.sqlite_trees.specs.Tree.{Trees}
use Rattle.sqlite_keyed.proofs.RuleLemmas.{first_of_both, second_of_both}
use Rattle.sqlite.specs.Effect.{Database}
use Rattle.proxy.specs.Bids.{standing_of}
use Rattle.proxy.specs.Kept.{Kept}
use Rattle.proxy.specs.declared.bid.Bid.{Bid}
use Rattle.proxy.proofs.Placed.{standing-none}
use Rattle.house_rows.specs.Asks.{PurchaseFits}
use Rattle.house_rows.specs.Changed.{is_item}
use Rattle.house_rows.specs.declared.auction.Auction.{Auction}
use Rattle.house_rows.specs.declared.item.Terms.{Terms}
use Rattle.house_rows.specs.Fits.{TermsFit}
use Rattle.house_rows.specs.Found.{auction_of}
use Rattle.house_rows.specs.Editions.{BandTables, bands_in}
use Rattle.house_rows.specs.Limits.{most_cents}
use Rattle.house_rows.specs.Tables.{ItemRow, row_opening}
use Rattle.store_rows.specs.House.{IsHouse}
use Rattle.store_rows.specs.ItemRows.{items_in}
use Rattle.store_items.specs.Items.{OfItem}
use Rattle.store_rows.specs.Tables.{tables_in}
use Rattle.store_items.specs.ConsistentRows.{RowFitsAt}
use Rattle.store_selling.specs.Sales.{IsUnbid, StartFits}
use Rattle.store_items.proofs.Rows.{begins, item_fits, item_there, of_found, whole}

-- terms that fit have a start that fits
pub start_checked : (db : Database) → IsHouse db → (n : ℕ) → n < 2 ^ 32 → (t : Terms) → option_map (λ (row : ItemRow). row.item.terms) (find (is_item n) (items_in db.trees)) ≡ Some t → TermsFit t → OfItem n StartFits db
start_checked db house n low t found fits =
    let row = whole (λ (row : ItemRow). row.item.terms) (find (is_item n) (items_in db.trees)) t found in
    of_found StartFits db house n low row.0 row.1 (subst (λ (terms : Terms). terms.start ≤ most_cents) (sym row.2) fits.start.1)

-- ---- an item on which nobody has bid

abbrev pub is_unbid : ℕ → Kept → Bool
is_unbid start s = (s.price == start) && not (is_some s.leader) && not (is_some s.top)

no_one : (o : Option ℕ) → not (is_some o) ≡ true → o ≡ None
no_one None h = refl
no_one (Some n) h = absurd (true≢false (sym h))

unbid_is : (start : ℕ) (s : Kept) → is_unbid start s ≡ true → (s.price ≡ start) × (s.leader ≡ None) × (s.top ≡ None)
unbid_is start s is =
    let two = first_of_both ((s.price == start) && not (is_some s.leader)) (not (is_some s.top)) is in
    let one = first_of_both (s.price == start) (not (is_some s.leader)) two in
    (grind (arith, nat_tests, one), no_one s.leader (second_of_both (s.price == start) (not (is_some s.leader)) two), no_one s.top (second_of_both ((s.price == start) && not (is_some s.leader)) (not (is_some s.top)) is))

pub unbid_checked : (db : Database) → IsHouse db → (n : ℕ) → n < 2 ^ 32 → (a : Auction) → option_map auction_of (find (is_item n) (items_in db.trees)) ≡ Some a → TermsFit a.terms → is_unbid a.terms.start a.standing ≡ true → OfItem n IsUnbid db
unbid_checked db house n low a found fits is =
    let row = whole auction_of (find (is_item n) (items_in db.trees)) a found in
    let terms : row.0.item.terms ≡ a.terms = ap (λ (x : Auction). x.terms) row.2 in
    let standing : row.0.standing ≡ a.standing = ap (λ (x : Auction). x.standing) row.2 in
    let within = subst (λ (t : Terms). t.start ≤ most_cents) (sym terms) fits.start.1 in
    let report = unbid_is a.terms.start a.standing is in
    of_found IsUnbid db house n low row.0 row.1 (
      within,
      ap (λ (k : Kept). k.price) standing ∙ report.0 ∙ sym (ap (λ (t : Terms). t.start) terms) ∙ sym (ap (λ (o : Opening). o.start) (begins db n row.0 row.1 within)),
      ap (λ (k : Kept). k.leader) standing ∙ report.1,
      ap (λ (k : Kept). k.top) standing ∙ report.2,
    )

-- of an item that may be bought the row says so
pub purchase_unbid : (db : Trees) (editions : BandTables) (moment item buyer price : ℕ) (a : Auction) → RowFitsAt editions db item → PurchaseFits (tables_in db) moment item buyer price → option_map auction_of (find (is_item item) (items_in db)) ≡ Some a
    → is_unbid a.terms.start a.standing ≡ true
purchase_unbid db editions moment item buyer price a here p found =
    let there = item_there db item p.row p.row_there in
    let found' : Some (auction_of p.row) ≡ Some a = ap (option_map auction_of) (sym there) ∙ found in
    let same : auction_of p.row ≡ a = cc in
    let fits = item_fits db editions item p.row here p.row_there in
    let bands : List (ℕ × ℕ) = bands_in editions p.row.item.terms.item in
    let none : length fits.bids ≡ 0 = sym fits.count ∙ p.no_bid in
    let report : a.standing ≡ record { start = p.row.item.terms.start; reserve = p.row.standing.reserve; price = p.row.item.terms.start; leader = None; top = None; second = None; count = 0 } =
    sym (ap (λ (x : Auction). x.standing) same) ∙ fits.is_consistent ∙ ap (standing_of bands (row_opening p.row)) (no_bids fits.bids none) ∙ standing-none bands (row_opening p.row) in
    let start : a.terms.start ≡ p.row.item.terms.start = sym (ap (λ (x : Auction). x.terms.start) same) in
    rw (report, start) (let e : (p.row.item.terms.start == p.row.item.terms.start) ≡ true = grind (arith, nat_tests) in rw e refl)
  where
    no_bids : (bids : List Bid) → length bids ≡ 0 → bids ≡ []
    no_bids [] e = refl
    no_bids (b ∷ bids) e = absurd (omega (arith, e))
