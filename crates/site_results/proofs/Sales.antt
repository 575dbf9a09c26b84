-- The results of a purchase, a close and a settlement.
use Rattle.std.proofs.Common.{◌≡◌, ◌∷◌, ◌-◌, ℕ, suc, List, [], map, Bool, true, not, refl, ◌∙◌, ap, sym, inl, inr, arith, Some}
use Rattle.std.specs.Prelude.{Result, IfOk, ◌==◌, ◌&&◌, option_map}
use Rattle.std.proofs.lemmas.Bool.Decides.{nat_tests}
use Rattle.settle.specs.Fee.{fee_of}
use Rattle.house.specs.Decided.{IsAccepted}
use Rattle.house.specs.Own.{IsOf}
use Rattle.house_rows.specs.declared.change.Change.TheVariants as change
use Rattle.house_rows.specs.declared.command.Command.{Command}
use Rattle.house_rows.specs.declared.command.Command.TheVariants as command
use Rattle.house_rows.specs.declared.fault.KeepFault.{KeepFault}
use Rattle.house_rows.specs.declared.item.Terms.{Terms}
use Rattle.house_rows.specs.declared.settings.Settings.{Settings}
use Rattle.house_rows.specs.declared.command_result.CommandResult.{CommandResult}
use Rattle.house_rows.specs.declared.command_result.CommandResult.TheVariants.{Bought, Closed, Settlement}
use Rattle.house_rows.specs.Changed.{changed, is_item, with_purchase, with_settlement}
use Rattle.house_rows.specs.Found.{due_at, row_at, terms_at}
use Rattle.house_rows.specs.History.{History, counted}
use Rattle.house_rows.specs.Items.{close_sells, is_due, item_now, items_shown, shown_now}
use Rattle.house_rows.specs.Listings.{Listing, listings}
use Rattle.house_rows.specs.Tables.{ItemRow, Tables, row_now, tables_of}
use Rattle.house_rows.specs.CommandResult.{bought_result, settled_result}
use Rattle.house_rows.proofs.ChangedRows.{purchase_number, settlement_number, there_is}
use Rattle.house_rows.proofs.Put.{by_test}
use Rattle.house_rows.proofs.Shown.{shown_row}
use Rattle.site_results.specs.ByTables.{IsResultBy, settled_by}
use Rattle.site_results.proofs.Seen.{IsReported, accepted_as, ok_as, row_changed, seen_after, report_as}

numbered : (i : ℕ) (row : ItemRow) → is_item i row ≡ true → row.item.terms.item ≡ i
numbered i row here = grind (arith, nat_tests, here)

-- the row of an item after its purchase
row_bought : (t : Tables) (at' i buyer price : ℕ) (row : ItemRow) → row_at t i ≡ Some row
    → row_at (changed t (change.Buy at' i buyer price)) i ≡ Some (with_purchase i buyer price at' row)
unfolding changed
row_bought t at' i buyer price row found =
    row_changed i (with_purchase i buyer price at') row t.items (λ r. ap (λ n. n == i) (purchase_number i buyer price at' r)) found

bought_now : (t : Tables) (i buyer price at' : ℕ) (row : ItemRow) → is_item i row ≡ true
    → bought_result (Some (shown_row t (with_purchase i buyer price at' row))) ≡ Bought i price
bought_now t i buyer price at' row here = rw here (ap (λ n. Bought n price) (numbered i row here))

purchase_reported : (settings : Settings) (h : History) (moment caller at' i buyer price : ℕ) → IsAccepted settings h moment caller (command.Buy i) (change.Buy at' i buyer price)
    → IsReported settings h moment caller (command.Buy i) (Bought i price)
purchase_reported settings h moment caller at' i buyer price is =
    let fits = is.fits in
    let here = there_is (tables_of settings h) i fits.row fits.row_there in
    let now = row_bought (tables_of settings h) at' i buyer price fits.row fits.row_there in
    sym (bought_now (changed (tables_of settings h) (change.Buy at' i buyer price)) i buyer price at' fits.row here)
    ∙ ap bought_result (sym (seen_after settings h moment caller i (command.Buy i) (change.Buy at' i buyer price) (with_purchase i buyer price at' fits.row) is now))

pub buy_reported : (settings : Settings) (h : History) (moment caller : ℕ) (k : Command) (at' i buyer price : ℕ)
    → IsAccepted settings h moment caller k (change.Buy at' i buyer price) → IsOf moment caller k (change.Buy at' i buyer price)
    → IsReported settings h moment caller k (Bought i price)
buy_reported settings h moment caller k at' i buyer price is own =
    report_as settings h moment caller (command.Buy i) k (Bought i price) own.same_command
    (purchase_reported settings h moment caller at' i buyer price (accepted_as settings h moment caller (command.Buy i) k (change.Buy at' i buyer price) own.same_command is))

-- items are counted by their terms as everybody sees them and as their rows have them
counted_seen : (settings : Settings) (h : History) (p : Terms → Bool) (ls : List Listing)
    → counted (λ it. p it.item.terms) (map (shown_now settings h) ls) ≡ counted (λ row. p row.item.terms) (map (row_now settings h) ls)
counted_seen settings h p [] = refl
counted_seen settings h p (l ∷ ls) = elim (by_test (p (item_now settings h l).terms)) [
  | inl is ↦ rw is (ap suc (counted_seen settings h p ls))
  | inr not ↦ rw not (counted_seen settings h p ls)
]

due_reported : (settings : Settings) (h : History) (moment caller : ℕ)
    → IsReported settings h moment caller command.Close (Closed (due_at (tables_of settings h) moment).sold (due_at (tables_of settings h) moment).unsold)
unfolding items_shown tables_of
due_reported settings h moment caller =
    rw (
      counted_seen settings h (λ terms. is_due moment terms && close_sells terms.leader terms.met) (listings h),
      counted_seen settings h (λ terms. is_due moment terms && not (close_sells terms.leader terms.met)) (listings h),
    ) refl

pub close_reported : (t : Tables) (settings : Settings) (h : History) (moment caller : ℕ) (k : Command) (result : Result CommandResult KeepFault) (at' : ℕ) → t ≡ tables_of settings h
    → IsOf moment caller k (change.Close at') → IfOk result (λ r. r ≡ Closed (due_at t at').sold (due_at t at').unsold) → IfOk result (IsReported settings h moment caller k)
close_reported t settings h moment caller k result at' e own value =
    let due : (u : Tables) → ℕ → CommandResult = λ u n. Closed (due_at u n).sold (due_at u n).unsold in
    ok_as (λ r. r ≡ due t at') (IsReported settings h moment caller k) result
    (λ r v. report_as settings h moment caller command.Close k r own.same_command
    (v ∙ ap (λ (u : Tables). due u at') e ∙ ap (due (tables_of settings h)) own.same_moment ∙ due_reported settings h moment caller)) value

-- the row of an item after its settlement
row_settled : (t : Tables) (at' i : ℕ) (row : ItemRow) → row_at t i ≡ Some row → row_at (changed t (change.Settle at' i)) i ≡ Some (with_settlement i row)
unfolding changed
row_settled t at' i row found = row_changed i (with_settlement i) row t.items (λ r. ap (λ n. n == i) (settlement_number i r)) found

settled_now : (settings : Settings) (t : Tables) (i : ℕ) (row : ItemRow) → is_item i row ≡ true
    → settled_result settings.rate (Some (shown_row t (with_settlement i row)))
    ≡ Settlement (fee_of row.item.terms.price settings.rate) i (row.item.terms.price - fee_of row.item.terms.price settings.rate) row.item.terms.price
settled_now settings t i row here =
    let price = row.item.terms.price in
    rw here (ap (λ n. Settlement (fee_of price settings.rate) n (price - fee_of price settings.rate) price) (numbered i row here))

sale_reported : (settings : Settings) (h : History) (moment caller at' i : ℕ) (row : ItemRow) (r : CommandResult) → row_at (tables_of settings h) i ≡ Some row
    → IsAccepted settings h moment caller (command.Settle i) (change.Settle at' i) → r ≡ settled_by (tables_of settings h).settings.rate i (Some row.item.terms)
    → IsReported settings h moment caller (command.Settle i) r
unfolding tables_of
sale_reported settings h moment caller at' i row r found is tells =
    let here = there_is (tables_of settings h) i row found in
    let now = row_settled (tables_of settings h) at' i row found in
    tells
    ∙ sym (settled_now settings (changed (tables_of settings h) (change.Settle at' i)) i row here)
    ∙ ap (settled_result settings.rate) (sym (seen_after settings h moment caller i (command.Settle i) (change.Settle at' i) (with_settlement i row) is now))

pub settle_reported : (t : Tables) (settings : Settings) (h : History) (moment caller : ℕ) (k : Command) (result : Result CommandResult KeepFault) (at' i : ℕ) → t ≡ tables_of settings h
    → IsAccepted settings h moment caller k (change.Settle at' i) → IsOf moment caller k (change.Settle at' i)
    → IfOk result (IsResultBy t (change.Settle at' i)) → IfOk result (IsReported settings h moment caller k)
settle_reported t settings h moment caller k result at' i e is own value =
    let fits = is.fits in
    let terms_there : terms_at (tables_of settings h) i ≡ Some fits.row.item.terms = ap (option_map (λ (row : ItemRow). row.item.terms)) fits.row_there in
    ok_as (IsResultBy (tables_of settings h) (change.Settle at' i)) (IsReported settings h moment caller k) result
    (λ r v. report_as settings h moment caller (command.Settle i) k r own.same_command
    (sale_reported settings h moment caller at' i fits.row r fits.row_there (accepted_as settings h moment caller (command.Settle i) k (change.Settle at' i) own.same_command is) (v ∙ ap (settled_by (tables_of settings h).settings.rate i) terms_there)))
    (rw e at value)
