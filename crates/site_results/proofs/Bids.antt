-- The result of a bid: the standing of its item after it.
use Rattle.std.proofs.Common.{◌≡◌, ℕ, List, true, refl, ◌∙◌, ap, sym, Some}
use Rattle.std.specs.Prelude.{Result, IfOk, ◌==◌}
use Rattle.proxy.specs.Kept.{Kept}
use Rattle.proxy.specs.declared.bid.Bid as bid
use Rattle.house.specs.Decided.{IsAccepted}
use Rattle.house.specs.Own.{IsOf}
use Rattle.house_rows.specs.declared.change.Change.TheVariants as change
use Rattle.house_rows.specs.declared.command.Command.{Command}
use Rattle.house_rows.specs.declared.command.Command.TheVariants as command
use Rattle.house_rows.specs.declared.fault.KeepFault.{KeepFault}
use Rattle.house_rows.specs.declared.settings.Settings.{Settings}
use Rattle.house_rows.specs.declared.state.State.TheVariants.{Open}
use Rattle.house_rows.specs.declared.command_result.CommandResult.{CommandResult}
use Rattle.house_rows.specs.declared.command_result.CommandResult.TheVariants.{Placed}
use Rattle.house_rows.specs.Changed.{changed, is_item, with_standing}
use Rattle.house_rows.specs.Found.{row_at}
use Rattle.house_rows.specs.History.{History}
use Rattle.house_rows.specs.Items.{shown}
use Rattle.house_rows.specs.Tables.{ItemRow, Tables, bands_for, edition_for, tables_of}
use Rattle.house_rows.specs.CommandResult.{placed_result}
use Rattle.house_rows.proofs.ChangedRows.{standing_number, there_is, there_numbered}
use Rattle.house_rows.proofs.Shown.{shown_row}
use Rattle.site_results.specs.ByTables.{kept_floor}
use Rattle.site_results.proofs.Seen.{IsReported, accepted_as, ok_as, row_changed, seen_after, report_as}

-- the row of the item after the bid
row_after : (t : Tables) (at' i : ℕ) (placed : bid.Bid) (kept : Kept) (row : ItemRow) → row_at t i ≡ Some row
    → row_at (changed t (change.Bid at' i placed kept)) i ≡ Some (with_standing i kept row)
unfolding changed
row_after t at' i placed kept row found = row_changed i (with_standing i kept) row t.items (λ r. ap (λ n. n == i) (standing_number i kept r)) found

-- what its row says
placed_now : (edition : ℕ) (bands : List (ℕ × ℕ)) (i : ℕ) (kept : Kept) (row : ItemRow) → is_item i row ≡ true → row.item.terms.state ≡ Open
    → row.item.terms.start ≡ kept.start
    → placed_result (Some (shown edition bands (with_standing i kept row).item)) ≡ Placed kept.count (kept_floor bands kept) kept.leader kept.price
placed_now edition bands i kept row here opened same = rw (here, opened, same) refl

-- by the band table of its number
placed_by : (t : Tables) (i : ℕ) (kept : Kept) (row : ItemRow) → row_at t i ≡ Some row → row.item.terms.state ≡ Open
    → row.item.terms.start ≡ kept.start
    → placed_result (Some (shown_row t (with_standing i kept row))) ≡ Placed kept.count (kept_floor (bands_for t i) kept) kept.leader kept.price
placed_by t i kept row there opened same =
    let numbered : (with_standing i kept row).item.terms.item ≡ i = standing_number i kept row ∙ there_numbered t i row there in
    ap (λ (n : ℕ). placed_result (Some (shown (edition_for t n) (bands_for t n) (with_standing i kept row).item))) numbered
    ∙ placed_now (edition_for t i) (bands_for t i) i kept row (there_is t i row there) opened same

-- the result is what the standing after the bid says
telling : (settings : Settings) (h : History) (moment caller at' i : ℕ) (placed : bid.Bid) (kept : Kept)
    → IsAccepted settings h moment caller (command.Bid i placed.maximum) (change.Bid at' i placed kept)
    → IsReported settings h moment caller (command.Bid i placed.maximum) (Placed kept.count (kept_floor (bands_for (tables_of settings h) i) kept) kept.leader kept.price)
unfolding changed
telling settings h moment caller at' i placed kept is =
    let fits = is.fits in
    let start : fits.row.item.terms.start ≡ kept.start = sym (ap (λ (k : Kept). k.start) fits.is_consistent_after) in
    let now = row_after (tables_of settings h) at' i placed kept fits.row fits.row_there in
    sym (placed_by (tables_of settings h) i kept fits.row fits.row_there fits.is_open start)
    ∙ ap placed_result (sym (seen_after settings h moment caller i (command.Bid i placed.maximum) (change.Bid at' i placed kept) (with_standing i kept fits.row) is now))

pub bid_reported : (t : Tables) (settings : Settings) (h : History) (moment caller : ℕ) (k : Command) (result : Result CommandResult KeepFault) (at' i : ℕ) (placed : bid.Bid) (kept : Kept) → t ≡ tables_of settings h
    → IsAccepted settings h moment caller k (change.Bid at' i placed kept) → IsOf moment caller k (change.Bid at' i placed kept)
    → IfOk result (λ r. r ≡ Placed kept.count (kept_floor (bands_for t i) kept) kept.leader kept.price)
    → IfOk result (IsReported settings h moment caller k)
bid_reported t settings h moment caller k result at' i placed kept e is own value =
    let own_bid = accepted_as settings h moment caller (command.Bid i placed.maximum) k (change.Bid at' i placed kept) own.same_command is in
    ok_as (λ r. r ≡ Placed kept.count (kept_floor (bands_for (tables_of settings h) i) kept) kept.leader kept.price) (IsReported settings h moment caller k) result
    (λ r v. report_as settings h moment caller (command.Bid i placed.maximum) k r own.same_command (v ∙ telling settings h moment caller at' i placed kept own_bid))
    (rw e at value)
