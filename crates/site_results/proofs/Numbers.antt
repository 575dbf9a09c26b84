-- The result of a registration, a new category and a listing: a number.
use Rattle.std.proofs.Common.{Bor, ◌≡◌, ◌∷◌, ◌<◌, ◌+◌, ℕ, List, [], length, map, ◌∙◌, ◌++◌, ap, sym, arith, Option}
use Rattle.std.specs.Prelude.{Result, IfOk}
use Rattle.std.proofs.lemmas.List.{length-append, length-map}
use Rattle.house.specs.Decided.{IsAccepted}
use Rattle.house.specs.Own.{IsOf}
use Rattle.house_rows.specs.declared.change.Change.TheVariants as change
use Rattle.house_rows.specs.declared.change.NewItem.{NewItem}
use Rattle.house_rows.specs.declared.command.Command.{Command}
use Rattle.house_rows.specs.declared.command.Command.TheVariants as command
use Rattle.house_rows.specs.declared.fault.KeepFault.{KeepFault}
use Rattle.house_rows.specs.declared.settings.Settings.{Settings}
use Rattle.house_rows.specs.declared.command_result.CommandResult.{CommandResult}
use Rattle.house_rows.specs.declared.command_result.CommandResult.TheVariants.{Registered, Added, Listing, Edition}
use Rattle.house_rows.specs.Editions.{editions}
use Rattle.house_rows.specs.History.{History}
use Rattle.house_rows.specs.Items.{items_shown, shown_now}
use Rattle.house_rows.specs.Limits.{most_editions}
use Rattle.house_rows.specs.Listings.{listings, tables_set}
use Rattle.house_rows.specs.People.{categories, members}
use Rattle.house_rows.specs.Runs.{entry}
use Rattle.house_rows.specs.Tables.{Tables, row_now, tables_of}
use Rattle.house_rows.proofs.GoesBy.{set_count}
use Rattle.site_results.specs.ByTables.{IsResultBy}
use Rattle.site_results.proofs.Seen.{IsReported, ok_as, report_as}

member_reported : (settings : Settings) (h : History) (moment caller : ℕ) (name : List ℕ) (r : CommandResult)
    → r ≡ Registered (length (tables_of settings h).members + 1) → IsReported settings h moment caller (command.Register name) r
unfolding tables_of
member_reported settings h moment caller name r is =
    rw (length-append (members h) (record { member = length (members h) + 1; name = name } ∷ [])) is

pub register_reported : (t : Tables) (settings : Settings) (h : History) (moment caller : ℕ) (k : Command) (result : Result CommandResult KeepFault) (at' : ℕ) (name : Bor (List ℕ)) → t ≡ tables_of settings h
    → IsAccepted settings h moment caller k (change.Register at' name) → IsOf moment caller k (change.Register at' name)
    → IfOk result (IsResultBy t (change.Register at' name)) → IfOk result (IsReported settings h moment caller k)
register_reported t settings h moment caller k result at' name e is own value =
    ok_as (IsResultBy (tables_of settings h) (change.Register at' name)) (IsReported settings h moment caller k) result
    (λ r v. report_as settings h moment caller (command.Register name.now) k r own.same_command (member_reported settings h moment caller name.now r (v is.fits.room)))
    (rw e at value)

category_reported : (settings : Settings) (h : History) (moment caller : ℕ) (name : List ℕ) (r : CommandResult)
    → r ≡ Added (length (tables_of settings h).categories + 1) → IsReported settings h moment caller (command.AddCategory name) r
unfolding tables_of
category_reported settings h moment caller name r is =
    rw (length-append (categories h) (record { category = length (categories h) + 1; name = name } ∷ [])) is

pub add_reported : (t : Tables) (settings : Settings) (h : History) (moment caller : ℕ) (k : Command) (result : Result CommandResult KeepFault) (at' : ℕ) (name : Bor (List ℕ)) → t ≡ tables_of settings h
    → IsAccepted settings h moment caller k (change.AddCategory at' name) → IsOf moment caller k (change.AddCategory at' name)
    → IfOk result (IsResultBy t (change.AddCategory at' name)) → IfOk result (IsReported settings h moment caller k)
add_reported t settings h moment caller k result at' name e is own value =
    ok_as (IsResultBy (tables_of settings h) (change.AddCategory at' name)) (IsReported settings h moment caller k) result
    (λ r v. report_as settings h moment caller (command.AddCategory name.now) k r own.same_command (category_reported settings h moment caller name.now r (v is.fits.room)))
    (rw e at value)

-- as many items are seen as were listed
seen_count : (settings : Settings) (h : History) → length (items_shown settings h) ≡ length (listings h)
unfolding items_shown
seen_count settings h = length-map (listings h) (shown_now settings h)

item_reported : (settings : Settings) (h : History) (moment caller category : ℕ) (lot title text : List ℕ) (start : ℕ) (buy_now : Option ℕ) (end' : ℕ) (reserve : Option ℕ) (r : CommandResult)
    → r ≡ Listing (length (tables_of settings h).items + 1) → IsReported settings h moment caller (command.List category lot title text start buy_now end' reserve) r
unfolding tables_of
item_reported settings h moment caller category lot title text start buy_now end' reserve r is =
    let before : length (map (row_now settings h) (listings h)) ≡ length (listings h) = length-map (listings h) (row_now settings h) in
    rw (seen_count settings (entry moment caller (command.List category lot title text start buy_now end' reserve) ∷ h)) (
    rw (length-append (listings h) (record { item = length (listings h) + 1; seller = caller; category = category; lot = lot; title = title; text = text; start = start; buy_now = buy_now; end = end'; set = tables_set h; reserve = reserve } ∷ []))
    (rw before at is))

pub list_reported : (t : Tables) (settings : Settings) (h : History) (moment caller : ℕ) (k : Command) (result : Result CommandResult KeepFault) (at' : ℕ) (item : NewItem) → t ≡ tables_of settings h
    → IsAccepted settings h moment caller k (change.List at' item) → IsOf moment caller k (change.List at' item)
    → IfOk result (IsResultBy t (change.List at' item)) → IfOk result (IsReported settings h moment caller k)
list_reported t settings h moment caller k result at' item e is own value =
    ok_as (IsResultBy (tables_of settings h) (change.List at' item)) (IsReported settings h moment caller k) result
    (λ r v. report_as settings h moment caller (command.List item.category item.lot.now item.title.now item.text.now item.start item.buy_now item.end item.reserve) k r own.same_command
    (item_reported settings h moment caller item.category item.lot.now item.title.now item.text.now item.start item.buy_now item.end item.reserve r (v is.fits.room)))
    (rw e at value)

table_reported : (settings : Settings) (h : History) (moment caller : ℕ) (bands : List (ℕ × ℕ)) (r : CommandResult)
    → r ≡ Edition (length (tables_of settings h).editions + 2) → IsReported settings h moment caller (command.SetBands bands) r
unfolding tables_of
table_reported settings h moment caller bands r is =
    let one : length (tables_set h ++ bands ∷ []) + 1 ≡ length (editions h) + 2 = let more = length-append (tables_set h) (bands ∷ []) in let count = set_count h in omega arith in
    is ∙ ap Edition (sym one)

pub set_reported : (t : Tables) (settings : Settings) (h : History) (moment caller : ℕ) (k : Command) (result : Result CommandResult KeepFault) (at' : ℕ) (bands : Bor (List (ℕ × ℕ))) → t ≡ tables_of settings h
    → IsAccepted settings h moment caller k (change.SetBands at' bands) → IsOf moment caller k (change.SetBands at' bands)
    → (length t.editions + 1 < most_editions → IfOk result (λ r. r ≡ Edition (length t.editions + 2))) → IfOk result (IsReported settings h moment caller k)
set_reported t settings h moment caller k result at' bands e is own value =
    ok_as (λ r. r ≡ Edition (length (tables_of settings h).editions + 2)) (IsReported settings h moment caller k) result
    (λ r v. report_as settings h moment caller (command.SetBands bands.now) k r own.same_command (table_reported settings h moment caller bands.now r v))
    ((rw e at value) is.fits.room)
