-- The result of a change, by the tables that it is made to.
use Rattle.std.specs.Prelude.{◌≡◌, ◌<◌, ◌+◌, ◌-◌, ◌==◌, if◌then◌else◌, ℕ, List, ◌∷◌, IfOk, Result, Option, Some, None, length, true, false}
use Rattle.steps.specs.Table.{Band, over}
use Rattle.proxy.specs.Kept.{Kept}
use Rattle.settle.specs.Fee.{fee_of}
use Rattle.house.specs.Decided.{IsAccepted}
use Rattle.house.specs.Own.{IsOf}
use Rattle.house_rows.specs.CommandResult.{result_of}
use Rattle.house_rows.specs.History.{History}
use Rattle.house_rows.specs.Runs.{entry}
use Rattle.house_rows.specs.declared.change.Change.{Change}
use Rattle.house_rows.specs.declared.change.Change.TheVariants as change
use Rattle.house_rows.specs.declared.command.Command.{Command}
use Rattle.house_rows.specs.declared.command_result.CommandResult.{CommandResult}
use Rattle.house_rows.specs.declared.command_result.CommandResult.TheVariants as told
use Rattle.house_rows.specs.declared.fault.KeepFault.{KeepFault}
use Rattle.house_rows.specs.declared.item.Terms.{Terms}
use Rattle.house_rows.specs.declared.settings.Settings.{Settings}
use Rattle.house_rows.specs.Found.{due_at, terms_at}
use Rattle.house_rows.specs.Limits.{most_categories, most_editions, most_items, most_members}
use Rattle.house_rows.specs.Tables.{Tables, bands_for}

-- the floor that a standing leaves, whether or not bids left it: the start with no bid, else one step
-- over the price
abbrev pub kept_floor : List Band → Kept → ℕ
kept_floor bands kept = if kept.count == 0 then kept.start else over bands kept.price

-- of a settlement: the price of a sale with these terms, in its two parts by the rate, and nothing of
-- an item that isn't there
abbrev pub settled_by : ℕ → ℕ → Option Terms → CommandResult
settled_by rate item None = told.Nothing
settled_by rate item (Some terms) =
    told.Settlement (fee_of terms.price rate) item (terms.price - fee_of terms.price rate) terms.price

-- the result is the change's: the next number, where there is room for one; the standing after a bid;
-- what a close ends; the shares of a sale; and what the change itself names
abbrev pub IsResultBy : Tables → Change → CommandResult → Type 0
IsResultBy t (change.Register moment name) result =
    length t.members < most_members → result ≡ told.Registered (length t.members + 1)
IsResultBy t (change.AddCategory moment name) result =
    length t.categories < most_categories → result ≡ told.Added (length t.categories + 1)
IsResultBy t (change.List moment item) result =
    length t.items < most_items → result ≡ told.Listing (length t.items + 1)
IsResultBy t (change.Bid moment item placed standing) result =
    result ≡ told.Placed standing.count (kept_floor (bands_for t item) standing) standing.leader
    standing.price
IsResultBy t (change.Buy moment item buyer price) result = result ≡ told.Bought item price
IsResultBy t (change.Close moment) result =
    result ≡ told.Closed (due_at t moment).sold (due_at t moment).unsold
IsResultBy t (change.Settle moment item) result =
    result ≡ settled_by t.settings.rate item (terms_at t item)
IsResultBy t (change.Watch member item) result = result ≡ told.Watched item true
IsResultBy t (change.Unwatch member item) result = result ≡ told.Watched item false
IsResultBy t (change.Ask item asker number text) result = result ≡ told.Question asker item number
IsResultBy t (change.Answer moment item asker number text) result =
    result ≡ told.Question asker item number
IsResultBy t (change.Feedback moment item from to rating text) result =
    result ≡ told.Rated item rating to
IsResultBy t (change.SetBands moment bands) result =
    length t.editions + 1 < most_editions → result ≡ told.Edition (length t.editions + 2)

-- over the tables of a history: of each command that was accepted with this change, the result that
-- the history gives it
abbrev pub IsResultOver : Settings → History → Change → Result CommandResult KeepFault → Type 0
IsResultOver settings h change result =
    (moment caller : ℕ) (command : Command)
    → IsAccepted settings h moment caller command change
    → IsOf moment caller command change
    → IfOk result (λ r. r ≡ result_of settings (entry moment caller command ∷ h) moment caller command h)
