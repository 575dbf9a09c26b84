-- Worked rows of a reserve, with values worked out by hand.
use Rattle.std.specs.Prelude.{◌≡◌, ℕ, List, [], ◌∷◌, ◌++◌, Bool, true, false, option_map, Option, Some, None, codes}
use Rattle.house_rows.specs.declared.command.Command.{Command}
use Rattle.house_rows.specs.declared.command.Command.TheVariants.{List as Listed, Bid, Close}
use Rattle.house_rows.specs.declared.item.ItemShown.{ItemShown}
use Rattle.house_rows.specs.declared.message.Message.{Message}
use Rattle.house_rows.specs.declared.message.Message.TheVariants.{Write, Read}
use Rattle.house_rows.specs.declared.page.Page.TheVariants.{Refused, Reserves}
use Rattle.house_rows.specs.declared.query.Query.TheVariants as query
use Rattle.house_rows.specs.declared.refusal.Refusal.TheVariants.{NoCaller, Range}
use Rattle.house_rows.specs.declared.state.State.{State}
use Rattle.house_rows.specs.declared.state.State.TheVariants.{Open, Unsold}
use Rattle.house_rows.specs.declared.command_result.CommandResult.TheVariants.{Closed, Placed}
use Rattle.house_rows.specs.History.{History}
use Rattle.house_rows.specs.Items.{items_shown, shown_at}
use Rattle.house_rows.specs.Pages.{page_of}
use Rattle.house_rows.specs.Runs.{Twin, entry}
use Rattle.house_rows.specs.Verdict.{verdict}
use Rattle.house_laws.specs.Examples.{settings, setup}
use Rattle.house_laws.specs.TwinRuns.{setup_messages}
use Rattle.house_laws.specs.WorkedRows.{Tells}

-- Ana lists item 2 from 5.00 until 6000, with a reserve
abbrev pub lists_reserved : ℕ → Command
lists_reserved reserve = Listed 1 (codes "B2") (codes "Globe") [] 500 None 6000 (Some reserve)

-- a reserve of 9.00
abbrev pub reserved : History
reserved = entry 1000 1 (lists_reserved 900) ∷ setup

-- Ben bids 7.00
abbrev pub bid_under : History
bid_under = entry 1001 2 (Bid 2 700) ∷ reserved

-- then Cid bids 7.50
abbrev pub bids_under : History
bids_under = entry 1002 3 (Bid 2 750) ∷ bid_under

-- what everybody sees of item 2: its state, its leader, its price, and whether its reserve is met
abbrev pub item_reported : ItemShown → State × Option ℕ × ℕ × Option Bool
item_reported it = (it.item.terms.state, it.item.terms.leader, it.item.terms.price, it.item.terms.met)

abbrev pub Shows : History → State × Option ℕ × ℕ × Option Bool → Type 0
Shows h report = option_map item_reported (shown_at (items_shown settings h) 2) ≡ Some report

-- an item with no bid shows its start, and that its reserve isn't met; one without a reserve shows nothing of it
abbrev pub UnbidReserveIsUnmet : Type 0
UnbidReserveIsUnmet =
    Shows reserved (Open, None, 500, Some false)
    × (option_map item_reported (shown_at (items_shown settings reserved) 1) ≡ Some (Open, None, 500, None))

-- bids under the reserve come to the price that they come to without one
abbrev pub UnmetReserveLeavesThePrice : Type 0
UnmetReserveLeavesThePrice =
    Tells reserved 1001 2 (Bid 2 700) (Placed 1 550 (Some 2) 500)
    × Shows bid_under (Open, Some 2, 500, Some false)
    × Tells bid_under 1002 3 (Bid 2 750) (Placed 2 800 (Some 3) 750)
    × Shows bids_under (Open, Some 3, 750, Some false)

-- a bid that meets it raises the price to it
abbrev pub MetReserveIsThePrice : Type 0
MetReserveIsThePrice =
    Tells bids_under 1003 2 (Bid 2 1000) (Placed 3 950 (Some 2) 900)
    × Shows (entry 1003 2 (Bid 2 1000) ∷ bids_under) (Open, Some 2, 900, Some true)

-- so does a raise, however far
abbrev pub RaiseMeetsTheReserve : Type 0
RaiseMeetsTheReserve =
    Tells bid_under 1002 2 (Bid 2 900) (Placed 2 950 (Some 2) 900)
    × Tells (entry 1002 2 (Bid 2 900) ∷ bid_under) 1003 2 (Bid 2 5000) (Placed 3 950 (Some 2) 900)

-- an item whose reserve isn't met isn't sold, and shows its leader and price as before
abbrev pub UnmetReserveIsNotSold : Type 0
UnmetReserveIsNotSold =
    Tells bids_under 6000 0 Close (Closed 0 2)
    × Shows (entry 6000 0 Close ∷ bids_under) (Unsold, Some 3, 750, Some false)

-- a reserve is above the start, and at most the buy-now price
abbrev pub ReserveIsInRange : Type 0
ReserveIsInRange =
    (verdict settings setup 1000 1 (Listed 1 (codes "B2") (codes "Globe") [] 500 None 6000 (Some 500)) ≡ Some Range)
    × (verdict settings setup 1000 1 (Listed 1 (codes "B2") (codes "Globe") [] 500 None 6000 (Some 501)) ≡ None)
    × (verdict settings setup 1000 1 (Listed 1 (codes "B2") (codes "Globe") [] 500 (Some 900) 6000 (Some 900)) ≡ None)
    × (verdict settings setup 1000 1 (Listed 1 (codes "B2") (codes "Globe") [] 500 (Some 900) 6000 (Some 901)) ≡ Some Range)

-- Ana is shown its reserve, Ben and the house aren't
abbrev pub ReservesAreTheSellers : Type 0
ReservesAreTheSellers =
    (page_of settings bid_under 1 (query.MyReserves 1) ≡ Reserves (record { item = 2; met = false; reserve = 900 } ∷ []))
    × (page_of settings bid_under 1 (query.MyReserves 3) ≡ Reserves [])
    × (page_of settings bid_under 2 (query.MyReserves 1) ≡ Reserves [])
    × (page_of settings bid_under 0 (query.MyReserves 1) ≡ Refused NoCaller)

-- Ana lists item 2 with a reserve, Ben bids 7.00 on it, and reads it
abbrev pub run_reserved : {F : Type 0} → ℕ → List (Message F)
run_reserved reserve = setup_messages ++
    (Write 1000 1 (lists_reserved reserve) ∷ Write 1001 2 (Bid 2 700) ∷ Read 2 (query.Item 2) ∷ [])

-- Ben can't know whether the reserve is 9.00 or 20.00
abbrev pub SealedReservesMakeTwins : Type 0 → Type 0
SealedReservesMakeTwins F = Twin {F = F} settings 2 (run_reserved 900) (run_reserved 2000)

-- but it can distinguish 6.00, which its bid meets
abbrev pub MetReserveMakesNoTwin : Type 0 → Type 0
MetReserveMakesNoTwin F = Twin {F = F} settings 2 (run_reserved 900) (run_reserved 600) → ⊥

-- to Ana, whose own message differs, the runs are no twins
abbrev pub OwnReserveMakesNoTwin : Type 0 → Type 0
OwnReserveMakesNoTwin F = Twin {F = F} settings 1 (run_reserved 900) (run_reserved 2000) → ⊥
