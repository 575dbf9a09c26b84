-- Wrong readings of the rules, written as definitions, and where each differs from the right one.
use Rattle.std.specs.Prelude.{◌≡◌, ℕ, ◌+◌, ◌*◌, ◌/◌, List, [], ◌∷◌, Bool, true, false, ◌==◌, ◌&&◌, nat_le, nat_lt, filter, find, length, option_map, reverse, Option, Some, None, codes}
use Rattle.std.specs.List.{list_any}
use Rattle.settle.specs.Fee.{fee_of}
use Rattle.steps.specs.Example.{example_table}
use Rattle.steps.specs.Table.{Band, step_at}
use Rattle.proxy.specs.declared.bid.Bid.{Bid as Placed}
use Rattle.proxy.specs.Bids.{first_at, greatest, greatest_if_any, leader, maxima, price, second, top}
use Rattle.house_rows.specs.declared.command.Command.TheVariants.{Close, Watch, Ask}
use Rattle.house_rows.specs.History.{History, clock}
use Rattle.house_rows.specs.Bids.{bids_on}
use Rattle.house_rows.specs.Items.{closings, is_taken}
use Rattle.house_rows.specs.Listings.{Listing, listing_at, listings}
use Rattle.house_rows.specs.Questions.{Asked, ask_count, asked}
use Rattle.house_rows.specs.Runs.{entry}
use Rattle.house_laws.specs.Examples.{and_bid, asked_twice, one_bid, setup, three_bids}

-- of equal maxima the later leads
abbrev pub leader_by_the_later : List Placed → Option ℕ
leader_by_the_later bids = first_at (top bids) (reverse bids)

-- of equal maxima the one whose first bid came first leads
abbrev pub leader_by_first_bid : List Placed → Option ℕ
leader_by_first_bid bids = option_map (λ (b : Placed). b.member) (find (λ b. greatest bids b.member == top bids) bids)

abbrev pub TiesGoToTheEarlier : Type 0
TiesGoToTheEarlier =
    (leader (bids_on three_bids 1) ≡ Some 3)
    × (leader_by_the_later (bids_on three_bids 1) ≡ Some 2)
    × (leader_by_first_bid (bids_on three_bids 1) ≡ Some 2)

-- the greatest of all maxima but the greatest, whoever bid them
abbrev pub second_of_all : List Placed → Option ℕ
second_of_all bids = greatest_if_any (filter (λ m. nat_lt m (top bids)) (maxima bids))

abbrev pub RaisesAreNoSecondBidder : Type 0
RaisesAreNoSecondBidder =
    (second (bids_on (and_bid 1002 2 3000 one_bid) 1) ≡ None)
    × (second_of_all (bids_on (and_bid 1002 2 3000 one_bid) 1) ≡ Some 500)

-- one step, at the price so far, over the second
abbrev pub price_by_old_step : List Band → ℕ → ℕ → ℕ
price_by_old_step bands old second = second + step_at bands old

abbrev pub StepsAreTakenAtTheSecond : Type 0
StepsAreTakenAtTheSecond =
    (price example_table (record { start = 500; reserve = None }) (bids_on (and_bid 1002 3 2500 (and_bid 1001 2 9000 setup)) 1) ≡ 2600)
    × (price_by_old_step example_table 500 2500 ≡ 2550)

-- a question's number among all on its item
abbrev pub number_among_all : List Asked → ℕ → ℕ
number_among_all asked i = length (filter (λ q. q.item == i) asked) + 1

abbrev pub QuestionNumbersAreNotShared : Type 0
QuestionNumbersAreNotShared =
    (ask_count (asked asked_twice) 2 1 + 1 ≡ 2) × (number_among_all (asked asked_twice) 1 ≡ 3)

-- the moment of the newest entry
abbrev pub clock_of_all : History → ℕ
clock_of_all [] = 0
clock_of_all (e ∷ h) = e.moment

abbrev pub WatchAndAskLeaveTheClock : Type 0
WatchAndAskLeaveTheClock =
    (clock (entry 3000 2 (Watch 1) ∷ setup) ≡ 1000)
    × (clock_of_all (entry 3000 2 (Watch 1) ∷ setup) ≡ 3000)
    × (clock (entry 3000 2 (Ask 1 (codes "Why?")) ∷ setup) ≡ 1000)
    × (clock_of_all (entry 3000 2 (Ask 1 (codes "Why?")) ∷ setup) ≡ 3000)

-- a close takes only what ended before its moment
abbrev pub is_taken_late : History → Listing → Bool
is_taken_late h l = list_any (λ c. nat_le l.item c.listed && nat_lt l.end c.moment) (closings h)

abbrev pub CloseTakesWhatEndsNow : Type 0
CloseTakesWhatEndsNow =
    (option_map (is_taken (entry 5000 0 Close ∷ setup)) (listing_at (listings setup) 1) ≡ Some true)
    × (option_map (is_taken_late (entry 5000 0 Close ∷ setup)) (listing_at (listings setup) 1) ≡ Some false)

-- the fee rounded up
abbrev pub fee_up : ℕ → ℕ → ℕ
fee_up price rate = (price * rate + 9999) / 10000

abbrev pub FeesAreRoundedDown : Type 0
FeesAreRoundedDown = (fee_of 999 1000 ≡ 99) × (fee_up 999 1000 ≡ 100)
