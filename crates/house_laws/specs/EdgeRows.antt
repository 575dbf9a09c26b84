-- Worked rows at the edges of the rules, with values worked out by hand.
use Rattle.std.specs.Prelude.{◌≡◌, ℕ, List, [], ◌∷◌, Bool, true, false, Option, Some, None, codes}
use Rattle.proxy.specs.Rules.{first_failing}
use Rattle.house_rows.specs.declared.command.Command.{Command}
use Rattle.house_rows.specs.declared.command.Command.TheVariants.{List as Listed, Bid, Buy, Close, Feedback}
use Rattle.house_rows.specs.declared.query.Query.TheVariants as query
use Rattle.house_rows.specs.declared.rating.Rating.TheVariants.{Minus, Plus}
use Rattle.house_rows.specs.declared.refusal.Refusal.{Refusal}
use Rattle.house_rows.specs.declared.refusal.Refusal.TheVariants.{AlreadyGiven, NotParty, NotSold, LotExists, Unknown, Limit, Range}
use Rattle.house_rows.specs.declared.state.State.TheVariants.{Sold}
use Rattle.house_rows.specs.History.{History}
use Rattle.house_rows.specs.declared.page.Page.TheVariants.{Feedbacks, OneItem}
use Rattle.house_rows.specs.Pages.{page_of}
use Rattle.house_rows.specs.Runs.{entry}
use Rattle.house_rows.specs.declared.command_result.CommandResult.TheVariants.{Closed, Placed, Rated}
use Rattle.house_rows.specs.Verdict.{listing_rules, verdict}
use Rattle.house_laws.specs.Examples.{and_bid, five_bids, lists, settings, setup, three_bids, with_buy_now}
use Rattle.house_laws.specs.WorkedRows.{Tells}

-- Ana lists item 2 from 1.00, and Ben bids 90.00 on it
abbrev pub with_cheap : History
with_cheap = entry 1000 1 (lists (codes "B2") 100 None) ∷ setup

abbrev pub cheap_bid : History
cheap_bid = entry 1001 2 (Bid 2 9000) ∷ with_cheap

-- a second of 24.99 has the step of 0.50, and one of 25.00 that of 1.00
abbrev pub StepBeginsAtItsBand : Type 0
StepBeginsAtItsBand =
    Tells with_cheap 1001 2 (Bid 2 9000) (Placed 1 125 (Some 2) 100)
    × Tells cheap_bid 1002 3 (Bid 2 2499) (Placed 2 2649 (Some 2) 2549)
    × Tells cheap_bid 1002 3 (Bid 2 2500) (Placed 2 2700 (Some 2) 2600)

-- Cid leads at its maximum of 10.00, and pays more with a raise, up to one step over Ben's 10.00
abbrev pub RaiseLiftsACappedPrice : Type 0
RaiseLiftsACappedPrice =
    Tells three_bids 1004 3 (Bid 1 1001) (Placed 4 1051 (Some 3) 1001)
    × Tells (and_bid 1004 3 1001 three_bids) 1005 3 (Bid 1 2000) (Placed 5 1100 (Some 3) 1050)
    × Tells five_bids 1006 3 (Bid 1 3000) (Placed 6 1100 (Some 3) 1050)

-- what a listing is refused by, where the rest of its rules fail too
abbrev pub ListingIs : Bool → Bool → Bool → ℕ → Option Refusal → Type 0
ListingIs has_lot fits has_category items report =
    first_failing (listing_rules (codes "A1") has_lot fits has_category items) ≡ report

abbrev pub ListingRulesComeInOrder : Type 0
ListingRulesComeInOrder =
    (first_failing (listing_rules (codes "A 1") true false false 1000000) ≡ Some Range)
    × ListingIs true false false 1000000 (Some LotExists)
    × ListingIs false false false 1000000 (Some Range)
    × ListingIs false true false 1000000 (Some Unknown)
    × ListingIs false true true 1000000 (Some Limit)
    × ListingIs false true true 999999 None

-- Ana lists from 5.00 until 5000
abbrev pub lists_in : ℕ → List ℕ → List ℕ → Command
lists_in category lot title = Listed category lot title [] 500 None 5000 None

-- the same over the setup: a lot with a space, one that Ana has, no title, and no such category
abbrev pub ListingsAreRefused : Type 0
ListingsAreRefused =
    (verdict settings setup 1001 1 (lists_in 2 (codes "A 1") []) ≡ Some Range)
    × (verdict settings setup 1001 1 (lists_in 2 (codes "A1") []) ≡ Some LotExists)
    × (verdict settings setup 1001 1 (lists_in 2 (codes "A2") []) ≡ Some Range)
    × (verdict settings setup 1001 1 (lists_in 2 (codes "A2") (codes "Atlas")) ≡ Some Unknown)
    × (verdict settings setup 1001 1 (lists_in 1 (codes "A2") (codes "Atlas")) ≡ None)

-- Ben buys item 2 at once for 20.00
abbrev pub bought_once : History
bought_once = entry 1001 2 (Buy 2) ∷ with_buy_now

-- a close at the end takes item 1, unsold, and nothing of what was bought, which its purchase closed
abbrev pub CloseLeavesWhatWasBought : Type 0
CloseLeavesWhatWasBought =
    Tells bought_once 5000 0 Close (Closed 0 1)
    × (page_of settings (entry 5000 0 Close ∷ bought_once) 3 (query.Item 2) ≡ OneItem (record {
      item = record {
        terms = record {
          item = 2;
          seller = 1;
          category = 1;
          start = 500;
          buy_now = Some 2000;
          end = 5000;
          state = Sold;
          closed = Some 1001;
          price = 2000;
          leader = Some 2;
          count = 0;
          met = None;
        };
        lot = codes "B2";
        title = codes "Atlas";
        text = [];
      };
      edition = 1;
      floor = None;
    }))

-- Ben rates Ana, before any close
abbrev pub rates_seller : Command
rates_seller = Feedback 2 (Some Plus) (codes "Fine")

abbrev pub buyer_rated : History
buyer_rated = entry 1002 2 rates_seller ∷ bought_once

-- Ana rates Ben
abbrev pub rates_buyer : Command
rates_buyer = Feedback 2 (Some Minus) []

-- the parties of a purchase rate each other, once each, and nobody else does
abbrev pub PartiesOfAPurchaseRateEachOther : Type 0
PartiesOfAPurchaseRateEachOther =
    (verdict settings with_buy_now 1002 2 rates_seller ≡ Some NotSold)
    × Tells bought_once 1002 2 rates_seller (Rated 2 Plus 1)
    × (verdict settings buyer_rated 1003 2 rates_seller ≡ Some AlreadyGiven)
    × (verdict settings buyer_rated 1003 3 rates_seller ≡ Some NotParty)
    × Tells buyer_rated 1003 1 rates_buyer (Rated 2 Minus 2)
    × (page_of settings (entry 1003 1 rates_buyer ∷ buyer_rated) 3 (query.FeedbackTo 2 1) ≡ Feedbacks (record { item = 2; from = 1; to = 2; rating = Minus; text = [] } ∷ []))
