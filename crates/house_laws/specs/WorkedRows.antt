-- Worked rows: what the definitions come to on literal histories, with values worked out by hand.
use Rattle.std.specs.Prelude.{◌≡◌, ℕ, [], ◌∷◌, false, Some, None, codes}
use Rattle.house_rows.specs.declared.command.Command.{Command}
use Rattle.house_rows.specs.declared.command.Command.TheVariants.{Register, AddCategory, Bid, Buy, Close, Settle, Watch, Ask, Answer, Feedback}
use Rattle.house_rows.specs.declared.page.Page.TheVariants.{Bids, OneItem, Questions}
use Rattle.house_rows.specs.declared.query.Query.TheVariants as query
use Rattle.house_rows.specs.declared.rating.Rating.TheVariants.{Plus}
use Rattle.house_rows.specs.declared.refusal.Refusal.TheVariants.{NoCaller, HouseOnly, SellerOnly, Unknown, MomentBehind, Ended, NotOpen, OwnItem, Low, NotHigher, HasBids, NoBuyNow, LotExists, NameTaken, AlreadyAnswered, AlreadyGiven, NotParty, NotSold, Range}
use Rattle.house_rows.specs.declared.state.State.TheVariants.{Open}
use Rattle.house_rows.specs.declared.command_result.CommandResult.{CommandResult}
use Rattle.house_rows.specs.declared.command_result.CommandResult.TheVariants.{Bought, Closed, Placed, Question, Rated, Settlement}
use Rattle.house_rows.specs.History.{History}
use Rattle.house_rows.specs.Pages.{page_of}
use Rattle.house_rows.specs.Runs.{entry}
use Rattle.house_rows.specs.CommandResult.{result_of}
use Rattle.house_rows.specs.Verdict.{verdict}
use Rattle.house_laws.specs.Examples.{and_bid, answered_once, asked_twice, five_bids, lists, one_bid, rated_once, settings, settled_once, setup, sold_once, three_bids, two_bids, with_buy_now}

-- the command is accepted, and this is its result
abbrev pub Tells : History → ℕ → ℕ → Command → CommandResult → Type 0
Tells h moment caller command t =
    (verdict settings h moment caller command ≡ None) × (result_of settings (entry moment caller command ∷ h) moment caller command h ≡ t)

abbrev pub Accepts : History → ℕ → ℕ → Command → Type 0
Accepts h moment caller command = verdict settings h moment caller command ≡ None

abbrev pub ItemIsShown : Type 0
ItemIsShown = page_of settings setup 2 (query.Item 1) ≡ OneItem (record {
  item = record {
    terms = record {
      item = 1;
      seller = 1;
      category = 1;
      start = 500;
      buy_now = None;
      end = 5000;
      state = Open;
      closed = None;
      price = 500;
      leader = None;
      count = 0;
      met = None;
    };
    lot = codes "A1";
    title = codes "Atlas";
    text = [];
  };
  edition = 1;
  floor = Some 500;
})

abbrev pub FirstBidTakesTheStart : Type 0
FirstBidTakesTheStart = Tells setup 1001 2 (Bid 1 500) (Placed 1 550 (Some 2) 500)

abbrev pub LowBidIsRefused : Type 0
LowBidIsRefused = verdict settings one_bid 1002 3 (Bid 1 549) ≡ Some (Low 550)

abbrev pub HigherBidPaysOneStepOver : Type 0
HigherBidPaysOneStepOver = Tells one_bid 1002 3 (Bid 1 1000) (Placed 2 600 (Some 3) 550)

abbrev pub EqualMaximumKeepsTheEarlierLeader : Type 0
EqualMaximumKeepsTheEarlierLeader = Tells two_bids 1003 2 (Bid 1 1000) (Placed 3 1050 (Some 3) 1000)

-- order of acceptance decides, and not the moment
abbrev pub EqualMaximumAtOneMomentKeepsTheEarlierLeader : Type 0
EqualMaximumAtOneMomentKeepsTheEarlierLeader = Tells two_bids 1002 2 (Bid 1 1000) (Placed 3 1050 (Some 3) 1000)

abbrev pub RaiseIsNoSecondBidder : Type 0
RaiseIsNoSecondBidder = Tells one_bid 1002 2 (Bid 1 3000) (Placed 2 550 (Some 2) 500)

abbrev pub GreatRaisePaysOneStepOver : Type 0
GreatRaisePaysOneStepOver = Tells three_bids 1004 3 (Bid 1 2000) (Placed 4 1100 (Some 3) 1050)

-- a bid that meets the floor is accepted, however far under the leader's maximum it lies
abbrev pub BidUnderTheSealedTopIsAccepted : Type 0
BidUnderTheSealedTopIsAccepted = Tells two_bids 1003 2 (Bid 1 600) (Placed 3 700 (Some 3) 650)

abbrev pub SameMaximumIsRefused : Type 0
SameMaximumIsRefused = verdict settings five_bids 1006 3 (Bid 1 2000) ≡ Some NotHigher

abbrev pub GreatestAmountIsTaken : Type 0
GreatestAmountIsTaken =
    Tells setup 1001 2 (Bid 1 1000000000) (Placed 1 550 (Some 2) 500)
    × Tells (and_bid 1001 2 1000000000 setup) 1002 3 (Bid 1 1000000000) (Placed 2 1000010000 (Some 2) 1000000000)
    × (verdict settings setup 1001 2 (Bid 1 1000000001) ≡ Some Range)

abbrev pub OwnBidsAreShown : Type 0
OwnBidsAreShown = page_of settings five_bids 2 (query.MyBids 1) ≡ Bids
    (record { item = 1; leading = false; maximum = 1000; mine = 2; price = 1050; state = Open } ∷ [])

abbrev pub BidAtTheEndIsTooLate : Type 0
BidAtTheEndIsTooLate = (verdict settings setup 5000 2 (Bid 1 500) ≡ Some Ended) × Accepts setup 4999 2 (Bid 1 500)

abbrev pub CloseTakesWhatEndsNow : Type 0
CloseTakesWhatEndsNow =
    Tells one_bid 4999 0 Close (Closed 0 0)
    × Tells one_bid 5000 0 Close (Closed 1 0)
    × Tells setup 5000 0 Close (Closed 0 1)
    × (verdict settings (entry 5000 0 Close ∷ one_bid) 5001 3 (Bid 1 600) ≡ Some NotOpen)

abbrev pub EarlierMomentIsRefused : Type 0
EarlierMomentIsRefused = (verdict settings one_bid 1000 3 (Bid 1 1000) ≡ Some MomentBehind) × Accepts one_bid 1001 3 (Bid 1 1000)

abbrev pub BuyNowStandsUntilTheFirstBid : Type 0
BuyNowStandsUntilTheFirstBid =
    Tells with_buy_now 1001 2 (Buy 2) (Bought 2 2000)
    × (verdict settings with_buy_now 1001 3 (Bid 2 400) ≡ Some (Low 500))
    × (verdict settings (entry 1001 3 (Bid 2 500) ∷ with_buy_now) 1002 2 (Buy 2) ≡ Some HasBids)
    × (verdict settings with_buy_now 1001 2 (Buy 1) ≡ Some NoBuyNow)

abbrev pub QuestionsAreNumberedByAsker : Type 0
QuestionsAreNumberedByAsker =
    Tells setup 1001 2 (Ask 1 (codes "Is it signed?")) (Question 2 1 1)
    × Tells (entry 1001 2 (Ask 1 (codes "Is it signed?")) ∷ setup) 1002 3 (Ask 1 (codes "How old?")) (Question 3 1 1)
    × Tells asked_twice 1003 2 (Ask 1 (codes "And boxed?")) (Question 2 1 2)

abbrev pub OnlyAnsweredQuestionsArePublished : Type 0
OnlyAnsweredQuestionsArePublished =
    Tells asked_twice 1003 1 (Answer 1 3 1 (codes "1952")) (Question 3 1 1)
    × (page_of settings answered_once 2 (query.Questions 1 1) ≡ Questions
    (record { item = 1; asker = 3; number = 1; text = codes "How old?"; answer = Some (codes "1952") } ∷ []))
    × (page_of settings answered_once 2 (query.MyQuestions 1) ≡ Questions
    (record { item = 1; asker = 2; number = 1; text = codes "Is it signed?"; answer = None } ∷ []))
    × (page_of settings answered_once 1 query.MyWaiting ≡ Questions
    (record { item = 1; asker = 2; number = 1; text = codes "Is it signed?"; answer = None } ∷ []))

abbrev pub AnswersAreTheSellersAndOnce : Type 0
AnswersAreTheSellersAndOnce =
    (verdict settings asked_twice 1003 2 (Answer 1 3 1 (codes "1952")) ≡ Some SellerOnly)
    × (verdict settings asked_twice 1003 1 (Answer 1 3 2 (codes "1952")) ≡ Some Unknown)
    × (verdict settings answered_once 1004 1 (Answer 1 3 1 (codes "1953")) ≡ Some AlreadyAnswered)

abbrev pub WatchLeavesTheClock : Type 0
WatchLeavesTheClock =
    Accepts setup 3000 2 (Watch 1) × Accepts (entry 3000 2 (Watch 1) ∷ setup) 1001 2 (Bid 1 500)

abbrev pub AskLeavesTheClock : Type 0
AskLeavesTheClock =
    Accepts setup 3000 2 (Ask 1 (codes "Why?")) × Accepts (entry 3000 2 (Ask 1 (codes "Why?")) ∷ setup) 1001 2 (Bid 1 500)

abbrev pub FeeIsRoundedDown : Type 0
FeeIsRoundedDown =
    Tells (entry 5000 0 Close ∷ and_bid 1002 3 999 (and_bid 1001 2 2000 setup)) 5000 0 (Settle 1) (Settlement 104 1 945 1049)
    × Tells sold_once 5000 0 (Settle 1) (Settlement 50 1 450 500)
    × (verdict settings settled_once 5000 0 (Settle 1) ≡ Some NotSold)

abbrev pub PartiesRateEachOtherOnce : Type 0
PartiesRateEachOtherOnce =
    Tells settled_once 5001 2 (Feedback 1 (Some Plus) []) (Rated 1 Plus 1)
    × (verdict settings rated_once 5002 2 (Feedback 1 (Some Plus) []) ≡ Some AlreadyGiven)
    × (verdict settings rated_once 5002 3 (Feedback 1 (Some Plus) []) ≡ Some NotParty)
    × Tells rated_once 5002 1 (Feedback 1 (Some Plus) []) (Rated 1 Plus 2)
    × (verdict settings rated_once 5002 1 (Feedback 1 None []) ≡ Some Range)

abbrev pub SellersKeepOffTheirItems : Type 0
SellersKeepOffTheirItems =
    (verdict settings setup 1001 1 (Bid 1 500) ≡ Some OwnItem)
    × (verdict settings setup 1001 1 (Ask 1 (codes "Why?")) ≡ Some OwnItem)
    × (verdict settings with_buy_now 1001 1 (Buy 2) ≡ Some OwnItem)

abbrev pub NamesAndLotsAreTakenOnce : Type 0
NamesAndLotsAreTakenOnce =
    (verdict settings setup 1001 0 (Register (codes "Ana")) ≡ Some NameTaken)
    × (verdict settings setup 1001 0 (AddCategory (codes "Books")) ≡ Some NameTaken)
    × (verdict settings setup 1001 1 (lists (codes "A1") 500 None) ≡ Some LotExists)
    × Accepts setup 1001 2 (lists (codes "A1") 500 None)

abbrev pub CallersAreKnown : Type 0
CallersAreKnown =
    (verdict settings setup 1001 4 (Bid 1 500) ≡ Some NoCaller)
    × (verdict settings setup 1001 0 (Bid 1 500) ≡ Some NoCaller)
    × (verdict settings setup 1001 2 Close ≡ Some HouseOnly)
    × (verdict settings setup 1001 2 (Bid 2 500) ≡ Some Unknown)
