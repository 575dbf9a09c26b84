-- Which rows deciding on a command takes: that these fit is enough for it not to be damaged, and for
-- its change to fit.
use Rattle.std.specs.Prelude.{ℕ, List, Result}
use Rattle.house.specs.Decided.{IfAccepted}
use Rattle.house_rows.specs.declared.change.Change.{Change}
use Rattle.house_rows.specs.declared.command.Command.{Command}
use Rattle.house_rows.specs.declared.command.Command.TheVariants as command
use Rattle.house_rows.specs.declared.fault.KeepFault.{KeepFault}
use Rattle.house_rows.specs.declared.refusal.Refusal.{Refusal}
use Rattle.house_rows.specs.Asks.{ChangeFits}
use Rattle.house_rows.specs.Making.{ChangeRowsFit}
use Rattle.house_rows.specs.Tables.{Tables}
use Rattle.house_rows.specs.Taken.{CategoryFitsAt, CategoryFitsNamed, FeedbackFitsFrom, ItemFitsAt}
use Rattle.house_rows.specs.Taken.{ItemIsOurs, MemberFitsNamed, QuestionFitsAt, WatchesFit}

-- the number of the seller's item with a lot fits, and the category does
abbrev pub LotAndCategoryFit : Tables → ℕ → List ℕ → ℕ → Type 0
LotAndCategoryFit t seller lot category =
    ItemIsOurs seller lot t × CategoryFitsAt category t

-- the rows that deciding on a command takes fit: what it names, and of the caller's own rows those
-- that a limit or a rule counts. A close and a band table take none
abbrev pub CommandRowsFit : Tables → ℕ → Command → Type 0
CommandRowsFit t caller (command.Register name) = MemberFitsNamed name t
CommandRowsFit t caller (command.AddCategory name) = CategoryFitsNamed name t
CommandRowsFit t caller (command.List category lot title text start buy_now end reserve) =
    LotAndCategoryFit t caller lot category
CommandRowsFit t caller (command.Bid item maximum) = ItemFitsAt item t
CommandRowsFit t caller (command.Buy item) = ItemFitsAt item t
CommandRowsFit t caller command.Close = Unit {0}
CommandRowsFit t caller (command.Settle item) = ItemFitsAt item t
CommandRowsFit t caller (command.Watch item) =
    ItemFitsAt item t × WatchesFit caller t
CommandRowsFit t caller (command.Unwatch item) = ItemFitsAt item t
CommandRowsFit t caller (command.Ask item text) = ItemFitsAt item t
CommandRowsFit t caller (command.Answer item asker number text) =
    ItemFitsAt item t × QuestionFitsAt item asker number t
CommandRowsFit t caller (command.Feedback item rating text) =
    ItemFitsAt item t × FeedbackFitsFrom caller t
CommandRowsFit t caller (command.SetBands bands) = Unit {0}

-- where a command is accepted, its change fits if the rows do that deciding and making it take
abbrev pub FitsByRows : Tables → ℕ → Command → Result (Result Change Refusal) KeepFault → Type 0
FitsByRows t caller command result = CommandRowsFit t caller command
    → IfAccepted result (λ change. ChangeRowsFit t change → ChangeFits t change)
