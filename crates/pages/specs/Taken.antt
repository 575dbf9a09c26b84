-- Which rows a page takes: that these fit is enough for its read not to be damaged.
use Rattle.std.specs.Prelude.{◌≡◌, ℕ, length, true, Result, IsErrOf}
use Rattle.std.specs.List.{AllByRecursion}
use Rattle.house_rows.specs.declared.fault.KeepFault.TheVariants.{Damaged}
use Rattle.house_rows.specs.declared.query.Query.{Query}
use Rattle.house_rows.specs.declared.query.Query.TheVariants as query
use Rattle.house_rows.specs.Fits.{CategoryFits}
use Rattle.house_rows.specs.Tables.{Tables}
use Rattle.house_rows.specs.Taken.{CategoryFitsAt, CategoryItemsFit, FeedbackFitsTo, FirstAskedFit, FirstGivenFit}
use Rattle.house_rows.specs.Taken.{FirstPublishedFit, FirstWaitingFit, ItemFitsAt, MemberFitsAt, OwnBidsFit}
use Rattle.house_rows.specs.Taken.{OwnReservesFit, SalesFit, WatchedFit}
use Rattle.pages_laws.specs.ByTables.{is_own, may_read}
use Rattle.pages_text.specs.declared.fault.PageFault.{PageFault}
use Rattle.pages_text.specs.declared.fault.PageFault.TheVariants.{Keep}

-- the rows that a page takes fit: those that it shows, and those by which it finds them. The pages of
-- the house and of its band tables take none
abbrev pub PageRowsFit : Tables → ℕ → Query → Type 0
PageRowsFit t caller query.House = Unit {0}
PageRowsFit t caller query.Bands = Unit {0}
PageRowsFit t caller (query.BandsOf edition) = Unit {0}
PageRowsFit t caller query.Categories = AllByRecursion CategoryFits t.categories
PageRowsFit t caller (query.ItemsIn category from) =
    CategoryFitsAt category t
    × CategoryItemsFit category from t
PageRowsFit t caller (query.Item item) = ItemFitsAt item t
PageRowsFit t caller (query.Questions item from) =
    ItemFitsAt item t
    × FirstPublishedFit item from t
PageRowsFit t caller (query.Member member) =
    MemberFitsAt member t
    × FeedbackFitsTo member t
PageRowsFit t caller (query.FeedbackTo member from) =
    MemberFitsAt member t
    × FirstGivenFit member from t
PageRowsFit t caller (query.MyBids from) = OwnBidsFit caller from t
PageRowsFit t caller (query.MyReserves from) = OwnReservesFit caller from t
PageRowsFit t caller query.MyWatches = WatchedFit caller t
PageRowsFit t caller (query.MyQuestions from) = FirstAskedFit caller from t
PageRowsFit t caller query.MyWaiting = FirstWaitingFit caller t
PageRowsFit t caller (query.MyStatement from to) = SalesFit caller t

-- the rows that a read takes fit: those of its page, where the caller may read it. A read that is
-- refused takes none
pub record ReadRowsFit (t : Tables) (caller : ℕ) (query : Query) : Type 0 where
  pub page : may_read (length t.members) caller (is_own query) ≡ true → PageRowsFit t caller query

-- the keep isn't damaged, by the answer for a tree
abbrev pub IsTreeUndamaged : {A : Type 0} → Result A PageFault → Type 0
IsTreeUndamaged result = ¬ (IsErrOf result (Keep Damaged))
