-- What the functions over a keep promise, by the record of the keep's ghosts. A contract over
-- `K: Keep` has that record as `K.Keep`.
use Rattle.std.specs.Prelude.{◌≡◌, ℕ, IfOk, List, OnErr, OnOk, Result}
use Rattle.settle.specs.declared.zone.Zone.{Zone}
use Rattle.house_rows.specs.Answers.{Reads}
use Rattle.house_rows.specs.declared.fault.KeepFault.{KeepFault}
use Rattle.house_rows.specs.declared.keep.Keep.{Ghosts}
use Rattle.house_rows.specs.declared.page.Page.{Page}
use Rattle.house_rows.specs.declared.query.Query.{Query}
use Rattle.house_rows.specs.declared.refusal.Refusal.{Refusal}
use Rattle.house_rows.specs.declared.settings.Settings.{Settings}
use Rattle.house_rows.specs.History.{History}
use Rattle.house_rows.specs.Keeping.{Faults}
use Rattle.house_rows.specs.Pages.{page_of}
use Rattle.house_rows.specs.Tables.{Tables, tables_of}
use Rattle.house_rows.specs.Taken.{IsUndamaged}
use Rattle.serde_json.specs.declared.value.Value.{Value}
use Rattle.pages_laws.specs.ByTables.{page_by}
use Rattle.pages_text.specs.declared.fault.PageFault.{PageFault}
use Rattle.pages_text.specs.Faults.{PageFaults}
use Rattle.pages_text.specs.Fits.{PageFits}
use Rattle.pages.specs.Showing.{BeginsWith, IsGrown, IsReported}
use Rattle.pages.specs.Taken.{IsTreeUndamaged, PageRowsFit, ReadRowsFit}

-- What is promised of the page that a query has in the tables, as `page_in` says it. As long as the
-- disk returns what was written, it is that page, and the call is `Damaged` only where rows that the
-- page takes don't fit. Whatever the disk did, the page can be shown, each fault has its cause, and
-- nothing is changed.
pub record MakesPage {K : Type 0} (keep : Ghosts K) (old new : K) (result : Result Page KeepFault)
    (page_in : Tables → ℕ → Query → Page) (caller : ℕ) (query : Query) : Type 0 where
  pub page : keep.is_honest new
      → IfOk result (λ page. page ≡ page_in (keep.content old) caller query)
  pub fits : IfOk result PageFits
  pub faults : Faults result (keep.is_honest new) (keep.is_failed new) (keep.content old)
  pub damaged : keep.is_honest new → PageRowsFit (keep.content old) caller query
      → IsUndamaged result
  pub read : Reads keep old new

-- The same of the page of a read: over any tables, of a history or not, and over a history. It is
-- `Damaged` only where the caller may read, and rows that the page takes don't fit.
pub record ReadsPage {K : Type 0} (keep : Ghosts K) (old new : K) (result : Result Page KeepFault)
    (caller : ℕ) (query : Query) : Type 0 where
  pub tables : keep.is_honest new
      → IfOk result (λ page. page ≡ page_by (keep.content old) caller query)
  pub page : keep.is_honest new → (settings : Settings) (h : History)
      → keep.content old ≡ tables_of settings h
      → IfOk result (λ page. page ≡ page_of settings h caller query)
  pub fits : IfOk result PageFits
  pub faults : Faults result (keep.is_honest new) (keep.is_failed new) (keep.content old)
  pub damaged : keep.is_honest new → ReadRowsFit (keep.content old) caller query
      → IsUndamaged result
  pub read : Reads keep old new

-- The same of its text, which comes after what a buffer has. Whatever the disk did, the buffer keeps
-- what it had, and after a fault and where the read is refused it has nothing else.
pub record ShowsPage {K : Type 0} (keep : Ghosts K) (old new : K)
    (result : Result (Result (Unit {0}) Refusal) KeepFault) (zone : Zone) (caller : ℕ)
    (query : Query) (before after : List ℕ) : Type 0 where
  pub tables : keep.is_honest new → IfOk result (λ report.
      IsReported zone (page_by (keep.content old) caller query) report before after)
  pub shown : keep.is_honest new → (settings : Settings) (h : History)
      → keep.content old ≡ tables_of settings h
      → IfOk result (λ report.
      IsReported zone (page_of settings h caller query) report before after)
  pub err : OnErr result (after ≡ before)
  pub refused : IfOk result (λ report. OnErr report (after ≡ before))
  pub front : IfOk result (λ report. OnOk report (BeginsWith before after))
  pub faults : Faults result (keep.is_honest new) (keep.is_failed new) (keep.content old)
  pub damaged : keep.is_honest new → ReadRowsFit (keep.content old) caller query
      → IsUndamaged result
  pub read : Reads keep old new

-- The same of its tree.
pub record GrowsPage {K : Type 0} (keep : Ghosts K) (old new : K)
    (result : Result (Result Value Refusal) PageFault) (zone : Zone) (caller : ℕ)
    (query : Query) : Type 0 where
  pub tables : keep.is_honest new
      → IfOk result (IsGrown zone (page_by (keep.content old) caller query))
  pub shown : keep.is_honest new → (settings : Settings) (h : History)
      → keep.content old ≡ tables_of settings h
      → IfOk result (IsGrown zone (page_of settings h caller query))
  pub faults : PageFaults result (keep.is_honest new) (keep.is_failed new) (keep.content old)
  pub damaged : keep.is_honest new → ReadRowsFit (keep.content old) caller query
      → IsTreeUndamaged result
  pub read : Reads keep old new
