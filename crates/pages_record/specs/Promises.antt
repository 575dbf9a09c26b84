-- What the functions over a keep promise, by the record of the keep's ghosts. A contract over
-- `K: Keep` has that record as `K.Keep`.
use Rattle.std.specs.Prelude.{◌≡◌, ◌++◌, ℕ, IfOk, IsErrOf, List, OnErr, OnOk, Result, String}
use Rattle.std.specs.BTreeMap.{BTreeMap}
use Rattle.std.specs.Io.{StartsWith}
use Rattle.std.specs.declared.alloc.Global.{Global}
use Rattle.house_rows.specs.Answers.{Reads}
use Rattle.house_rows.specs.declared.fault.KeepFault.{KeepFault}
use Rattle.house_rows.specs.declared.fault.KeepFault.TheVariants.{Damaged}
use Rattle.house_rows.specs.declared.keep.Keep.{Ghosts}
use Rattle.house_rows.specs.declared.settings.Settings.{Settings}
use Rattle.house_rows.specs.History.{History}
use Rattle.house_rows.specs.Keeping.{Faults}
use Rattle.house_rows.specs.Tables.{Tables, tables_of}
use Rattle.house_rows.specs.Taken.{IsUndamaged, PublicRowsFit}
use Rattle.house_rows.specs.Views.{public_view}
use Rattle.serde_json.specs.Data.{Data}
use Rattle.serde_json.specs.View.{members_view, view}
use Rattle.serde_json.specs.declared.value.Value.{Value}
use Rattle.pages_json.specs.Words.{members_text, put_all, text_of}
use Rattle.pages_text.specs.declared.fault.PageFault.{PageFault}
use Rattle.pages_text.specs.declared.fault.PageFault.TheVariants.{Keep}
use Rattle.pages_text.specs.Faults.{PageFaults}
use Rattle.pages_record.specs.Record.{record_by, record_text, record_tree}

-- As long as the disk returns what was written, a text of the tables comes after what a buffer has,
-- and the call is `Damaged` only where a row that everybody may see doesn't fit. Whatever the disk did,
-- the buffer begins with what it had, each fault has its cause, and nothing of the keep is changed.
pub record PutsText {K : Type 0} (keep : Ghosts K) (old new : K)
    (result : Result (Unit {0}) KeepFault) (text_in : Tables → List ℕ)
    (before after : List ℕ) : Type 0 where
  pub text : keep.is_honest new → OnOk result (after ≡ before ++ text_in (keep.content old))
  pub front : StartsWith after before
  pub faults : Faults result (keep.is_honest new) (keep.is_failed new) (keep.content old)
  pub damaged : keep.is_honest new → PublicRowsFit (keep.content old) → IsUndamaged result
  pub read : Reads keep old new

-- so the text of members of the record
abbrev pub PutsPart : {K : Type 0} → Ghosts K → K → K → Result (Unit {0}) KeepFault
    → (Tables → List (List ℕ × Data)) → List ℕ → List ℕ → Type 0
PutsPart keep old new result part = PutsText keep old new result (λ t. members_text (part t))

-- The same of the text of the record: over any tables, of a history or not, and over a history. After
-- a fault the buffer has what it had.
pub record ShowsRecord {K : Type 0} (keep : Ghosts K) (old new : K)
    (result : Result (Unit {0}) KeepFault) (before after : List ℕ) : Type 0 where
  pub tables : keep.is_honest new
      → OnOk result (after ≡ before ++ text_of (record_by (keep.content old)))
  pub shown : keep.is_honest new → (settings : Settings) (h : History)
      → keep.content old ≡ tables_of settings h
      → OnOk result (after ≡ before ++ record_text settings h)
  pub front : StartsWith after before
  pub err : OnErr result (after ≡ before)
  pub faults : Faults result (keep.is_honest new) (keep.is_failed new) (keep.content old)
  pub damaged : keep.is_honest new → PublicRowsFit (keep.content old) → IsUndamaged result
  pub read : Reads keep old new

-- As long as the disk returns what was written, what is made is what is asked for of the tables, and
-- the call is `Damaged` only where a row that everybody may see doesn't fit. Whatever the disk did,
-- each fault has its cause, and nothing of the keep is changed.
pub record GrowsTree {K A : Type 0} (keep : Ghosts K) (old new : K) (result : Result A PageFault)
    (IsMade : Tables → A → Type 0) : Type 0 where
  pub grown : keep.is_honest new → IfOk result (IsMade (keep.content old))
  pub faults : PageFaults result (keep.is_honest new) (keep.is_failed new) (keep.content old)
  pub damaged : keep.is_honest new → PublicRowsFit (keep.content old)
      → ¬ (IsErrOf result (Keep Damaged))
  pub read : Reads keep old new

-- so a map to which members of the record are added
abbrev pub GrowsPart : {K : Type 0} → Ghosts K → K → K → Result (Unit {0}) PageFault
    → (Tables → List (List ℕ × Data)) → BTreeMap (String Global) Value
    → BTreeMap (String Global) Value → Type 0
GrowsPart keep old new result part before after = GrowsTree keep old new result (λ t _.
    members_view after.entries ≡ put_all (part t) (members_view before.entries))

-- The same of the tree of the record: over any tables, of a history or not, and over a history.
pub record GrowsRecord {K : Type 0} (keep : Ghosts K) (old new : K)
    (result : Result Value PageFault) : Type 0 where
  pub tables : keep.is_honest new → IfOk result (λ v. view v ≡ record_by (keep.content old))
  pub shown : keep.is_honest new → (settings : Settings) (h : History)
      → keep.content old ≡ tables_of settings h
      → IfOk result (λ v. view v ≡ record_tree (public_view settings h))
  pub faults : PageFaults result (keep.is_honest new) (keep.is_failed new) (keep.content old)
  pub damaged : keep.is_honest new → PublicRowsFit (keep.content old)
      → ¬ (IsErrOf result (Keep Damaged))
  pub read : Reads keep old new
