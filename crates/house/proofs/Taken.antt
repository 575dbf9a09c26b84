-- The rows that deciding on a command takes: over sound tables each fits.
use Rattle.std.proofs.Common.{◌≡◌, ℕ, List, Bool, true, refl, Option, Some, None, subst}
use Rattle.std.specs.Prelude.{◌==◌, ◌&&◌, IfSome, Result, Ok, Err, find, option_map}
use Rattle.std.specs.List.{AllByRecursion}
use Rattle.house_rows.specs.declared.change.Change.{Change}
use Rattle.house_rows.specs.declared.command.Command.{Command}
use Rattle.house_rows.specs.declared.command.Command.TheVariants as command
use Rattle.house_rows.specs.declared.fault.KeepFault.{KeepFault}
use Rattle.house_rows.specs.declared.refusal.Refusal.{Refusal}
use Rattle.house_rows.specs.Asks.{ChangeFits}
use Rattle.house_rows.specs.Changed.{is_item}
use Rattle.house_rows.specs.Fits.{CategoryFits, FeedbackFits, IsItem, MemberFits, QuestionFits, WatchRowFits}
use Rattle.house_rows.specs.Found.{item_with_lot, row_at}
use Rattle.house_rows.specs.Keeping.{AreSound, ItemRowFits, RowFits}
use Rattle.house_rows.specs.Questions.{is_question}
use Rattle.house_rows.specs.Tables.{ItemRow, Tables, bands_for}
use Rattle.house_rows.specs.Text.{same_text}
use Rattle.house_rows.proofs.ChangedRows.{there_numbered}
use Rattle.house_rows.proofs.Every.{found_has, found_is}
use Rattle.house_rows.proofs.Sound.{change_rows_fit, fit_where}
use Rattle.house.specs.Decided.{IfAccepted}
use Rattle.house_rows.specs.Taken.{ItemFitsAt}
use Rattle.house.specs.Taken.{CommandRowsFit, FitsByRows}

-- the row that is found of a number fits where that item does
pub found_fits : (t : Tables) (item : ℕ) (row : ItemRow) → ItemFitsAt item t
    → row_at t item ≡ Some row → ItemRowFits (bands_for t item) row
found_fits t item row fits there =
    let passed = found_is (is_item item) t.items row there in
    let here : RowFits t row =
    found_has (λ r. is_item item r ≡ true → RowFits t r) (is_item item) t.items row fits there passed in
    subst (λ (n : ℕ). ItemRowFits (bands_for t n) row) (there_numbered t item row there) here

-- over sound tables each item does
pub item_at_fits : (t : Tables) (item : ℕ) → AreSound t → ItemFitsAt item t
item_at_fits t item sound = fit_where (is_item item) (RowFits t) t.items sound.items

-- and what is found of rows that all fit
if_found : {A : Type 0} (Fits : A → Type 0) (p : A → Bool) (rows : List A) → AllByRecursion Fits rows
    → IfSome (find p rows) Fits
if_found {A = A} Fits p rows all = by_found (find p rows) refl where
  by_found : (o : Option A) → find p rows ≡ o → IfSome o Fits
  by_found None none = tt
  by_found (Some x) some = found_has Fits p rows x all some

-- the number of one too
lot_fits : (t : Tables) (seller : ℕ) (lot : List ℕ) → AreSound t → IfSome (item_with_lot t seller lot) IsItem
lot_fits t seller lot sound =
    of_row (find is_lot_of t.items) (if_found (RowFits t) is_lot_of t.items sound.items) where
      is_lot_of : ItemRow → Bool
      is_lot_of row = (row.item.terms.seller == seller) && same_text row.item.lot lot

      of_row : (o : Option ItemRow) → IfSome o (RowFits t)
          → IfSome (option_map (λ (row : ItemRow). row.item.terms.item) o) IsItem
      of_row None none = tt
      of_row (Some row) fits = fits.item.terms.item

-- over sound tables each row fits that deciding on a command takes
pub command_rows_fit : (t : Tables) (caller : ℕ) (command : Command) → AreSound t
    → CommandRowsFit t caller command
command_rows_fit t caller (command.Register name) sound =
    if_found MemberFits (λ m. same_text m.name name) t.members sound.members
command_rows_fit t caller (command.AddCategory name) sound =
    if_found CategoryFits (λ k. same_text k.name name) t.categories sound.categories
command_rows_fit t caller (command.List category lot title text start buy_now end reserve) sound = (
  lot_fits t caller lot sound,
  if_found CategoryFits (λ k. k.category == category) t.categories sound.categories,
)
command_rows_fit t caller (command.Bid item maximum) sound = item_at_fits t item sound
command_rows_fit t caller (command.Buy item) sound = item_at_fits t item sound
command_rows_fit t caller command.Close sound = tt
command_rows_fit t caller (command.Settle item) sound = item_at_fits t item sound
command_rows_fit t caller (command.Watch item) sound = (
  item_at_fits t item sound,
  fit_where (λ w. w.member == caller) WatchRowFits t.watches sound.watches,
)
command_rows_fit t caller (command.Unwatch item) sound = item_at_fits t item sound
command_rows_fit t caller (command.Ask item text) sound = item_at_fits t item sound
command_rows_fit t caller (command.Answer item asker number text) sound = (
  item_at_fits t item sound,
  if_found QuestionFits (is_question item asker number) t.questions sound.questions,
)
command_rows_fit t caller (command.Feedback item rating text) sound = (
  item_at_fits t item sound,
  fit_where (λ f. f.from == caller) FeedbackFits t.feedback sound.feedback,
)
command_rows_fit t caller (command.SetBands bands) sound = tt

-- where a change fits by the rows that are taken, it fits sound tables
pub fits_sound : (t : Tables) (caller : ℕ) (command : Command)
    (result : Result (Result Change Refusal) KeepFault) → FitsByRows t caller command result
    → AreSound t → IfAccepted result (ChangeFits t)
fits_sound t caller command (Ok (Ok change)) fits sound =
    fits (command_rows_fit t caller command sound) (change_rows_fit t change sound)
fits_sound t caller command (Ok (Err refusal)) fits sound = tt
fits_sound t caller command (Err fault) fits sound = tt
