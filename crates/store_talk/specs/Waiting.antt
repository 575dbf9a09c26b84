-- The questions that wait, on an item and for a member.
use Rattle.std.specs.Prelude.{◌≡◌, ℕ, ◌<◌, ◌+◌, not, ◌==◌, ◌&&◌, Bool, List, [], ◌∷◌, filter, is_some, length}
use Rattle.std.specs.List.{AllByRecursion}
use Rattle.sqlite_trees.specs.Tree.{Trees}
use Rattle.house_rows.specs.declared.item.Terms.{Terms}
use Rattle.house_rows.specs.declared.talk.Question.{Question}
use Rattle.house_rows.specs.Editions.{BandTables}
use Rattle.house_rows.specs.Fits.{QuestionFits}
use Rattle.house_rows.specs.Found.{row_at, sells}
use Rattle.house_rows.specs.Keeping.{FitsBy}
use Rattle.house_rows.specs.Limits.{most_shown}
use Rattle.house_rows.specs.Tables.{ItemRow}
use Rattle.house_rows.specs.Taken.{FirstFit, FitWhere}
use Rattle.store_rows.specs.ItemRows.{items_in}
use Rattle.store_rows.specs.Rows.{questions_in}
use Rattle.store_rows.specs.Sorted.{sorted_questions}
use Rattle.store_rows.specs.Tables.{tables_in}
use Rattle.store_items.specs.ConsistentRows.{ItemIsConsistent}

-- the questions on an item that wait for an answer
abbrev pub waiting_in : Trees → ℕ → List Question
waiting_in db item = filter (λ q. (q.item == item) && not (is_some q.answer)) (sorted_questions db)

-- these fit
abbrev pub WaitingFit : Trees → ℕ → Type 0
WaitingFit db item = FitWhere (λ q. (q.item == item) && not (is_some q.answer)) QuestionFits (questions_in db)

-- on some items in turn those fit before which fewer than fifty were found
abbrev pub WaitingInTurn : Trees → ℕ → List Terms → Type 0
WaitingInTurn db many [] = Unit {0}
WaitingInTurn db many (t ∷ ts) =
    (many < most_shown → WaitingFit db t.item)
    × WaitingInTurn db (many + length (waiting_in db t.item)) ts

-- whether a question waits for a member's answer
abbrev pub waits_for : Trees → ℕ → Question → Bool
waits_for db member q = not (is_some q.answer) && sells (row_at (tables_in db) q.item) member

-- the rows fit of the items that a member sells, and of the questions that wait for its answer
pub record AllWaitingFit (editions : BandTables) (member : ℕ) (db : Trees) : Type 0 where
  pub items : FitWhere (λ (row : ItemRow). row.item.terms.seller == member) (FitsBy editions) (items_in db)
  pub questions : FitWhere (waits_for db member) QuestionFits (questions_in db)

-- and of these questions those which a list of at most fifty takes
pub record FirstWaitingFit (editions : BandTables) (member : ℕ) (db : Trees) : Type 0 where
  pub items : FitWhere (λ (row : ItemRow). row.item.terms.seller == member) (FitsBy editions) (items_in db)
  pub questions : FirstFit (waits_for db member) (λ q. q.item) QuestionFits (questions_in db)

-- the questions that wait were found, and the item of each is consistent by its own band table
pub record AreWaiting (editions : BandTables) (db : Trees) (waiting asked : List Question) : Type 0 where
  pub are : asked ≡ waiting
  pub is_consistent : AllByRecursion (λ q. ItemIsConsistent editions db q.item) asked
