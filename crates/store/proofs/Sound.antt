-- What is found in sound tables.
use Rattle.std.proofs.Common.{◌≡◌, ◌<◌, ◌^◌, ℕ, arith, List, [], ◌∷◌, Bool, true, false, Option, None, Some, find}
use Rattle.std.specs.Prelude.{IfSome, option_map, if◌then◌else◌}
use Rattle.std.specs.List.{AllByRecursion}
use Rattle.sqlite_trees.specs.Tree.{Trees}
use Rattle.sqlite.specs.Effect.{Database}
use Rattle.house_rows.specs.Fits.{IsItem}
use Rattle.house_rows.specs.Keeping.{AreSound, RowFits}
use Rattle.house_rows.specs.Questions.{is_question}
use Rattle.house_rows.specs.Tables.{ItemRow}
use Rattle.store_rows.specs.House.{IsHouse}
use Rattle.store_rows.specs.ItemRows.{items_in}
use Rattle.store_rows.specs.Rows.{questions_in}
use Rattle.store_rows.specs.Sorted.{sorted_questions}
use Rattle.store_rows.specs.Tables.{tables_in}
use Rattle.store_talk.proofs.SortedTalk.{found_sorted}

-- the number of an item that is found
pub sound_number : (db : Trees) (p : ItemRow → Bool) → AreSound (tables_in db) → IfSome (option_map (λ (row : ItemRow). row.item.terms.item) (find p (items_in db))) IsItem
unfolding tables_in
sound_number db p sound = number (items_in db) sound.items
  where
    first : (row : ItemRow) (rest : Option ItemRow) (b : Bool) → IsItem row.item.terms.item → IfSome (option_map (λ (r : ItemRow). r.item.terms.item) rest) IsItem
        → IfSome (option_map (λ (r : ItemRow). r.item.terms.item) (if b then Some row else rest)) IsItem
    first row rest true is others = is
    first row rest false is others = others

    number : (rows : List ItemRow) → AllByRecursion (RowFits (tables_in db)) rows → IfSome (option_map (λ (row : ItemRow). row.item.terms.item) (find p rows)) IsItem
    number [] all = search
    number (row ∷ rows) all = first row (find p rows) (p row) all.0.item.terms.item (number rows all.1)

-- a question is found in either order
pub question_found : (db : Database) → IsHouse db → (item asker number : ℕ) → item < 2 ^ 32 → asker < 2 ^ 32 → number < 2 ^ 32
    → find (is_question item asker number) (sorted_questions db.trees) ≡ find (is_question item asker number) (questions_in db.trees)
question_found db house item asker number low small less = found_sorted db house item asker number (omega arith) (omega arith) (omega arith)

-- an item's number has 32 bits
pub number_low : (found : Option ℕ) → IfSome found IsItem → IfSome found (λ n. n < 2 ^ 32)
number_low None is = search
number_low (Some n) is = omega (arith, is.1)
