-- A question that is asked, and who sees it.
use Rattle.std.specs.Prelude.{◌≡◌, ℕ, ◌+◌, List, Bool, false, ◌==◌, is_some}
use Rattle.house_rows.specs.History.{History}
use Rattle.house_rows.specs.Listings.{is_seller, listing_at, listings}
use Rattle.house_rows.specs.Questions.{Asked, answer_to, answers, ask_count, asked}

-- the question that a member asks on an item: its next one there
abbrev pub new_question : History → ℕ → ℕ → List ℕ → Asked
new_question h asker item text = record {
  item = item;
  asker = asker;
  number = ask_count (asked h) asker item + 1;
  text = text;
}

-- whether there is an answer to it
abbrev pub is_answered : History → Asked → Bool
is_answered h q = is_some (answer_to (answers h) q)

-- a member that neither asks it nor sells the item
pub record IsOutsider (h : History) (asker item c : ℕ) : Type 0 where
  pub not_asker : (asker == c) ≡ false
  pub not_seller : is_seller (listing_at (listings h) item) c ≡ false
