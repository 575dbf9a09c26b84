-- How often members were rated, and what is true of a table of feedback.
use Rattle.std.specs.Prelude.{◌≡◌, ◌+◌, ℕ, List, Vec, slice_index_or}
use Rattle.std.specs.List.{AllByRecursion}
use Rattle.house_rows.specs.declared.people.Ratings.{Ratings}
use Rattle.house_rows.specs.declared.rating.Rating.{Rating}
use Rattle.house_rows.specs.declared.rating.Rating.TheVariants.{Minus, Zero, Plus}
use Rattle.house_rows.specs.declared.talk.Feedback.{Feedback}
use Rattle.house_rows.specs.Pages.{ratings_of}
use Rattle.house_rows.specs.Ratings.{feedback_key}
use Rattle.list_rows.specs.Blocks.{IsBlocked, rows_of}
use Rattle.list_talk.specs.declared.concerns.Concern.{Concern}
use Rattle.list_talk.specs.Index.{IsNoted}

-- never rated
abbrev pub unrated : Ratings
unrated = record { plus = 0; zero = 0; minus = 0 }

-- one more rating
abbrev pub with_rating : Rating → Ratings → Ratings
with_rating Plus r = record r { plus = r.plus + 1 }
with_rating Zero r = record r { zero = r.zero + 1 }
with_rating Minus r = record r { minus = r.minus + 1 }

-- the count of each member is that of the rows
abbrev pub AreCounted : List Ratings → List Feedback → Type 0
AreCounted counts rows = (member : ℕ) → slice_index_or counts member unrated ≡ ratings_of rows member

-- rows in blocks by item, whose items are noted for who was rated, and their counts
pub record IsFeedbackTable {Z : Type 0} (blocks : List (Vec Feedback Z)) (concerns : List Concern) (counts : List Ratings) : Type 0 where
  pub blocked : IsBlocked feedback_key blocks
  pub noted : AllByRecursion (λ f. IsNoted concerns f.to f.item) (rows_of blocks)
  pub counted : AreCounted counts (rows_of blocks)
