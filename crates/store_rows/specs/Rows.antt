-- The typed rows that the trees hold. A row that does not fit is one with a value outside its type.
use Rattle.std.specs.Prelude.{ℕ, ◌^◌, nat_lt, ℤ, pos, negsuc, Bool, false, ◌||◌, if◌then◌else◌, List, [], ◌∷◌, map, Option, Some, None}
use Rattle.std.specs.Ordering.{int_eq}
use Rattle.std.specs.Str.{is_utf8}
use Rattle.sqlite_value.specs.declared.value.Value.{Value}
use Rattle.sqlite_value.specs.declared.value.Value.TheVariants.{Null, Int, Text}
use Rattle.sqlite_value.specs.Order.{Row, column}
use Rattle.sqlite_trees.specs.Tree.{Trees}
use Rattle.house_rows.specs.declared.people.Category.{Category}
use Rattle.house_rows.specs.declared.people.Member.{Member}
use Rattle.store_rows.specs.declared.house.HouseRow.{HouseRow}
use Rattle.store_rows.specs.declared.band.BandRow.{BandRow}
use Rattle.store_rows.specs.declared.reserve.ReserveRow.{ReserveRow}
use Rattle.store_rows.specs.declared.edition.EditionRow.{EditionRow}
use Rattle.store_rows.specs.declared.edition.LaterBandRow.{LaterBandRow}
use Rattle.house_rows.specs.declared.rating.Rating.{Rating}
use Rattle.house_rows.specs.declared.rating.Rating.TheVariants.{Minus, Zero, Plus}
use Rattle.house_rows.specs.declared.talk.Question.{Question}
use Rattle.house_rows.specs.declared.talk.Feedback.{Feedback}
use Rattle.house_rows.specs.Bids.{BidRow}
use Rattle.house_rows.specs.Watches.{WatchRow}

-- a number, which has 32 bits; what is none is one that no type of ours holds
abbrev pub number_in : Value → ℕ
number_in (Int (pos n)) = if nat_lt n (2 ^ 32) then n else 2 ^ 64
number_in _ = 2 ^ 64

-- bytes that are no UTF-8, and fit no field
abbrev pub no_text : List ℕ
no_text = 0 ∷ 128 ∷ []

-- a text; what is none, or no UTF-8, is one that is no text
abbrev pub text_in : Value → List ℕ
text_in (Text t) = if is_utf8 t then t else no_text
text_in _ = no_text

-- a number that may be missing
abbrev pub maybe_number_in : Value → Option ℕ
maybe_number_in Null = None
maybe_number_in v = Some (number_in v)

-- a text that may be missing
abbrev pub maybe_text_in : Value → Option (List ℕ)
maybe_text_in Null = None
maybe_text_in v = Some (text_in v)

-- a rating is stored as its number
abbrev pub stored_rating : Rating → ℤ
stored_rating Minus = negsuc 0
stored_rating Zero = pos 0
stored_rating Plus = pos 1

abbrev pub is_rating : Value → Bool
is_rating (Int n) = int_eq n (negsuc 0) || int_eq n (pos 0) || int_eq n (pos 1)
is_rating _ = false

abbrev pub rating_in : Value → Rating
rating_in (Int n) = if int_eq n (negsuc 0) then Minus else if int_eq n (pos 1) then Plus else Zero
rating_in _ = Zero

-- ---- as a query shows a row

abbrev pub house_of : Row → HouseRow
house_of r = record {
  id = number_in (column r 0);
  version = number_in (column r 1);
  clock = number_in (column r 2);
  rate = number_in (column r 3);
  zone = text_in (column r 4);
}

abbrev pub band_of : Row → BandRow
band_of r = record { from = number_in (column r 0); step = number_in (column r 1) }

abbrev pub reserve_of : Row → ReserveRow
reserve_of r = record { item = number_in (column r 0); amount = number_in (column r 1) }

abbrev pub edition_row_of : Row → EditionRow
edition_row_of r = record { edition = number_in (column r 0); first = number_in (column r 1) }

abbrev pub later_band_of : Row → LaterBandRow
later_band_of r = record {
  edition = number_in (column r 0);
  from = number_in (column r 1);
  step = number_in (column r 2);
}

abbrev pub member_of : Row → Member
member_of r = record { member = number_in (column r 0); name = text_in (column r 1) }

abbrev pub category_of : Row → Category
category_of r = record { category = number_in (column r 0); name = text_in (column r 1) }

abbrev pub bid_of : Row → BidRow
bid_of r = record {
  item = number_in (column r 0);
  bid = record {
    member = number_in (column r 2);
    maximum = number_in (column r 3);
    no = number_in (column r 1);
  };
}

abbrev pub watch_of : Row → WatchRow
watch_of r = record { member = number_in (column r 0); item = number_in (column r 1) }

abbrev pub question_of : Row → Question
question_of r = record {
  item = number_in (column r 0);
  asker = number_in (column r 1);
  number = number_in (column r 2);
  text = text_in (column r 4);
  answer = maybe_text_in (column r 3);
}

-- where the rating is none, the item is none of ours
abbrev pub feedback_of : Row → Feedback
feedback_of r = record {
  item = if is_rating (column r 3) then number_in (column r 0) else 2 ^ 64;
  from = number_in (column r 1);
  to = number_in (column r 2);
  rating = rating_in (column r 3);
  text = text_in (column r 4);
}

-- ---- as a tree holds it: the rowid first, and in place of the column that it stands for NULL

abbrev pub house_in : Row → HouseRow
house_in r = house_of (column r 0 ∷ column r 2 ∷ column r 3 ∷ column r 4 ∷ column r 5 ∷ [])

abbrev pub band_in : Row → BandRow
band_in r = band_of (column r 0 ∷ column r 2 ∷ [])

abbrev pub reserve_in : Row → ReserveRow
reserve_in r = reserve_of (column r 0 ∷ column r 2 ∷ [])

abbrev pub edition_row_in : Row → EditionRow
edition_row_in r = edition_row_of (column r 0 ∷ column r 2 ∷ [])

abbrev pub later_band_in : Row → LaterBandRow
later_band_in r = later_band_of (column r 1 ∷ column r 2 ∷ column r 3 ∷ [])

abbrev pub member_in : Row → Member
member_in r = member_of (column r 0 ∷ column r 2 ∷ [])

abbrev pub category_in : Row → Category
category_in r = category_of (column r 0 ∷ column r 2 ∷ [])

abbrev pub bid_in : Row → BidRow
bid_in r = bid_of (column r 1 ∷ column r 2 ∷ column r 3 ∷ column r 4 ∷ [])

abbrev pub watch_in : Row → WatchRow
watch_in r = watch_of (column r 1 ∷ column r 2 ∷ [])

abbrev pub question_in : Row → Question
question_in r = question_of (column r 1 ∷ column r 2 ∷ column r 3 ∷ column r 5 ∷ column r 4 ∷ [])

abbrev pub one_feedback_in : Row → Feedback
one_feedback_in r = feedback_of (column r 1 ∷ column r 2 ∷ column r 3 ∷ column r 4 ∷ column r 5 ∷ [])

-- ---- the rows of each table, in the order in which they lie

abbrev pub houses_in : Trees → List HouseRow
houses_in db = map house_in (db 0)

abbrev pub bands_in : Trees → List BandRow
bands_in db = map band_in (db 1)

abbrev pub reserves_in : Trees → List ReserveRow
reserves_in db = map reserve_in (db 23)

abbrev pub edition_rows_in : Trees → List EditionRow
edition_rows_in db = map edition_row_in (db 24)

abbrev pub later_bands_in : Trees → List LaterBandRow
later_bands_in db = map later_band_in (db 25)

abbrev pub members_in : Trees → List Member
members_in db = map member_in (db 2)

abbrev pub categories_in : Trees → List Category
categories_in db = map category_in (db 4)

abbrev pub bids_in : Trees → List BidRow
bids_in db = map bid_in (db 8)

abbrev pub watches_in : Trees → List WatchRow
watches_in db = map watch_in (db 10)

abbrev pub questions_in : Trees → List Question
questions_in db = map question_in (db 12)

abbrev pub feedback_in : Trees → List Feedback
feedback_in db = map one_feedback_in (db 14)
