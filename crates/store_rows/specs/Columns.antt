-- Columns that hold values of their types.
use Rattle.std.specs.Prelude.{◌≡◌, ◌≢◌, ◌≤◌, ◌<◌, ◌^◌, true, length, IfSome}
use Rattle.sqlite_value.specs.Order.{Row, column}
use Rattle.house_rows.specs.Limits.{most_cents}
use Rattle.store_rows.specs.Rows.{maybe_number_in, no_text, number_in, text_in}
use Rattle.store_rows.specs.ItemRows.{is_state}

-- those of the terms
pub record AreTerms (r : Row) : Type 0 where
  pub wide : 10 < length r
  pub item : number_in (column r 0) < 2 ^ 32
  pub seller : number_in (column r 1) < 2 ^ 32
  pub category : number_in (column r 2) < 2 ^ 32
  pub start : number_in (column r 3) ≤ most_cents
  pub buy_now : IfSome (maybe_number_in (column r 4)) (λ n. n ≤ most_cents)
  pub end : number_in (column r 5) < 2 ^ 32
  pub state : is_state (column r 6) ≡ true
  pub closed : IfSome (maybe_number_in (column r 7)) (λ n. n < 2 ^ 32)
  pub price : number_in (column r 8) ≤ most_cents
  pub leader : IfSome (maybe_number_in (column r 9)) (λ n. n < 2 ^ 32)
  pub count : number_in (column r 10) < 2 ^ 32

-- and those of the texts
pub record HasTexts (r : Row) : Type 0 where
  pub lot : text_in (column r 11) ≢ no_text
  pub title : text_in (column r 12) ≢ no_text
  pub text : text_in (column r 13) ≢ no_text
