-- Columns of an item that fits hold values of their types.
use Rattle.std.proofs.Common.{◌≡◌, ◌≤◌, ◌<◌, ◌^◌, ℕ, Bool, true, false, cond, Option, Some, None, refl, ap, arith, IfSome}
use Rattle.sqlite_value.specs.Order.{Row, column}
use Rattle.house_rows.specs.Fits.{IsWithin, TermsFit}
use Rattle.house_rows.specs.Limits.{last_moment, most_cents, most_members}
use Rattle.store_rows.specs.Rows.{maybe_number_in, number_in}
use Rattle.store_rows.proofs.ColumnReads.{within}
use Rattle.store_rows.specs.Columns.{AreTerms}
use Rattle.store_rows.specs.ItemRows.{is_state, terms_of}

pub weaker : (P Q : ℕ → Type 0) (o : Option ℕ) → ((n : ℕ) → P n → Q n) → IfSome o P → IfSome o Q
weaker P Q None f h = h
weaker P Q (Some n) f h = f n h

-- the start is reported only with a state
started : (b : Bool) (n : ℕ) → cond b n (2 ^ 64) ≤ most_cents → (b ≡ true) × (n ≤ most_cents)
started true n h = (refl, h)
started false n h = absurd (omega (arith, h))

pub are_terms : (r : Row) → TermsFit (terms_of r) → AreTerms r
are_terms r h =
    let begins = started (is_state (column r 6)) (number_in (column r 3)) h.start.1 in
    record {
      wide = within r 10 (λ none. let e = ap number_in none in let low = h.count in absurd (omega (arith, e, low)));
      item = omega (arith, h.item.1);
      seller = omega (arith, h.seller.1);
      category = omega (arith, h.category.1);
      start = begins.1;
      buy_now = weaker (IsWithin _ most_cents) (λ n. n ≤ most_cents) (maybe_number_in (column r 4)) (λ n low. low.1) h.buy_now;
      end = omega (arith, h.end);
      state = begins.0;
      closed = weaker (λ n. n ≤ last_moment) (λ n. n < 2 ^ 32) (maybe_number_in (column r 7)) (λ n low. omega (arith, low)) h.closed;
      price = h.price;
      leader = weaker (IsWithin 1 most_members) (λ n. n < 2 ^ 32) (maybe_number_in (column r 9)) (λ n low. omega (arith, low.1)) h.leader;
      count = omega (arith, h.count);
    }
