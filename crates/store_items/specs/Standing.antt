-- Items that are consistent, as a reader of their rows tests it.
use Rattle.std.specs.Prelude.{◌≡◌, ◌≤◌, ◌<◌, ◌+◌, ℕ, Bool, true, false, ◌==◌, ◌&&◌, ◌||◌, List, length, Option, Some, None, is_none, is_some, nat_le, nat_lt, IfSome}
use Rattle.steps.specs.Table.{Band}
use Rattle.sqlite_value.specs.Order.{Row, column}
use Rattle.proxy.specs.Rows.{is_shape}
use Rattle.house_rows.specs.declared.item.Terms.{Terms}
use Rattle.house_rows.specs.Editions.{BandTables, bands_in}
use Rattle.house_rows.specs.Fits.{ItemFits, TermsFit}
use Rattle.house_rows.specs.Keeping.{IsKeptItemBy}
use Rattle.house_rows.specs.Limits.{most_cents}
use Rattle.house_rows.specs.Verdict.{was_sold}
use Rattle.store_rows.specs.Rows.{maybe_number_in}
use Rattle.store_rows.specs.declared.reserve.ReserveRow.{ReserveRow}
use Rattle.store_rows.specs.ItemRows.{amount_of, auction_by, item_of, terms_by, terms_of}

abbrev pub is_price : Option ℕ → ℕ → Bool
is_price None price = false
is_price (Some amount) price = amount == price

-- nobody has bid, and the item was sold to somebody at its buy-now price
abbrev pub is_bought : Terms → Bool
is_bought t = was_sold t.state && (is_some t.leader && ((t.count == 0) && is_price t.buy_now t.price))

-- an amount is at most the buy-now price, if there is one
abbrev pub is_at_most : Option ℕ → ℕ → Bool
is_at_most None amount = true
is_at_most (Some most) amount = nat_le amount most

-- a reserve, if there is one, is over the start and at most the buy-now price
abbrev pub is_reserve : Terms → Option ℕ → Bool
is_reserve t None = true
is_reserve t (Some amount) = nat_lt t.start amount && is_at_most t.buy_now amount

-- by what is sealed of their bids, the terms are consistent: as a purchase, or as a standing
abbrev pub is_reported : List Band → Terms → Option ℕ → Option ℕ → Option ℕ → Bool
is_reported bands t reserve top second = (is_none top && is_none second && is_bought t)
    || is_shape bands (record { start = t.start; reserve = reserve }) t.price t.count t.leader top second

-- by the reserve and by what is sealed of their bids, the terms are consistent
abbrev pub is_consistent : List Band → Terms → Option ℕ → Option ℕ → Option ℕ → Bool
is_consistent bands t reserve top second = is_reserve t reserve && is_reported bands t reserve top second

-- the columns from one on hold what is sealed, and the terms are consistent with it
pub record AreSealed (bands : List Band) (reserve : Option ℕ) (at : ℕ) (r : Row) : Type 0 where
  pub wide : at + 1 < length r
  pub top : IfSome (maybe_number_in (column r at)) (λ n. n ≤ most_cents)
  pub second : IfSome (maybe_number_in (column r (at + 1))) (λ n. n ≤ most_cents)
  pub is_consistent : is_consistent bands (terms_of r) reserve (maybe_number_in (column r at)) (maybe_number_in (column r (at + 1)))
      ≡ true

-- what a query shows as sealed of an item, after its terms, goes with the terms
abbrev pub IsShownKept : BandTables → List ReserveRow → Row → Type 0
IsShownKept editions reserves r = IsKeptItemBy editions (terms_by reserves r) (auction_by reserves r).standing

-- what a query shows of an item, its maxima after the terms, or after the texts
abbrev pub TermsHold : BandTables → List ReserveRow → Row → Type 0
TermsHold editions reserves r = TermsFit (terms_of r)
    × AreSealed (bands_in editions (terms_of r).item) (amount_of reserves (terms_of r).item) 11 r

abbrev pub ItemHolds : BandTables → List ReserveRow → Row → Type 0
ItemHolds editions reserves r = ItemFits (item_of r)
    × AreSealed (bands_in editions (item_of r).terms.item) (amount_of reserves (item_of r).terms.item) 14 r
