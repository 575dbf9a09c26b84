-- Which rows fit, where the house has no word for it.
use Rattle.std.specs.Prelude.{◌≡◌, ◌≤◌, ◌<◌, ◌^◌, true}
use Rattle.proxy.specs.declared.bid.Bid.{Bid}
use Rattle.house_rows.specs.Fits.{IsMember, IsMoment, IsWithin}
use Rattle.house_rows.specs.Limits.{most_bids, most_cents}
use Rattle.house_rows.specs.Text.{is_plain}
use Rattle.store_rows.specs.declared.house.HouseRow.{HouseRow}
use Rattle.store_rows.specs.declared.band.BandRow.{BandRow}
use Rattle.store_rows.specs.declared.reserve.ReserveRow.{ReserveRow}
use Rattle.store_rows.specs.declared.edition.EditionRow.{EditionRow}
use Rattle.store_rows.specs.declared.edition.LaterBandRow.{LaterBandRow}

-- a bid without its item
pub record BidFits (b : Bid) : Type 0 where
  pub member : IsMember b.member
  pub maximum : b.maximum ≤ most_cents
  pub number : IsWithin 1 most_bids b.no

pub record BandRowFits (b : BandRow) : Type 0 where
  pub from : b.from < 2 ^ 32
  pub step : b.step < 2 ^ 32

pub record ReserveRowFits (r : ReserveRow) : Type 0 where
  pub item : r.item < 2 ^ 32
  pub amount : r.amount ≤ most_cents

pub record EditionRowFits (e : EditionRow) : Type 0 where
  pub edition : e.edition < 2 ^ 32
  pub first : e.first < 2 ^ 32

pub record LaterBandRowFits (b : LaterBandRow) : Type 0 where
  pub edition : b.edition < 2 ^ 32
  pub from : b.from < 2 ^ 32
  pub step : b.step < 2 ^ 32

-- the only row of the house, of version 2 of the tables
pub record HouseRowFits (h : HouseRow) : Type 0 where
  pub id : h.id ≡ 1
  pub version : h.version ≡ 2
  pub clock : IsMoment h.clock
  pub rate : h.rate ≤ 2000
  pub zone : is_plain h.zone ≡ true

-- the same in a file of version 1
pub record FirstRowFits (h : HouseRow) : Type 0 where
  pub version : h.version ≡ 1
  pub others : HouseRowFits (record h { version = 2 })
