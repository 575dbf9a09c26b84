-- What is on a member's statement about one item.
use Rattle.std.specs.Prelude.{◌≡◌, ℕ, List, ◌==◌, true, filter, Some}
use Rattle.settle.specs.Statement.{statement_of}
use Rattle.settle.specs.declared.line.Line.{Line}
use Rattle.settle.specs.declared.sale.Sold.{Sold}
use Rattle.settle.specs.declared.zone.Zone.{Zone}
use Rattle.house_rows.specs.declared.settings.Settings.{Settings}
use Rattle.house_rows.specs.History.{History}
use Rattle.house_rows.specs.Items.{closed_at, items_shown, leader_of, price_of, state_of}
use Rattle.house_rows.specs.Listings.{Listing, bands_by}
use Rattle.house_rows.specs.Pages.{sales_of}
use Rattle.house_rows.specs.Verdict.{was_sold}

-- the item was sold, to the one who leads it, at its price and its closing moment
pub record IsSaleOf (settings : Settings) (h : History) (l : Listing) (s : Sold) : Type 0 where
  pub sold : was_sold (state_of h l) ≡ true
  pub item : s.item ≡ l.item
  pub seller : s.seller ≡ l.seller
  pub buyer : leader_of h l ≡ Some s.buyer
  pub closed : closed_at h l ≡ Some s.closed
  pub price : s.price ≡ price_of (bands_by settings l) h l

-- the lines about an item on a member's statement of a period
abbrev pub lines_on : Settings → History → ℕ → ℕ → ℕ → Zone → ℕ → List Line
lines_on settings h c from to zone i =
    filter (λ line. line.item == i)
    (statement_of (sales_of (items_shown settings h) c) c from to zone settings.rate).rows
