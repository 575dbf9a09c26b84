-- The tests of items that are handed out, a part at a time.
use Rattle.std.specs.Prelude.{◌≡◌, ◌≢◌, ◌≤◌, true, IfSome, is_some, Some}
use Rattle.house_rows.specs.declared.item.Terms.{Terms}
use Rattle.house_rows.specs.Fits.{IsItem, IsMember, IsWithin}
use Rattle.house_rows.specs.Limits.{most_bids, most_categories, most_cents}
use Rattle.house_rows.specs.Verdict.{was_sold}

pub record NumbersFit (t : Terms) : Type 0 where
  pub item : IsItem t.item
  pub seller : IsMember t.seller
  pub category : IsWithin 1 most_categories t.category
  pub count : t.count ≤ most_bids

pub record AmountsFit (t : Terms) : Type 0 where
  pub start : IsWithin 1 most_cents t.start
  pub buy_now : IfSome t.buy_now (IsWithin t.start most_cents)
  pub price : t.price ≤ most_cents

-- a leader is a member and not the seller
pub record LeaderFits (t : Terms) : Type 0 where
  pub leader : IfSome t.leader IsMember
  pub apart : t.leader ≢ Some t.seller

-- what was sold has a buyer and a closing moment
pub record SaleFits (t : Terms) : Type 0 where
  pub led : was_sold t.state ≡ true → is_some t.leader ≡ true
  pub closed : was_sold t.state ≡ true → is_some t.closed ≡ true
