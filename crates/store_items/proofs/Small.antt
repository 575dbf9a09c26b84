-- For a keep: no item has a number from 2^32 on, nor a category, a seller or a leader with one.
use Rattle.std.proofs.Common.{◌≡◌, ◌==◌, ◌≤◌, ◌<◌, ◌^◌, ℕ, false, [], filter, find, None, refl}
use Rattle.sqlite_value.specs.declared.value.Value.{Value}
use Rattle.sqlite_value.specs.declared.value.Value.TheVariants.{Null, Int, Real, Text, Blob}
use Rattle.sqlite_value.specs.Order.{column}
use Rattle.sqlite_trees.specs.Tree.{Trees}
use Rattle.proxy.specs.Bids.{is_leader}
use Rattle.house_rows.specs.Changed.{is_item}
use Rattle.house_rows.specs.Tables.{ItemRow}
use Rattle.store_rows.specs.Rows.{maybe_number_in, reserves_in}
use Rattle.store_rows.specs.ItemRows.{item_row_in, items_in}
use Rattle.store_rows.proofs.Small.{none_found, none_kept, not_reported}

module _ (db : Trees) (n : ℕ) (high : 2 ^ 32 ≤ n) (low : n < 2 ^ 64) where
  pub no_item : find (is_item n) (items_in db) ≡ None
  no_item = none_found (item_row_in (reserves_in db)) (is_item n) (λ r. not_reported (column r 0) n high low) (db 6)

  pub no_items_in : filter (λ row. row.item.terms.category == n) (items_in db) ≡ []
  no_items_in = none_kept (item_row_in (reserves_in db)) (λ (row : ItemRow). row.item.terms.category == n) (λ r. not_reported (column r 3) n high low) (db 6)

  pub no_items_of : filter (λ row. row.item.terms.seller == n) (items_in db) ≡ []
  no_items_of = none_kept (item_row_in (reserves_in db)) (λ (row : ItemRow). row.item.terms.seller == n) (λ r. not_reported (column r 2) n high low) (db 6)

  not_led : (v : Value) → is_leader (maybe_number_in v) n ≡ false
  not_led Null = refl
  not_led (Int m) = not_reported (Int m) n high low
  not_led (Real x) = not_reported (Real x) n high low
  not_led (Text x) = not_reported (Text x) n high low
  not_led (Blob x) = not_reported (Blob x) n high low

  pub no_items_led : filter (λ row. is_leader row.item.terms.leader n) (items_in db) ≡ []
  no_items_led = none_kept (item_row_in (reserves_in db)) (λ (row : ItemRow). is_leader row.item.terms.leader n) (λ r. not_led (column r 13)) (db 6)
