-- What changes of items ask of the rows, and make of them.
use Rattle.std.specs.Prelude.{◌≡◌, ◌≤◌, ℕ, List, [], ◌∷◌, filter, map, None}
use Rattle.std.specs.List.{AllByRecursion}
use Rattle.sqlite_trees.specs.Tree.{Trees}
use Rattle.sqlite.specs.Effect.{Database}
use Rattle.house_rows.specs.declared.item.Terms.{Terms}
use Rattle.house_rows.specs.Fits.{TermsFit}
use Rattle.house_rows.specs.Items.{close_sells, is_due}
use Rattle.house_rows.specs.Limits.{most_cents}
use Rattle.house_rows.specs.Tables.{ItemRow}
use Rattle.store_rows.specs.ItemRows.{items_in}
use Rattle.store_items.specs.Items.{OfItem, with_end}

-- the start is an amount
abbrev pub StartFits : ItemRow → Type 0
StartFits row = row.item.terms.start ≤ most_cents

-- nobody has bid
abbrev pub IsUnbid : ItemRow → Type 0
IsUnbid row = (row.item.terms.start ≤ most_cents) × (row.standing.price ≡ row.standing.start)
    × (row.standing.leader ≡ None) × (row.standing.top ≡ None)

-- the items are closed in turn, each as sold where the close sells it
abbrev pub with_ends : List Terms → ItemRow → ItemRow
with_ends [] row = row
with_ends (t ∷ ts) row = with_ends ts (with_end t.item (close_sells t.leader t.met) row)

-- the starts of the items are amounts
abbrev pub StartsFit : List Terms → Database → Type 0
StartsFit due db = AllByRecursion (λ (t : Terms). OfItem t.item StartFits db) due

-- the terms of the items that a close at the moment takes, which fit
pub record IsDue (moment : ℕ) (due : List Terms) (db : Trees) : Type 0 where
  pub all : due ≡ map (λ (row : ItemRow). row.item.terms) (filter (λ row. is_due moment row.item.terms) (items_in db))
  pub fits : AllByRecursion TermsFit due
