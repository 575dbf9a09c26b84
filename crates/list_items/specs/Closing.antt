-- A close, item by item, in the order of their ends.
use Rattle.std.specs.Prelude.{◌≡◌, ◌<◌, ◌≤◌, ◌⊎◌, ◌&&◌, if◌then◌else◌, ℕ, Bool, true, not}
use Rattle.std.specs.BTreeSet.{BTreeSet, btree_set_len}
use Rattle.house_rows.specs.Changed.{is_item, with_close}
use Rattle.house_rows.specs.Items.{close_sells, is_due}
use Rattle.house_rows.specs.Tables.{ItemRow}
use Rattle.list_items.specs.Groups.{has_end}

-- the item of that number is closed, if it is due
abbrev pub close_at : ℕ → ℕ → ItemRow → ItemRow
close_at i moment row = if is_item i row then with_close moment row else row

-- one end that is not after the moment is taken out, with a number
pub record TakesEnd (old new : BTreeSet (ℕ × ℕ)) (number moment : ℕ) : Type 0 where
  pub end_of : ℕ
  pub due : end_of ≤ moment
  pub others : (e n : ℕ) → has_end old e n ≡ true → ((e ≡ end_of) × (n ≡ number)) ⊎ (has_end new e n ≡ true)
  pub fewer : btree_set_len new < btree_set_len old

-- every end is after the moment
abbrev pub AllAfter : BTreeSet (ℕ × ℕ) → ℕ → Type 0
AllAfter ends moment = (e n : ℕ) → has_end ends e n ≡ true → moment < e

-- whether an item is due at the moment, and the close sells it or doesn't
abbrev pub is_due_with : ℕ → Bool → ItemRow → Bool
is_due_with moment sells row =
    is_due moment row.item.terms && (if sells then close_sells row.item.terms.leader row.item.terms.met else not (close_sells row.item.terms.leader row.item.terms.met))
