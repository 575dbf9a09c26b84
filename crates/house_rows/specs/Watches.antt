-- What members watch.
use Rattle.std.specs.Prelude.{ℕ, List, [], ◌∷◌, Bool, not, ◌==◌, ◌&&◌, filter}
use Rattle.house_rows.specs.declared.command.Command.{Command}
use Rattle.house_rows.specs.declared.command.Command.TheVariants.{Watch, Unwatch}
use Rattle.house_rows.specs.History.{History, Key, put_by}

-- a member watches an item
pub record WatchRow : Type 0 where
  pub member : ℕ
  pub item : ℕ

-- watches go by member and item
abbrev pub watch_key : WatchRow → Key
watch_key w = record { first = w.member; second = w.item; third = 0 }

-- whether it is a member's watch of an item
abbrev pub is_watch : ℕ → ℕ → WatchRow → Bool
is_watch c i w = (w.member == c) && (w.item == i)

-- all but a member's watch of an item
abbrev pub unwatched : ℕ → ℕ → List WatchRow → List WatchRow
unwatched c i rows = filter (λ w. not (is_watch c i w)) rows

-- Watch puts the row, once, and Unwatch takes it away
abbrev pub with_watch : List WatchRow → ℕ → Command → List WatchRow
with_watch rows caller (Watch i) = put_by watch_key (record { member = caller; item = i }) (unwatched caller i rows)
with_watch rows caller (Unwatch i) = unwatched caller i rows
with_watch rows caller _ = rows

-- all watches, by member and item
abbrev pub watches : History → List WatchRow
watches [] = []
watches (e ∷ h) = with_watch (watches h) e.caller e.command
