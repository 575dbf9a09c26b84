-- For each member the items that it is concerned with.
use Rattle.std.specs.Prelude.{◌≡◌, ℕ, List, Bool, true, ◌==◌, ◌&&◌}
use Rattle.std.specs.List.{list_any}
use Rattle.house_rows.specs.History.{Key}
use Rattle.list_talk.specs.declared.concerns.Concern.{Concern}

-- by member and item
abbrev pub concern_key : Concern → Key
concern_key c = record { first = c.member; second = c.item; third = 0 }

-- whether it is that member's concern with that item
abbrev pub is_concern : ℕ → ℕ → Concern → Bool
is_concern member item c = (c.member == member) && (c.item == item)

-- that a member is concerned with an item was noted
abbrev pub IsNoted : List Concern → ℕ → ℕ → Type 0
IsNoted concerns member item = list_any (is_concern member item) concerns ≡ true
