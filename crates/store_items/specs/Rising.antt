-- Items whose numbers rise.
use Rattle.std.specs.Prelude.{ℕ, ◌+◌, List, [], ◌∷◌, Bool, true, ◌&&◌, nat_le}
use Rattle.house_rows.specs.declared.item.Terms.{Terms}

-- each number is at least one, and greater than the one before
abbrev pub rise_from : ℕ → List Terms → Bool
rise_from least [] = true
rise_from least (t ∷ items) = nat_le least t.item && rise_from (t.item + 1) items
