-- The texts of the queries for items with no number of ours.
use Rattle.std.specs.Prelude.{ℕ, List, codes}

-- those below 0
abbrev pub low_items_text : List ℕ
low_items_text = codes "SELECT id FROM item WHERE id < 0 ORDER BY id"

-- those over each number of 32 bits
abbrev pub far_items_text : List ℕ
far_items_text = codes "SELECT id FROM item WHERE id > 4294967295 ORDER BY id"
