-- What a text may hold.
use Rattle.std.specs.Prelude.{ℕ, List, length, Bool, not, ◌&&◌, ◌||◌, ◌==◌, nat_le, nat_eq}
use Rattle.std.specs.List.{list_all}
use lib.Pointwise.{pointwise}

-- no control characters: none under U+0020, and no U+007F
abbrev pub is_plain : List ℕ → Bool
is_plain text = list_all (λ b. nat_le 32 b && not (b == 127)) text

-- so many bytes, from the least to the most
abbrev pub has_length : ℕ → ℕ → List ℕ → Bool
has_length least most text = nat_le least (length text) && nat_le (length text) most

-- a text that a field takes: plain, and of so many bytes
abbrev pub is_text : ℕ → ℕ → List ℕ → Bool
is_text least most text = has_length least most text && is_plain text

-- an ASCII letter, a digit or `-`
abbrev pub is_lot_byte : ℕ → Bool
is_lot_byte b = (nat_le 48 b && nat_le b 57) || (nat_le 65 b && nat_le b 90) || (nat_le 97 b && nat_le b 122) || (b == 45)

-- a seller's code for an item
abbrev pub is_lot : List ℕ → Bool
is_lot text = has_length 1 20 text && list_all is_lot_byte text

-- whether two texts are the same
abbrev pub same_text : List ℕ → List ℕ → Bool
same_text a b = pointwise nat_eq a b
