-- The numbers that digits write: 1 to 10 of them, without a leading zero.
use Rattle.std.specs.Prelude.{if◌then◌else◌, ℕ, ◌+◌, ◌*◌, ◌-◌, List, [], ◌∷◌, ◌==◌, nat_le, length, Option, Some, None}
use Rattle.std.specs.Char.{is_ascii_digit}

-- the most digits
abbrev pub most_digits : ℕ
most_digits = 10

-- the number that digits write after those of n; none where a byte is no digit
abbrev pub digits_after : ℕ → List ℕ → Option ℕ
digits_after n [] = Some n
digits_after n (b ∷ bs) = if is_ascii_digit b then digits_after (n * 10 + (b - 48)) bs else None

-- the number of 1 to 10 digits that don't begin with 0
abbrev pub number_in : List ℕ → Option ℕ
number_in [] = None
number_in (b ∷ bs) = if b == 48 then None else (if nat_le (length (b ∷ bs)) most_digits then digits_after 0
    (b ∷ bs) else None)

-- the same, or 0 by one digit
abbrev pub count_in : List ℕ → Option ℕ
count_in [] = None
count_in (b ∷ []) = if b == 48 then Some 0 else number_in (b ∷ [])
count_in (b ∷ c ∷ bs) = number_in (b ∷ c ∷ bs)
