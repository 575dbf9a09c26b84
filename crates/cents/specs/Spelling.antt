-- Which texts spell an amount of cents, and the one text by which it is shown.
use Rattle.std.specs.Prelude.{◌≡◌, ℕ, ◌+◌, ◌*◌, ◌/◌, ◌%◌, List, [], ◌∷◌, ◌++◌, length, decimal, codes, ◌⊎◌}
use Rattle.std.specs.Str.Parse.{IsNumeral, digits_value}

-- the text is one digit or more, which count whole coins
pub record IsWhole (text : List ℕ) (n : ℕ) : Type 0 where
  pub digits : IsNumeral 10 text
  pub amount : n ≡ 100 * digits_value 10 text

-- the text is one digit or more for the whole coins, a point, and two digits for the cents
pub record IsPointed (text : List ℕ) (n : ℕ) : Type 0 where
  pub whole : List ℕ
  pub cents : List ℕ
  pub parts : text ≡ whole ++ codes "." ++ cents
  pub whole_digits : IsNumeral 10 whole
  pub cents_digits : IsNumeral 10 cents
  pub two : length cents ≡ 2
  pub amount : n ≡ 100 * digits_value 10 whole + digits_value 10 cents

-- the text spells so many cents
abbrev pub IsSpelling : List ℕ → ℕ → Type 0
IsSpelling text n = IsWhole text n ⊎ IsPointed text n

-- the two digits of a number under a hundred
abbrev pub two_digits : ℕ → List ℕ
two_digits n = (48 + n / 10) ∷ (48 + n % 10) ∷ []

-- the text that shows so many cents: the whole coins, a point, and always two digits
abbrev pub amount_text : ℕ → List ℕ
amount_text n = decimal (n / 100) ++ codes "." ++ two_digits (n % 100)
