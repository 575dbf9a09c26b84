-- What is printed where all went well.
use Rattle.std.specs.Prelude.{ℕ, List, [], ◌∷◌, ◌++◌, Bool, true, false, codes, decimal}

-- a house was made
abbrev pub created : List ℕ
created = codes "created" ++ 10 ∷ []

-- connections are waited for
abbrev pub listening : List ℕ
listening = codes "listening" ++ 10 ∷ []

-- so many connections were answered
abbrev pub served : ℕ → List ℕ
served count = codes "served " ++ decimal count ++ 10 ∷ []

-- a house is upgraded, or it was of version 2 before
abbrev pub upgraded_line : Bool → List ℕ
upgraded_line true = codes "upgraded" ++ 10 ∷ []
upgraded_line false = codes "is version 2" ++ 10 ∷ []

-- a band table was set, as this edition
abbrev pub edition_line : ℕ → List ℕ
edition_line edition = codes "edition " ++ decimal edition ++ 10 ∷ []

-- two runs are equal to a member, who got so many replies in each
abbrev pub equal_line : ℕ → List ℕ
equal_line count = codes "equal, " ++ decimal count ++ codes " replies" ++ 10 ∷ []

-- a surplus shows to nobody, and the member got so many replies in each run
abbrev pub same_line : ℕ → List ℕ
same_line count = codes "same, " ++ decimal count ++ codes " replies" ++ 10 ∷ []

-- no covered bid is there
abbrev pub not_covered_line : List ℕ
not_covered_line = codes "not covered" ++ 10 ∷ []

-- they are apart from this place on
abbrev pub apart_line : ℕ → List ℕ
apart_line step = codes "apart at step " ++ decimal step ++ 10 ∷ []
