-- What the walk over the fields keeps.
use Rattle.std.specs.Prelude.{◌≡◌, ℕ, List, [], ◌∷◌, codes}
use Rattle.std.specs.List.{list_any}
use Rattle.wire.specs.Fields.{Pair, has_transfer, names_close, values_of}
use Rattle.wire.specs.declared.fields.Values.{Values}
use Rattle.wire.specs.declared.fields.Values.TheVariants.{Absent, One, Many}
use Rattle.wire.specs.declared.known.Known.{Known}

-- there are no such values, this one alone, or more
abbrev pub IsCount : List (List ℕ) → Values → Type 0
IsCount values Absent = values ≡ []
IsCount values (One value) = values ≡ value.now ∷ []
IsCount values Many = (first second : List ℕ) × (others : List (List ℕ)) × (values ≡ first ∷ second ∷ others)

-- k is what is asked of the fields
pub record IsKnown (fields : List Pair) (k : Known) : Type 0 where
  pub hosts : IsCount (values_of (codes "host") fields) k.hosts
  pub transfer : k.transfer ≡ has_transfer fields
  pub lengths : IsCount (values_of (codes "content-length") fields) k.length
  pub closes : k.closes ≡ list_any names_close (values_of (codes "connection") fields)
  pub member : IsCount (values_of (codes "x-member") fields) k.member
  pub moment : IsCount (values_of (codes "x-moment") fields) k.moment
