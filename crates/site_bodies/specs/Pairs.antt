-- Pairs of whole numbers, as an array of objects gives them.
use Rattle.std.specs.Prelude.{ℕ, List, [], ◌∷◌, Option, Some, None, option_and_then, option_map}
use Rattle.serde_json.specs.Data.{Data, Items, no_items, item, Members}
use Rattle.serde_json.specs.Find.{as_array, get, get_member}
use Rattle.site_bodies.specs.Values.{whole_in}

-- the pair of one number and another
abbrev pub paired : Option ℕ → Option ℕ → Option (ℕ × ℕ)
paired None other = None
paired (Some one) other = option_map (λ n. (one, n)) other

-- the whole numbers that a value has under two names, if it is an object that has both
abbrev pub pair_in : List ℕ → List ℕ → Data → Option (ℕ × ℕ)
pair_in first second d = paired (whole_in (get first d)) (whole_in (get second d))

-- the pairs of all values, if each has one
abbrev pub pairs_in : List ℕ → List ℕ → Items → Option (List (ℕ × ℕ))
pairs_in first second no_items = Some []
pairs_in first second (item d ds) =
    option_and_then (λ p. option_map (λ ps. p ∷ ps) (pairs_in first second ds)) (pair_in first second d)

-- the pairs of the field of a name, if it is an array of such objects
unfoldable pub pairs_at : List ℕ → List ℕ → List ℕ → Members → Option (List (ℕ × ℕ))
pairs_at first second name ms =
    option_and_then (pairs_in first second) (option_and_then as_array (get_member name ms))
