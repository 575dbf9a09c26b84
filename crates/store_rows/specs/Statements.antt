-- What is so of a statement over the schema of each house, whether it has the index of watches by item or not.
use Rattle.std.specs.Prelude.{ℕ, Bool, List}
use Rattle.sqlite.specs.Given.{IsPlain}
use Rattle.sqlite.specs.Listing.{understood}
use Rattle.store_rows.specs.First.{IsFinite}
use Rattle.store_rows.specs.Schema.{house_by}

-- it has no RETURNING, and does not read the time
abbrev pub AlwaysPlain : List ℕ → Type 0
AlwaysPlain sql = (is_indexed : Bool) → IsPlain (understood (house_by is_indexed) sql)

-- it is a SELECT with no WITH, whose answer has an end
abbrev pub AlwaysFinite : List ℕ → Type 0
AlwaysFinite sql = (is_indexed : Bool) → IsFinite (understood (house_by is_indexed) sql)
