-- The segments of a target.
use Rattle.std.specs.Prelude.{ℕ, List, ◌==◌, Option, option_and_then, slice_get}
use Rattle.std.specs.List.{slice_split}
use Rattle.site_digits.specs.Digits.{number_in}

-- the segments, which slashes part; the first is before the first slash
abbrev pub segments : List ℕ → List (List ℕ)
segments target = slice_split (λ b. b == 47) target

-- the segment in that place, counted from 0
unfoldable pub segment_at : ℕ → List ℕ → Option (List ℕ)
segment_at place target = slice_get (segments target) place

-- the number that the segment in that place is
unfoldable pub number_at : ℕ → List ℕ → Option ℕ
number_at place target = option_and_then number_in (segment_at place target)
