-- Which targets a pattern fits, segment by segment.
use Rattle.std.specs.Prelude.{ℕ, List, [], ◌∷◌, Bool, true, false, ◌&&◌, ◌==◌, nat_lt, length, IsTrue, if◌then◌else◌}
use Rattle.std.specs.Str.{bytes_eq}
use Rattle.site_request.specs.Segments.{segments}

-- a segment in braces fits each that has a byte, any other fits itself alone
abbrev pub fits_segment : List ℕ → List ℕ → Bool
fits_segment [] segment = bytes_eq [] segment
fits_segment (b ∷ bs) segment = if b == 123 then nat_lt 0 (length segment) else bytes_eq (b ∷ bs) segment

-- each segment of a pattern fits that of the target in its place
abbrev pub fits_segments : List (List ℕ) → List (List ℕ) → Bool
fits_segments [] [] = true
fits_segments [] (s ∷ ss) = false
fits_segments (p ∷ ps) [] = false
fits_segments (p ∷ ps) (s ∷ ss) = fits_segment p s && fits_segments ps ss

-- the pattern fits the target
abbrev pub Fits : List ℕ → List ℕ → Type 0
Fits pattern target = IsTrue (fits_segments (segments pattern) (segments target))
