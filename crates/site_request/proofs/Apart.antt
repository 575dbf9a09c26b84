-- Patterns that no target fits both of.
use Rattle.std.proofs.Common.{◌≡◌, ℕ, List, [], ◌∷◌, Bool, true, false, ◌==◌, refl, sym, ◌∙◌, All, arith}
use Rattle.std.specs.Prelude.{AllPairs, ◌&&◌, ◌||◌, not, nat_lt, length, if◌then◌else◌}
use Rattle.std.specs.List.{list_all}
use Rattle.std.specs.Str.{bytes_eq}
use Rattle.std.proofs.lemmas.List.Elements.{All-cons, All-nil}
use Rattle.std.proofs.lemmas.List.Kept.{AllPairs-cons}
use Rattle.std.proofs.lemmas.Slice.Eq.{bytes_eq-Decides}
use Rattle.site_request.specs.Fits.{Fits, fits_segment, fits_segments}
use Rattle.site_request.specs.Segments.{segments}
use Rattle.site_request.specs.declared.path.Path.{Path}

both : (a b : Bool) → (a && b) ≡ true → (a ≡ true) × (b ≡ true)
both true b e = (refl, e)
both false b e = cc

-- a segment of a pattern that stands for itself
abbrev is_literal : List ℕ → Bool
is_literal [] = true
is_literal (b ∷ bs) = not (b == 123)

literal_is : (p s : List ℕ) → is_literal p ≡ true → fits_segment p s ≡ true → p ≡ s
literal_is [] s literal fits = (bytes_eq-Decides [] s).0 fits
literal_is (b ∷ bs) s literal fits = by (b == 123) literal fits
  where
    by : (t : Bool) → not t ≡ true → (if t then nat_lt 0 (length s) else bytes_eq (b ∷ bs) s) ≡ true → b ∷ bs ≡ s
    by true literally is = cc
    by false literally is = (bytes_eq-Decides (b ∷ bs) s).0 is

-- two that stand for themselves and differ
abbrev differ : List ℕ → List ℕ → Bool
differ p q = is_literal p && (is_literal q && not (bytes_eq p q))

differ_apart : (p q s : List ℕ) → differ p q ≡ true → fits_segment p s ≡ true → fits_segment q s ≡ true → ⊥
differ_apart p q s test first second =
    let one = both (is_literal p) (is_literal q && not (bytes_eq p q)) test in
    let two = both (is_literal q) (not (bytes_eq p q)) one.1 in
    let same : bytes_eq p q ≡ true = (bytes_eq-Decides p q).1 (literal_is p s one.0 first ∙ sym (literal_is q s two.0 second)) in
    by (bytes_eq p q) same two.1
  where
    by : (t : Bool) → t ≡ true → not t ≡ true → ⊥
    by true is differs = cc
    by false is differs = cc

-- some segments differ, or one has more of them
abbrev are_apart : List (List ℕ) → List (List ℕ) → Bool
are_apart [] [] = false
are_apart [] (q ∷ qs) = true
are_apart (p ∷ ps) [] = true
are_apart (p ∷ ps) (q ∷ qs) = differ p q || are_apart ps qs

apart_fits : (ps qs ss : List (List ℕ)) → are_apart ps qs ≡ true → fits_segments ps ss ≡ true → fits_segments qs ss ≡ true → ⊥
apart_fits [] [] ss test first second = cc
apart_fits [] (q ∷ qs) [] test first second = cc
apart_fits [] (q ∷ qs) (s ∷ ss) test first second = cc
apart_fits (p ∷ ps) [] [] test first second = cc
apart_fits (p ∷ ps) [] (s ∷ ss) test first second = cc
apart_fits (p ∷ ps) (q ∷ qs) [] test first second = cc
apart_fits (p ∷ ps) (q ∷ qs) (s ∷ ss) test first second =
    let one = both (fits_segment p s) (fits_segments ps ss) first in
    let two = both (fits_segment q s) (fits_segments qs ss) second in
    by (differ p q) refl test (differ_apart p q s) one.0 two.0 (λ rest. apart_fits ps qs ss rest one.1 two.1)
  where
    by : (t : Bool) → differ p q ≡ t → (t || are_apart ps qs) ≡ true
        → (differ p q ≡ true → fits_segment p s ≡ true → fits_segment q s ≡ true → ⊥)
        → fits_segment p s ≡ true → fits_segment q s ≡ true → (are_apart ps qs ≡ true → ⊥) → ⊥
    by true is test here one two later = here is one two
    by false is test here one two later = later test

-- no target fits both
abbrev Apart : List ℕ → List ℕ × Path → List ℕ × Path → Type 0
Apart target p q = Fits p.0 target → Fits q.0 target → ⊥

-- the test of each pattern against all later ones
abbrev pub all_apart : List (List ℕ × Path) → Bool
all_apart [] = true
all_apart (p ∷ ps) = list_all (λ q. are_apart (segments p.0) (segments q.0)) ps && all_apart ps

each_apart : (target : List ℕ) (p : List ℕ × Path) (ps : List (List ℕ × Path))
    → list_all (λ q. are_apart (segments p.0) (segments q.0)) ps ≡ true → All (Apart target p) ps
each_apart target p [] test = All-nil (Apart target p)
each_apart target p (q ∷ qs) test =
    let parts = both (are_apart (segments p.0) (segments q.0)) (list_all (λ q. are_apart (segments p.0) (segments q.0)) qs) test in
    All-cons (Apart target p) q qs (apart_fits (segments p.0) (segments q.0) (segments target) parts.0) (each_apart target p qs parts.1)

pub pairs_apart : (target : List ℕ) (ps : List (List ℕ × Path)) → all_apart ps ≡ true → AllPairs (Apart target) ps
pairs_apart target [] test = λ i j d lt le. absurd (omega (arith, lt, le))
pairs_apart target (p ∷ ps) test =
    let parts = both (list_all (λ q. are_apart (segments p.0) (segments q.0)) ps) (all_apart ps) test in
    AllPairs-cons (Apart target) p ps (each_apart target p ps parts.0) (pairs_apart target ps parts.1)
