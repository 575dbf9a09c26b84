-- Numbers in turn, and one more.
use Rattle.std.proofs.Common.{◌≡◌, ℕ, zero, suc, ◌+◌, List, [], ◌∷◌, ◌++◌, refl, ap, arith}
use Rattle.std.specs.List.{range_with_len}

pub range_more : (a n : ℕ) → range_with_len a (n + 1) ≡ range_with_len a n ++ (n + a) ∷ []
range_more a zero = let e : 0 + a ≡ a = omega arith in rw e refl
range_more a (suc n) =
    let e : suc n + 1 ≡ suc (n + 1) = omega arith in
    let f : suc n + a ≡ n + (a + 1) = omega arith in
    rw (e, f) (ap (λ (xs : List ℕ). a ∷ xs) (range_more (a + 1) n))
