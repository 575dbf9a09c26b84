-- A text that grows.
use Rattle.std.proofs.Common.{◌≡◌, ℕ, List, ◌++◌, ap, ◌∙◌}

-- a text that grew, by what it was and what came after it
pub grown : (t u v x y : List ℕ) → t ≡ u ++ x → u ≡ v → x ≡ y → t ≡ v ++ y
grown t u v x y grew was more = grew ∙ ap (λ l. l ++ x) was ∙ ap (λ l. v ++ l) more
