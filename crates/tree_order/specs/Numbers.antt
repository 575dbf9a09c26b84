-- Two lists of numbers, of which each leads back from the other.
use Rattle.std.specs.Prelude.{◌≡◌, ℕ, ◌<◌, ◌≤◌, List, length, slice_index_or}

-- the number of a tree on the other side, which past the list is its own
abbrev pub number : List ℕ → ℕ → ℕ
number numbers tree = slice_index_or numbers tree tree

-- Both are permutations of the numbers below their length: what one changes, the other undoes.
pub record AreInverse (inner outer : List ℕ) : Type 0 where
  pub few : length inner ≤ 65536
  pub same : length outer ≡ length inner
  pub low : (tree : ℕ) → tree < length inner → number inner tree < length inner
  pub back : (tree : ℕ) → tree < length inner → number outer (number inner tree) ≡ tree
  pub high : (tree : ℕ) → tree < length inner → number outer tree < length inner
  pub forth : (tree : ℕ) → tree < length inner → number inner (number outer tree) ≡ tree
