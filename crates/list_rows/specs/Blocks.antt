-- Rows in blocks: block n has the rows whose key begins with n, in the strict order of their keys.
use Rattle.std.specs.Prelude.{◌≡◌, ◌+◌, ◌++◌, ℕ, List, [], ◌∷◌, Vec, Bool, true, ◌==◌, ◌&&◌, cond}
use Rattle.std.specs.List.{AllByRecursion}
use Rattle.std.specs.declared.cmp.Ordering.{Ordering}
use Rattle.std.specs.declared.cmp.Ordering.TheVariants.{Less, Equal, Greater}
use Rattle.house_rows.specs.History.{Key, is_less}

abbrev pub same_key : Key → Key → Bool
same_key a b = (a.first == b.first) && ((a.second == b.second) && (a.third == b.third))

-- the order of a key to another
abbrev pub order_of : Key → Key → Ordering
order_of a b = cond (is_less a b) Less (cond (same_key a b) Equal Greater)

-- the blocks one after the other: the plain list
abbrev pub rows_of : {A Z : Type 0} → List (Vec A Z) → List A
rows_of [] = []
rows_of (block ∷ blocks) = block.items ++ rows_of blocks

-- each key is less than all that follow
abbrev pub IsRising : {A : Type 0} → (A → Key) → List A → Type 0
IsRising key [] = Unit {0}
IsRising key (x ∷ xs) = AllByRecursion (λ y. is_less (key x) (key y) ≡ true) xs × IsRising key xs

-- the rows of a number: their keys begin with it, and rise
pub record IsBlock {A : Type 0} (key : A → Key) (number : ℕ) (rows : List A) : Type 0 where
  pub begins : AllByRecursion (λ row. (key row).first ≡ number) rows
  pub rises : IsRising key rows

-- blocks of the numbers from one on
abbrev pub AreBlocksFrom : {A Z : Type 0} → (A → Key) → ℕ → List (Vec A Z) → Type 0
AreBlocksFrom key number [] = Unit {0}
AreBlocksFrom key number (block ∷ blocks) = IsBlock key number block.items × AreBlocksFrom key (number + 1) blocks

-- blocks of the numbers from 0 on
abbrev pub IsBlocked : {A Z : Type 0} → (A → Key) → List (Vec A Z) → Type 0
IsBlocked key blocks = AreBlocksFrom key 0 blocks
