-- The plain list of blocks, when one of them changes.
use Rattle.std.proofs.Common.{◌≡◌, ◌<◌, ◌≤◌, ◌+◌, ℕ, zero, suc, List, [], ◌∷◌, ◌++◌, map, filter, length, get_or, set, Bool, true, false, not, refl, ap, sym, ◌∙◌, arith, inl, inr, None}
use Rattle.std.specs.Prelude.{Vec, find, ◌==◌}
use Rattle.std.specs.List.{AllByRecursion, list_any}
use Rattle.std.proofs.lemmas.List.{append-nil, map-append}
use Rattle.std.proofs.lemmas.Bool.Decides.{nat_tests}
use Rattle.house_rows.specs.History.{Key, is_less, put_by}
use Rattle.house_rows.proofs.Every.{every_as}
use Rattle.house_rows.proofs.Put.{IsInOrder, by_test}
use Rattle.list_rows.specs.Blocks.{AreBlocksFrom, IsBlock, IsBlocked, IsRising, rows_of, same_key}
use Rattle.list_rows.proofs.Order.{apart_by_first, every_append, less_by_first, not_less_by_first, rising_append, rising_in_order}

-- the block of a number, or none
abbrev pub block_at : {A Z : Type 0} → ℕ → List (Vec A Z) → List A
block_at n [] = []
block_at zero (block ∷ blocks) = block.items
block_at (suc n) (block ∷ blocks) = block_at n blocks

pub block_there : {A Z : Type 0} (blocks : List (Vec A Z)) (n : ℕ) (d : Vec A Z) → n < length blocks → block_at n blocks ≡ (get_or blocks n d).items
block_there [] n d lt = absurd (omega arith)
block_there (block ∷ blocks) zero d lt = refl
block_there (block ∷ blocks) (suc n) d lt = block_there blocks n d (omega arith)

pub block_past : {A Z : Type 0} (blocks : List (Vec A Z)) (n : ℕ) → length blocks ≤ n → block_at n blocks ≡ []
block_past [] n le = refl
block_past (block ∷ blocks) zero le = absurd (omega arith)
block_past (block ∷ blocks) (suc n) le = block_past blocks n (omega arith)

-- it is a block
pub is_block : {A Z : Type 0} (key : A → Key) (from n : ℕ) (blocks : List (Vec A Z)) → AreBlocksFrom key from blocks → IsBlock key (from + n) (block_at n blocks)
is_block key from n [] are = record { begins = tt; rises = tt }
is_block key from zero (block ∷ blocks) are = let e : from + 0 ≡ from = omega arith in rw e are.0
is_block key from (suc n) (block ∷ blocks) are = let e : from + suc n ≡ (from + 1) + n = omega arith in rw e (is_block key (from + 1) n blocks are.1)

-- the rows of blocks from a number on begin with no lesser one
pub from_on : {A Z : Type 0} (key : A → Key) (from : ℕ) (blocks : List (Vec A Z)) → AreBlocksFrom key from blocks → AllByRecursion (λ row. from ≤ (key row).first) (rows_of blocks)
from_on key from [] are = tt
from_on key from (block ∷ blocks) are = every_append (λ row. from ≤ (key row).first) block.items (rows_of blocks)
    (every_as (λ row. (key row).first ≡ from) (λ row. from ≤ (key row).first) block.items (λ row is. omega arith) are.0.begins)
    (every_as (λ row. from + 1 ≤ (key row).first) (λ row. from ≤ (key row).first) (rows_of blocks) (λ row le. omega arith) (from_on key (from + 1) blocks are.1))

-- a test over lists one after the other
pub filter_both : {A : Type 0} (p : A → Bool) (xs ys : List A) → filter p (xs ++ ys) ≡ filter p xs ++ filter p ys
filter_both p [] ys = refl
filter_both p (x ∷ xs) ys = elim (by_test (p x)) [ inl is ↦ rw is (ap (λ rest. x ∷ rest) (filter_both p xs ys)) | inr not ↦ rw not (filter_both p xs ys) ]

pub filter_none : {A : Type 0} (p : A → Bool) (xs : List A) → AllByRecursion (λ x. p x ≡ false) xs → filter p xs ≡ []
filter_none p [] all = refl
filter_none p (x ∷ xs) all = rw all.0 (filter_none p xs all.1)

pub filter_whole : {A : Type 0} (p : A → Bool) (xs : List A) → AllByRecursion (λ x. p x ≡ true) xs → filter p xs ≡ xs
filter_whole p [] all = refl
filter_whole p (x ∷ xs) all = rw all.0 (ap (λ rest. x ∷ rest) (filter_whole p xs all.1))

map_whole : {A : Type 0} (f : A → A) (xs : List A) → AllByRecursion (λ x. f x ≡ x) xs → map f xs ≡ xs
map_whole f [] all = refl
map_whole f (x ∷ xs) all = rw all.0 (ap (λ rest. x ∷ rest) (map_whole f xs all.1))

-- rows of other blocks

-- what holds of rows of other numbers holds of all the blocks after
others_after : {A Z : Type 0} (key : A → Key) (P : A → Type 0) (number from : ℕ) (blocks : List (Vec A Z)) → AreBlocksFrom key from blocks → number < from → ((row : A) → ((key row).first ≡ number → ⊥) → P row) → AllByRecursion P (rows_of blocks)
others_after key P number from blocks are less other =
    every_as (λ row. from ≤ (key row).first) P (rows_of blocks) (λ row le. other row (λ same. omega arith)) (from_on key from blocks are)

others_before : {A : Type 0} (key : A → Key) (P : A → Type 0) (number from : ℕ) (rows : List A) → AllByRecursion (λ row. (key row).first ≡ from) rows → from < number → ((row : A) → ((key row).first ≡ number → ⊥) → P row) → AllByRecursion P rows
others_before key P number from rows are less other = every_as (λ row. (key row).first ≡ from) P rows (λ row is. other row (λ same. omega arith)) are

-- a test that only rows of a number pass is one of its block alone
pub filter_block : {A Z : Type 0} (key : A → Key) (p : A → Bool) (from n : ℕ) (blocks : List (Vec A Z)) → AreBlocksFrom key from blocks → ((row : A) → ((key row).first ≡ from + n → ⊥) → p row ≡ false) → filter p (rows_of blocks) ≡ filter p (block_at n blocks)
filter_block key p from n [] are other = refl
filter_block key p from zero (block ∷ blocks) are other =
    rw (filter_both p block.items (rows_of blocks), filter_none p (rows_of blocks) (others_after key (λ row. p row ≡ false) (from + 0) (from + 1) blocks are.1 (omega arith) other)) (append-nil (filter p block.items))
filter_block key p from (suc n) (block ∷ blocks) are other =
    rw (filter_both p block.items (rows_of blocks), filter_none p block.items (others_before key (λ row. p row ≡ false) (from + suc n) from block.items are.0.begins (omega arith) other))
    (filter_block key p (from + 1) n blocks are.1 (let e : from + suc n ≡ (from + 1) + n = omega arith in rw e at other))

find_after : {A : Type 0} (p : A → Bool) (xs ys : List A) → AllByRecursion (λ x. p x ≡ false) xs → find p (xs ++ ys) ≡ find p ys
find_after p [] ys all = refl
find_after p (x ∷ xs) ys all = rw all.0 (find_after p xs ys all.1)

find_before : {A : Type 0} (p : A → Bool) (xs ys : List A) → AllByRecursion (λ x. p x ≡ false) ys → find p (xs ++ ys) ≡ find p xs
find_before p [] ys all = nothing p ys all where
  nothing : {A : Type 0} (p : A → Bool) (ys : List A) → AllByRecursion (λ x. p x ≡ false) ys → find p ys ≡ None
  nothing p [] all = refl
  nothing p (y ∷ ys) all = rw all.0 (nothing p ys all.1)
find_before p (x ∷ xs) ys all = elim (by_test (p x)) [ inl is ↦ rw is refl | inr not ↦ rw not (find_before p xs ys all) ]

pub find_block : {A Z : Type 0} (key : A → Key) (p : A → Bool) (from n : ℕ) (blocks : List (Vec A Z)) → AreBlocksFrom key from blocks → ((row : A) → ((key row).first ≡ from + n → ⊥) → p row ≡ false) → find p (rows_of blocks) ≡ find p (block_at n blocks)
find_block key p from n [] are other = refl
find_block key p from zero (block ∷ blocks) are other =
    find_before p block.items (rows_of blocks) (others_after key (λ row. p row ≡ false) (from + 0) (from + 1) blocks are.1 (omega arith) other)
find_block key p from (suc n) (block ∷ blocks) are other =
    find_after p block.items (rows_of blocks) (others_before key (λ row. p row ≡ false) (from + suc n) from block.items are.0.begins (omega arith) other)
    ∙ find_block key p (from + 1) n blocks are.1 (let e : from + suc n ≡ (from + 1) + n = omega arith in rw e at other)

any_after : {A : Type 0} (p : A → Bool) (xs ys : List A) → AllByRecursion (λ x. p x ≡ false) xs → list_any p (xs ++ ys) ≡ list_any p ys
any_after p [] ys all = refl
any_after p (x ∷ xs) ys all = rw all.0 (any_after p xs ys all.1)

any_before : {A : Type 0} (p : A → Bool) (xs ys : List A) → AllByRecursion (λ x. p x ≡ false) ys → list_any p (xs ++ ys) ≡ list_any p xs
any_before p [] ys all = nothing p ys all where
  nothing : {A : Type 0} (p : A → Bool) (ys : List A) → AllByRecursion (λ x. p x ≡ false) ys → list_any p ys ≡ false
  nothing p [] all = refl
  nothing p (y ∷ ys) all = rw all.0 (nothing p ys all.1)
any_before p (x ∷ xs) ys all = elim (by_test (p x)) [ inl is ↦ rw is refl | inr not ↦ rw not (any_before p xs ys all) ]

pub any_block : {A Z : Type 0} (key : A → Key) (p : A → Bool) (from n : ℕ) (blocks : List (Vec A Z)) → AreBlocksFrom key from blocks → ((row : A) → ((key row).first ≡ from + n → ⊥) → p row ≡ false) → list_any p (rows_of blocks) ≡ list_any p (block_at n blocks)
any_block key p from n [] are other = refl
any_block key p from zero (block ∷ blocks) are other =
    any_before p block.items (rows_of blocks) (others_after key (λ row. p row ≡ false) (from + 0) (from + 1) blocks are.1 (omega arith) other)
any_block key p from (suc n) (block ∷ blocks) are other =
    any_after p block.items (rows_of blocks) (others_before key (λ row. p row ≡ false) (from + suc n) from block.items are.0.begins (omega arith) other)
    ∙ any_block key p (from + 1) n blocks are.1 (let e : from + suc n ≡ (from + 1) + n = omega arith in rw e at other)

-- a change of one block

-- a block in place of another
pub set_blocked : {A Z : Type 0} (key : A → Key) (from n : ℕ) (blocks : List (Vec A Z)) (block : Vec A Z) → AreBlocksFrom key from blocks → IsBlock key (from + n) block.items → AreBlocksFrom key from (set blocks n block)
set_blocked key from n [] block are is = tt
set_blocked key from zero (old ∷ blocks) block are is = (let e : from + 0 ≡ from = omega arith in rw e at is, are.1)
set_blocked key from (suc n) (old ∷ blocks) block are is = (are.0, set_blocked key (from + 1) n blocks block are.1 (let e : from + suc n ≡ (from + 1) + n = omega arith in rw e at is))

put_before : {A : Type 0} (key : A → Key) (x : A) (ys zs : List A) → AllByRecursion (λ z. is_less (key x) (key z) ≡ true) zs → put_by key x (ys ++ zs) ≡ put_by key x ys ++ zs
put_before key x [] [] all = refl
put_before key x [] (z ∷ zs) all = rw all.0 refl
put_before key x (y ∷ ys) zs all = elim (by_test (is_less (key x) (key y))) [ inl less ↦ rw less refl | inr not ↦ rw not (ap (λ rest. y ∷ rest) (put_before key x ys zs all)) ]

put_after : {A : Type 0} (key : A → Key) (x : A) (ys zs : List A) → AllByRecursion (λ y. is_less (key x) (key y) ≡ false) ys → put_by key x (ys ++ zs) ≡ ys ++ put_by key x zs
put_after key x [] zs all = refl
put_after key x (y ∷ ys) zs all = rw all.0 (ap (λ rest. y ∷ rest) (put_after key x ys zs all.1))

-- a row put in its block is put among all
pub put_in_block : {A Z : Type 0} (key : A → Key) (x : A) (from n : ℕ) (blocks : List (Vec A Z)) (block : Vec A Z) → AreBlocksFrom key from blocks → n < length blocks → (key x).first ≡ from + n → block.items ≡ put_by key x (block_at n blocks)
    → rows_of (set blocks n block) ≡ put_by key x (rows_of blocks)
put_in_block key x from n [] block are lt here is = absurd (omega arith)
put_in_block key x from zero (old ∷ blocks) block are lt here is =
    rw is (sym (put_before key x old.items (rows_of blocks)
    (every_as (λ row. from + 1 ≤ (key row).first) (λ row. is_less (key x) (key row) ≡ true) (rows_of blocks) (λ row le. less_by_first (key x) (key row) (omega arith)) (from_on key (from + 1) blocks are.1))))
put_in_block key x from (suc n) (old ∷ blocks) block are lt here is =
    ap (λ rest. old.items ++ rest) (put_in_block key x (from + 1) n blocks block are.1 (omega arith) (omega arith) is)
    ∙ sym (put_after key x old.items (rows_of blocks)
    (every_as (λ row. (key row).first ≡ from) (λ row. is_less (key x) (key row) ≡ false) old.items (λ row first. not_less_by_first (key row) (key x) (omega arith)) are.0.begins))

-- a test that rows of other numbers pass
pub filter_in_block : {A Z : Type 0} (key : A → Key) (p : A → Bool) (from n : ℕ) (blocks : List (Vec A Z)) (block : Vec A Z) → AreBlocksFrom key from blocks → n < length blocks → ((row : A) → ((key row).first ≡ from + n → ⊥) → p row ≡ true) → block.items ≡ filter p (block_at n blocks)
    → rows_of (set blocks n block) ≡ filter p (rows_of blocks)
filter_in_block key p from n [] block are lt other is = absurd (omega arith)
filter_in_block key p from zero (old ∷ blocks) block are lt other is =
    rw (is, filter_both p old.items (rows_of blocks)) (ap (λ rest. filter p old.items ++ rest)
    (sym (filter_whole p (rows_of blocks) (others_after key (λ row. p row ≡ true) (from + 0) (from + 1) blocks are.1 (omega arith) other))))
filter_in_block key p from (suc n) (old ∷ blocks) block are lt other is =
    rw (filter_both p old.items (rows_of blocks), filter_whole p old.items (others_before key (λ row. p row ≡ true) (from + suc n) from old.items are.0.begins (omega arith) other))
    (ap (λ rest. old.items ++ rest) (filter_in_block key p (from + 1) n blocks block are.1 (omega arith) (let e : from + suc n ≡ (from + 1) + n = omega arith in rw e at other) is))

-- a change that leaves rows of other numbers
pub map_in_block : {A Z : Type 0} (key : A → Key) (f : A → A) (from n : ℕ) (blocks : List (Vec A Z)) (block : Vec A Z) → AreBlocksFrom key from blocks → n < length blocks → ((row : A) → ((key row).first ≡ from + n → ⊥) → f row ≡ row) → block.items ≡ map f (block_at n blocks)
    → rows_of (set blocks n block) ≡ map f (rows_of blocks)
map_in_block key f from n [] block are lt other is = absurd (omega arith)
map_in_block key f from zero (old ∷ blocks) block are lt other is =
    rw (is, map-append f old.items (rows_of blocks)) (ap (λ rest. map f old.items ++ rest)
    (sym (map_whole f (rows_of blocks) (others_after key (λ row. f row ≡ row) (from + 0) (from + 1) blocks are.1 (omega arith) other))))
map_in_block key f from (suc n) (old ∷ blocks) block are lt other is =
    rw (map-append f old.items (rows_of blocks), map_whole f old.items (others_before key (λ row. f row ≡ row) (from + suc n) from old.items are.0.begins (omega arith) other))
    (ap (λ rest. old.items ++ rest) (map_in_block key f (from + 1) n blocks block are.1 (omega arith) (let e : from + suc n ≡ (from + 1) + n = omega arith in rw e at other) is))

-- empty blocks more
pub rows_more : {A Z : Type 0} (blocks : List (Vec A Z)) (block : Vec A Z) → block.items ≡ [] → rows_of (blocks ++ block ∷ []) ≡ rows_of blocks
rows_more [] block none = rw none refl
rows_more (old ∷ blocks) block none = ap (λ rest. old.items ++ rest) (rows_more blocks block none)

pub blocked_more : {A Z : Type 0} (key : A → Key) (from : ℕ) (blocks : List (Vec A Z)) (block : Vec A Z) → block.items ≡ [] → AreBlocksFrom key from blocks → AreBlocksFrom key from (blocks ++ block ∷ [])
blocked_more key from [] block none are = (rw none record { begins = tt; rises = tt }, tt)
blocked_more key from (old ∷ blocks) block none are = (are.0, blocked_more key (from + 1) blocks block none are.1)

-- the plain list

-- rows in blocks rise
pub rows_rise : {A Z : Type 0} (key : A → Key) (from : ℕ) (blocks : List (Vec A Z)) → AreBlocksFrom key from blocks → IsRising key (rows_of blocks)
rows_rise key from [] are = tt
rows_rise key from (block ∷ blocks) are = rising_append key block.items (rows_of blocks) are.0.rises (rows_rise key (from + 1) blocks are.1)
    (every_as (λ row. (key row).first ≡ from) (λ row. AllByRecursion (λ later. is_less (key row) (key later) ≡ true) (rows_of blocks)) block.items
    (λ row is. every_as (λ later. from + 1 ≤ (key later).first) (λ later. is_less (key row) (key later) ≡ true) (rows_of blocks) (λ later le. less_by_first (key row) (key later) (omega arith)) (from_on key (from + 1) blocks are.1))
    are.0.begins)

pub rows_in_order : {A Z : Type 0} (key : A → Key) (blocks : List (Vec A Z)) → IsBlocked key blocks → IsInOrder key (rows_of blocks)
rows_in_order key blocks are = rising_in_order key (rows_of blocks) (rows_rise key 0 blocks are)

-- blocks from 0 on

pub block_is : {A Z : Type 0} (key : A → Key) (n : ℕ) (blocks : List (Vec A Z)) → IsBlocked key blocks → block_at n blocks ≡ filter (λ row. (key row).first == n) (rows_of blocks)
block_is key n blocks are =
    let e : 0 + n ≡ n = omega arith in
    let begins : AllByRecursion (λ row. (key row).first ≡ n) (block_at n blocks) = (rw e at (is_block key 0 n blocks are)).begins in
    let all : AllByRecursion (λ row. ((key row).first == n) ≡ true) (block_at n blocks) = every_as (λ row. (key row).first ≡ n) (λ row. ((key row).first == n) ≡ true) (block_at n blocks) (λ row is. grind (arith, nat_tests, is)) begins in
    sym (filter_block key (λ row. (key row).first == n) 0 n blocks are (rw e (λ row apart. grind (arith, nat_tests, apart))) ∙ filter_whole (λ row. (key row).first == n) (block_at n blocks) all)

pub block_rises : {A Z : Type 0} (key : A → Key) (n : ℕ) (blocks : List (Vec A Z)) → IsBlocked key blocks → IsRising key (block_at n blocks)
block_rises key n blocks are = (is_block key 0 n blocks are).rises

-- no row of another number has the key
other_number : {A : Type 0} (key : A → Key) (w : Key) (row : A) → ((key row).first ≡ 0 + w.first → ⊥) → same_key (key row) w ≡ false
other_number key w row other = apart_by_first (key row) w (λ same. other (omega (arith, same)))

pub find_in_block : {A Z : Type 0} (key : A → Key) (w : Key) (blocks : List (Vec A Z)) → IsBlocked key blocks → find (λ row. same_key (key row) w) (rows_of blocks) ≡ find (λ row. same_key (key row) w) (block_at w.first blocks)
find_in_block key w blocks are = find_block key (λ row. same_key (key row) w) 0 w.first blocks are (other_number key w)

pub any_in_block : {A Z : Type 0} (key : A → Key) (w : Key) (blocks : List (Vec A Z)) → IsBlocked key blocks → list_any (λ row. same_key (key row) w) (rows_of blocks) ≡ list_any (λ row. same_key (key row) w) (block_at w.first blocks)
any_in_block key w blocks are = any_block key (λ row. same_key (key row) w) 0 w.first blocks are (other_number key w)

-- beyond the blocks there is none
pub below : {A Z : Type 0} (key : A → Key) (from : ℕ) (blocks : List (Vec A Z)) → AreBlocksFrom key from blocks → AllByRecursion (λ row. (key row).first < from + length blocks) (rows_of blocks)
below key from [] are = tt
below key from (block ∷ blocks) are = every_append (λ row. (key row).first < from + length (block ∷ blocks)) block.items (rows_of blocks)
    (every_as (λ row. (key row).first ≡ from) (λ row. (key row).first < from + length (block ∷ blocks)) block.items (λ row is. omega arith) are.0.begins)
    (every_as (λ row. (key row).first < from + 1 + length blocks) (λ row. (key row).first < from + length (block ∷ blocks)) (rows_of blocks) (λ row lt. omega arith) (below key (from + 1) blocks are.1))

pub apart_beyond : {A Z : Type 0} (key : A → Key) (w : Key) (blocks : List (Vec A Z)) → IsBlocked key blocks → length blocks ≤ w.first → AllByRecursion (λ row. same_key (key row) w ≡ false) (rows_of blocks)
apart_beyond key w blocks are le = every_as (λ row. (key row).first < 0 + length blocks) (λ row. same_key (key row) w ≡ false) (rows_of blocks) (λ row lt. apart_by_first (key row) w (λ same. omega (arith, lt, le, same))) (below key 0 blocks are)
