-- Calls on blocks: what each makes of one block, it makes of the plain list.
use Rattle.std.proofs.Common.{◌≡◌, ◌<◌, ◌≤◌, ◌+◌, ◌++◌, ℕ, zero, suc, List, [], ◌∷◌, map, filter, length, get_or, set, Bool, true, false, not, refl, ap, sym, ◌∙◌, arith, inl, inr, Some, None, Result, Ok, Err}
use Rattle.std.specs.Prelude.{if◌then◌else◌, Vec, find, position, ◌==◌}
use Rattle.std.specs.List.{insert, list_any, position_or_len, remove}
use Rattle.house_rows.specs.declared.fault.KeepFault.{KeepFault}
use Rattle.house_rows.specs.declared.fault.KeepFault.TheVariants.{Damaged, Memory, Store}
use Rattle.house_rows.specs.History.{Key, is_less, put_by}
use Rattle.house_rows.proofs.Put.{by_test}
use Rattle.house_rows.proofs.Every.{every_as, every_map, every_put}
use Rattle.list_rows.specs.Blocks.{IsBlock, IsBlocked, IsRising, rows_of, same_key}
use Rattle.list_rows.specs.Makes.{Makes}
use Rattle.list_rows.proofs.Order.{apart_by_first, every_filtered, rising_filter, rising_map, rising_put}
use Rattle.list_rows.proofs.Placed.{cut_is, kept_all, left_all, none_any, none_found, none_passes, place_of, put_is, some_any, some_found, update_is}
use Rattle.list_rows.proofs.Blocked.{any_in_block, apart_beyond, block_at, block_is, block_rises, block_there, filter_in_block, find_in_block, is_block, map_in_block, put_in_block, set_blocked}

-- the block at a place, as an index reads it
pub read_block : {A Z : Type 0} (blocks : List (Vec A Z)) (n : ℕ) (block : Vec A Z) → n < length blocks → block ≡ get_or blocks n block → block_at n blocks ≡ block.items
read_block {A} {Z} blocks n block lt is = block_there blocks n block lt ∙ ap (λ (v : Vec A Z). v.items) (sym is)

pub read_rises : {A Z : Type 0} (key : A → Key) (blocks : List (Vec A Z)) (n : ℕ) (block : Vec A Z) → IsBlocked key blocks → n < length blocks → block ≡ get_or blocks n block → IsRising key block.items
read_rises key blocks n block are lt is = let e = read_block blocks n block lt is in rw (← e) (block_rises key n blocks are)

pub read_is : {A Z : Type 0} (key : A → Key) (blocks : List (Vec A Z)) (n : ℕ) (block : Vec A Z) → IsBlocked key blocks → n < length blocks → block ≡ get_or blocks n block → IsBlock key (0 + n) block.items
read_is key blocks n block are lt is = let e = read_block blocks n block lt is in rw (← e) (is_block key 0 n blocks are)

-- looking up

pub row_found : {A : Type 0} (p : A → Bool) (xs : List A) (i : ℕ) (x : A) → position p xs ≡ Some i → x ≡ get_or xs i x → Some x ≡ find p xs
row_found p xs i x found is =
    let place = place_of p xs i found in
    let at' : position_or_len p xs ≡ i = place.0 in
    sym (some_found p xs x (rw at' place.1) ∙ ap Some (rw at' (sym is)))

pub row_within : {A : Type 0} (p : A → Bool) (xs : List A) (i : ℕ) → position p xs ≡ Some i → i < length xs
row_within p xs i found = (place_of p xs i found).1

pub row_absent : {A : Type 0} (p : A → Bool) (xs : List A) → position p xs ≡ None → None ≡ find p xs
row_absent p xs none = sym (none_found p xs (none_passes p xs none))

-- the block of a number, as its filter says it
pub shown_rises : {A Z : Type 0} (key : A → Key) (n : ℕ) (blocks : List (Vec A Z)) (rows : List A) → IsBlocked key blocks → rows ≡ filter (λ row. (key row).first == n) (rows_of blocks) → IsRising key rows
shown_rises key n blocks rows are is = let e : rows ≡ block_at n blocks = is ∙ sym (block_is key n blocks are) in rw e (block_rises key n blocks are)

pub shown_finds : {A Z : Type 0} (key : A → Key) (w : Key) (blocks : List (Vec A Z)) (rows : List A) → IsBlocked key blocks → rows ≡ filter (λ row. (key row).first == w.first) (rows_of blocks)
    → find (λ row. same_key (key row) w) rows ≡ find (λ row. same_key (key row) w) (rows_of blocks)
shown_finds key w blocks rows are is = let e : rows ≡ block_at w.first blocks = is ∙ sym (block_is key w.first blocks are) in rw e (sym (find_in_block key w blocks are))

-- putting

-- the block of a number is as it was shown
pub shown_block : {A Z : Type 0} (key : A → Key) (n : ℕ) (blocks : List (Vec A Z)) (old : Vec A Z) (rows : List A) → IsBlocked key blocks → n < length blocks → old ≡ get_or blocks n old
    → rows ≡ filter (λ row. (key row).first == n) (rows_of blocks) → old.items ≡ rows
shown_block key n blocks old rows are lt there is = sym (read_block blocks n old lt there) ∙ block_is key n blocks are ∙ sym is

-- where the block of its number doesn't have a key, no row has it
pub shown_free : {A Z : Type 0} (key : A → Key) (w : Key) (blocks : List (Vec A Z)) (rows : List A) → IsBlocked key blocks → rows ≡ filter (λ row. (key row).first == w.first) (rows_of blocks)
    → position (λ row. same_key (key row) w) rows ≡ None → list_any (λ row. same_key (key row) w) (rows_of blocks) ≡ false
shown_free key w blocks rows are is none =
    let e : block_at w.first blocks ≡ rows = block_is key w.first blocks are ∙ sym is in
    any_in_block key w blocks are ∙ rw e (none_any (λ row. same_key (key row) w) rows (none_passes (λ row. same_key (key row) w) rows none))

pub shown_taken : {A Z : Type 0} (key : A → Key) (w : Key) (blocks : List (Vec A Z)) (rows : List A) (i : ℕ) → IsBlocked key blocks → rows ≡ filter (λ row. (key row).first == w.first) (rows_of blocks)
    → position (λ row. same_key (key row) w) rows ≡ Some i → list_any (λ row. same_key (key row) w) (rows_of blocks) ≡ true
shown_taken key w blocks rows i are is found =
    let e : block_at w.first blocks ≡ rows = block_is key w.first blocks are ∙ sym is in
    let place = place_of (λ row. same_key (key row) w) rows i found in
    let at' : position_or_len (λ row. same_key (key row) w) rows ≡ i = place.0 in
    any_in_block key w blocks are ∙ rw e (some_any (λ row. same_key (key row) w) rows (rw at' place.1))

pub put_rows : {A Z : Type 0} (key : A → Key) (x : A) (blocks : List (Vec A Z)) (n : ℕ) (old block : Vec A Z) (i : ℕ) → IsBlocked key blocks → n ≡ (key x).first → n < length blocks → old ≡ get_or blocks n old
    → i ≡ position_or_len (λ row. is_less (key x) (key row)) old.items → block.items ≡ insert old.items i x → rows_of (set blocks n block) ≡ put_by key x (rows_of blocks)
put_rows key x blocks n old block i are number lt there place is =
    put_in_block key x 0 n blocks block are lt (omega (arith, number)) (is ∙ rw place (put_is key x old.items) ∙ ap (put_by key x) (sym (read_block blocks n old lt there)))

pub put_blocked : {A Z : Type 0} (key : A → Key) (x : A) (blocks : List (Vec A Z)) (n : ℕ) (old block : Vec A Z) (i : ℕ) → IsBlocked key blocks → n ≡ (key x).first → n < length blocks → old ≡ get_or blocks n old
    → position (λ row. same_key (key row) (key x)) old.items ≡ None → i ≡ position_or_len (λ row. is_less (key x) (key row)) old.items → block.items ≡ insert old.items i x → IsBlocked key (set blocks n block)
put_blocked key x blocks n old block i are number lt there none place is =
    let one : IsBlock key (0 + n) old.items = read_is key blocks n old are lt there in
    let e : block.items ≡ put_by key x old.items = is ∙ rw place (put_is key x old.items) in
    set_blocked key 0 n blocks block are (rw e record {
      begins = every_put key (λ row. (key row).first ≡ 0 + n) x old.items one.begins (omega (arith, number));
      rises = rising_put key x old.items one.rises (none_any (λ row. same_key (key row) (key x)) old.items (none_passes (λ row. same_key (key row) (key x)) old.items none));
    })

-- a block with the rows that it had
pub same_rows : {A Z : Type 0} (blocks : List (Vec A Z)) (n : ℕ) (old block : Vec A Z) → n < length blocks → old ≡ get_or blocks n old → block.items ≡ old.items → rows_of (set blocks n block) ≡ rows_of blocks
same_rows [] n old block lt there is = refl
same_rows (first ∷ blocks) zero old block lt there is = let e : block.items ≡ first.items = is ∙ ap (λ v. v.items) there in rw e refl
same_rows (first ∷ blocks) (suc n) old block lt there is = ap (λ rest. first.items ++ rest) (same_rows blocks n old block (omega arith) there is)

pub same_blocked : {A Z : Type 0} (key : A → Key) (blocks : List (Vec A Z)) (n : ℕ) (old block : Vec A Z) → IsBlocked key blocks → n < length blocks → old ≡ get_or blocks n old → block.items ≡ old.items → IsBlocked key (set blocks n block)
same_blocked key blocks n old block are lt there is = set_blocked key 0 n blocks block are (rw is (read_is key blocks n old are lt there))

-- cutting

pub cut_found : {A : Type 0} (key : A → Key) (w : Key) (rows new : List A) (i : ℕ) → IsRising key rows → position (λ row. same_key (key row) w) rows ≡ Some i → new ≡ remove rows i → new ≡ filter (λ row. not (same_key (key row) w)) rows
cut_found key w rows new i rising found is =
    let place = place_of (λ row. same_key (key row) w) rows i found in
    let at' : i ≡ position_or_len (λ row. same_key (key row) w) rows = sym place.0 in
    is ∙ rw at' (cut_is key w rows rising (rw at' at place.1))

pub cut_absent : {A : Type 0} (key : A → Key) (w : Key) (rows : List A) → position (λ row. same_key (key row) w) rows ≡ None → rows ≡ filter (λ row. not (same_key (key row) w)) rows
cut_absent key w rows none = sym (kept_all (λ row. same_key (key row) w) rows (none_passes (λ row. same_key (key row) w) rows none))

kept_other : {A : Type 0} (key : A → Key) (w : Key) (n : ℕ) (row : A) → n ≡ w.first → ((key row).first ≡ 0 + n → ⊥) → not (same_key (key row) w) ≡ true
kept_other key w n row number other = let e = apart_by_first (key row) w (λ same. other (omega (arith, same, number))) in rw e refl

pub cut_rows : {A Z : Type 0} (key : A → Key) (w : Key) (blocks : List (Vec A Z)) (n : ℕ) (old block : Vec A Z) → IsBlocked key blocks → n ≡ w.first → n < length blocks → old ≡ get_or blocks n old
    → block.items ≡ filter (λ row. not (same_key (key row) w)) old.items → rows_of (set blocks n block) ≡ filter (λ row. not (same_key (key row) w)) (rows_of blocks)
cut_rows key w blocks n old block are number lt there is =
    filter_in_block key (λ row. not (same_key (key row) w)) 0 n blocks block are lt (λ row other. kept_other key w n row number other)
    (is ∙ ap (filter (λ row. not (same_key (key row) w))) (sym (read_block blocks n old lt there)))

pub cut_blocked : {A Z : Type 0} (key : A → Key) (w : Key) (blocks : List (Vec A Z)) (n : ℕ) (old block : Vec A Z) → IsBlocked key blocks → n < length blocks → old ≡ get_or blocks n old
    → block.items ≡ filter (λ row. not (same_key (key row) w)) old.items → IsBlocked key (set blocks n block)
cut_blocked key w blocks n old block are lt there is =
    let one : IsBlock key (0 + n) old.items = read_is key blocks n old are lt there in
    set_blocked key 0 n blocks block are (rw is record {
      begins = every_filtered (λ row. (key row).first ≡ 0 + n) (λ row. not (same_key (key row) w)) old.items one.begins;
      rises = rising_filter key (λ row. not (same_key (key row) w)) old.items one.rises;
    })

pub cut_beyond : {A Z : Type 0} (key : A → Key) (w : Key) (blocks : List (Vec A Z)) → IsBlocked key blocks → length blocks ≤ w.first → rows_of blocks ≡ filter (λ row. not (same_key (key row) w)) (rows_of blocks)
cut_beyond key w blocks are le = sym (kept_all (λ row. same_key (key row) w) (rows_of blocks) (apart_beyond key w blocks are le))

-- changing a row

abbrev pub changed_at : {A : Type 0} → (A → Key) → Key → (A → A) → A → A
changed_at key w f = λ row. if same_key (key row) w then f row else row

pub update_found : {A : Type 0} (key : A → Key) (w : Key) (f : A → A) (rows : List A) (i : ℕ) (row new : A) → IsRising key rows → position (λ row. same_key (key row) w) rows ≡ Some i → row ≡ get_or rows i row → new ≡ f row → set rows i new ≡ map (changed_at key w f) rows
update_found key w f rows i row new rising found is made =
    let place = place_of (λ row. same_key (key row) w) rows i found in
    let at' : i ≡ position_or_len (λ row. same_key (key row) w) rows = sym place.0 in
    ap (set rows i) (made ∙ ap f is) ∙ rw at' (update_is key w f rows row rising (rw at' at place.1))

pub update_absent : {A : Type 0} (key : A → Key) (w : Key) (f : A → A) (rows : List A) → position (λ row. same_key (key row) w) rows ≡ None → rows ≡ map (changed_at key w f) rows
update_absent key w f rows none = sym (left_all (λ row. same_key (key row) w) f rows (none_passes (λ row. same_key (key row) w) rows none))

left_other : {A : Type 0} (key : A → Key) (w : Key) (f : A → A) (n : ℕ) (row : A) → n ≡ w.first → ((key row).first ≡ 0 + n → ⊥) → changed_at key w f row ≡ row
left_other key w f n row number other = let e = apart_by_first (key row) w (λ same. other (omega (arith, same, number))) in rw e refl

pub update_rows : {A Z : Type 0} (key : A → Key) (w : Key) (f : A → A) (blocks : List (Vec A Z)) (n : ℕ) (old block : Vec A Z) → IsBlocked key blocks → n ≡ w.first → n < length blocks → old ≡ get_or blocks n old
    → block.items ≡ map (changed_at key w f) old.items → rows_of (set blocks n block) ≡ map (changed_at key w f) (rows_of blocks)
update_rows key w f blocks n old block are number lt there is =
    map_in_block key (changed_at key w f) 0 n blocks block are lt (λ row other. left_other key w f n row number other)
    (is ∙ ap (map (changed_at key w f)) (sym (read_block blocks n old lt there)))

key_kept : {A : Type 0} (key : A → Key) (w : Key) (f : A → A) (row : A) → ((row : A) → key (f row) ≡ key row) → key (changed_at key w f row) ≡ key row
key_kept key w f row keeps = elim (by_test (same_key (key row) w)) [ inl is ↦ rw is (keeps row) | inr not ↦ rw not refl ]

pub update_blocked : {A Z : Type 0} (key : A → Key) (w : Key) (f : A → A) (blocks : List (Vec A Z)) (n : ℕ) (old block : Vec A Z) → IsBlocked key blocks → n < length blocks → old ≡ get_or blocks n old → ((row : A) → key (f row) ≡ key row)
    → block.items ≡ map (changed_at key w f) old.items → IsBlocked key (set blocks n block)
update_blocked key w f blocks n old block are lt there keeps is =
    let one : IsBlock key (0 + n) old.items = read_is key blocks n old are lt there in
    set_blocked key 0 n blocks block are (rw is record {
      begins = every_map (changed_at key w f) (λ row. (key row).first ≡ 0 + n) old.items
          (every_as (λ row. (key row).first ≡ 0 + n) (λ row. (key (changed_at key w f row)).first ≡ 0 + n) old.items (λ row here. ap (λ (k : Key). k.first) (key_kept key w f row keeps) ∙ here) one.begins);
      rises = rising_map key (changed_at key w f) old.items (λ row. key_kept key w f row keeps) one.rises;
    })

pub update_beyond : {A Z : Type 0} (key : A → Key) (w : Key) (f : A → A) (blocks : List (Vec A Z)) → IsBlocked key blocks → length blocks ≤ w.first → rows_of blocks ≡ map (changed_at key w f) (rows_of blocks)
update_beyond key w f blocks are le = sym (left_all (λ row. same_key (key row) w) f (rows_of blocks) (apart_beyond key w blocks are le))

-- what a change promises, by its answer

pub makes_ok : {X : Type 0} (old new wanted : X) (is_free : Type 0) → is_free → new ≡ wanted → Makes (Ok tt) old new wanted is_free
makes_ok old new wanted is_free free made = record { ok = made; err = tt; free = free; damaged = λ e known. no_error Damaged e; taken = λ not_free. absurd (not_free free); store = no_error Store } where
  no_error : (fault : KeepFault) → Ok (tt {0}) ≡ Err fault → ⊥
  no_error fault e = cc

fault_of : KeepFault → Result (Unit {0}) KeepFault
fault_of fault = Err fault

not_damaged : fault_of Memory ≡ fault_of Damaged → ⊥
unfolding fault_of
not_damaged e = cc

not_store : fault_of Memory ≡ fault_of Store → ⊥
unfolding fault_of
not_store e = cc

damaged_not_store : fault_of Damaged ≡ fault_of Store → ⊥
unfolding fault_of
damaged_not_store e = cc

pub makes_memory : {X : Type 0} (old new wanted : X) (is_free : Type 0) → is_free → new ≡ old → Makes (Err Memory) old new wanted is_free
unfolding fault_of
makes_memory old new wanted is_free free left = record { ok = tt; err = left; free = tt; damaged = λ e known. not_damaged e; taken = λ not_free. absurd (not_free free); store = not_store }

pub makes_damaged : {X : Type 0} (old new wanted : X) (is_free : Type 0) → (is_free → ⊥) → new ≡ old → Makes (Err Damaged) old new wanted is_free
unfolding fault_of
makes_damaged old new wanted is_free taken left = record { ok = tt; err = left; free = tt; damaged = λ e. taken; taken = λ not_free. refl; store = damaged_not_store }

-- where the key was free, a put fails only where it is out of memory
pub fault_is_memory : {X : Type 0} (old new wanted : X) (is_free : Type 0) (fault : KeepFault) → is_free → Makes (Err fault) old new wanted is_free → fault ≡ Memory
fault_is_memory old new wanted is_free Memory free made = refl
fault_is_memory old new wanted is_free Store free made = absurd (made.store refl)
fault_is_memory old new wanted is_free Damaged free made = absurd (made.damaged refl free)
