-- What reads, one after the other, leave.
use Rattle.std.proofs.Common.{◌≡◌, ◌<◌, ◌≤◌, ◌+◌, ◌∙◌, ℕ, List, ◌++◌, append_assoc, drop, flat_map, get_or, length, take, ap, sym, arith}
use Rattle.std.proofs.lemmas.List.{append-nil, at_drop_more, drop_all, take-append-le, take_all}
use Rattle.sqlite.specs.State.{State, HasCleanDisk, IsUnchanged, Survives}
use Rattle.sqlite.proofs.StateLemmas.{survives_then}
use Rattle.list_rows.proofs.Growing.{front_twice}

pub clean_before : (old new : State) → Survives old new (λ _. ⊥) → HasCleanDisk new → HasCleanDisk old
clean_before old new survives clean = omega (arith, survives.clean)

pub both_survive : (old mid new : State) → Survives old mid (λ _. ⊥) → Survives mid new (λ _. ⊥) → Survives old new (λ _. ⊥)
both_survive old mid new one two = survives_then old mid new (λ _. ⊥) (λ _. ⊥) (λ _. ⊥) (λ _ _ none. none) (λ _ _ none. none) one two

pub both_same : (old mid new : State) → IsUnchanged old mid → IsUnchanged mid new → IsUnchanged old new
both_same old mid new one two = (
  record {
    was_open = one.0.was_open;
    is_open = two.0.is_open;
    now_is = two.0.now_is ∙ one.0.now_is;
    committed_is = two.0.committed_is ∙ one.0.committed_is;
    mode = two.0.mode ∙ one.0.mode;
  },
  record { changes = two.1.changes ∙ one.1.changes; last_rowid = two.1.last_rowid ∙ one.1.last_rowid },
  two.2 ∙ one.2,
)

-- a step of a loop that goes on at the end of what was found
pub found_more : {A B : Type 0} (F : A → List B) (xs : List A) (i : ℕ) (d : A) (acc more whole : List B) → i < length xs → acc ++ flat_map F (drop i xs) ≡ whole → more ≡ acc ++ F (get_or xs i d) → more ++ flat_map F (drop (i + 1) xs) ≡ whole
found_more F xs i d acc more whole low held step =
    ap (λ l. l ++ flat_map F (drop (i + 1) xs)) step ∙ append_assoc acc (F (get_or xs i d)) (flat_map F (drop (i + 1) xs)) ∙ sym (ap (λ l. acc ++ l) (at_drop_more (flat_map F) xs i d low)) ∙ held

-- the same of a front of what is found
pub first_found_more : {A B : Type 0} (most : ℕ) (F : A → List B) (xs : List A) (i : ℕ) (d : A) (acc more whole : List B) → i < length xs → take most (acc ++ flat_map F (drop i xs)) ≡ whole
    → more ≡ take most (acc ++ F (get_or xs i d)) → take most (more ++ flat_map F (drop (i + 1) xs)) ≡ whole
first_found_more most F xs i d acc more whole low held step =
    let rest = flat_map F (drop (i + 1) xs) in
    ap (λ l. take most (l ++ rest)) step ∙ front_twice most (acc ++ F (get_or xs i d)) rest
    ∙ ap (take most) (append_assoc acc (F (get_or xs i d)) rest ∙ sym (ap (λ l. acc ++ l) (at_drop_more (flat_map F) xs i d low))) ∙ held

-- a full front is not gone on with
pub first_found_full : {B : Type 0} (most : ℕ) (acc rest whole : List B) → length acc ≤ most → most ≤ length acc → take most (acc ++ rest) ≡ whole → acc ≡ whole
first_found_full most acc rest whole few full held = sym (take_all most acc few) ∙ sym (take-append-le most acc rest full) ∙ held

-- after the last there is no more
pub first_found_all : {A B : Type 0} (most : ℕ) (F : A → List B) (xs : List A) (i : ℕ) (acc whole : List B) → length acc ≤ most → length xs ≤ i → take most (acc ++ flat_map F (drop i xs)) ≡ whole → acc ≡ whole
first_found_all most F xs i acc whole few end held =
    sym (take_all most acc few) ∙ ap (take most) (sym (append-nil acc) ∙ ap (λ l. acc ++ flat_map F l) (sym (drop_all i xs end))) ∙ held
