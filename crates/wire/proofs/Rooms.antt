-- The bytes held and the room, after a move of the front and after a write into the room.
use Rattle.std.proofs.Common.{◌≡◌, ℕ, ◌+◌, ◌-◌, ◌≤◌, List, ◌++◌, length, take, drop, sym, ap, ◌∙◌, arith, append_assoc, length-append, length-drop}
use Rattle.std.specs.List.{refill}
use Rattle.std.proofs.lemmas.List.{drop-drop, drop-take, length-take-le, take-append-le, take-take, take_all}
use Rattle.std.proofs.Math.Seq.{drop-append_seam}
use Rattle.wire.specs.Held.{Held}

-- a part from start to end is what the first end bytes have from start on
part : (items : List ℕ) (start end : ℕ) → start ≤ end → take (end - start) (drop start items) ≡ drop start (take end items)
part items start end order =
    let whole : start + (end - start) ≡ end = omega arith in
    sym (drop-take start (end - start) items) ∙ ap (λ n. drop start (take n items)) whole

-- what is held after its first bytes
pub held_after : (items : List ℕ) (start end count : ℕ) → start + count ≤ end
    → take (end - (start + count)) (drop (start + count) items) ≡ drop count (take (end - start) (drop start items))
held_after items start end count within =
    let split : count + (end - (start + count)) ≡ end - start = omega arith in
    ap (take (end - (start + count))) (sym (drop-drop count start items))
    ∙ sym (drop-take count (end - (start + count)) (drop start items))
    ∙ ap (λ n. drop count (take n (drop start items))) split

-- the items with w written from end on
abbrev written : List ℕ → ℕ → ℕ → List ℕ → List ℕ
written items n end w =
    let whole = take end items ++ (w ++ drop (length w) (drop end items)) in
    take n (whole ++ drop (length whole) items)

front_kept : (items w : List ℕ) (n end : ℕ) → end ≤ n → n ≡ length items → take end (written items n end w) ≡ take end items
front_kept items w n end fits size =
    let front = take end items in
    let more = w ++ drop (length w) (drop end items) in
    let tail = drop (length (front ++ more)) items in
    let long : length front ≡ end = length-take-le end items (omega arith) in
    take-take end n ((front ++ more) ++ tail) fits
    ∙ ap (take end) (append_assoc front more tail)
    ∙ take-append-le end front (more ++ tail) (omega (arith, long))
    ∙ take-take end end items (omega arith)

-- what is held stays where the room is written
pub held_kept : (items w : List ℕ) (n start end : ℕ) → start ≤ end → end ≤ n → n ≡ length items
    → take (end - start) (drop start (written items n end w)) ≡ take (end - start) (drop start items)
held_kept items w n start end order fits size =
    part (written items n end w) start end order ∙ ap (drop start) (front_kept items w n end fits size) ∙ sym (part items start end order)

-- the room is what was written
pub room_written : (items w : List ℕ) (n end : ℕ) → end ≤ n → n ≡ length items
    → drop end (written items n end w) ≡ refill (length (drop end items)) (drop end items) w
room_written items w n end fits size =
    let front = take end items in
    let room = drop end items in
    let more = w ++ drop (length w) room in
    let tail = drop (length (front ++ more)) items in
    let long : length front ≡ end = length-take-le end items (omega arith) in
    let left : n - end ≡ length room = omega (arith, length-drop end items) in
    let whole : end + (n - end) ≡ n = omega arith in
    let enough : n - end ≤ length more = omega (arith, length-append w (drop (length w) room), length-drop (length w) room, left) in
    ap (λ k. drop end (take k ((front ++ more) ++ tail))) (sym whole)
    ∙ drop-take end (n - end) ((front ++ more) ++ tail)
    ∙ ap (λ l. take (n - end) (drop end l)) (append_assoc front more tail)
    ∙ ap (λ k. take (n - end) (drop k (front ++ (more ++ tail)))) (sym long)
    ∙ ap (take (n - end)) (drop-append_seam front (more ++ tail))
    ∙ take-append-le (n - end) more tail enough
    ∙ ap (λ k. take k more) left

pub same_held : (a b x y : List ℕ) → a ≡ b → x ≡ y → ◌≡◌ {A = Held} (record { held = a; room = x }) (record { held = b; room = y })
same_held a b x y e d = λ i. record { held = e i; room = d i }

-- what is written over the whole room is the room
pub refill_whole : (room written : List ℕ) → length written ≡ length room → refill (length room) room written ≡ written
refill_whole room written same = take-append-le (length room) written (drop (length written) room) (omega (arith, same)) ∙ take_all
    (length room) written (omega (arith, same))
