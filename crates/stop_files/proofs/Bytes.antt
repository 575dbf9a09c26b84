-- Bytes that are read, written and cut, in the words of the model of a disk.
use Rattle.std.proofs.Common.{◌≡◌, inl, inr, ◌+◌, ◌-◌, ◌≤◌, max, ℕ, List, ◌++◌, length, take, drop, replicate, true, sym, ◌∙◌, ap, arith, length-append, length-take, length-drop}
use Rattle.std.proofs.lemmas.Bool.{and_from, le-leb, cases_lt}
use Rattle.std.proofs.lemmas.List.{append-nil, drop_all, length-replicate, take-append-le, take-replicate, take-take, take_all}
use Rattle.std.proofs.lemmas.Slice.Eq.{bytes_eq-Decides}
use Rattle.std.proofs.Math.Seq.{take-append-add}
use Rattle.sqlite_disk.specs.Disk.{Torn}
use Rattle.sqlite_disk.specs.Events.{agrees, overlaid, padded}
use Rattle.sqlite_disk.proofs.EventLemmas.{Torn-overlaid, length-padded}

-- what was copied into the front of a buffer is what an honest file answers
pub agrees-copied : (file shown buf part : List ℕ) (at n m : ℕ) → n ≤ length buf → at + n ≤ length file → m ≡ n → shown ≡ file
    → length part ≡ length (take n buf) → part ≡ take m (drop at shown) → agrees file at (take n (part ++ drop n buf)) ≡ true
unfolding agrees
agrees-copied file shown buf part at n m fits within m-is shown-is long is =
    let whole : length part ≡ n = omega (arith, length-take n buf) in
    let copied : take n (part ++ drop n buf) ≡ part = take-append-le n part (drop n buf) (omega arith) ∙ take_all n part (omega arith) in
    let read : part ≡ take (length part) (drop at file) = is ∙ ap (λ k. take k (drop at shown)) (m-is ∙ sym whole) ∙ ap (λ xs. take (length part) (drop at xs)) shown-is in
    rw copied (and_from _ _ (le-leb _ _ (omega arith)) ((bytes_eq-Decides _ part).1 (sym read)))

-- a cut, or zeros after
pub padded-cut : (file : List ℕ) (len : ℕ) → padded file len ≡ take len file ++ replicate (len - length file) 0
unfolding padded
padded-cut file len = elim (cases_lt (length file) len) [
  | inl short ↦
      take_all len (file ++ replicate (len - length file) 0)
      (omega (arith, length-append file (replicate (len - length file) 0), length-replicate {A = ℕ} (len - length file) 0))
      ∙ ap (λ (xs : List ℕ). xs ++ replicate (len - length file) 0) (sym (take_all len file (omega arith)))
  | inr long ↦
      let none : len - length file ≡ 0 = omega arith in
      take-append-le len file _ long ∙ sym (ap (λ k. take len file ++ replicate k 0) none ∙ append-nil (take len file))
]

padded-all : (file : List ℕ) → padded file (length file) ≡ file
padded-all file =
    let none : length file - length file ≡ 0 = omega arith in
    padded-cut file (length file)
    ∙ ap (λ k. take (length file) file ++ replicate k 0) none
    ∙ append-nil (take (length file) file) ∙ take_all (length file) file (omega arith)

take-padded : (file : List ℕ) (at len : ℕ) → at ≤ len → take at (padded file len) ≡ padded file at
unfolding padded
take-padded file at len low = elim (cases_lt (length file) at) [
  | inl over ↦
      let more : at ≡ length file + (at - length file) = omega arith in
      let whole : (n : ℕ) → length file ≤ n → padded file n ≡ file ++ replicate (n - length file) 0 =
      λ n h. padded-cut file n ∙ ap (λ (xs : List ℕ). xs ++ replicate (n - length file) 0) (take_all n file h) in
      ap (take at) (whole len (omega arith))
      ∙ ap (λ n. take n (file ++ replicate (len - length file) 0)) more
      ∙ take-append-add file (replicate (len - length file) 0) (at - length file)
      ∙ ap (λ (xs : List ℕ). file ++ xs) (take-replicate (at - length file) (len - length file) 0 (omega arith))
      ∙ sym (whole at (omega arith))
  | inr under ↦
      take-take at len _ low ∙ take-append-le at file _ under ∙ sym (take-append-le at file _ under)
]

drop-padded : (file : List ℕ) (end : ℕ) → drop end (padded file (max (length file) end)) ≡ drop end file
drop-padded file end = elim (cases_lt (length file) end) [
  | inl short ↦ drop_all end (padded file (max (length file) end)) (omega (arith, length-padded file (max (length file) end))) ∙ sym (drop_all end file (omega arith))
  | inr long ↦
      let same : max (length file) end ≡ length file = omega arith in
      ap (λ n. drop end (padded file n)) same ∙ ap (drop end) (padded-all file)
]

-- what a write leaves, where the file is first filled up to its end
pub overlaid-filled : (old items shown new bytes : List ℕ) (at n k m : ℕ) → items ≡ take m old ++ replicate (m - k) 0
    → k ≡ length old → m ≡ max (length old) (at + length bytes)
    → shown ≡ items → new ≡ take at shown ++ bytes ++ drop (at + length bytes) shown → n ≡ length items
    → take n (new ++ drop (length new) items) ≡ overlaid old at bytes
unfolding overlaid
overlaid-filled old items shown new bytes at n k m grown k-is m-is shown-is written n-is =
    let filled : items ≡ padded old (max (length old) (at + length bytes)) =
    grown ∙ ap (λ i. take m old ++ replicate (m - i) 0) k-is ∙ sym (padded-cut old m) ∙ ap (padded old) m-is in
    let end : ℕ = at + length bytes in
    let full : List ℕ = padded old (max (length old) end) in
    let is : shown ≡ full = shown-is ∙ filled in
    let made : new ≡ padded old at ++ bytes ++ drop end old =
    written
    ∙ ap (λ (xs : List ℕ). take at xs ++ bytes ++ drop end xs) is
    ∙ ap (λ (xs : List ℕ). xs ++ bytes ++ drop end full) (take-padded old at (max (length old) end) (omega arith))
    ∙ ap (λ (xs : List ℕ). padded old at ++ bytes ++ xs) (drop-padded old end) in
    let size : length shown ≡ max (length old) end = ap length is ∙ length-padded old (max (length old) end) in
    let same : length shown ≡ length items = ap length shown-is in
    let spelled : length new ≡ length (take at shown ++ bytes ++ drop end shown) = ap length written in
    let long : length new ≡ n =
    omega (arith, length-append (take at shown ++ bytes) (drop end shown), length-append (take at shown) bytes, length-take at shown, length-drop end shown) in
    take-append-le n new (drop (length new) items) (omega arith) ∙ take_all n new (omega arith) ∙ made

-- a part of a write leaves what a torn one may
pub Torn-part : (file : List ℕ) (at n : ℕ) (bytes : List ℕ) → Torn at (length bytes) file (overlaid file at (take n bytes))
Torn-part file at n bytes =
    let part = Torn-overlaid file at (take n bytes) in
    let less = length-take n bytes in
    record {
      no_shorter = part.no_shorter;
      no_longer = omega arith;
      below = part.below;
      above = λ i within high. part.above i within (omega arith);
    }
