-- What leads to another number leads back.
use Rattle.std.proofs.Common.{◌≡◌, ◌≢◌, ℕ, zero, suc, ◌+◌, ◌≤◌, pos, negsuc, List, [], length, refl, sym, ap, ◌∙◌, arith, inl, inr, add-one}
use Rattle.std.specs.Prelude.{ℤ}
use Rattle.std.proofs.lemmas.Bool.{cases_lt}
use Rattle.std.proofs.lemmas.List.{get_or_past}
use Rattle.tree_order.specs.Numbers.{number, AreInverse}
use Rattle.tree_order.specs.Rows.{shifted}

pub number-plain : (tree : ℕ) → number [] tree ≡ tree
number-plain tree = refl

pub plain_inverse : AreInverse [] []
plain_inverse = record {
  few = omega arith;
  same = refl;
  low = λ tree past. absurd (omega arith);
  back = λ tree past. absurd (omega arith);
  high = λ tree past. absurd (omega arith);
  forth = λ tree past. absurd (omega arith);
}

pub other_way : (inner outer : List ℕ) → AreInverse inner outer → AreInverse outer inner
other_way inner outer h = record {
  few = omega (arith, h.few, h.same);
  same = sym h.same;
  low = λ tree low. omega (arith, h.same, h.high tree (omega (arith, h.same)));
  back = λ tree low. h.forth tree (omega (arith, h.same));
  high = λ tree low. omega (arith, h.same, h.low tree (omega (arith, h.same)));
  forth = λ tree low. h.back tree (omega (arith, h.same));
}

pub number_past : (numbers : List ℕ) (tree : ℕ) → length numbers ≤ tree → number numbers tree ≡ tree
number_past numbers tree past = get_or_past numbers tree tree past

module _ (inner outer : List ℕ) (h : AreInverse inner outer) where
  pub number_back : (tree : ℕ) → number outer (number inner tree) ≡ tree
  number_back tree = elim (cases_lt tree (length inner)) [
    | inl low ↦ h.back tree low
    | inr past ↦ ap (number outer) (number_past inner tree past) ∙ number_past outer tree (omega (arith, h.same))
  ]

  pub same_number : (s t : ℕ) → number inner s ≡ number inner t → s ≡ t
  same_number s t same = sym (number_back s) ∙ ap (number outer) same ∙ number_back t

  -- a number past those that a file may have stays
  pub number_high : (tree : ℕ) → 65536 ≤ tree → number inner tree ≡ tree
  number_high tree high = number_past inner tree (omega (arith, h.few))

  pub never_high : (tree high : ℕ) → 65536 ≤ high → tree ≢ high → number inner tree ≢ high
  never_high tree high past other is = other (same_number tree high (is ∙ sym (number_high high past)))

  pub shifted_back : (id : ℤ) → shifted outer (shifted inner id) ≡ id
  shifted_back (pos zero) = refl
  shifted_back (pos (suc tree)) =
      ap (λ n. shifted outer (pos n)) (add-one (number inner tree)) ∙ ap (λ n. pos (n + 1)) (number_back tree) ∙ ap pos (add-one tree)
  shifted_back (negsuc n) = refl

pub shifted-plain : (id : ℤ) → shifted [] id ≡ id
shifted-plain (pos zero) = refl
shifted-plain (pos (suc tree)) = ap pos (add-one tree)
shifted-plain (negsuc n) = refl
