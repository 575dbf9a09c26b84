-- A period that ends before it begins.
use Rattle.std.proofs.Common.{◌≡◌, ◌<◌, ℕ, ℤ, pos, negsuc, List, [], ◌∷◌, Bool, true, false, filter, refl, ap, arith}
use Rattle.std.specs.Prelude.{◌&&◌, int_le, map}
use Rattle.std.proofs.lemmas.Bool.Decides.{nat_tests}
use Rattle.settle.specs.Statement.{in_order, is_party, line_of, lines_of, rows_of}
use Rattle.settle.specs.Zoned.{day_at}
use Rattle.settle.specs.declared.sale.Sold.{Sold}
use Rattle.settle.specs.declared.zone.Zone.{Zone}

no_day : (from to : ℕ) (d : ℤ) → to < from → (int_le (pos from) d && int_le d (pos to)) ≡ false
no_day from to (pos n) ends_first = grind (arith, nat_tests)
no_day from to (negsuc n) ends_first = refl

no_and : (b c : Bool) → c ≡ false → (b && c) ≡ false
no_and true c is = is
no_and false c is = refl

none_passes : {A : Type 0} (p : A → Bool) (xs : List A) → ((x : A) → p x ≡ false) → filter p xs ≡ []
none_passes p [] none = refl
none_passes p (x ∷ xs) none = rw (none x) (none_passes p xs none)

-- has no lines
pub no_rows : (sales : List Sold) (member from to : ℕ) (zone : Zone) (rate : ℕ) → to < from → rows_of sales member from to zone rate ≡ []
unfolding rows_of lines_of in_order
no_rows sales member from to zone rate ends_first =
    ap (λ (ss : List Sold). in_order (map (line_of member zone rate) ss))
    (none_passes _ sales (λ s. no_and (is_party member s) _ (no_day from to (day_at zone s.closed) ends_first)))
