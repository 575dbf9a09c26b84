-- The tables of editions that were there before another was set.
use Rattle.std.proofs.Common.{◌≡◌, ◌≤◌, ◌+◌, ◌++◌, ℕ, List, [], ◌∷◌, Some, ap, arith, length, refl}
use Rattle.std.specs.Prelude.{None, ◌==◌, if◌then◌else◌}
use Rattle.std.proofs.lemmas.Bool.{ne_eqb}
use Rattle.std.proofs.lemmas.List.{append-nil}
use Rattle.house_rows.specs.Editions.{table_from}
use Rattle.house_rows.specs.History.{History}
use Rattle.house_rows.specs.Listings.{tables_set}
use Rattle.house_rows.specs.Pages.{page_of}
use Rattle.house_rows.specs.People.{members}
use Rattle.house_rows.specs.Runs.{entry}
use Rattle.house_rows.specs.declared.command.Command.TheVariants.{SetBands}
use Rattle.house_rows.specs.declared.query.Query.TheVariants as query
use Rattle.house_rows.specs.declared.settings.Settings.{Settings}

-- one more table behind those of so many editions
from_stays : (k : ℕ) (set : List (List (ℕ × ℕ))) (more : List (ℕ × ℕ)) (n : ℕ)
    → n + 1 ≤ k + length set → table_from k (set ++ more ∷ []) n ≡ table_from k set n
from_stays k [] more n before =
    ap (λ t. if t then Some more else None) (ne_eqb k n (λ same. omega (arith, before, same)))
from_stays k (bands ∷ set) more n before =
    ap (λ r. if k == n then Some bands else r) (from_stays (k + 1) set more n (omega (arith, before)))

pub table_stays : (settings : Settings) (h : History) (moment caller : ℕ) (bands : List (ℕ × ℕ))
    (reader edition : ℕ) → edition ≤ length (tables_set h) + 1
    → page_of settings (entry moment caller (SetBands bands) ∷ h) reader (query.BandsOf edition)
    ≡ page_of settings h reader (query.BandsOf edition)
unfolding page_of
table_stays settings h moment caller bands reader edition before = rw (
  append-nil (members h),
  from_stays 1 (settings.bands ∷ tables_set h) bands edition (omega (arith, before)),
) refl
