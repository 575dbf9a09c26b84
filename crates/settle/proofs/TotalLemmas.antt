-- Totals grow line by line, and stay small.
use Rattle.std.proofs.Common.{◌≡◌, ℕ, ◌+◌, ◌*◌, ◌≤◌, ◌<◌, if◌then◌else◌, Bool, All, true, false, List, [], ◌∷◌, take, get_or, length, sum_by, refl, arith}
use Rattle.std.proofs.lemmas.List.Sums.{sum_by_more, sum_by-cons}
use Rattle.std.proofs.lemmas.List.Elements.{recursion_from_All}
use Rattle.std.specs.List.{AllByRecursion as Each}
use Rattle.settle.specs.Lines.{IsSplit}
use Rattle.settle.specs.Statement.{sold_on, fee_on, net_on, bought_on, totals_of}
use Rattle.settle.specs.declared.line.Line.{Line}
use Rattle.settle.specs.declared.totals.Totals.{Totals}

-- each total of so many lines is below the greatest price for each
pub record AreSmall (n : ℕ) (t : Totals) : Type 0 where
  pub sold : t.sold ≤ 1_000_000_000 * n
  pub fees : t.fees ≤ 1_000_000_000 * n
  pub net : t.net ≤ 1_000_000_000 * n
  pub bought : t.bought ≤ 1_000_000_000 * n

-- the totals with one more line
abbrev pub with_line : Totals → Line → Totals
with_line t line = record { sold = t.sold + sold_on line; fees = t.fees + fee_on line; net = t.net + net_on line; bought = t.bought + bought_on line }

pub totals_more : (rows : List Line) (i : ℕ) (d : Line) → i < length rows → totals_of (take (i + 1) rows) ≡ with_line (totals_of (take i rows)) (get_or rows i d)
totals_more rows i d within =
    rw (sum_by_more sold_on rows i d within, sum_by_more fee_on rows i d within, sum_by_more net_on rows i d within, sum_by_more bought_on rows i d within) refl

on_one : (b : Bool) (price fee net : ℕ) → price ≡ fee + net → (if b then price else 0) ≡ (if b then fee else 0) + (if b then net else 0)
on_one true price fee net e = e
on_one false price fee net e = refl

sums_balanced : (rows : List Line) → Each IsSplit rows → sum_by sold_on rows ≡ sum_by fee_on rows + sum_by net_on rows
sums_balanced [] h = refl
sums_balanced (l ∷ rows) h =
    let here : sold_on l ≡ fee_on l + net_on l = on_one l.sell l.price l.fee l.net h.0.0 in
    let rest = sums_balanced rows h.1 in
    omega (arith, here, rest, sum_by-cons sold_on l rows, sum_by-cons fee_on l rows, sum_by-cons net_on l rows)

-- of split lines the prices that were sold for are fees and net
pub totals_balanced : (rows : List Line) → All IsSplit rows → sum_by sold_on rows ≡ sum_by fee_on rows + sum_by net_on rows
totals_balanced rows h = sums_balanced rows (recursion_from_All IsSplit rows h)
