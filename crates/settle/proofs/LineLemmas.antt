-- What the lines of some sales are, and what holds of each.
use Rattle.std.proofs.Common.{◌≡◌, ◌≢◌, ℕ, suc, ◌+◌, ◌*◌, ◌<◌, ◌≤◌, ◌==◌, ◌&&◌, if◌then◌else◌, cond, Bool, true, false, Option, Some, None, List, [], ◌∷◌, ◌++◌, length, get_or, take, map, filter, All, AllPairs, refl, sym, ◌∙◌, arith}
use Rattle.std.proofs.Math.Nat.{mul-le-mul_left}
use Rattle.std.specs.Option.{option_to_list}
use Rattle.std.proofs.lemmas.List.{map-append, length-map}
use Rattle.std.proofs.lemmas.List.Sums.{length-filter, count_by-le-length}
use Rattle.std.proofs.lemmas.List.Elements.{filter_more, All-map, All-filter, All-weaker}
use Rattle.std.proofs.lemmas.List.Kept.{AllPairs-filter, AllPairs-cons}
use Rattle.settle.specs.Fee.{fee_of}
use Rattle.settle.specs.Lines.{IsNumbered}
use Rattle.settle.specs.Statement.{IsSale, is_party, is_within, sell_line, buy_line, line_of, lines_of}
use Rattle.settle.specs.declared.line.Line.{Line}
use Rattle.settle.specs.declared.sale.Sold.{Sold}
use Rattle.settle.specs.declared.zone.Zone.{Zone}

-- the sale makes a line
abbrev pub counts : ℕ → ℕ → ℕ → Zone → Sold → Bool
counts member from to zone s = is_party member s && is_within from to zone s

tail_line : (test : Bool) (front : List Line) (f : Sold → Line) (s : Sold) (o : Option Line) → o ≡ (if test then Some (f s) else None)
    → front ++ map f (cond test (s ∷ []) []) ≡ front ++ option_to_list o
tail_line true front f s o e = rw e refl
tail_line false front f s o e = rw e refl

-- one more sale
pub lines_more : (sales : List Sold) (i : ℕ) (d : Sold) (member from to : ℕ) (zone : Zone) (rate : ℕ) (o : Option Line) → i < length sales
    → o ≡ (if counts member from to zone (get_or sales i d) then Some (line_of member zone rate (get_or sales i d)) else None)
    → lines_of (take (i + 1) sales) member from to zone rate ≡ lines_of (take i sales) member from to zone rate ++ option_to_list o
unfolding lines_of
lines_more sales i d member from to zone rate o within e =
    rw (filter_more (counts member from to zone) sales i d within, map-append (line_of member zone rate) (filter (counts member from to zone) (take i sales)) (cond (counts member from to zone (get_or sales i d)) (get_or sales i d ∷ []) []))
    (tail_line (counts member from to zone (get_or sales i d)) (map (line_of member zone rate) (filter (counts member from to zone) (take i sales))) (line_of member zone rate) (get_or sales i d) o e)

pub no_lines : (member from to : ℕ) (zone : Zone) (rate : ℕ) → lines_of [] member from to zone rate ≡ []
unfolding lines_of
no_lines member from to zone rate = refl

-- a fee is not more than the price
pub fee_small : (price rate : ℕ) → rate ≤ 2000 → fee_of price rate ≤ price
fee_small price rate r =
    let m : price * rate ≤ price * 10000 = mul-le-mul_left price (omega (arith, r)) in omega (arith, m)

line_item : (member : ℕ) (zone : Zone) (rate : ℕ) (s : Sold) → (line_of member zone rate s).item ≡ s.item
line_item member zone rate s = by_party (s.seller == member)
  where
    by_party : (b : Bool) → (if b then sell_line zone rate s else buy_line zone s).item ≡ s.item
    by_party true = refl
    by_party false = refl

pub lines_numbered : (sales : List Sold) (member from to : ℕ) (zone : Zone) (rate : ℕ) → All IsSale sales → All IsNumbered (lines_of sales member from to zone rate)
unfolding lines_of
lines_numbered sales member from to zone rate h =
    All-map IsNumbered (line_of member zone rate) (filter (counts member from to zone) sales)
    (All-filter (counts member from to zone) (λ s. IsNumbered (line_of member zone rate s)) sales
    (All-weaker IsSale (λ s. IsNumbered (line_of member zone rate s)) (λ s g. rw (line_item member zone rate s) g.item.1) sales h))

pub lines_apart : (sales : List Sold) (member from to : ℕ) (zone : Zone) (rate : ℕ) → AllPairs (λ a b. a.item ≢ b.item) sales → AllPairs (λ a b. a.item ≢ b.item) (lines_of sales member from to zone rate)
unfolding lines_of
lines_apart sales member from to zone rate h =
    apart_map (line_of member zone rate) (line_item member zone rate) (filter (counts member from to zone) sales) (AllPairs-filter (λ a b. a.item ≢ b.item) (counts member from to zone) sales h)
  where
    apart_map : (f : Sold → Line) → ((s : Sold) → (f s).item ≡ s.item) → (xs : List Sold) → AllPairs (λ a b. a.item ≢ b.item) xs → AllPairs (λ a b. a.item ≢ b.item) (map f xs)
    apart_map f same [] h = λ i j d lt within. absurd (omega (arith, within))
    apart_map f same (x ∷ xs) h =
        AllPairs-cons (λ a b. a.item ≢ b.item) (f x) (map f xs)
        (All-map (λ y. (f x).item ≢ y.item) f xs (λ k d within e. h 0 (suc k) d (omega arith) (omega (arith, within)) (sym (same x) ∙ e ∙ same (get_or xs k d))))
        (apart_map f same xs (λ i j d lt within. h (suc i) (suc j) d (omega (arith, lt)) (omega (arith, within))))

pub length-lines : (sales : List Sold) (member from to : ℕ) (zone : Zone) (rate : ℕ) → length (lines_of sales member from to zone rate) ≤ length sales
unfolding lines_of
length-lines sales member from to zone rate =
    omega (arith, length-map (filter (counts member from to zone) sales) (line_of member zone rate), length-filter (counts member from to zone) sales, count_by-le-length (counts member from to zone) sales)
