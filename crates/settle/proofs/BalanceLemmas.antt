-- Over all members that the sales name, what is bought is net plus fees.
use Rattle.std.proofs.Common.{◌≡◌, ℕ, ◌+◌, ◌-◌, ◌*◌, ◌≤◌, ◌==◌, ◌&&◌, ◌||◌, if◌then◌else◌, cond, Bool, true, false, List, [], ◌∷◌, map, filter, sum_by, All, refl, sym, ap, ◌∙◌, arith}
use Rattle.std.specs.List.{AllByRecursion as Each, list_any}
use Rattle.std.proofs.lemmas.Bool.Decides.{nat_tests}
use Rattle.std.proofs.lemmas.List.Elements.{recursion_from_All}
use Rattle.std.proofs.lemmas.List.Sorted.{sum_by-IsPermutation}
use Rattle.std.proofs.lemmas.List.Sums.{sum_by-cons}
use Rattle.settle.proofs.LineLemmas.{counts, fee_small}
use Rattle.settle.proofs.OrderLemmas.{in_order-permutation}
use Rattle.settle.specs.Balance.{IsBalanced, members_of, with_member}
use Rattle.settle.specs.Fee.{fee_of}
use Rattle.settle.specs.Statement.{IsSale, is_within, sell_line, buy_line, line_of, lines_of, rows_of, fee_on, net_on, bought_on}
use Rattle.settle.specs.declared.line.Line.{Line}
use Rattle.settle.specs.declared.sale.Sold.{Sold}
use Rattle.settle.specs.declared.zone.Zone.{Zone}

-- sums of functions that agree, and of two added up
sum_by-each : {X : Type 0} (f g : X → ℕ) (xs : List X) → Each (λ x. f x ≡ g x) xs → sum_by f xs ≡ sum_by g xs
sum_by-each f g [] h = refl
sum_by-each f g (x ∷ xs) h = omega (arith, h.0, sum_by-each f g xs h.1, sum_by-cons f x xs, sum_by-cons g x xs)

each_always : {X : Type 0} (P : X → Type 0) → ((x : X) → P x) → (xs : List X) → Each P xs
each_always P h [] = tt
each_always P h (x ∷ xs) = (h x, each_always P h xs)

each_then : {X : Type 0} (P Q : X → Type 0) → ((x : X) → P x → Q x) → (xs : List X) → Each P xs → Each Q xs
each_then P Q f [] h = tt
each_then P Q f (x ∷ xs) h = (f x h.0, each_then P Q f xs h.1)

each_and : {X : Type 0} (P Q : X → Type 0) → (xs : List X) → Each P xs → Each Q xs → Each (λ x. P x × Q x) xs
each_and P Q [] h k = tt
each_and P Q (x ∷ xs) h k = ((h.0, k.0), each_and P Q xs h.1 k.1)

sum_by-both : {X : Type 0} (f g : X → ℕ) (xs : List X) → sum_by (λ x. f x + g x) xs ≡ sum_by f xs + sum_by g xs
sum_by-both f g [] = refl
sum_by-both f g (x ∷ xs) =
    omega (arith, sum_by-both f g xs, sum_by-cons (λ x. f x + g x) x xs, sum_by-cons f x xs, sum_by-cons g x xs)

sum_by-none : {X : Type 0} (xs : List X) → sum_by (λ x. 0) xs ≡ 0
sum_by-none [] = refl
sum_by-none (x ∷ xs) = omega (arith, sum_by-none xs, sum_by-cons (λ x. 0) x xs)

-- a sum of sums may be taken in either order
sum_by-swap : {X Y : Type 0} (h : X → Y → ℕ) (xs : List X) (ys : List Y) → sum_by (λ x. sum_by (h x) ys) xs ≡ sum_by (λ y. sum_by (λ x. h x y) xs) ys
sum_by-swap h xs [] = sum_by-none xs
sum_by-swap h xs (y ∷ ys) =
    let parts = sum_by-each (λ x. sum_by (h x) (y ∷ ys)) (λ x. h x y + sum_by (h x) ys) xs (each_always _ (λ x. sum_by-cons (h x) y ys) xs) in
    let two = sum_by-both (λ x. h x y) (λ x. sum_by (h x) ys) xs in
    parts ∙ two ∙ ap (λ n. sum_by (λ x. h x y) xs + n) (sum_by-swap h xs ys) ∙ sym (sum_by-cons (λ y. sum_by (λ x. h x y) xs) y ys)

-- how often a number is in a list
abbrev times : ℕ → List ℕ → ℕ
times k ms = sum_by (λ m. if k == m then 1 else 0) ms

once_step : (b : Bool) (v n rest total count : ℕ) → total ≡ (if b then v else 0) + rest → count ≡ (if b then 1 else 0) + n → rest ≡ n * v → total ≡ count * v
once_step true v n rest total count value number r =
    let whole : (1 + n) * v ≡ v + n * v = omega arith in
    rw (number, whole) (value ∙ ap (λ k. v + k) r)
once_step false v n rest total count value number r =
    let same : total ≡ rest = omega (arith, value) in
    let few : count ≡ n = omega (arith, number) in
    rw few (same ∙ r)

once_each : (k v : ℕ) (ms : List ℕ) → sum_by (λ m. if k == m then v else 0) ms ≡ times k ms * v
once_each k v [] = omega arith
once_each k v (m ∷ ms) =
    once_step (k == m) v (times k ms) (sum_by (λ m. if k == m then v else 0) ms) _ _ (sum_by-cons (λ m. if k == m then v else 0) m ms) (sum_by-cons (λ m. if k == m then 1 else 0) m ms) (once_each k v ms)

any_step : (b c : Bool) (rest : ℕ) → b || c ≡ true → (c ≡ true → 1 ≤ rest) → 1 ≤ (if b then 1 else 0) + rest
any_step true c rest e f = omega arith
any_step false c rest e f = omega (arith, f e)

none_step : (b c : Bool) (rest : ℕ) → b || c ≡ false → (c ≡ false → rest ≡ 0) → (if b then 1 else 0) + rest ≡ 0
none_step true c rest e f = cc
none_step false c rest e f = omega (arith, f e)

-- a number that is there is counted, and one that is not is not counted
any_times : (k : ℕ) (ms : List ℕ) → list_any (λ m. k == m) ms ≡ true → 1 ≤ times k ms
any_times k [] e = cc
any_times k (m ∷ ms) e =
    let s = any_step (k == m) (list_any (λ m. k == m) ms) (times k ms) e (any_times k ms) in
    omega (arith, s, sum_by-cons (λ m. if k == m then 1 else 0) m ms)

none_times : (k : ℕ) (ms : List ℕ) → list_any (λ m. k == m) ms ≡ false → times k ms ≡ 0
none_times k [] e = refl
none_times k (m ∷ ms) e =
    let s = none_step (k == m) (list_any (λ m. k == m) ms) (times k ms) e (none_times k ms) in
    omega (arith, s, sum_by-cons (λ m. if k == m then 1 else 0) m ms)

-- by either outcome of the test of `with_member`
by_any : (P : List ℕ → Type 0) (b : Bool) (xs ys : List ℕ) → (b ≡ true → P xs) → (b ≡ false → P ys) → P (if b then xs else ys)
by_any P true xs ys f g = f refl
by_any P false xs ys f g = g refl

with_there : (x : ℕ) (ms : List ℕ) → 1 ≤ times x (with_member x ms)
with_there x ms =
    by_any (λ l. 1 ≤ times x l) (list_any (λ m. x == m) ms) ms (x ∷ ms) (any_times x ms)
    (λ _. let same : ◌≡◌ {A = ℕ} (if x == x then 1 else 0) 1 = grind (arith, nat_tests) in omega (arith, same, sum_by-cons (λ m. if x == m then 1 else 0) x ms))

with_more : (k x : ℕ) (ms : List ℕ) → times k ms ≤ times k (with_member x ms)
with_more k x ms =
    by_any (λ l. times k ms ≤ times k l) (list_any (λ m. x == m) ms) ms (x ∷ ms) (λ _. omega arith)
    (λ _. omega (arith, sum_by-cons (λ m. if k == m then 1 else 0) x ms))

one_more : (b : Bool) (n total : ℕ) → total ≡ (if b then 1 else 0) + n → n ≤ 1 → (b ≡ true → n ≡ 0) → total ≤ 1
one_more true n total e few none = omega (arith, e, none refl)
one_more false n total e few none = omega (arith, e, few)

with_once : (k x : ℕ) (ms : List ℕ) → times k ms ≤ 1 → times k (with_member x ms) ≤ 1
with_once k x ms few =
    by_any (λ l. times k l ≤ 1) (list_any (λ m. x == m) ms) ms (x ∷ ms) (λ _. few)
    (λ e. one_more (k == x) (times k ms) (times k (x ∷ ms)) (sum_by-cons (λ m. if k == m then 1 else 0) x ms) few
    (λ t. let same : k ≡ x = grind (arith, nat_tests) in rw same (none_times x ms e)))

-- no member is there twice
members_once : (k : ℕ) (sales : List Sold) → times k (members_of sales) ≤ 1
unfolding members_of
members_once k [] = omega arith
members_once k (s ∷ rest) = with_once k s.seller _ (with_once k s.buyer _ (members_once k rest))

-- and each party of a sale is
abbrev Named : List ℕ → Sold → Type 0
Named ms s = (1 ≤ times s.seller ms) × (1 ≤ times s.buyer ms)

members_named : (sales : List Sold) → Each (Named (members_of sales)) sales
unfolding members_of
members_named [] = tt
members_named (s ∷ rest) =
    let inner = with_member s.buyer (members_of rest) in
    let seller = with_there s.seller inner in
    let buyer : 1 ≤ times s.buyer (with_member s.seller inner) = omega (arith, with_there s.buyer (members_of rest), with_more s.buyer s.seller inner) in
    let kept = λ (k : ℕ). let a : times k (members_of rest) ≤ times k (with_member s.seller inner) = omega (arith, with_more k s.buyer (members_of rest), with_more k s.seller inner) in a in
    ((seller, buyer), each_then (Named (members_of rest)) (Named (with_member s.seller inner)) (λ t h. (omega (arith, h.0, kept t.seller), omega (arith, h.1, kept t.buyer))) rest (members_named rest))

-- what a function adds up to over the lines of a member
sum_lines : (f : Line → ℕ) (g : Sold → Line) (p : Sold → Bool) (sales : List Sold) → sum_by f (map g (filter p sales)) ≡ sum_by (λ s. if p s then f (g s) else 0) sales
sum_lines f g p [] = refl
sum_lines f g p (s ∷ rest) = by_cases (p s) (sum_lines f g p rest) (sum_by-cons (λ s. if p s then f (g s) else 0) s rest)
  where
    by_cases : (b : Bool) → sum_by f (map g (filter p rest)) ≡ sum_by (λ s. if p s then f (g s) else 0) rest
        → sum_by (λ s. if p s then f (g s) else 0) (s ∷ rest) ≡ (if b then f (g s) else 0) + sum_by (λ s. if p s then f (g s) else 0) rest
        → sum_by f (map g (cond b (s ∷ filter p rest) (filter p rest))) ≡ sum_by (λ s. if p s then f (g s) else 0) (s ∷ rest)
    by_cases true e parts = omega (arith, e, parts, sum_by-cons f (g s) (map g (filter p rest)))
    by_cases false e parts = omega (arith, e, parts)

sum_rows : (f : Line → ℕ) (sales : List Sold) (member from to : ℕ) (zone : Zone) (rate : ℕ)
    → sum_by f (rows_of sales member from to zone rate) ≡ sum_by (λ s. if counts member from to zone s then f (line_of member zone rate s) else 0) sales
unfolding rows_of lines_of
sum_rows f sales member from to zone rate =
    sum_by-IsPermutation f _ _ (in_order-permutation (lines_of sales member from to zone rate)) ∙ sum_lines f (line_of member zone rate) (counts member from to zone) sales

-- the three sums of a sale, for each member
bought_case : (sells buys within : Bool) (a b : Line) (price : ℕ) → ¬ ((sells ≡ true) × (buys ≡ true)) → a.sell ≡ true → b.sell ≡ false → b.price ≡ price
    → (if (sells || buys) && within then bought_on (if sells then a else b) else 0) ≡ (if within then (if buys then price else 0) else 0)
bought_case true true w a b price apart s t p = absurd (apart (refl, refl))
bought_case true false true a b price apart s t p = rw s refl
bought_case true false false a b price apart s t p = refl
bought_case false true true a b price apart s t p = rw t p
bought_case false true false a b price apart s t p = refl
bought_case false false true a b price apart s t p = refl
bought_case false false false a b price apart s t p = refl

net_case : (sells buys within : Bool) (a b : Line) (net : ℕ) → a.sell ≡ true → b.sell ≡ false → a.net ≡ net
    → (if (sells || buys) && within then net_on (if sells then a else b) else 0) ≡ (if within then (if sells then net else 0) else 0)
net_case true buys true a b net s t p = rw s p
net_case true buys false a b net s t p = refl
net_case false true true a b net s t p = rw t refl
net_case false true false a b net s t p = refl
net_case false false true a b net s t p = refl
net_case false false false a b net s t p = refl

fee_case : (sells buys within : Bool) (a b : Line) (fee : ℕ) → a.sell ≡ true → b.sell ≡ false → a.fee ≡ fee
    → (if (sells || buys) && within then fee_on (if sells then a else b) else 0) ≡ (if within then (if sells then fee else 0) else 0)
fee_case true buys true a b fee s t p = rw s p
fee_case true buys false a b fee s t p = refl
fee_case false true true a b fee s t p = rw t refl
fee_case false true false a b fee s t p = refl
fee_case false false true a b fee s t p = refl
fee_case false false false a b fee s t p = refl

within_sum : (w : Bool) (k v : ℕ) (ms : List ℕ) → times k ms ≡ 1 → sum_by (λ m. if w then (if k == m then v else 0) else 0) ms ≡ (if w then v else 0)
within_sum true k v ms once = once_each k v ms ∙ rw once (omega arith)
within_sum false k v ms once = sum_by-none ms

-- over the members, a sum of the lines is the sum of what each sale gives
over_members : (f : Line → ℕ) (who v : Sold → ℕ) (sales : List Sold) (from to : ℕ) (zone : Zone) (rate : ℕ) (ms : List ℕ)
    → Each (λ s. (times (who s) ms ≡ 1) × ((m : ℕ) → (if counts m from to zone s then f (line_of m zone rate s) else 0) ≡ (if is_within from to zone s then (if who s == m then v s else 0) else 0))) sales
    → sum_by (λ m. sum_by f (rows_of sales m from to zone rate)) ms ≡ sum_by (λ s. if is_within from to zone s then v s else 0) sales
over_members f who v sales from to zone rate ms h =
    sum_by-each (λ m. sum_by f (rows_of sales m from to zone rate)) (λ m. sum_by (λ s. if counts m from to zone s then f (line_of m zone rate s) else 0) sales) ms (each_always _ (λ m. sum_rows f sales m from to zone rate) ms)
    ∙ sum_by-swap (λ m s. if counts m from to zone s then f (line_of m zone rate s) else 0) ms sales
    ∙ sum_by-each (λ s. sum_by (λ m. if counts m from to zone s then f (line_of m zone rate s) else 0) ms) (λ s. if is_within from to zone s then v s else 0) sales
    (each_then _ _ (λ s g. sum_by-each (λ m. if counts m from to zone s then f (line_of m zone rate s) else 0) (λ m. if is_within from to zone s then (if who s == m then v s else 0) else 0) ms (each_always _ g.1 ms)
    ∙ within_sum (is_within from to zone s) (who s) (v s) ms g.0) sales h)

split_case : (w : Bool) (price net fee : ℕ) → price ≡ net + fee → (if w then price else 0) ≡ (if w then net else 0) + (if w then fee else 0)
split_case true price net fee e = e
split_case false price net fee e = refl

pub balanced : (sales : List Sold) (from to : ℕ) (zone : Zone) (rate : ℕ) → rate ≤ 2000 → All IsSale sales → IsBalanced sales from to zone rate
unfolding IsBalanced
balanced sales from to zone rate low real =
    let ms = members_of sales in
    let parties = recursion_from_All IsSale sales real in
    let named = members_named sales in
    let both : Each (λ s. IsSale s × Named ms s) sales = each_and IsSale (Named ms) sales parties named in
    let is_one = λ (k : ℕ) (h : 1 ≤ times k ms). let one : times k ms ≡ 1 = omega (arith, h, members_once k sales) in one in
    let bought = over_members bought_on (λ s. s.buyer) (λ s. s.price) sales from to zone rate ms
    (each_then (λ s. IsSale s × Named ms s) _ (λ s h. (is_one s.buyer h.1.1, λ m. bought_case (s.seller == m) (s.buyer == m) (is_within from to zone s) (sell_line zone rate s) (buy_line zone s) s.price (λ t. h.0.parties (same_member s.seller s.buyer m t.0 t.1)) refl refl refl)) sales both) in
    let net = over_members net_on (λ s. s.seller) (λ s. s.price - fee_of s.price rate) sales from to zone rate ms
    (each_then (λ s. IsSale s × Named ms s) _ (λ s h. (is_one s.seller h.1.0, λ m. net_case (s.seller == m) (s.buyer == m) (is_within from to zone s) (sell_line zone rate s) (buy_line zone s) (s.price - fee_of s.price rate) refl refl refl)) sales both) in
    let fees = over_members fee_on (λ s. s.seller) (λ s. fee_of s.price rate) sales from to zone rate ms
    (each_then (λ s. IsSale s × Named ms s) _ (λ s h. (is_one s.seller h.1.0, λ m. fee_case (s.seller == m) (s.buyer == m) (is_within from to zone s) (sell_line zone rate s) (buy_line zone s) (fee_of s.price rate) refl refl refl)) sales both) in
    let split = sum_by-each (λ s. if is_within from to zone s then s.price else 0) (λ s. (if is_within from to zone s then s.price - fee_of s.price rate else 0) + (if is_within from to zone s then fee_of s.price rate else 0)) sales
    (each_always _ (λ s. split_case (is_within from to zone s) s.price (s.price - fee_of s.price rate) (fee_of s.price rate) (omega (arith, fee_small s.price rate low))) sales) in
    let two = sum_by-both (λ s. if is_within from to zone s then s.price - fee_of s.price rate else 0) (λ s. if is_within from to zone s then fee_of s.price rate else 0) sales in
    omega (arith, bought, net, fees, split, two)
  where
    same_member : (a b m : ℕ) → (a == m) ≡ true → (b == m) ≡ true → a ≡ b
    same_member a b m e f = grind (arith, nat_tests)
