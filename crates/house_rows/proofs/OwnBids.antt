-- What a member has bid, by the table of bids and by the history.
use Rattle.std.proofs.Common.{◌≡◌, ℕ, ◌+◌, ◌≤◌, List, [], ◌∷◌, ◌++◌, map, filter, length, Bool, true, false, refl, ◌∙◌, ap, sym, arith}
use Rattle.std.specs.Prelude.{◌==◌, ◌&&◌}
use Rattle.std.specs.List.{AllByRecursion}
use Rattle.std.proofs.lemmas.Bool.Decides.{nat_tests}
use Rattle.std.proofs.lemmas.List.{append-nil, length-append, length-map}
use Rattle.proxy.specs.Bids.{bids_by, greatest}
use Rattle.proxy.specs.declared.bid.Bid as bid
use Rattle.house_rows.specs.declared.command.Command.{Command}
use Rattle.house_rows.specs.declared.command.Command.TheVariants.{Register, AddCategory, List as Listed, Bid, Buy, Close, Settle, Watch, Unwatch, Ask, Answer, Feedback, SetBands}
use Rattle.house_rows.specs.declared.settings.Settings.{Settings}
use Rattle.house_rows.specs.Bids.{BidRow, bid_in, bid_key, bid_rows, bids_on, with_bid}
use Rattle.house_rows.specs.Found.{best_of}
use Rattle.house_rows.specs.History.{History, Key, is_less, put_by}
use Rattle.house_rows.specs.Tables.{tables_of}
use Rattle.house_rows.proofs.Every.{every_as, every_more}
use Rattle.house_rows.proofs.Put.{IsInOrder, filter_alike, filter_put, filter_put_other, put_in_order}
use Rattle.house_rows.proofs.Lists.{filter_made, filter_twice, map_twice}

put_last : {A : Type 0} (key : A → Key) (x : A) (xs : List A) → AllByRecursion (λ y. is_less (key x) (key y) ≡ false) xs → put_by key x xs ≡ xs ++ x ∷ []
put_last key x [] all = refl
put_last key x (y ∷ xs) all = rw all.0 (ap (λ r. y ∷ r) (put_last key x xs all.1))

-- the rows of an item
abbrev pub rows_on : ℕ → List BidRow → List BidRow
rows_on i rows = filter (λ b. b.item == i) rows

abbrev pub IsOn : ℕ → ℕ → BidRow → Type 0
IsOn i n row = (row.item ≡ i) × (row.bid.no ≤ n)

-- the rows of an item are its bids, in order
pub record Are (rows : List BidRow) (bids : List bid.Bid) (i : ℕ) : Type 0 where
  pub same : map (λ (b : BidRow). b.bid) (rows_on i rows) ≡ bids
  pub on : AllByRecursion (IsOn i (length bids)) (rows_on i rows)

map_more : {A B : Type 0} (f : A → B) (xs : List A) (x : A) → map f (xs ++ x ∷ []) ≡ map f xs ++ f x ∷ []
map_more f [] x = refl
map_more f (y ∷ xs) x = ap (λ r. f y ∷ r) (map_more f xs x)

rest_after : (i n : ℕ) (x row : BidRow) → x.item ≡ i → x.bid.no ≡ n + 1 → IsOn i n row → is_less (bid_key x) (bid_key row) ≡ false
rest_after i n x row xi xn on = let a = on.0 in let b = on.1 in grind (arith, nat_tests)

bid_more : (i j caller maximum : ℕ) (h : History) (test : Bool) → (j == i) ≡ test → IsInOrder bid_key (bid_rows h) → Are (bid_rows h) (bids_on h i) i
    → Are (with_bid h (bid_rows h) caller (Bid j maximum)) (bids_on h i ++ bid_in i (length (bids_on h i) + 1) caller (Bid j maximum)) i
bid_more i j caller maximum h true is order are =
    let e : j ≡ i = grind (arith, nat_tests, is) in
    let x : BidRow = record { item = j; bid = record { member = caller; maximum = maximum; no = length (bids_on h j) + 1 } } in
    let n = length (bids_on h i) in
    let number : x.bid.no ≡ n + 1 = ap (λ k. length (bids_on h k) + 1) e in
    let placed : rows_on i (put_by bid_key x (bid_rows h)) ≡ rows_on i (bid_rows h) ++ x ∷ [] =
    filter_put bid_key (λ b. b.item == i) x (bid_rows h) is order
    ∙ put_last bid_key x (rows_on i (bid_rows h)) (every_as (IsOn i n) (λ y. is_less (bid_key x) (bid_key y) ≡ false) (rows_on i (bid_rows h)) (λ row on. rest_after i n x row e number on) are.on) in
    let longer : length (bids_on h i ++ record { member = caller; maximum = maximum; no = n + 1 } ∷ []) ≡ n + 1 = length-append (bids_on h i) (record { member = caller; maximum = maximum; no = n + 1 } ∷ []) in
    rw is (record {
      same = rw placed (map_more (λ (b : BidRow). b.bid) (rows_on i (bid_rows h)) x ∙ rw (are.same, number) refl);
      on = rw (placed, longer) (every_more (IsOn i (n + 1)) (rows_on i (bid_rows h)) x (every_as (IsOn i n) (IsOn i (n + 1)) (rows_on i (bid_rows h)) (λ row on. (on.0, let le = on.1 in omega arith)) are.on) (e, omega arith));
    })
bid_more i j caller maximum h false is order are =
    let x : BidRow = record { item = j; bid = record { member = caller; maximum = maximum; no = length (bids_on h j) + 1 } } in
    let other = filter_put_other bid_key (λ b. b.item == i) x (bid_rows h) is in
    rw (is, append-nil (bids_on h i)) (record { same = rw other are.same; on = rw other are.on })

one_more : (i : ℕ) (h : History) (caller : ℕ) (command : Command) → IsInOrder bid_key (bid_rows h) → Are (bid_rows h) (bids_on h i) i
    → Are (with_bid h (bid_rows h) caller command) (bids_on h i ++ bid_in i (length (bids_on h i) + 1) caller command) i
one_more i h caller (Bid j maximum) order are = bid_more i j caller maximum h (j == i) refl order are
one_more i h caller (Register name) order are = rw (append-nil (bids_on h i)) are
one_more i h caller (AddCategory name) order are = rw (append-nil (bids_on h i)) are
one_more i h caller (Listed category lot title text start buy_now end reserve) order are = rw (append-nil (bids_on h i)) are
one_more i h caller (Buy j) order are = rw (append-nil (bids_on h i)) are
one_more i h caller Close order are = rw (append-nil (bids_on h i)) are
one_more i h caller (Settle j) order are = rw (append-nil (bids_on h i)) are
one_more i h caller (Watch j) order are = rw (append-nil (bids_on h i)) are
one_more i h caller (Unwatch j) order are = rw (append-nil (bids_on h i)) are
one_more i h caller (Ask j text) order are = rw (append-nil (bids_on h i)) are
one_more i h caller (Answer j asker number text) order are = rw (append-nil (bids_on h i)) are
one_more i h caller (Feedback j rating text) order are = rw (append-nil (bids_on h i)) are
one_more i h caller (SetBands bands) order are = rw (append-nil (bids_on h i)) are

order_step : (h : History) (caller : ℕ) (command : Command) → IsInOrder bid_key (bid_rows h) → IsInOrder bid_key (with_bid h (bid_rows h) caller command)
order_step h caller (Bid j maximum) order = put_in_order bid_key _ (bid_rows h) order
order_step h caller (Register name) order = order
order_step h caller (AddCategory name) order = order
order_step h caller (Listed category lot title text start buy_now end reserve) order = order
order_step h caller (Buy j) order = order
order_step h caller Close order = order
order_step h caller (Settle j) order = order
order_step h caller (Watch j) order = order
order_step h caller (Unwatch j) order = order
order_step h caller (Ask j text) order = order
order_step h caller (Answer j asker number text) order = order
order_step h caller (Feedback j rating text) order = order
order_step h caller (SetBands bands) order = order

in_order : (h : History) → IsInOrder bid_key (bid_rows h)
in_order [] = tt
in_order (e ∷ h) = order_step h e.caller e.command (in_order h)

pub rows_are : (i : ℕ) (h : History) → Are (bid_rows h) (bids_on h i) i
rows_are i [] = record { same = refl; on = tt }
rows_are i (e ∷ h) = one_more i h e.caller e.command (in_order h) (rows_are i h)

-- the bids of a member on an item
mine : (h : History) (c i : ℕ) → map (λ (b : BidRow). b.bid) (filter (λ (b : BidRow). (b.bid.member == c) && (b.item == i)) (bid_rows h)) ≡ bids_by c (bids_on h i)
mine h c i =
    ap (λ rows. map (λ (b : BidRow). b.bid) rows) (swapped (bid_rows h))
    ∙ sym (filter_made (λ (b : bid.Bid). b.member == c) (λ (b : BidRow). b.bid) (rows_on i (bid_rows h)))
    ∙ ap (bids_by c) (rows_are i h).same where
      both : (a b : Bool) → (a && b) ≡ (b && a)
      both true true = refl
      both true false = refl
      both false true = refl
      both false false = refl

      swapped : (rows : List BidRow) → filter (λ (b : BidRow). (b.bid.member == c) && (b.item == i)) rows ≡ filter (λ (b : BidRow). b.bid.member == c) (rows_on i rows)
      swapped rows = filter_alike _ (λ b. (b.item == i) && (b.bid.member == c)) rows (λ row. both (row.bid.member == c) (row.item == i)) ∙ sym (filter_twice (λ b. b.item == i) (λ b. b.bid.member == c) rows)

-- what the tables say of them
pub best_is : (settings : Settings) (h : History) (c i : ℕ) → best_of (tables_of settings h) c i ≡ record { maximum = greatest (bids_on h i) c; mine = length (bids_by c (bids_on h i)) }
unfolding tables_of greatest
best_is settings h c i =
    let rows = filter (λ (b : BidRow). (b.bid.member == c) && (b.item == i)) (bid_rows h) in
    let maxima : map (λ (b : BidRow). b.bid.maximum) rows ≡ map (λ (b : bid.Bid). b.maximum) (bids_by c (bids_on h i)) =
    sym (map_twice (λ (b : BidRow). b.bid) (λ (b : bid.Bid). b.maximum) rows) ∙ ap (λ bs. map (λ (b : bid.Bid). b.maximum) bs) (mine h c i) in
    let count : length rows ≡ length (bids_by c (bids_on h i)) = sym (length-map rows (λ (b : BidRow). b.bid)) ∙ ap length (mine h c i) in
    rw (maxima, count) refl
