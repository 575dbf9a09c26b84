-- What the tallies say, as bids are placed.
use Rattle.std.proofs.Common.{◌≡◌, ◌<◌, ◌≤◌, ◌+◌, ◌^◌, ℕ, zero, suc, List, [], ◌∷◌, map, filter, length, max, Bool, true, false, refl, ap, sym, subst, ◌∙◌, arith, inl, inr, Option, Some, None, Result, Ok, Err, Bor}
use Rattle.std.specs.Prelude.{Vec, ◌&&◌, ◌||◌, OnOk, find, is_some, option_map, ◌==◌}
use Rattle.std.specs.List.{AllByRecursion, list_any}
use Rattle.std.specs.Option.{option_copied}
use Rattle.std.proofs.lemmas.Bool.Decides.{nat_tests}
use Rattle.proxy.specs.Bids.{greatest_of}
use Rattle.house_rows.specs.Bids.{BidRow, bid_key}
use Rattle.house_rows.specs.Found.{best_of}
use Rattle.house_rows.specs.History.{Key, is_less, put_by}
use Rattle.house_rows.specs.Tables.{Tables}
use Rattle.house_rows.specs.declared.fault.KeepFault.{KeepFault}
use Rattle.house_rows.specs.declared.item.OwnBest.{OwnBest}
use Rattle.house_rows.proofs.Every.{every_both, found_is}
use Rattle.house_rows.proofs.Put.{IsInOrder, by_test, filter_put, filter_put_other}
use Rattle.list_rows.specs.Blocks.{IsBlocked, IsRising, rows_of, same_key}
use Rattle.list_rows.specs.Makes.{Makes}
use Rattle.list_rows.proofs.Blocked.{block_at, block_is, rows_rise}
use Rattle.list_rows.proofs.Keys.{any_by_find, find_put, find_put_other, there_found}
use Rattle.list_rows.proofs.Making.{changed_at}
use Rattle.list_rows.proofs.Placed.{every_by_places}
use Rattle.list_rows.proofs.Order.{rising_filter, same_is, same_self}
use Rattle.list_bids.specs.declared.tally.Tally.{Tally}
use Rattle.list_bids.specs.Tallies.{AreRisingFrom, AreTallied, AreTallies, fault_of, numbers_in, best_among, is_own, is_tally, no_best, pair_key, tally_best, tally_in, tally_key}

-- how many bids there are

few_rows : {A Z : Type 0} (v : Vec A Z) → length v.items < 2 ^ 63
few_rows v = omega (arith, v.ok.0, v.ok.1, v.small)

few_at : {A Z : Type 0} (n : ℕ) (blocks : List (Vec A Z)) → length (block_at n blocks) < 2 ^ 63
few_at n [] = omega arith
few_at zero (block ∷ blocks) = few_rows block
few_at (suc n) (block ∷ blocks) = few_at n blocks

fewer : {A : Type 0} (p q : A → Bool) (xs : List A) → ((x : A) → p x ≡ true → q x ≡ true) → length (filter p xs) ≤ length (filter q xs)
fewer p q [] also = omega arith
fewer p q (x ∷ xs) also =
    let rest = fewer p q xs also in
    elim (by_test (p x)) [
      | inl is ↦ rw (is, also x is) (omega arith)
      | inr not ↦ rw not (elim (by_test (q x)) [ inl yet ↦ rw yet (omega arith) | inr nor ↦ rw nor (omega arith) ])
    ]

-- a member's bids on an item are in the block of that item
own_few : {Z : Type 0} (bids : List (Vec BidRow Z)) (member item : ℕ) → IsBlocked bid_key bids → length (filter (is_own member item) (rows_of bids)) < 2 ^ 63
own_few bids member item are =
    let within = fewer (is_own member item) (λ b. (bid_key b).first == item) (rows_of bids) (λ b own. grind (arith, nat_tests)) in
    let few = rw (block_is bid_key item bids are) at (few_at item bids) in
    omega (arith, within, few)

-- one bid more can be counted
pub mine_fits : {Z : Type 0} (bids : List (Vec BidRow Z)) (tallies : List (Vec Tally Z)) (member item : ℕ) → AreTallied bids tallies → (tally_in (rows_of tallies) member item).mine + 1 < 2 ^ 64
mine_fits bids tallies member item are =
    let report : (tally_in (rows_of tallies) member item).mine ≡ length (filter (is_own member item) (rows_of bids)) = ap (λ (b : OwnBest). b.mine) (are.report member item) in
    let few = own_few bids member item are.bids_blocked in
    omega (arith, report, few)

-- a bid put among the others

greatest_put : {A : Type 0} (key : A → Key) (f : A → ℕ) (x : A) (xs : List A) → greatest_of (map f (put_by key x xs)) ≡ max (greatest_of (map f xs)) (f x)
greatest_put key f x [] = omega arith
greatest_put key f x (y ∷ ys) =
    let rest = greatest_put key f x ys in
    elim (by_test (is_less (key x) (key y))) [ inl less ↦ rw less (omega arith) | inr not ↦ rw not (omega arith) ]

length_put : {A : Type 0} (key : A → Key) (x : A) (xs : List A) → length (put_by key x xs) ≡ length xs + 1
length_put key x [] = omega arith
length_put key x (y ∷ ys) =
    let rest = length_put key x ys in
    elim (by_test (is_less (key x) (key y))) [ inl less ↦ rw less (omega arith) | inr not ↦ rw not (omega arith) ]

-- one bid more, at its greatest
abbrev pub with_bid : OwnBest → ℕ → OwnBest
with_bid best maximum = record { maximum = max best.maximum maximum; mine = best.mine + 1 }

bests : ℕ → ℕ → OwnBest
bests maximum mine = record { maximum = maximum; mine = mine }

both_alike : (a b c d : ℕ) → a ≡ b → c ≡ d → bests a c ≡ bests b d
both_alike a b c d one two = cc

best_put : (x : BidRow) (rows : List BidRow) (member item : ℕ) → IsInOrder bid_key rows → is_own member item x ≡ true → best_among (put_by bid_key x rows) member item ≡ with_bid (best_among rows member item) x.bid.maximum
unfolding bests
best_put x rows member item order own =
    let own_rows : List BidRow = filter (is_own member item) rows in
    let e : filter (is_own member item) (put_by bid_key x rows) ≡ put_by bid_key x own_rows = filter_put bid_key (is_own member item) x rows own order in
    both_alike (greatest_of (map (λ (b : BidRow). b.bid.maximum) (filter (is_own member item) (put_by bid_key x rows)))) (max (greatest_of (map (λ (b : BidRow). b.bid.maximum) own_rows)) x.bid.maximum) (length (filter (is_own member item) (put_by bid_key x rows))) (length own_rows + 1)
    (rw e (greatest_put bid_key (λ (b : BidRow). b.bid.maximum) x own_rows)) (rw e (length_put bid_key x own_rows))

best_put_other : (x : BidRow) (rows : List BidRow) (member item : ℕ) → is_own member item x ≡ false → best_among (put_by bid_key x rows) member item ≡ best_among rows member item
unfolding bests
best_put_other x rows member item other =
    let e : filter (is_own member item) (put_by bid_key x rows) ≡ filter (is_own member item) rows = filter_put_other bid_key (is_own member item) x rows other in
    ap (λ (own : List BidRow). bests (greatest_of (map (λ (b : BidRow). b.bid.maximum) own)) (length own)) e

-- a tally that changes

-- the tally of a key, with another best
abbrev pub bettered : Key → OwnBest → Tally → Tally
bettered w best = changed_at tally_key w (λ tally. record tally { best = best })

find_changed : {A : Type 0} (key : A → Key) (k w : Key) (f : A → A) (xs : List A) → ((x : A) → key (f x) ≡ key x) → find (λ x. same_key (key x) k) (map (changed_at key w f) xs) ≡ option_map (changed_at key w f) (find (λ x. same_key (key x) k) xs)
find_changed key k w f [] keeps = refl
find_changed key k w f (x ∷ xs) keeps =
    elim (by_test (same_key (key x) w)) [
      | inl here ↦ rw (here, keeps x) (elim (by_test (same_key (key x) k)) [ inl is ↦ rw (is, here) refl | inr not ↦ rw not (find_changed key k w f xs keeps) ])
      | inr apart ↦ rw apart (elim (by_test (same_key (key x) k)) [ inl is ↦ rw (is, apart) refl | inr not ↦ rw not (find_changed key k w f xs keeps) ])
    ]

find_bettered : (k w : Key) (best : OwnBest) (ts : List Tally) → find (λ tally. same_key (tally_key tally) k) (map (bettered w best) ts) ≡ option_map (bettered w best) (find (λ tally. same_key (tally_key tally) k) ts)
find_bettered k w best ts = find_changed tally_key k w (λ (tally : Tally). record tally { best = best }) ts (λ tally. refl)

report_same : (w : Key) (best : OwnBest) (o : Option Tally) → is_some o ≡ true → ((t : Tally) → o ≡ Some t → same_key (tally_key t) w ≡ true) → tally_best (option_map (bettered w best) o) ≡ best
report_same w best None there same = absurd (let e : false ≡ true = there in cc)
report_same w best (Some t) there same = rw (same t refl) refl

report_other : (w : Key) (best : OwnBest) (o : Option Tally) → ((t : Tally) → o ≡ Some t → same_key (tally_key t) w ≡ false) → tally_best (option_map (bettered w best) o) ≡ tally_best o
report_other w best None other = refl
report_other w best (Some t) other = rw (other t refl) refl

tally_here : (member item : ℕ) (best : OwnBest) (ts : List Tally) → is_some (find (is_tally member item) ts) ≡ true → tally_in (map (bettered (pair_key member item) best) ts) member item ≡ best
tally_here member item best ts there =
    ap tally_best (find_bettered (pair_key member item) (pair_key member item) best ts)
    ∙ report_same (pair_key member item) best (find (is_tally member item) ts) there (λ t found. found_is (is_tally member item) ts t found)

tally_there : (member item m i : ℕ) (best : OwnBest) (ts : List Tally) → same_key (pair_key m i) (pair_key member item) ≡ false → tally_in (map (bettered (pair_key member item) best) ts) m i ≡ tally_in ts m i
tally_there member item m i best ts other =
    ap tally_best (find_bettered (pair_key m i) (pair_key member item) best ts)
    ∙ report_other (pair_key member item) best (find (is_tally m i) ts)
    (λ t found. let e : tally_key t ≡ pair_key m i = same_is (tally_key t) (pair_key m i) (found_is (is_tally m i) ts t found) in subst (λ (a : Key). same_key a (pair_key member item) ≡ false) (sym e) other)

-- the tallies say what the bids say, with one bid more
pub report_after : (x : BidRow) (rows : List BidRow) (ts : List Tally) (best : OwnBest) → IsInOrder bid_key rows → ((m i : ℕ) → tally_in ts m i ≡ best_among rows m i) → is_some (find (is_tally x.bid.member x.item) ts) ≡ true
    → best ≡ with_bid (tally_in ts x.bid.member x.item) x.bid.maximum → (m i : ℕ) → tally_in (map (bettered (pair_key x.bid.member x.item) best) ts) m i ≡ best_among (put_by bid_key x rows) m i
report_after x rows ts best order report there is m i =
    elim (by_test (is_own m i x)) [
      | inl own ↦ (let of_member : x.bid.member ≡ m = grind (arith, nat_tests) in
          let of_item : x.item ≡ i = grind (arith, nat_tests) in
          rw (← of_member, ← of_item) (tally_here x.bid.member x.item best ts there ∙ is ∙ ap (λ (b : OwnBest). with_bid b x.bid.maximum) (report x.bid.member x.item) ∙ sym (best_put x rows x.bid.member x.item order (self x))))
      | inr other ↦ (let apart : same_key (pair_key m i) (pair_key x.bid.member x.item) ≡ false = grind (arith, nat_tests) in
          tally_there x.bid.member x.item m i best ts apart ∙ report m i ∙ sym (best_put_other x rows m i other))
    ] where
      self : (x : BidRow) → is_own x.bid.member x.item x ≡ true
      self x = grind (arith, nat_tests)

-- a tally of no bid

abbrev pub opening : ℕ → ℕ → Tally
opening member item = record { member = member; item = item; best = no_best }

opened_same : (member item : ℕ) (ts : List Tally) → find (is_tally member item) ts ≡ None → (m i : ℕ) → tally_in (put_by tally_key (opening member item) ts) m i ≡ tally_in ts m i
opened_same member item ts none m i =
    elim (by_test (is_tally m i (opening member item))) [
      | inl same ↦ (let e : pair_key member item ≡ pair_key m i = same_is (pair_key member item) (pair_key m i) same in
          let absent : find (λ tally. same_key (tally_key tally) (pair_key m i)) ts ≡ None = subst (λ (a : Key). find (λ (tally : Tally). same_key (tally_key tally) a) ts ≡ None) e none in
          ap tally_best (find_put tally_key (is_tally m i) (opening member item) ts same (any_by_find (is_tally m i) ts absent)) ∙ sym (ap tally_best absent))
      | inr other ↦ ap tally_best (find_put_other tally_key (is_tally m i) (opening member item) ts other)
    ]

opened_there : (member item : ℕ) (ts : List Tally) → find (is_tally member item) ts ≡ None → is_some (find (is_tally member item) (put_by tally_key (opening member item) ts)) ≡ true
opened_there member item ts none = rw (find_put tally_key (is_tally member item) (opening member item) ts (same_self (pair_key member item)) (any_by_find (is_tally member item) ts none)) refl

pub none_mapped : (found : Option Tally) → option_map (λ (tally : Tally). tally.best) found ≡ None → found ≡ None
none_mapped None none = refl
none_mapped (Some tally) none = absurd (let e : Some tally.best ≡ None = none in cc)

-- with a tally of no bid more the tallies say what they said
pub opened_reported : (r : Result (Unit {0}) KeepFault) (ts new : List Tally) (member item : ℕ) (is_free : Type 0) → find (is_tally member item) ts ≡ None → Makes r ts new (put_by tally_key (opening member item) ts) is_free → (m i : ℕ) → tally_in new m i ≡ tally_in ts m i
opened_reported (Ok u) ts new member item is_free none made m i = ap (λ (xs : List Tally). tally_in xs m i) made.ok ∙ opened_same member item ts none m i
opened_reported (Err e) ts new member item is_free none made m i = ap (λ (xs : List Tally). tally_in xs m i) made.err

pub opened_found : (r : Result (Unit {0}) KeepFault) (ts new : List Tally) (member item : ℕ) (is_free : Type 0) → find (is_tally member item) ts ≡ None → Makes r ts new (put_by tally_key (opening member item) ts) is_free → OnOk r (is_some (find (is_tally member item) new) ≡ true)
opened_found (Ok u) ts new member item is_free none made = ap (λ (xs : List Tally). is_some (find (is_tally member item) xs)) made.ok ∙ opened_there member item ts none
opened_found (Err e) ts new member item is_free none made = tt

-- a bid is named by its item and number

named : (item number : ℕ) (b : BidRow) → same_key (bid_key b) (pair_key item number) ≡ (b.item == item) && (b.bid.no == number)
named item number b = grind (arith, nat_tests)

pub found_any : (item number : ℕ) (rows : List BidRow) → is_some (find (λ b. same_key (bid_key b) (pair_key item number)) rows) ≡ list_any (λ b. (b.item == item) && (b.bid.no == number)) rows
found_any item number [] = refl
found_any item number (b ∷ rows) =
    elim (by_test ((b.item == item) && (b.bid.no == number))) [
      | inl is ↦ rw (named item number b, is) refl
      | inr other ↦ rw (named item number b, other) (found_any item number rows)
    ]

pub any_named : (item number : ℕ) (rows : List BidRow) → list_any (λ b. same_key (bid_key b) (pair_key item number)) rows ≡ list_any (λ b. (b.item == item) && (b.bid.no == number)) rows
any_named item number [] = refl
any_named item number (b ∷ rows) =
    elim (by_test ((b.item == item) && (b.bid.no == number))) [
      | inl is ↦ rw (named item number b, is) refl
      | inr other ↦ rw (named item number b, other) (any_named item number rows)
    ]

-- a bid that isn't placed, whose fault goes by whether its number is taken
pub unplaced : (taken : Bool) (fault : KeepFault) (old new wanted : List BidRow) → fault ≡ fault_of taken → new ≡ old → Makes (Err fault) old new wanted (taken ≡ false)
unplaced true fault old new wanted is same = record { ok = tt; err = same; free = tt; damaged = λ damaged free. cc; taken = λ taken. rw is refl; store = λ store. cc }
unplaced false fault old new wanted is same = record { ok = tt; err = same; free = tt; damaged = λ damaged free. cc; taken = λ taken. absurd (taken refl); store = λ store. cc }

-- what is there after a reference is there
pub some_copied : {A : Type 0} (o : Option (Bor A)) → is_some o ≡ is_some (option_copied o)
some_copied None = refl
some_copied (Some x) = refl

-- a member's tallies

filtered_as : {A : Type 0} (P Q : A → Type 0) (p : A → Bool) (xs : List A) → ((x : A) → P x → p x ≡ true → Q x) → AllByRecursion P xs → AllByRecursion Q (filter p xs)
filtered_as P Q p [] as' all = tt
filtered_as P Q p (x ∷ xs) as' all =
    elim (by_test (p x)) [ inl is ↦ rw is (as' x all.0 is, filtered_as P Q p xs as' all.1) | inr not ↦ rw not (filtered_as P Q p xs as' all.1) ]

every_one : {A : Type 0} (xs : List A) → AllByRecursion (λ x. Unit {0}) xs
every_one [] = tt
every_one (x ∷ xs) = (tt, every_one xs)

any_filtered : {A : Type 0} (p q r : A → Bool) (xs : List A) → ((x : A) → q x ≡ true → p x ≡ true) → ((x : A) → q x ≡ true → r x ≡ true) → list_any q xs ≡ true → list_any r (filter p xs) ≡ true
any_filtered p q r [] passes report any = any
any_filtered p q r (x ∷ xs) passes report any =
    elim (by_test (q x)) [
      | inl is ↦ rw (passes x is) (rw (report x is) refl)
      | inr not ↦ (let rest : list_any r (filter p xs) ≡ true = any_filtered p q r xs passes report (rw not at any) in
          elim (by_test (p x)) [
            | inl yet ↦ rw yet (elim (by_test (r x)) [ inl so ↦ rw so refl | inr nor ↦ rw nor rest ])
            | inr nor ↦ rw nor rest
          ])
    ]

any_by_some : {A : Type 0} (p : A → Bool) (xs : List A) → is_some (find p xs) ≡ true → list_any p xs ≡ true
any_by_some p [] some = some
any_by_some p (x ∷ xs) some = elim (by_test (p x)) [ inl is ↦ rw is refl | inr not ↦ rw not (any_by_some p xs (rw not at some)) ]

some_by_mine : (o : Option Tally) → 0 < (tally_best o).mine → is_some o ≡ true
some_by_mine None some = absurd (omega (arith, some))
some_by_mine (Some tally) some = refl

-- each tally is the one that is found
all_reported : (ts : List Tally) → IsRising tally_key ts → AllByRecursion (λ tally. tally_in ts tally.member tally.item ≡ tally.best) ts
all_reported ts rising = every_by_places (λ tally. tally_in ts tally.member tally.item ≡ tally.best) ts (λ k d lt. ap tally_best (there_found tally_key ts k d rising lt))

-- the items of a member's tallies rise
numbers_rise : (member least : ℕ) (ts : List Tally) → AllByRecursion (λ tally. tally.member ≡ member) ts → AllByRecursion (λ tally. least ≤ tally.item) ts → IsRising tally_key ts → AreRisingFrom least (numbers_in ts)
numbers_rise member least [] of_member above rising = tt
numbers_rise member least (t ∷ ts) of_member above rising =
    let here : t.member ≡ member = of_member.0 in (
      above.0,
      numbers_rise member (t.item + 1) ts of_member.1
          (every_both (λ (tally : Tally). tally.member ≡ member) (λ (tally : Tally). is_less (tally_key t) (tally_key tally) ≡ true) (λ (tally : Tally). t.item + 1 ≤ tally.item) ts
          (λ tally same less. later t.member t.item tally.member tally.item (here ∙ sym same) less) of_member.1 rising.0) rising.1,
    ) where
      later : (m i n j : ℕ) → m ≡ n → is_less (pair_key m i) (pair_key n j) ≡ true → i + 1 ≤ j
      later m i n j same less = grind (arith, nat_tests, same, less)

any_map : {A B : Type 0} (q : B → Bool) (f : A → B) (xs : List A) → list_any q (map f xs) ≡ list_any (λ x. q (f x)) xs
any_map q f [] = refl
any_map q f (x ∷ xs) = ap (λ rest. q (f x) || rest) (any_map q f xs)

pub tallies_are : {Z : Type 0} (t : Tables) (bids : List (Vec BidRow Z)) (tallies : List (Vec Tally Z)) (member : ℕ) → AreTallied bids tallies → t.bids ≡ rows_of bids → AreTallies t member (filter (λ tally. tally.member == member) (rows_of tallies))
tallies_are t bids tallies member are same =
    let report : (m i : ℕ) → tally_in (rows_of tallies) m i ≡ best_of t m i = λ m i. are.report m i ∙ ap (λ (rows : List BidRow). best_among rows m i) (sym same) in
    let rising : IsRising tally_key (rows_of tallies) = rows_rise tally_key 0 tallies are.tallies_blocked in
    let mine : AllByRecursion (λ (tally : Tally). tally.member ≡ member) (filter (λ (tally : Tally). tally.member == member) (rows_of tallies)) =
    filtered_as (λ (tally : Tally). Unit {0}) (λ (tally : Tally). tally.member ≡ member) (λ (tally : Tally). tally.member == member) (rows_of tallies) (λ tally one is. grind (arith, nat_tests)) (every_one (rows_of tallies)) in
    let above : AllByRecursion (λ (tally : Tally). 0 ≤ tally.item) (filter (λ (tally : Tally). tally.member == member) (rows_of tallies)) =
    filtered_as (λ (tally : Tally). Unit {0}) (λ (tally : Tally). 0 ≤ tally.item) (λ (tally : Tally). tally.member == member) (rows_of tallies) (λ tally one is. omega arith) (every_one (rows_of tallies)) in
    record {
      of_member = mine;
      rising = numbers_rise member 0 (filter (λ (tally : Tally). tally.member == member) (rows_of tallies)) mine above (rising_filter tally_key (λ (tally : Tally). tally.member == member) (rows_of tallies) rising);
      report = filtered_as (λ (tally : Tally). tally_in (rows_of tallies) tally.member tally.item ≡ tally.best) (λ (tally : Tally). tally.best ≡ best_of t member tally.item) (λ (tally : Tally). tally.member == member) (rows_of tallies)
          (λ tally found is. let m : tally.member ≡ member = grind (arith, nat_tests) in
          sym found ∙ report tally.member tally.item ∙ ap (λ (n : ℕ). best_of t n tally.item) m) (all_reported (rows_of tallies) rising);
      complete = λ item some.
          let count : (tally_in (rows_of tallies) member item).mine ≡ (best_of t member item).mine = ap (λ (b : OwnBest). b.mine) (report member item) in
          let some_there : 0 < (tally_in (rows_of tallies) member item).mine = omega (arith, count, some) in
          any_map (λ n. n == item) (λ (tally : Tally). tally.item) (filter (λ (tally : Tally). tally.member == member) (rows_of tallies))
          ∙ any_filtered (λ (tally : Tally). tally.member == member) (is_tally member item) (λ (tally : Tally). tally.item == item) (rows_of tallies) (λ tally is. grind (arith, nat_tests)) (λ tally is. grind (arith, nat_tests))
          (any_by_some (is_tally member item) (rows_of tallies) (some_by_mine (find (is_tally member item) (rows_of tallies)) some_there));
    }
