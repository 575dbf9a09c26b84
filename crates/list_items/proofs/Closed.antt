-- A close, item by item, is a close of all.
use Rattle.std.proofs.Common.{◌≡◌, ◌≢◌, ℕ, ◌≤◌, ◌<◌, List, [], ◌∷◌, map, Bool, true, false, refl, ◌∙◌, ap, sym, arith, inl, inr, ◌⊎◌, Option, Some, None}
use Rattle.std.specs.Prelude.{◌&&◌, ◌||◌, nat_le, slice_get, IfSome, IsSome}
use Rattle.std.proofs.lemmas.Option.{same_Some, slice_get_within}
use Rattle.std.specs.List.{AllByRecursion}
use Rattle.std.specs.BTreeSet.{BTreeSet, btree_set_len}
use Rattle.std.specs.BTreeSet as set
use Rattle.std.specs.Ordering.{is_eq, is_gt, nat_cmp, ordering_then}
use Rattle.std.proofs.lemmas.Bool.Decides.{nat_tests}
use Rattle.house_rows.specs.Changed.{is_item, with_close}
use Rattle.house_rows.specs.Items.{is_due, is_open, close_sells}
use Rattle.house_rows.specs.Tables.{ItemRow}
use Rattle.house_rows.proofs.Every.{every_as, every_map}
use Rattle.house_rows.proofs.Put.{by_test}
use Rattle.list_items.specs.Closing.{AllAfter, TakesEnd, close_at}
use Rattle.list_items.specs.Groups.{has_end}
use Rattle.list_items.specs.Indexed.{IsIndexed, IsNoted, number_of}
use Rattle.list_items.proofs.Alike.{IsLike, like_close, like_same}
use Rattle.list_items.proofs.Joined.{both_ways, is_number, other_number}
use Rattle.list_items.proofs.Known.{indexed_changed}

pub like_close_at : (i moment : ℕ) (row : ItemRow) → IsLike row (close_at i moment row)
like_close_at i moment row = elim (by_test (is_item i row)) [ inl is ↦ rw is (like_close moment row) | inr other ↦ rw other (like_same row) ]

noted_close_at : (bought_by : ℕ → List ℕ) (i moment : ℕ) (row : ItemRow) → IsNoted bought_by row → IsNoted bought_by (close_at i moment row)
noted_close_at bought_by i moment row noted =
    elim (by_test (is_item i row)) [
      | inl is ↦ elim (by_test (is_due moment row.item.terms)) [ inl due ↦ rw (is, due) noted | inr not ↦ rw (is, not) noted ]
      | inr other ↦ rw other noted
    ]

pub close_at_apart : (i moment : ℕ) (row : ItemRow) → number_of row ≢ i → close_at i moment row ≡ row
close_at_apart i moment row apart = rw (other_number (number_of row) i apart) refl

-- what is closed is open no longer
closed_unopened : (moment : ℕ) (row : ItemRow) → is_due moment row.item.terms ≡ true → is_open (with_close moment row).item.terms.state ≡ false
closed_unopened moment row due = elim (by_test (close_sells row.item.terms.leader row.item.terms.met)) [ inl led ↦ rw (due, led) refl | inr none ↦ rw (due, none) refl ]

both_true : (a b : Bool) → a ≡ true → b ≡ true → (a && b) ≡ true
both_true a b is also = rw (is, also) refl

at_most : (a b : ℕ) → a ≤ b → nat_le a b ≡ true
at_most a b le = grind (arith, nat_tests, le)

-- an item whose end is taken out isn't left open
none_left : (i moment end' : ℕ) (row : ItemRow) → end' ≤ moment → is_open (close_at i moment row).item.terms.state ≡ true → (close_at i moment row).item.terms.end ≡ end' → number_of (close_at i moment row) ≡ i → ⊥
none_left i moment end' row le opened ends is =
    let like : IsLike row (close_at i moment row) = like_close_at i moment row in
    let here : is_item i row ≡ true = is_number (number_of row) i (sym like.number ∙ is) in
    let was_open : is_open row.item.terms.state ≡ true = like.opened opened in
    let ended : row.item.terms.end ≤ moment = (let e : row.item.terms.end ≡ end' = sym like.ends ∙ ends in omega arith) in
    let due : is_due moment row.item.terms ≡ true = both_true (is_open row.item.terms.state) (nat_le row.item.terms.end moment) was_open (at_most row.item.terms.end moment ended) in
    let opened' : is_open (with_close moment row).item.terms.state ≡ true = rw here at opened in
    both_ways (is_open (with_close moment row).item.terms.state) opened' (closed_unopened moment row due)

-- one end is taken out, and its item closed
pub closing_step : (rows : List ItemRow) (at_lot : ℕ → List ℕ → Option ℕ) (in_category sold_by bought_by : ℕ → List ℕ) (old new : BTreeSet (ℕ × ℕ)) (number moment : ℕ) → TakesEnd old new number moment
    → IsIndexed rows at_lot in_category sold_by bought_by (has_end old) → IsIndexed (map (close_at number moment) rows) at_lot in_category sold_by bought_by (has_end new)
closing_step rows at_lot in_category sold_by bought_by old new number moment taken is =
    let after : IsIndexed (map (close_at number moment) rows) at_lot in_category sold_by bought_by (has_end old) = indexed_changed (close_at number moment) rows at_lot in_category sold_by bought_by bought_by (has_end old) (like_close_at number moment) (noted_close_at bought_by number moment) is in
    record {
      in_turn = after.in_turn;
      lots = after.lots;
      categories = after.categories;
      sellers = after.sellers;
      purchases = after.purchases;
      ends = every_map (close_at number moment) (λ row. is_open row.item.terms.state ≡ true → has_end new row.item.terms.end (number_of row) ≡ true) rows
          (every_as (λ row. is_open row.item.terms.state ≡ true → has_end old row.item.terms.end (number_of row) ≡ true)
          (λ row. is_open (close_at number moment row).item.terms.state ≡ true → has_end new (close_at number moment row).item.terms.end (number_of (close_at number moment row)) ≡ true) rows
          (λ row here opened.
          let like : IsLike row (close_at number moment row) = like_close_at number moment row in
          let known : has_end old (close_at number moment row).item.terms.end (number_of (close_at number moment row)) ≡ true = still row (close_at number moment row) like (here (like.opened opened)) in
          elim (taken.others (close_at number moment row).item.terms.end (number_of (close_at number moment row)) known) [
            | inl both ↦ absurd (none_left number moment taken.end_of row taken.due opened both.0 both.1)
            | inr stays ↦ stays
          ]) is.ends);
    } where
      still : (row other : ItemRow) → IsLike row other → has_end old row.item.terms.end (number_of row) ≡ true → has_end old other.item.terms.end (number_of other) ≡ true
      still row other like known = rw (like.ends, like.number) known

closed_twice : (moment : ℕ) (row : ItemRow) → with_close moment (with_close moment row) ≡ with_close moment row
closed_twice moment row =
    elim (by_test (is_due moment row.item.terms)) [
      | inl due ↦ not_due moment (with_close moment row) (rw (closed_unopened moment row due) refl)
      | inr other ↦ ap (with_close moment) (not_due moment row other)
    ] where
      not_due : (moment : ℕ) (row : ItemRow) → is_due moment row.item.terms ≡ false → with_close moment row ≡ row
      not_due moment row not = rw not refl

closed_once : (i moment : ℕ) (row : ItemRow) → with_close moment (close_at i moment row) ≡ with_close moment row
closed_once i moment row =
    elim (by_test (is_item i row)) [
      | inl is ↦ (let e : close_at i moment row ≡ with_close moment row = rw is refl in ap (with_close moment) e ∙ closed_twice moment row)
      | inr other ↦ (let e : close_at i moment row ≡ row = rw other refl in ap (with_close moment) e)
    ]

-- closing one before all of them changes nothing
pub closed_before : (i moment : ℕ) (rows : List ItemRow) → map (with_close moment) (map (close_at i moment) rows) ≡ map (with_close moment) rows
closed_before i moment [] = refl
closed_before i moment (row ∷ rows) = rw (closed_once i moment row, closed_before i moment rows) refl

stays_open : (moment : ℕ) (row : ItemRow) → (is_open row.item.terms.state ≡ true → moment < row.item.terms.end) → with_close moment row ≡ row
stays_open moment row later =
    elim (by_test (is_open row.item.terms.state)) [
      | inl opened ↦ (let after : nat_le row.item.terms.end moment ≡ false = (let lt : moment < row.item.terms.end = later opened in grind (arith, nat_tests, lt)) in rw (opened, after) refl)
      | inr closed ↦ rw closed refl
    ]

-- where every end is later, nothing is left to close
pub closed_all : (moment : ℕ) (ends : BTreeSet (ℕ × ℕ)) (rows : List ItemRow) → AllAfter ends moment → AllByRecursion (λ row. is_open row.item.terms.state ≡ true → has_end ends row.item.terms.end (number_of row) ≡ true) rows
    → map (with_close moment) rows ≡ rows
closed_all moment ends [] after has = refl
closed_all moment ends (row ∷ rows) after has =
    rw (stays_open moment row (λ opened. after row.item.terms.end (number_of row) (has.0 opened)), closed_all moment ends rows after has.1) refl

-- two pairs that compare as equal are the same
pair_same : (a b c d : ℕ) → is_eq (ordering_then (nat_cmp a b) (nat_cmp c d)) ≡ true → (a ≡ b) × (c ≡ d)
pair_same a b c d is = (grind (arith, nat_tests, is), grind (arith, nat_tests, is))

pair_least : (a b c d : ℕ) → is_gt (ordering_then (nat_cmp a b) (nat_cmp c d)) ≡ false → a ≤ b
pair_least a b c d is = grind (arith, nat_tests, is)

or_cases : (a b : Bool) → (a || b) ≡ true → (a ≡ true) ⊎ (b ≡ true)
or_cases true b is = inl refl
or_cases false b is = inr is

-- the first end is taken out
pub first_taken : (old new : BTreeSet (ℕ × ℕ)) (e number moment : ℕ) → old.keys ≡ (e, number) ∷ new.keys → e ≤ moment → TakesEnd old new number moment
first_taken old new e number moment removed le = record {
  end_of = e;
  due = le;
  others = λ e' n known.
      let split : (is_eq (ordering_then (nat_cmp e' e) (nat_cmp n number)) || has_end new e' n) ≡ true = rw removed at known in
      elim (or_cases (is_eq (ordering_then (nat_cmp e' e) (nat_cmp n number))) (has_end new e' n) split) [ inl here ↦ inl (pair_same e' e n number here) | inr there ↦ inr there ];
  fewer = rw removed (omega arith);
}

-- what is popped is what was seen first
pub popped : (old new : BTreeSet (ℕ × ℕ)) (r : Option (ℕ × ℕ)) (first : ℕ × ℕ) → slice_get old.keys 0 ≡ Some first → IfSome r (λ k. old.keys ≡ k ∷ new.keys) → (0 < btree_set_len old → IsSome r) → old.keys ≡ first ∷ new.keys
popped old new None first seen removal variant = absurd (no_some (variant (slice_get_within old.keys 0 first seen))) where
  no_some : IsSome {T = ℕ × ℕ} None → ⊥
  no_some some = both_ways false some refl
popped old new (Some k) first seen removal variant = removal ∙ ap (λ key. key ∷ new.keys) (same_Some k first (sym (ap (λ keys. slice_get keys 0) removal) ∙ seen))

-- all ends are after the moment, where the first is
pub all_after : (ends : BTreeSet (ℕ × ℕ)) (e number moment : ℕ) → ((q : ℕ × ℕ) → set.contains (λ x y. ordering_then (nat_cmp x.0 y.0) (nat_cmp x.1 y.1)) ends q ≡ true → is_gt (ordering_then (nat_cmp e q.0) (nat_cmp number q.1)) ≡ false) → moment < e → AllAfter ends moment
all_after ends e number moment least lt = λ e' n known. (let le : e ≤ e' = pair_least e e' number n (least (e', n) known) in omega arith)

-- with no end there is none to be after
pub none_after : (ends : BTreeSet (ℕ × ℕ)) (moment : ℕ) → ends.keys ≡ [] → AllAfter ends moment
none_after ends moment none = λ e n known. absurd (both_ways false (rw none at known) refl)
