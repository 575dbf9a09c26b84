-- The strict order of keys, and lists that rise by it.
use Rattle.std.proofs.Common.{◌≡◌, ◌<◌, ◌≤◌, ℕ, List, [], ◌∷◌, ◌++◌, map, filter, Bool, true, false, not, arith, inl, inr}
use Rattle.std.specs.List.{AllByRecursion, list_any}
use Rattle.std.specs.declared.cmp.Ordering.TheVariants.{Less, Equal, Greater}
use Rattle.std.specs.Ordering.{ordering_index}
use Rattle.std.proofs.lemmas.Bool.Decides.{nat_tests}
use Rattle.house_rows.specs.History.{Key, is_less, put_by}
use Rattle.house_rows.proofs.Every.{every_as, every_map, every_put}
use Rattle.house_rows.proofs.Put.{IsInOrder, by_test}
use Rattle.list_rows.specs.Blocks.{IsRising, order_of, same_key}

pub less_twice : (a b c : Key) → is_less a b ≡ true → is_less b c ≡ true → is_less a c ≡ true
less_twice a b c ab bc = grind (arith, nat_tests)

pub less_not_after : (a b : Key) → is_less a b ≡ true → is_less b a ≡ false
less_not_after a b less = grind (arith, nat_tests)

pub less_apart : (a b : Key) → is_less a b ≡ true → same_key a b ≡ false
less_apart a b less = grind (arith, nat_tests)

pub greater_apart : (a b : Key) → is_less b a ≡ true → same_key a b ≡ false
greater_apart a b less = grind (arith, nat_tests)

pub one_of_three : (a b : Key) → is_less a b ≡ false → same_key a b ≡ false → is_less b a ≡ true
one_of_three a b not apart = grind (arith, nat_tests)

pub less_by_first : (a b : Key) → a.first < b.first → is_less a b ≡ true
less_by_first a b less = grind (arith, nat_tests)

pub not_less_by_first : (a b : Key) → a.first < b.first → is_less b a ≡ false
not_less_by_first a b less = grind (arith, nat_tests)

pub apart_by_first : (a b : Key) → ((a.first ≡ b.first) → ⊥) → same_key a b ≡ false
apart_by_first a b other = grind (arith, nat_tests)

pub first_of_same : (a b : Key) → same_key a b ≡ true → a.first ≡ b.first
first_of_same a b same = grind (arith, nat_tests)

pub second_of_same : (a b : Key) → same_key a b ≡ true → a.second ≡ b.second
second_of_same a b same = grind (arith, nat_tests)

pub third_of_same : (a b : Key) → same_key a b ≡ true → a.third ≡ b.third
third_of_same a b same = grind (arith, nat_tests)

key_of : ℕ → ℕ → ℕ → Key
key_of first second third = record { first = first; second = second; third = third }

alike : (f s t f' s' t' : ℕ) → f ≡ f' → s ≡ s' → t ≡ t' → key_of f s t ≡ key_of f' s' t'
alike f s t f' s' t' first second third = cc

-- a key is its three numbers
pub same_is : (a b : Key) → same_key a b ≡ true → a ≡ b
unfolding key_of
same_is a b same = alike a.first a.second a.third b.first b.second b.third (first_of_same a b same) (second_of_same a b same) (third_of_same a b same)

pub same_self : (a : Key) → same_key a a ≡ true
same_self a = grind (arith, nat_tests)

-- what an order says
pub order_less : (a b : Key) → order_of a b ≡ Less → is_less a b ≡ true
order_less a b e =
    elim (by_test (is_less a b)) [
      | inl less ↦ less
      | inr not ↦ elim (by_test (same_key a b)) [
        | inl same ↦ absurd (let wrong : Equal ≡ Less = rw (not, same) at e in cc)
        | inr apart ↦ absurd (let wrong : Greater ≡ Less = rw (not, apart) at e in cc)
      ]
    ]

pub order_equal : (a b : Key) → order_of a b ≡ Equal → same_key a b ≡ true
order_equal a b e =
    elim (by_test (is_less a b)) [
      | inl less ↦ absurd (let wrong : Less ≡ Equal = rw less at e in cc)
      | inr not ↦ elim (by_test (same_key a b)) [
        | inl same ↦ same
        | inr apart ↦ absurd (let wrong : Greater ≡ Equal = rw (not, apart) at e in cc)
      ]
    ]

pub order_greater : (a b : Key) → order_of a b ≡ Greater → is_less b a ≡ true
order_greater a b e =
    elim (by_test (is_less a b)) [
      | inl less ↦ absurd (let wrong : Less ≡ Greater = rw less at e in cc)
      | inr not ↦ elim (by_test (same_key a b)) [
        | inl same ↦ absurd (let wrong : Equal ≡ Greater = rw (not, same) at e in cc)
        | inr apart ↦ one_of_three a b not apart
      ]
    ]

index_most : (a b : Key) → ordering_index (order_of a b) ≤ 2
index_most a b =
    elim (by_test (is_less a b)) [
      | inl less ↦ rw less (omega arith)
      | inr not ↦ elim (by_test (same_key a b)) [ inl same ↦ rw (not, same) (omega arith) | inr apart ↦ rw (not, apart) (omega arith) ]
    ]

-- a greater key has no lower order to a third
pub order_rises : (a b w : Key) → is_less a b ≡ true → ordering_index (order_of a w) ≤ ordering_index (order_of b w)
order_rises a b w less =
    elim (by_test (is_less a w)) [
      | inl before ↦ rw before (omega arith)
      | inr not ↦ (let later : is_less b w ≡ false = grind (arith, nat_tests) in
          let rest_after : same_key b w ≡ false = grind (arith, nat_tests) in
          rw (later, rest_after) (index_most a w))
    ]

-- a row put before the others rises with them
after_both : {A : Type 0} (key : A → Key) (x y : A) (ys : List A) → is_less (key x) (key y) ≡ true → AllByRecursion (λ z. is_less (key y) (key z) ≡ true) ys → AllByRecursion (λ z. is_less (key x) (key z) ≡ true) ys
after_both key x y ys less all = every_as (λ z. is_less (key y) (key z) ≡ true) (λ z. is_less (key x) (key z) ≡ true) ys (λ z later. less_twice (key x) (key y) (key z) less later) all

-- rows that rise go on rising with one more, of a key that is free
pub rising_put : {A : Type 0} (key : A → Key) (x : A) (xs : List A) → IsRising key xs → list_any (λ y. same_key (key y) (key x)) xs ≡ false → IsRising key (put_by key x xs)
rising_put key x [] rising free = (tt, tt)
rising_put key x (y ∷ ys) rising free =
    elim (by_test (is_less (key x) (key y))) [
      | inl less ↦ rw less ((less, after_both key x y ys less rising.0), rising)
      | inr not ↦ elim (by_test (same_key (key y) (key x))) [
        | inl same ↦ absurd (let e : true ≡ false = rw same at free in cc)
        | inr apart ↦ (let before : is_less (key y) (key x) ≡ true = grind (arith, nat_tests) in
            rw not (every_put key (λ z. is_less (key y) (key z) ≡ true) x ys rising.0 before, rising_put key x ys rising.1 (rw apart at free)))
      ]
    ]

pub every_filtered : {A : Type 0} (P : A → Type 0) (p : A → Bool) (xs : List A) → AllByRecursion P xs → AllByRecursion P (filter p xs)
every_filtered P p [] all = tt
every_filtered P p (x ∷ xs) all = elim (by_test (p x)) [ inl is ↦ rw is (all.0, every_filtered P p xs all.1) | inr not ↦ rw not (every_filtered P p xs all.1) ]

pub rising_filter : {A : Type 0} (key : A → Key) (p : A → Bool) (xs : List A) → IsRising key xs → IsRising key (filter p xs)
rising_filter key p [] rising = tt
rising_filter key p (x ∷ xs) rising =
    elim (by_test (p x)) [
      | inl is ↦ rw is (every_filtered (λ y. is_less (key x) (key y) ≡ true) p xs rising.0, rising_filter key p xs rising.1)
      | inr not ↦ rw not (rising_filter key p xs rising.1)
    ]

-- a change that leaves the keys
pub rising_map : {A : Type 0} (key : A → Key) (f : A → A) (xs : List A) → ((x : A) → key (f x) ≡ key x) → IsRising key xs → IsRising key (map f xs)
rising_map key f [] keeps rising = tt
rising_map key f (x ∷ xs) keeps rising = (
  every_map f (λ y. is_less (key (f x)) (key y) ≡ true) xs
      (every_as (λ y. is_less (key x) (key y) ≡ true) (λ y. is_less (key (f x)) (key (f y)) ≡ true) xs (λ y less. rw (keeps x, keeps y) less) rising.0),
  rising_map key f xs keeps rising.1,
)

-- rows that rise are in order
pub rising_in_order : {A : Type 0} (key : A → Key) (xs : List A) → IsRising key xs → IsInOrder key xs
rising_in_order key [] rising = tt
rising_in_order key (x ∷ xs) rising =
    (every_as (λ y. is_less (key x) (key y) ≡ true) (λ y. is_less (key y) (key x) ≡ false) xs (λ y less. less_not_after (key x) (key y) less) rising.0, rising_in_order key xs rising.1)

pub every_append : {A : Type 0} (P : A → Type 0) (xs ys : List A) → AllByRecursion P xs → AllByRecursion P ys → AllByRecursion P (xs ++ ys)
every_append P [] ys all also = also
every_append P (x ∷ xs) ys all also = (all.0, every_append P xs ys all.1 also)

pub rising_append : {A : Type 0} (key : A → Key) (xs ys : List A) → IsRising key xs → IsRising key ys → AllByRecursion (λ x. AllByRecursion (λ y. is_less (key x) (key y) ≡ true) ys) xs → IsRising key (xs ++ ys)
rising_append key [] ys rising also apart = also
rising_append key (x ∷ xs) ys rising also apart = (every_append (λ y. is_less (key x) (key y) ≡ true) xs ys rising.0 apart.0, rising_append key xs ys rising.1 also apart.1)
