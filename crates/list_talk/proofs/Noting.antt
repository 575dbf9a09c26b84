-- Items that members are concerned with, as they are noted.
use Rattle.std.proofs.Common.{◌≡◌, ◌<◌, ◌≤◌, ℕ, List, [], ◌∷◌, filter, Bool, true, false, refl, ◌∙◌, subst, arith, inl, inr, Option, Some, None, Result, Ok, Err, Bor}
use Rattle.std.specs.Prelude.{◌==◌, nat_le, OnOk, is_some}
use Rattle.std.specs.Option.{option_copied}
use Rattle.std.specs.List.{AllByRecursion, list_any}
use Rattle.std.proofs.lemmas.Bool.Decides.{nat_tests}
use Rattle.house_rows.specs.declared.fault.KeepFault.{KeepFault}
use Rattle.house_rows.specs.declared.fault.KeepFault.TheVariants.{Damaged}
use Rattle.house_rows.specs.History.{Key, is_less, put_by}
use Rattle.house_rows.proofs.Every.{every_as}
use Rattle.house_rows.proofs.Put.{by_test}
use Rattle.list_rows.specs.Blocks.{IsRising, same_key}
use Rattle.list_rows.specs.Makes.{Makes}
use Rattle.list_talk.specs.declared.concerns.Concern.{Concern}
use Rattle.list_talk.specs.Index.{IsNoted, concern_key, is_concern}
use Rattle.list_talk.proofs.Gathered.{gathered, gathered_all, risen_filter, risen_sorted, sorted_by_first}
use Rattle.list_talk.specs.Sorted.{AreRisen, AreSorted}

-- what is there after a reference is there
pub some_copied : {A : Type 0} (o : Option (Bor A)) → is_some o ≡ is_some (option_copied o)
some_copied None = refl
some_copied (Some x) = refl

abbrev concern_of : ℕ → ℕ → Concern
concern_of member item = record { member = member; item = item }

-- an item is named by its key
named : (member item : ℕ) (c : Concern) → same_key (concern_key c) (concern_key (concern_of member item)) ≡ is_concern member item c
named member item c = grind (arith, nat_tests)

-- and is there where its key is
named_any : (member item : ℕ) (cs : List Concern) → list_any (λ c. same_key (concern_key c) (concern_key (concern_of member item))) cs ≡ list_any (is_concern member item) cs
named_any member item [] = refl
named_any member item (c ∷ cs) = rw (named member item c, named_any member item cs) refl

-- what passes is there still with one more row
any_put : {A : Type 0} (key : A → Key) (p : A → Bool) (x : A) (ys : List A) → list_any p ys ≡ true → list_any p (put_by key x ys) ≡ true
any_put key p x [] any = absurd (let e : false ≡ true = any in cc)
any_put key p x (y ∷ ys) any =
    elim (by_test (is_less (key x) (key y))) [
      | inl less ↦ rw less (elim (by_test (p x)) [ inl is ↦ rw is refl | inr not ↦ rw not any ])
      | inr later ↦ rw later (elim (by_test (p y)) [ inl is ↦ rw is refl | inr not ↦ rw not (any_put key p x ys (rw not at any)) ])
    ]

-- the row that is put is there
put_there : {A : Type 0} (key : A → Key) (p : A → Bool) (x : A) (ys : List A) → p x ≡ true → list_any p (put_by key x ys) ≡ true
put_there key p x [] is = rw is refl
put_there key p x (y ∷ ys) is =
    elim (by_test (is_less (key x) (key y))) [
      | inl less ↦ rw (less, is) refl
      | inr later ↦ rw later (elim (by_test (p y)) [ inl also ↦ rw also refl | inr not ↦ rw not (put_there key p x ys is) ])
    ]

-- what is put is noted
noted_ok : (r : Result (Unit {0}) KeepFault) (member item : ℕ) (old new : List Concern)
    → Makes r old new (put_by concern_key (concern_of member item) old) (list_any (λ c. same_key (concern_key c) (concern_key (concern_of member item))) old ≡ false)
    → OnOk r (IsNoted new member item)
noted_ok (Ok a) member item old new makes =
    let is : is_concern member item (concern_of member item) ≡ true = grind (arith, nat_tests) in
    rw makes.ok (put_there concern_key (is_concern member item) (concern_of member item) old is)
noted_ok (Err e) member item old new makes = tt

-- so it is whatever the answer is called
pub noted_same : (r s : Result (Unit {0}) KeepFault) (member item : ℕ) (old new : List Concern) → s ≡ r
    → Makes r old new (put_by concern_key (concern_of member item) old) (list_any (λ c. same_key (concern_key c) (concern_key (concern_of member item))) old ≡ false)
    → OnOk s (IsNoted new member item)
noted_same r s member item old new same makes = rw same (noted_ok r member item old new makes)

-- where it can't be put because it is there, it is there
pub noted_before : (r : Result (Unit {0}) KeepFault) (member item : ℕ) (old new : List Concern) → r ≡ Err Damaged
    → Makes r old new (put_by concern_key (concern_of member item) old) (list_any (λ c. same_key (concern_key c) (concern_key (concern_of member item))) old ≡ false)
    → IsNoted new member item
noted_before r member item old new taken makes =
    elim (by_test (list_any (is_concern member item) old)) [
      | inl there ↦ (let same : new ≡ old = rw taken at makes.err in rw same there)
      | inr free ↦ absurd (makes.damaged taken (named_any member item old ∙ free))
    ]

-- what was noted stays so
pub noted_still : (r : Result (Unit {0}) KeepFault) (member item m i : ℕ) (old new : List Concern)
    → Makes r old new (put_by concern_key (concern_of member item) old) (list_any (λ c. same_key (concern_key c) (concern_key (concern_of member item))) old ≡ false)
    → IsNoted old m i → IsNoted new m i
noted_still (Ok a) member item m i old new makes noted = rw makes.ok (any_put concern_key (is_concern m i) (concern_of member item) old noted)
noted_still (Err e) member item m i old new makes noted = rw makes.err noted

-- after a member's item its other items are greater
own_items : (member : ℕ) (c : Concern) (cs : List Concern) → (c.member == member) ≡ true → AllByRecursion (λ d. is_less (concern_key c) (concern_key d) ≡ true) cs
    → AllByRecursion (λ d. c.item < d.item) (filter (λ d. d.member == member) cs)
own_items member c [] is all = tt
own_items member c (d ∷ cs) is all =
    elim (by_test (d.member == member)) [
      | inl also ↦ rw also (let less = all.0 in grind (arith, nat_tests, is, also, less), own_items member c cs is all.1)
      | inr other ↦ rw other (own_items member c cs is all.1)
    ]

-- a member's items rise
items_risen : (member : ℕ) (cs : List Concern) → IsRising concern_key cs → AreRisen (λ c. c.item) (filter (λ c. c.member == member) cs)
items_risen member [] rising = tt
items_risen member (c ∷ cs) rising =
    elim (by_test (c.member == member)) [
      | inl is ↦ rw is (own_items member c cs is rising.0, items_risen member cs rising.1)
      | inr other ↦ rw other (items_risen member cs rising.1)
    ]

-- what is noted is among a member's items
noted_among : (member item : ℕ) (cs : List Concern) → IsNoted cs member item → list_any (λ c. c.item == item) (filter (λ c. c.member == member) cs) ≡ true
noted_among member item [] noted = absurd (let e : false ≡ true = noted in cc)
noted_among member item (c ∷ cs) noted =
    elim (by_test (c.member == member)) [
      | inl is ↦ elim (by_test (c.item == item)) [
        | inl here ↦ rw (is, here) refl
        | inr other ↦ (let rest : IsNoted cs member item = rw (is, other) at noted in rw (is, other) (noted_among member item cs rest))
      ]
      | inr other ↦ (let rest : IsNoted cs member item = rw other at noted in rw other (noted_among member item cs rest))
    ]

-- those from a number on rise too
items_from : (member from : ℕ) (cs : List Concern) → IsRising concern_key cs → AreRisen (λ c. c.item) (filter (λ c. nat_le from c.item) (filter (λ c. c.member == member) cs))
items_from member from cs rising = risen_filter (λ (c : Concern). c.item) (λ (c : Concern). nat_le from c.item) (filter (λ c. c.member == member) cs) (items_risen member cs rising)

-- and so they do not fall
pub items_sorted : (member : ℕ) (cs : List Concern) → IsRising concern_key cs → AreSorted (λ c. c.item) (filter (λ c. c.member == member) cs)
items_sorted member cs rising = risen_sorted (λ (c : Concern). c.item) (filter (λ c. c.member == member) cs) (items_risen member cs rising)

-- a number from another on is among those from it on
among_from : (from item : ℕ) (cs : List Concern) → from ≤ item → list_any (λ c. c.item == item) cs ≡ true → list_any (λ c. c.item == item) (filter (λ c. nat_le from c.item) cs) ≡ true
among_from from item [] le any = absurd (let e : false ≡ true = any in cc)
among_from from item (c ∷ cs) le any =
    elim (by_test (c.item == item)) [
      | inl here ↦ (let later : nat_le from c.item ≡ true = grind (arith, nat_tests, here, le) in rw (later, here) refl)
      | inr other ↦ (let rest : list_any (λ c. c.item == item) cs ≡ true = rw other at any in
          elim (by_test (nat_le from c.item)) [ inl later ↦ rw (later, other) (among_from from item cs le rest) | inr before ↦ rw before (among_from from item cs le rest) ])
    ]

-- rows that are noted have their items among those of their members
complete_among : {A : Type 0} (member_of item_of : A → ℕ) (p : A → Bool) (member from : ℕ) (cs : List Concern) (rows : List A) → ((r : A) → p r ≡ true → (member_of r ≡ member) × (from ≤ item_of r))
    → AllByRecursion (λ r. IsNoted cs (member_of r) (item_of r)) rows
    → AllByRecursion (λ r. p r ≡ true → list_any (λ c. c.item == item_of r) (filter (λ c. nat_le from c.item) (filter (λ c. c.member == member) cs)) ≡ true) rows
complete_among member_of item_of p member from cs rows own noted =
    every_as (λ r. IsNoted cs (member_of r) (item_of r)) (λ r. p r ≡ true → list_any (λ c. c.item == item_of r) (filter (λ c. nat_le from c.item) (filter (λ c. c.member == member) cs)) ≡ true) rows
    (λ r known passes. among_from from (item_of r) (filter (λ c. c.member == member) cs) (own r passes).1
    (noted_among member (item_of r) cs (subst (λ (m : ℕ). IsNoted cs m (item_of r)) (own r passes).0 known))) noted

-- what passes is gathered from a member's items
pub own_gathered : {A : Type 0} (key : A → Key) (member_of : A → ℕ) (p : A → Bool) (member from : ℕ) (cs : List Concern) (rows : List A) → IsRising key rows → IsRising concern_key cs
    → ((r : A) → p r ≡ true → (member_of r ≡ member) × (from ≤ (key r).first)) → AllByRecursion (λ r. IsNoted cs (member_of r) (key r).first) rows
    → gathered (λ r. (key r).first) (λ c. c.item) p rows (filter (λ c. nat_le from c.item) (filter (λ c. c.member == member) cs)) ≡ filter p rows
own_gathered key member_of p member from cs rows rising risen own noted =
    gathered_all (λ r. (key r).first) (λ c. c.item) p rows (filter (λ c. nat_le from c.item) (filter (λ c. c.member == member) cs)) (sorted_by_first key rows rising) (items_from member from cs risen)
    (complete_among member_of (λ r. (key r).first) p member from cs rows own noted)
