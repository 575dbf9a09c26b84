-- Changes of a row that keep what the indexes know of it.
use Rattle.std.proofs.Common.{◌≡◌, ◌≢◌, ℕ, List, [], ◌∷◌, ◌++◌, Bool, true, false, refl, inl, inr}
use Rattle.std.specs.Prelude.{if◌then◌else◌, ◌==◌, ◌||◌}
use Rattle.proxy.specs.Bids.{is_leader}
use Rattle.proxy.specs.Kept.{Kept}
use Rattle.house_rows.specs.Changed.{is_item, with_close, with_purchase, with_settlement, with_standing}
use Rattle.house_rows.specs.Items.{is_due, is_open, close_sells}
use Rattle.house_rows.specs.Tables.{ItemRow}
use Rattle.house_rows.proofs.Put.{by_test}
use Rattle.list_items.specs.Indexed.{IsNoted, number_of}
use Rattle.list_items.specs.Rising.{is_among}
use Rattle.list_items.proofs.Joined.{both_ways, other_number, same_number}
use Rattle.list_items.proofs.Among.{among_last, among_more, or_left, or_right}

-- the same number, seller, lot, category and end, and open only where it was
pub record IsLike (row new : ItemRow) : Type 0 where
  pub number : number_of new ≡ number_of row
  pub seller : new.item.terms.seller ≡ row.item.terms.seller
  pub lot : new.item.lot ≡ row.item.lot
  pub category : new.item.terms.category ≡ row.item.terms.category
  pub ends : new.item.terms.end ≡ row.item.terms.end
  pub opened : is_open new.item.terms.state ≡ true → is_open row.item.terms.state ≡ true

pub like_same : (row : ItemRow) → IsLike row row
like_same row = record { number = refl; seller = refl; lot = refl; category = refl; ends = refl; opened = λ o. o }

pub like_standing : (i : ℕ) (kept : Kept) (row : ItemRow) → IsLike row (with_standing i kept row)
like_standing i kept row = elim (by_test (is_item i row)) [
  | inl is ↦ rw is (record { number = refl; seller = refl; lot = refl; category = refl; ends = refl; opened = λ o. o })
  | inr other ↦ rw other (like_same row)
]

pub like_purchase : (i buyer price moment : ℕ) (row : ItemRow) → IsLike row (with_purchase i buyer price moment row)
like_purchase i buyer price moment row = elim (by_test (is_item i row)) [
  | inl is ↦ rw is (record { number = refl; seller = refl; lot = refl; category = refl; ends = refl; opened = λ o. absurd (both_ways false o refl) })
  | inr other ↦ rw other (like_same row)
]

pub like_settlement : (i : ℕ) (row : ItemRow) → IsLike row (with_settlement i row)
like_settlement i row = elim (by_test (is_item i row)) [
  | inl is ↦ rw is (record { number = refl; seller = refl; lot = refl; category = refl; ends = refl; opened = λ o. absurd (both_ways false o refl) })
  | inr other ↦ rw other (like_same row)
]

pub like_close : (moment : ℕ) (row : ItemRow) → IsLike row (with_close moment row)
like_close moment row = elim (by_test (is_due moment row.item.terms)) [
  | inl due ↦ elim (by_test (close_sells row.item.terms.leader row.item.terms.met)) [
    | inl led ↦ rw (due, led) (record { number = refl; seller = refl; lot = refl; category = refl; ends = refl; opened = λ o. absurd (both_ways false o refl) })
    | inr none ↦ rw (due, none) (record { number = refl; seller = refl; lot = refl; category = refl; ends = refl; opened = λ o. absurd (both_ways false o refl) })
  ]
  | inr other ↦ rw other (like_same row)
]

-- other items stay
pub standing_apart : (i : ℕ) (kept : Kept) (row : ItemRow) → number_of row ≢ i → with_standing i kept row ≡ row
standing_apart i kept row apart = rw (other_number (number_of row) i apart) refl

pub purchase_apart : (i buyer price moment : ℕ) (row : ItemRow) → number_of row ≢ i → with_purchase i buyer price moment row ≡ row
purchase_apart i buyer price moment row apart = rw (other_number (number_of row) i apart) refl

pub settlement_apart : (i : ℕ) (row : ItemRow) → number_of row ≢ i → with_settlement i row ≡ row
settlement_apart i row apart = rw (other_number (number_of row) i apart) refl

-- who leads an item stays noted

pub noted_standing : (bought_by : ℕ → List ℕ) (i : ℕ) (kept : Kept) (row : ItemRow) → IsNoted bought_by row → IsNoted bought_by (with_standing i kept row)
noted_standing bought_by i kept row noted =
    elim (by_test (is_item i row)) [ inl is ↦ rw is (λ m leads. or_left (is_leader kept.leader m) _ leads) | inr other ↦ rw other noted ]

pub noted_settlement : (bought_by : ℕ → List ℕ) (i : ℕ) (row : ItemRow) → IsNoted bought_by row → IsNoted bought_by (with_settlement i row)
noted_settlement bought_by i row noted = elim (by_test (is_item i row)) [ inl is ↦ rw is noted | inr other ↦ rw other noted ]

or_more : (a b c : Bool) → (b ≡ true → c ≡ true) → (a || b) ≡ true → (a || c) ≡ true
or_more true b c more is = refl
or_more false b c more is = more is

-- the buyer by the purchase, whoever else as before
pub noted_purchase : (bought_by new_bought : ℕ → List ℕ) (i buyer price moment : ℕ) (row : ItemRow) → ((m : ℕ) → new_bought m ≡ (if buyer == m then bought_by m ++ i ∷ [] else bought_by m))
    → IsNoted bought_by row → IsNoted new_bought (with_purchase i buyer price moment row)
noted_purchase bought_by new_bought i buyer price moment row made noted =
    elim (by_test (is_item i row)) [
      | inl is ↦ rw is (λ m leads. or_right (is_leader row.standing.leader m) (is_among (new_bought m) (number_of row))
          (rw (made m, leads, same_number (number_of row) i is) (among_last (bought_by m) i)))
      | inr other ↦ rw other (λ m leads. or_more (is_leader row.standing.leader m) (is_among (bought_by m) (number_of row)) (is_among (new_bought m) (number_of row)) (stays m) (noted m leads))
    ] where
      stays : (m : ℕ) → is_among (bought_by m) (number_of row) ≡ true → is_among (new_bought m) (number_of row) ≡ true
      stays m among = elim (by_test (buyer == m)) [
        | inl here ↦ rw (made m, here) (among_more (bought_by m) (number_of row) i among)
        | inr other ↦ rw (made m, other) among
      ]
