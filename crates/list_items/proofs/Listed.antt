-- The indexes after a new item.
use Rattle.std.proofs.Common.{◌≡◌, ℕ, ◌+◌, List, [], ◌∷◌, ◌++◌, length, Bool, true, false, refl, ◌∙◌, sym, Option, Some, None}
use Rattle.std.specs.Prelude.{if◌then◌else◌, ◌==◌, ◌&&◌, find, option_map, cond}
use Rattle.std.specs.BTreeSet.{BTreeSet}
use Rattle.std.specs.BTreeSet as set
use Rattle.std.specs.Ordering.{nat_cmp, ordering_then}
use Rattle.house_rows.specs.declared.change.NewItem.{NewItem}
use Rattle.house_rows.specs.Changed.{new_item}
use Rattle.house_rows.specs.Tables.{ItemRow}
use Rattle.house_rows.specs.Text.{same_text}
use Rattle.list_items.specs.Groups.{has_end}
use Rattle.list_items.specs.Indexed.{IsIndexed, has_lot, lot_in, number_of}
use Rattle.list_items.proofs.Joined.{both_ways}
use Rattle.list_items.proofs.Known.{ends_added, row_added}

some_none : {A : Type 0} (x : A) (o : Option A) → o ≡ Some x → o ≡ None → ⊥
some_none x o some none = cc

-- no row has a lot at which no number is
pub lot_free : (rows : List ItemRow) (at_lot : ℕ → List ℕ → Option ℕ) (seller : ℕ) (lot : List ℕ) → ((s : ℕ) (l : List ℕ) → at_lot s l ≡ lot_in rows s l) → at_lot seller lot ≡ None → find (has_lot seller lot) rows ≡ None
lot_free rows at_lot seller lot is none = unnamed_none (find (has_lot seller lot) rows) (sym (is seller lot) ∙ none) where
  unnamed_none : (o : Option ItemRow) → option_map number_of o ≡ None → o ≡ None
  unnamed_none None none = refl
  unnamed_none (Some x) none = absurd (some_none (number_of x) (option_map number_of (Some x)) refl none)

cond_stays : (b old new : Bool) → new ≡ cond b true old → old ≡ true → new ≡ true
cond_stays true old new made was = made
cond_stays false old new made was = made ∙ was

-- what was among the ends stays there
pub ends_stay : (old new : BTreeSet (ℕ × ℕ)) (key : ℕ × ℕ) → set.Updates (λ x y. ordering_then (nat_cmp x.0 y.0) (nat_cmp x.1 y.1)) old new key true → (e n : ℕ) → has_end old e n ≡ true → has_end new e n ≡ true
ends_stay old new key updates e n was = cond_stays _ (has_end old e n) (has_end new e n) (updates.0 (e, n)) was

pub ends_same : (old new : BTreeSet (ℕ × ℕ)) → new.keys ≡ old.keys → (e n : ℕ) → has_end old e n ≡ true → has_end new e n ≡ true
ends_same old new same e n was = rw same was

-- the rows and their indexes with a new item
pub row_listed : (rows : List ItemRow) (row : ItemRow) (number : ℕ) (item : NewItem) (s k : ℕ)
    (at_lot new_lot : ℕ → List ℕ → Option ℕ) (in_category new_category sold_by new_sold bought_by : ℕ → List ℕ) (ends_at new_ends : ℕ → ℕ → Bool)
    → row ≡ new_item number item → number ≡ length rows + 1 → s ≡ item.seller → k ≡ item.category
    → at_lot s item.lot.now ≡ None
    → ((s' : ℕ) (l : List ℕ) → new_lot s' l ≡ (if (s == s') && same_text item.lot.now l then Some number else at_lot s' l))
    → ((e n : ℕ) → ends_at e n ≡ true → new_ends e n ≡ true) → new_ends item.end number ≡ true
    → ((k' : ℕ) → new_category k' ≡ (if k == k' then in_category k' ++ number ∷ [] else in_category k'))
    → ((s' : ℕ) → new_sold s' ≡ (if s == s' then sold_by s' ++ number ∷ [] else sold_by s'))
    → IsIndexed rows at_lot in_category sold_by bought_by ends_at → IsIndexed (rows ++ row ∷ []) new_lot new_category new_sold bought_by new_ends
row_listed rows row number item s k at_lot new_lot in_category new_category sold_by new_sold bought_by ends_at new_ends is next s_is k_is free lots stays ended categories sellers indexed =
    rw is (row_added rows (new_item number item) at_lot new_lot in_category new_category sold_by new_sold bought_by new_ends next
    (lot_free rows at_lot item.seller item.lot.now indexed.lots (rw s_is at free))
    (λ s'. rw s_is at (lots s'))
    (λ k'. rw k_is at (categories k'))
    (λ s'. rw s_is at (sellers s'))
    (λ m leads. absurd (both_ways false leads refl))
    ended
    (ends_added rows at_lot in_category sold_by bought_by ends_at new_ends stays indexed))
