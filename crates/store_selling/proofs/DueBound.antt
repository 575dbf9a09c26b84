-- What is due at a moment from 2 ^ 32 on is due at the last moment before it: no stored end is as great.
use Rattle.std.proofs.Common.{◌≡◌, ◌<◌, ◌^◌, ◌&&◌, ℕ, pos, negsuc, Bool, true, false, not, List, [], ◌∷◌, length, map, filter, nat_le, nat_lt, refl, sym, ap, ap₂, ◌∙◌, inl, inr, arith}
use Rattle.std.proofs.lemmas.Bool.Decides.{nat_tests}
use Rattle.sqlite_value.specs.declared.value.Value.{Value}
use Rattle.sqlite_value.specs.declared.value.Value.TheVariants.{Null, Int, Real, Text, Blob}
use Rattle.sqlite_value.specs.Order.{Row, column}
use Rattle.sqlite_keyed.proofs.ListLemmas.{all_map, all_unmap, all_weaker}
use Rattle.sqlite_trees.specs.Tree.{Trees}
use Rattle.house_rows.specs.Found.{due_at}
use Rattle.house_rows.specs.History.{counted}
use Rattle.house_rows.specs.Items.{close_sells, is_due, is_open}
use Rattle.house_rows.specs.declared.item.Due.{Due}
use Rattle.house_rows.specs.Taken.{FitWhere}
use Rattle.house_rows.specs.Tables.{ItemRow}
use Rattle.house_rows.proofs.Put.{by_test}
use Rattle.store_rows.specs.declared.reserve.ReserveRow.{ReserveRow}
use Rattle.store_rows.specs.ItemRows.{item_row_in, items_in}
use Rattle.store_rows.specs.Rows.{number_in, reserves_in}
use Rattle.store_rows.specs.Tables.{tables_in}
use Rattle.store_rows.proofs.Bounds.{bound_of}

-- a number that is none of ours lies after every moment
after_all : (moment : ℕ) → moment < 2 ^ 64 → nat_le (2 ^ 64) (bound_of moment) ≡ nat_le (2 ^ 64) moment
after_all moment low =
    let never : nat_le (2 ^ 64) moment ≡ false = grind (arith, nat_tests) in
    elim (by_test (nat_lt moment 4294967295)) [ inl is ↦ rw is refl | inr not ↦ rw (not, never) refl ]

-- and one of ours at or before the last moment of 32 bits
before_last : (moment n : ℕ) → nat_lt n (2 ^ 32) ≡ true → nat_le n (bound_of moment) ≡ nat_le n moment
before_last moment n small =
    elim (by_test (nat_lt moment 4294967295)) [
      | inl is ↦ rw is refl
      | inr not ↦ (let early : nat_le n 4294967295 ≡ true = grind (arith, nat_tests, small) in
          let also : nat_le n moment ≡ true = grind (arith, nat_tests, small, not) in
          rw (not, early, also) refl)
    ]

end_bound : (moment : ℕ) → moment < 2 ^ 64 → (v : Value) → nat_le (number_in v) (bound_of moment) ≡ nat_le (number_in v) moment
end_bound moment low Null = after_all moment low
end_bound moment low (Int (pos n)) = elim (by_test (nat_lt n (2 ^ 32))) [ inl small ↦ rw small (before_last moment n small) | inr not ↦ rw not (after_all moment low) ]
end_bound moment low (Int (negsuc n)) = after_all moment low
end_bound moment low (Real r) = after_all moment low
end_bound moment low (Text t) = after_all moment low
end_bound moment low (Blob b) = after_all moment low

module _ (reserves : List ReserveRow) (moment : ℕ) (low : moment < 2 ^ 64) where
  abbrev make : Row → ItemRow
  make r = item_row_in reserves r

  due_bound : (r : Row) → is_due (bound_of moment) (make r).item.terms ≡ is_due moment (make r).item.terms
  due_bound r = ap (λ (b : Bool). is_open (make r).item.terms.state && b) (end_bound moment low (column r 9))

  filter_with : (q : ItemRow → Bool) (rows : List Row) → filter (λ row. is_due (bound_of moment) row.item.terms && q row) (map make rows) ≡ filter (λ row. is_due moment row.item.terms && q row) (map make rows)
  filter_with q [] = refl
  filter_with q (r ∷ rows) = rw (due_bound r, filter_with q rows) refl

  counted_bound : (q : ItemRow → Bool) (rows : List Row) → counted (λ row. is_due (bound_of moment) row.item.terms && q row) (map make rows) ≡ counted (λ row. is_due moment row.item.terms && q row) (map make rows)
  counted_bound q rows = ap length (filter_with q rows)

  filter_bound : (rows : List Row) → filter (λ row. is_due (bound_of moment) row.item.terms) (map make rows) ≡ filter (λ row. is_due moment row.item.terms) (map make rows)
  filter_bound [] = refl
  filter_bound (r ∷ rows) = rw (due_bound r, filter_bound rows) refl

module _ (moment : ℕ) (low : moment < 2 ^ 64) where
  pub due_found : (db : Trees) → due_at (tables_in db) (bound_of moment) ≡ due_at (tables_in db) moment
  unfolding tables_in
  due_found db =
      let both : ℕ → ℕ → Due = λ sold unsold. record { sold = sold; unsold = unsold } in
      ap₂ both (counted_bound (reserves_in db) moment low (λ row. close_sells row.item.terms.leader row.item.terms.met) (db 6))
      (counted_bound (reserves_in db) moment low (λ row. not (close_sells row.item.terms.leader row.item.terms.met)) (db 6))

  pub due_rows : (db : Trees) → filter (λ row. is_due (bound_of moment) row.item.terms) (items_in db) ≡ filter (λ row. is_due moment row.item.terms) (items_in db)
  due_rows db = filter_bound (reserves_in db) moment low (db 6)

  pub due_where : (db : Trees) (Fits : ItemRow → Type 0) → FitWhere (λ row. is_due moment row.item.terms) Fits (items_in db) → FitWhere (λ row. is_due (bound_of moment) row.item.terms) Fits (items_in db)
  due_where db Fits fits =
      let now = λ (row : ItemRow). is_due moment row.item.terms ≡ true → Fits row in
      let then' = λ (row : ItemRow). is_due (bound_of moment) row.item.terms ≡ true → Fits row in
      let make : Row → ItemRow = item_row_in (reserves_in db) in
      all_map then' make (db 6) (all_weaker (λ r. now (make r)) (λ r. then' (make r)) (λ r fit is. fit (sym (due_bound (reserves_in db) moment low r) ∙ is)) (db 6) (all_unmap now make (db 6) fits))
