-- Keys of two columns.
use Rattle.std.proofs.Common.{◌≡◌, ◌<◌, ◌^◌, pos, true, List, [], ◌∷◌, ap, ap₂, sym, ◌∙◌}
use Rattle.sqlite_value.specs.declared.value.Value.TheVariants.{Int}
use Rattle.sqlite_value.specs.declared.keys.Key.{Key as Sorting}
use Rattle.sqlite_value.specs.Keys as keys
use Rattle.sqlite_value.specs.Order.{Row, column}
use Rattle.sqlite_schema.specs.Rules.{agree}
use Rattle.sqlite_sql.specs.Term.{Term}
use Rattle.house_rows.specs.History.{Key, is_less}
use Rattle.list_rows.specs.Blocks.{same_key}
use Rattle.list_rows.proofs.Order.{first_of_same, second_of_same}
use Rattle.store_rows.specs.Rows.{number_in}
use Rattle.store_rows.proofs.Apart.{agree_two}
use Rattle.store_rows.proofs.ByKey.{by_columns, number_is, two_values_rise}
use Rattle.store_rows.proofs.Shown.{RisesBy}

abbrev pub two_columns : List (Term × Sorting)
two_columns = by_columns (1 ∷ 2 ∷ [])

abbrev pub stored_key : Row → Key
stored_key r = record { first = number_in (column r 1); second = number_in (column r 2); third = 0 }

-- the key is of the first two columns, which hold numbers of 32 bits
pub record HasPair (key : Key) (r : Row) : Type 0 where
  pub is : key ≡ stored_key r
  pub first : number_in (column r 1) < 2 ^ 32
  pub second : number_in (column r 2) < 2 ^ 32

module _ {T : Type 0} (key : T → Key) (inside : Row → T) where
  pub pair_agrees : (r s : Row) → HasPair (key (inside r)) r → HasPair (key (inside s)) s → same_key (key (inside r)) (key (inside s)) ≡ true → agree keys.plain (1 ∷ 2 ∷ []) r (1 ∷ 2 ∷ []) s ≡ true
  pair_agrees r s r_has s_has same =
      let as_stored : same_key (stored_key r) (stored_key s) ≡ true = sym (ap₂ same_key r_has.is s_has.is) ∙ same in
      let first : number_in (column r 1) ≡ number_in (column s 1) = first_of_same (stored_key r) (stored_key s) as_stored in
      let second : number_in (column r 2) ≡ number_in (column s 2) = second_of_same (stored_key r) (stored_key s) as_stored in
      agree_two r s (number_in (column s 1)) (number_in (column s 2)) s_has.first s_has.second
      (number_is (column r 1) r_has.first ∙ ap (λ n. Int (pos n)) first) (number_is (column r 2) r_has.second ∙ ap (λ n. Int (pos n)) second)
      (number_is (column s 1) s_has.first) (number_is (column s 2) s_has.second)

  pub pair_rises : (test project : List Term) (params : Row) → RisesBy key inside test project two_columns params (λ r. HasPair (key (inside r)) r)
  pair_rises test project params r s r_has s_has less =
      let as_stored : is_less (stored_key r) (stored_key s) ≡ true = sym (ap₂ is_less r_has.is s_has.is) ∙ less in
      two_values_rise (column r 1) (column r 2) (column s 1) (column s 2) r_has.first r_has.second s_has.first s_has.second as_stored
