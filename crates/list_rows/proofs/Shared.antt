-- What a change at the bytes of a shared text leaves at any bytes.
use Rattle.std.proofs.Common.{◌≡◌, ℕ, List, Bool, true, false, inl, inr, refl, ◌∙◌, sym}
use Rattle.std.specs.Prelude.{Option}
use Rattle.std.specs.HashMap.{HashMap, UpdatesBy}
use Rattle.std.specs.Map.{IsKeyTest, AreApart, KeepsOthers, lookup, update}
use Rattle.std.specs.Rc.{rc_str_bytes}
use Rattle.std.specs.Str.{bytes_eq}
use Rattle.std.specs.declared.rc.RcStr.{RcStr}
use Rattle.std.proofs.lemmas.Cmp.{nat_list_eq_equiv}
use Rattle.std.proofs.lemmas.Slice.Eq.{bytes_eq-Decides}
use Rattle.house_rows.proofs.Put.{by_test}
use Rattle.list_rows.specs.Shared.{get_by_shared}

apart : (bs cs ks : List ℕ) → bytes_eq bs cs ≡ false → bytes_eq bs ks ≡ true → bytes_eq cs ks ≡ false
apart bs cs ks not is = nat_list_eq_equiv.symm cs ks ∙ sym (nat_list_eq_equiv.congr bs ks cs is) ∙ not

module _ {K X : Type 0} (eq : K → K → Bool) (test : K → Bool) where
  other_entries : (old new : List (K × X)) → KeepsOthers eq test old new → (other : K → Bool) → IsKeyTest eq other → AreApart test other → lookup other new ≡ lookup other old
  unfolding KeepsOthers
  other_entries old new keeps = keeps

-- after a change at those bytes every look-up finds it there, and elsewhere what it found before
pub shared_updates : {Z X S : Type 0} (bytes : List ℕ) (old new : HashMap (RcStr Z) X S) (value : Option X)
    → UpdatesBy (λ x y. bytes_eq (rc_str_bytes x) (rc_str_bytes y)) (λ key. bytes_eq bytes (rc_str_bytes key)) old new value
    → (other : List ℕ) → get_by_shared new other ≡ update bytes_eq (get_by_shared old) bytes value other
shared_updates bytes old new value updates other =
    elim (by_test (bytes_eq bytes other)) [
      | inl same ↦ (let e : bytes ≡ other = (bytes_eq-Decides bytes other).0 same in rw same (rw (← e) updates.1))
      | inr not ↦ rw not (other_entries _ _ _ _ updates.3 _ (λ x y. nat_list_eq_equiv.congr other (rc_str_bytes x) (rc_str_bytes y)) (λ key. apart bytes other (rc_str_bytes key) not))
    ]

same_again : {X : Type 0} (values : List ℕ → Option X) (key : List ℕ) (value : Option X) (other : List ℕ) → values key ≡ value → update bytes_eq values key value other ≡ values other
same_again values key value other is =
    elim (by_test (bytes_eq key other)) [
      | inl same ↦ (let e : key ≡ other = (bytes_eq-Decides key other).0 same in rw same (rw (← e) (sym is)))
      | inr not ↦ rw not refl
    ]

-- what was there put once more changes nothing
pub shared_again : {Z X S : Type 0} (bytes : List ℕ) (old new : HashMap (RcStr Z) X S) (value : Option X)
    → UpdatesBy (λ x y. bytes_eq (rc_str_bytes x) (rc_str_bytes y)) (λ key. bytes_eq bytes (rc_str_bytes key)) old new value
    → get_by_shared old bytes ≡ value → (other : List ℕ) → get_by_shared new other ≡ get_by_shared old other
shared_again bytes old new value updates there other =
    shared_updates bytes old new value updates other ∙ same_again (get_by_shared old) bytes value other there
