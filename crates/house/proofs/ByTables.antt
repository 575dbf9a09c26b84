-- What the rules say of the tables alone, whatever history they are of, if of any.
use Rattle.std.proofs.Common.{◌≡◌, ℕ, List, [], ◌∷◌, Bool, true, false, refl, arith, inl, inr, Option, Some, None}
use Rattle.std.specs.Prelude.{find, option_map}
use Rattle.std.specs.List.{list_any}
use Rattle.std.proofs.lemmas.Bool.Decides.{nat_tests}
use Rattle.proxy.specs.Kept.{Kept}
use Rattle.proxy.specs.Rules.{first_failing}
use Rattle.house_rows.specs.declared.settings.Settings.{Settings}
use Rattle.house_rows.specs.Asks.{HasMember}
use Rattle.house_rows.specs.Fits.{IsMoment}
use Rattle.house_rows.specs.Found.{row_at, standing_at}
use Rattle.house_rows.specs.History.{History}
use Rattle.house_rows.specs.Keeping.{AreSound}
use Rattle.house_rows.specs.Tables.{ItemRow, Tables, tables_of}
use Rattle.house_rows.specs.Verdict.{IsHistory}
use Rattle.house_rows.proofs.Sound.{rows_are_sound}
use Rattle.house.specs.Judged.{first_rules}
use Rattle.house.proofs.Found.{by_test}

-- of a caller and its moment
pub record CallerFits (t : Tables) (moment caller : ℕ) (of_house : Bool) : Type 0 where
  pub moment_fits : IsMoment moment
  pub there : of_house ≡ false → HasMember t caller

pub caller_fits : (t : Tables) (moment caller : ℕ) (of_house : Bool) → first_failing (first_rules t moment caller of_house) ≡ None → CallerFits t moment caller of_house
caller_fits t moment caller true pass = record { moment_fits = grind (arith, nat_tests, pass); there = λ e. cc }
caller_fits t moment caller false pass = record {
  moment_fits = grind (arith, nat_tests, pass);
  there = λ e. (grind (arith, nat_tests, pass), grind (arith, nat_tests, pass));
}

-- what no element passes isn't found
pub none_found : {A : Type 0} (p : A → Bool) (xs : List A) → list_any p xs ≡ false → find p xs ≡ None
none_found p [] none = refl
none_found p (x ∷ xs) none = elim (by_test (p x)) [ inl is ↦ absurd (let e : true ≡ false = rw is at none in cc) | inr not ↦ rw not (none_found p xs (rw not at none)) ]

-- the standing that is found is the row's
pub standing_same : (t : Tables) (item : ℕ) (row : ItemRow) (kept : Kept) → row_at t item ≡ Some row → standing_at t item ≡ Some kept → kept ≡ row.standing
standing_same t item row kept there is_consistent = by_row (row_at t item) there is_consistent where
  by_row : (o : Option ItemRow) → o ≡ Some row → option_map (λ (r : ItemRow). r.standing) o ≡ Some kept → kept ≡ row.standing
  by_row None none some = cc
  by_row (Some r) is some = cc

-- the tables of a history are sound
pub sound_here : (t : Tables) (settings : Settings) (h : History) → IsHistory settings h → t ≡ tables_of settings h → AreSound t
sound_here t settings h is e = rw e (rows_are_sound settings h is)
