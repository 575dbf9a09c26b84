-- The tables of a house are a set, so they come out of a truncation.
use Rattle.std.proofs.Common.{◌≡◌, ℕ, Bool, List, Option, refl, suc, zero}
use Rattle.std.specs.Coded.{Coded, Coded-set, code_by, coded_bool, coded_list, coded_option, coded_ℕ}
use mathlib.Core.Bool.{Bool-set}
use mathlib.Core.List.{is_set}
use native.Mathlib.Nat.{ℕ_set}
use Rattle.house_rows.specs.Tables.{Tables}
use Rattle.house_rows.specs.declared.rating.Rating.{Rating}
use Rattle.house_rows.specs.declared.rating.Rating.TheVariants.{Minus, Plus, Zero}
use Rattle.house_rows.specs.declared.state.State.{State}
use Rattle.house_rows.specs.declared.state.State.TheVariants.{Open, Sold, Unsold, Settled}

option_set : IsSet (Option ℕ)
option_set = Coded-set (coded_option coded_ℕ)

abbrev number_of : State → ℕ
number_of Open = 0
number_of Sold = 1
number_of Unsold = 2
number_of Settled = 3

abbrev state_of : ℕ → State
state_of zero = Open
state_of (suc zero) = Sold
state_of (suc (suc zero)) = Unsold
state_of (suc (suc (suc n))) = Settled

same_state : (s : State) → state_of (number_of s) ≡ s
same_state Open = refl
same_state Sold = refl
same_state Unsold = refl
same_state Settled = refl

state_set : IsSet State
state_set = Coded-set (code_by ℕ coded_ℕ number_of state_of same_state)

flag_set : IsSet (Option Bool)
flag_set = Coded-set (coded_option coded_bool)

text_set : IsSet (Option (List ℕ))
text_set = Coded-set (coded_option (coded_list coded_ℕ))

abbrev number_of_rating : Rating → ℕ
number_of_rating Minus = 0
number_of_rating Zero = 1
number_of_rating Plus = 2

abbrev rating_of : ℕ → Rating
rating_of zero = Minus
rating_of (suc zero) = Zero
rating_of (suc (suc n)) = Plus

same_rating : (r : Rating) → rating_of (number_of_rating r) ≡ r
same_rating Minus = refl
same_rating Zero = refl
same_rating Plus = refl

rating_set : IsSet Rating
rating_set = Coded-set (code_by ℕ coded_ℕ number_of_rating rating_of same_rating)

pub Tables-set : IsSet Tables
Tables-set = hlevel (is_set, ℕ_set, Bool-set, option_set, flag_set, text_set, state_set, rating_set)
