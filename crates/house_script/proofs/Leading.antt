-- Changes that lead to tables, and one more.
use Rattle.std.proofs.Common.{◌≡◌, ◌∙◌, refl, sym, ap, Bool, true, false, List, [], ◌∷◌, ◌++◌, subst}
use Rattle.house_rows.specs.declared.change.Change.{Change}
use Rattle.house_rows.specs.Asks.{ChangeFits}
use Rattle.house_rows.specs.Changed.{changed}
use Rattle.house_rows.specs.Tables.{Tables, tables_of}
use Rattle.house.specs.Filled.{FitInTurn, after}
use Rattle.house_script.specs.Housed.{AreAccepted, LeadTo, set_up}

pub fits_after : (t : Tables) (changes : List Change) (change : Change) → FitInTurn t changes → ChangeFits (after t changes) change
    → FitInTurn t (changes ++ change ∷ [])
fits_after t [] change fits fit = (fit, tt)
fits_after t (first ∷ changes) change fits fit = (fits.0, fits_after (changed t first) changes change fits.1 fit)

pub after_one_more : (t : Tables) (changes : List Change) (change : Change) → after t (changes ++ change ∷ []) ≡ changed (after t changes) change
after_one_more t [] change = refl
after_one_more t (first ∷ changes) change = after_one_more (changed t first) changes change

-- one change more, after which the tables are again those of accepted commands
pub one_more_leads : (changes : List Change) (t : Tables) (change : Change) (next : Tables)
    → (lead : LeadTo changes t) → AreAccepted next → ChangeFits t change → next ≡ changed t change
    → LeadTo (changes ++ change ∷ []) next
one_more_leads changes t change next lead housed fits made = record {
  housed = housed;
  fits = fits_after (tables_of set_up []) changes change lead.fits (subst (λ s. ChangeFits s change) (sym lead.leads) fits);
  leads = after_one_more (tables_of set_up []) changes change ∙ ap (λ s. changed s change) lead.leads ∙ sym made;
}

-- what hasn't failed now had not failed before
pub not_failed : (was is : Bool) → (was ≡ true → is ≡ true) → is ≡ false → was ≡ false
not_failed false is stays working = refl
not_failed true is stays working = sym (stays refl) ∙ working
