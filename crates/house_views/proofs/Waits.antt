-- The questions that wait by the tables of a history are those of the history.
use Rattle.std.proofs.Common.{◌≡◌, ◌∙◌, ℕ, Bool, true, ap, sym, refl, Option, Some, None}
use Rattle.std.specs.Prelude.{◌↔◌, ◌&&◌, is_some, not, option_map}
use Rattle.house_rows.specs.declared.settings.Settings.{Settings}
use Rattle.house_rows.specs.declared.talk.Question.{Question}
use Rattle.house_rows.specs.Found.{sells, waiting_for}
use Rattle.house_rows.specs.History.{History}
use Rattle.house_rows.specs.Listings.{Listing, is_seller, listing_at, listings}
use Rattle.house_rows.specs.Questions.{questions, waiting}
use Rattle.house_rows.specs.Tables.{ItemRow, Tables, row_now, tables_of}
use Rattle.house_rows.proofs.Put.{filter_alike}
use Rattle.house_rows.proofs.Shown.{row_found}

seller_is : (settings : Settings) (h : History) (c : ℕ) (o : Option Listing)
    → sells (option_map (row_now settings h) o) c ≡ is_seller o c
seller_is settings h c None = refl
seller_is settings h c (Some l) = refl

waiting_is : (settings : Settings) (h : History) (c : ℕ)
    → waiting_for (tables_of settings h) c ≡ waiting h c
unfolding tables_of waiting
waiting_is settings h c =
    filter_alike _ _ (questions h) (λ (q : Question).
    ap (λ (sells_it : Bool). not (is_some q.answer) && sells_it)
    (ap (λ (o : Option ItemRow). sells o c) (row_found settings h q.item)
    ∙ seller_is settings h c (listing_at (listings h) q.item)))

pub waiting_reported : (settings : Settings) (h k : History) (c : ℕ) (t u : Tables) (same : Bool)
    → t ≡ tables_of settings h → u ≡ tables_of settings k
    → (same ≡ true) ↔ (waiting_for t c ≡ waiting_for u c)
    → (same ≡ true) ↔ (waiting h c ≡ waiting k c)
waiting_reported settings h k c t u same e d report =
    let report' : (same ≡ true) ↔ (waiting_for (tables_of settings h) c
    ≡ waiting_for (tables_of settings k) c) = rw (e, d) at report in (
      λ yes. sym (waiting_is settings h c) ∙ report'.0 yes ∙ waiting_is settings k c,
      λ wait. report'.1 (waiting_is settings h c ∙ wait ∙ sym (waiting_is settings k c)),
    )
