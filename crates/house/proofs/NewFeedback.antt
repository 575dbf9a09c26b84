-- Feedback: the verdict by the tables, and the tables after it.
use Rattle.std.proofs.Common.{Bor, ◌≡◌, ℕ, List, [], ◌∷◌, ◌++◌, map, length, Bool, true, false, not, refl, ◌∙◌, sym, arith, inl, inr, ◌⊎◌, Option, Some, None}
use Rattle.std.specs.Prelude.{◌==◌, ◌||◌, is_none}
use Rattle.std.proofs.lemmas.Bool.Decides.{nat_tests}
use Rattle.std.proofs.lemmas.List.{append-nil}
use Rattle.proxy.specs.Bids.{is_leader}
use Rattle.proxy.specs.Rules.{first_failing}
use Rattle.house_rows.specs.declared.change.Change.TheVariants as change
use Rattle.house_rows.specs.declared.command.Command.TheVariants.{Feedback}
use Rattle.house_rows.specs.declared.item.Terms.{Terms}
use Rattle.house_rows.specs.declared.rating.Rating.{Rating}
use Rattle.house_rows.specs.declared.refusal.Refusal.{Refusal}
use Rattle.house_rows.specs.declared.refusal.Refusal.TheVariants.{AlreadyGiven, NotParty, NotSold, Range}
use Rattle.house_rows.specs.declared.settings.Settings.{Settings}
use Rattle.house_rows.specs.Asks.{RatingFits}
use Rattle.house_rows.specs.Changed.{changed}
use Rattle.house_rows.specs.Found.{is_given, terms_at}
use Rattle.house_rows.specs.History.{History}
use Rattle.house_rows.specs.Listings.{Listing, listing_at, listings}
use Rattle.house_rows.specs.Questions.{questions}
use Rattle.house_rows.specs.Ratings.{other_party, party_against}
use Rattle.house_rows.specs.Runs.{entry}
use Rattle.house_rows.specs.Tables.{Tables, row_now, tables_of}
use Rattle.house_rows.specs.Text.{is_text}
use Rattle.house_rows.specs.Verdict.{Rule, common_rules, feedback_rules, verdict, was_sold}
use Rattle.house.proofs.ByTables.{caller_fits}
use Rattle.house.proofs.Found.{by_test}
use Rattle.house.proofs.ListedTerms.{party_is}
use Rattle.house.proofs.OnItems.{item_judged, item_refused, row_there}
use Rattle.house.specs.Decided.{IsAccepted, of_terms}

-- items are as they were
rows_still : (settings : Settings) (h : History) (moment caller i : ℕ) (rating : Option Rating) (text : List ℕ) (ls : List Listing)
    → map (row_now settings (entry moment caller (Feedback i rating text) ∷ h)) ls ≡ map (row_now settings h) ls
rows_still settings h moment caller i rating text [] = refl
rows_still settings h moment caller i rating text (l ∷ ls) = rw (rows_still settings h moment caller i rating text ls) (simp append-nil)

feedback_leads : (settings : Settings) (h : History) (moment caller i : ℕ) (rating : Rating) (text : Bor (List ℕ))
    → changed (tables_of settings h) (change.Feedback moment i caller (party_against h (listing_at (listings h) i) caller) rating text) ≡ tables_of settings (entry moment caller (Feedback i (Some rating) text.now) ∷ h)
unfolding changed tables_of questions
feedback_leads settings h moment caller i rating text =
    rw (rows_still settings h moment caller i (Some rating) text.now (listings h ++ [])) (simp append-nil)

-- what is refused before the feedback is asked
pub feedback_refused : (t : Tables) (settings : Settings) (h : History) (moment caller item : ℕ) (rating : Option Rating) (text : List ℕ) (refusal : Refusal) → t ≡ tables_of settings h
    → ((more : Terms → List Rule) → Some refusal ≡ first_failing (common_rules t.clock (length t.members) moment caller false ++ of_terms (terms_at t item) more))
    → verdict settings h moment caller (Feedback item rating text) ≡ Some refusal
unfolding verdict
feedback_refused t settings h moment caller item rating text refusal e report = item_refused t settings h moment caller item refusal (λ floor. feedback_rules caller rating text _) e report

-- the verdict by the terms, and by whether feedback is kept
pub feedback_judged : (t : Tables) (settings : Settings) (h : History) (moment caller item : ℕ) (rating : Option Rating) (text : List ℕ) (terms : Terms) → t ≡ tables_of settings h
    → terms_at t item ≡ Some terms → None ≡ first_failing (common_rules t.clock (length t.members) moment caller false)
    → verdict settings h moment caller (Feedback item rating text) ≡ first_failing (feedback_rules caller rating text (is_given t item caller) terms)
unfolding verdict tables_of
feedback_judged t settings h moment caller item rating text terms e found passed =
    item_judged t settings h moment caller item terms (λ floor. feedback_rules caller rating text _) e found passed ∙ rw e refl

rating_pass : (sold party given out fits : Bool)
    → first_failing ((not sold, NotSold) ∷ (not party, NotParty) ∷ (given, AlreadyGiven) ∷ (out || not fits, Range) ∷ []) ≡ None
    → (sold ≡ true) × (party ≡ true) × (given ≡ false) × (fits ≡ true)
rating_pass false party given out fits none = cc
rating_pass true false given out fits none = cc
rating_pass true true true out fits none = cc
rating_pass true true false true fits none = cc
rating_pass true true false false false none = cc
rating_pass true true false false true none = (refl, refl, refl, refl)

rated : (caller : ℕ) (rating : Option Rating) (text : List ℕ) (given : Bool) (terms : Terms) → None ≡ first_failing (feedback_rules caller rating text given terms)
    → (was_sold terms.state ≡ true) × (((terms.seller == caller) || is_leader terms.leader caller) ≡ true) × (given ≡ false) × (is_text 0 200 text ≡ true)
rated caller rating text given terms none =
    rating_pass (was_sold terms.state) ((terms.seller == caller) || is_leader terms.leader caller) given (is_none rating) (is_text 0 200 text) (sym none)

-- the caller sells the item or leads it
is_party : (seller : ℕ) (leader : Option ℕ) (c : ℕ) → ((seller == c) || is_leader leader c) ≡ true → (seller ≡ c) ⊎ (leader ≡ Some c)
is_party seller None c party = inl (grind (arith, nat_tests, party))
is_party seller (Some l) c party =
    elim (by_test (seller == c)) [
      | inl sells ↦ inl (grind (arith, nat_tests, sells))
      | inr not ↦ inr (let leads : (l == c) ≡ true = rw not at party in let e : l ≡ c = grind (arith, nat_tests, leads) in rw e refl)
    ]

pub feedback_fits : (t : Tables) (moment caller item : ℕ) (rating : Option Rating) (text : List ℕ) (terms : Terms) (member to : ℕ) (report : Bor (List ℕ))
    → report.now ≡ text → member ≡ caller → to ≡ other_party terms.seller terms.leader caller
    → terms_at t item ≡ Some terms → None ≡ first_failing (common_rules t.clock (length t.members) moment caller false)
    → None ≡ first_failing (feedback_rules caller rating text (is_given t item caller) terms) → RatingFits t moment terms.item member to report.now
feedback_fits t moment caller item rating text terms member to report same_text same_member other found passed none =
    let row = row_there t item terms found in
    let fits = caller_fits t moment caller false (sym passed) in
    let pass = rated caller rating text (is_given t item caller) terms none in
    rw (same_member, row.numbered) (record {
      moment_fits = fits.moment_fits;
      row = row.row;
      row_there = row.there;
      was_sold = rw row.same pass.0;
      giver_there = fits.there refl;
      is_party = rw row.same (is_party terms.seller terms.leader caller pass.1);
      receiver = rw row.same other;
      text_fits = rw same_text pass.3;
    })

pub feedback_accepts : (t : Tables) (settings : Settings) (h : History) (moment caller item : ℕ) (rating : Option Rating) (text : List ℕ) (terms : Terms) (member to : ℕ) (taken : Rating) (report : Bor (List ℕ))
    → t ≡ tables_of settings h → report.now ≡ text → member ≡ caller → to ≡ other_party terms.seller terms.leader caller → rating ≡ Some taken
    → terms_at t item ≡ Some terms → None ≡ first_failing (common_rules t.clock (length t.members) moment caller false)
    → None ≡ first_failing (feedback_rules caller rating text (is_given t item caller) terms)
    → IsAccepted settings h moment caller (Feedback item rating text) (change.Feedback moment terms.item member to taken report)
feedback_accepts t settings h moment caller item rating text terms member to taken report e same_text same_member other same_rating found passed none =
    let named : terms.item ≡ item = (row_there t item terms found).numbered in
    let there : terms_at (tables_of settings h) item ≡ Some terms = rw e at found in
    rw (same_member, named) (record {
      accepted = feedback_judged t settings h moment caller item rating text terms e found passed ∙ sym none;
      fits = rw (← e) (rw (same_member, named) at (feedback_fits t moment caller item rating text terms member to report same_text same_member other found passed none));
      free = rw (← e) (rated caller rating text (is_given t item caller) terms none).2;
      leads = rw (other, ← party_is settings h item caller terms there, same_rating, ← same_text) (feedback_leads settings h moment caller item taken report);
    })
