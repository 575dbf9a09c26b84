-- A close: the verdict by the tables, and the tables after it.
use Rattle.std.proofs.Common.{◌≡◌, ℕ, ◌≤◌, List, [], ◌∷◌, ◌++◌, map, length, Bool, true, false, not, refl, ◌∙◌, sym, arith, inl, inr, Option, Some, None}
use Rattle.std.specs.Prelude.{if◌then◌else◌, ◌&&◌, ◌||◌, is_some, nat_le}
use Rattle.std.specs.List.{list_any}
use Rattle.std.proofs.lemmas.Bool.Decides.{nat_tests}
use Rattle.std.proofs.lemmas.List.{append-nil}
use Rattle.proxy.specs.Rules.{first_failing}
use Rattle.house_rows.specs.declared.change.Change.TheVariants as change
use Rattle.house_rows.specs.declared.command.Command.TheVariants.{Close}
use Rattle.house_rows.specs.declared.refusal.Refusal.{Refusal}
use Rattle.house_rows.specs.declared.settings.Settings.{Settings}
use Rattle.house_rows.specs.declared.state.State.TheVariants.{Sold, Unsold}
use Rattle.house_rows.specs.Changed.{changed, with_close}
use Rattle.house_rows.specs.Fits.{IsMoment}
use Rattle.house_rows.specs.History.{History}
use Rattle.house_rows.specs.Items.{Closing, Purchase, closed_at, closed_from, closings, is_bought, is_open, is_settled, is_taken, leader_of, purchase_of, state_from, state_of, close_sells, met_of}
use Rattle.house_rows.specs.Listings.{Listing, listing_at, listings}
use Rattle.house_rows.specs.Questions.{questions}
use Rattle.house_rows.specs.Runs.{entry}
use Rattle.house_rows.specs.Tables.{Tables, row_now, tables_of}
use Rattle.house_rows.specs.Verdict.{IsHistory, verdict, was_sold}
use Rattle.house_rows.proofs.Every.{every_both}
use Rattle.house_rows.proofs.Numbered.{numbered}
use Rattle.house_rows.proofs.Put.{by_test}
use Rattle.house_rows.proofs.RangedTalk.{sold_is_closed}
use Rattle.house.specs.Decided.{IsAccepted}
use Rattle.house.specs.Judged.{first_rules}
use Rattle.house.proofs.ByTables.{caller_fits}
use Rattle.house.proofs.Rows.{each_row}

close_verdict : (t : Tables) (settings : Settings) (h : History) (moment caller : ℕ) → t ≡ tables_of settings h
    → verdict settings h moment caller Close ≡ first_failing (first_rules t moment caller true)
unfolding tables_of verdict
close_verdict t settings h moment caller e = rw e refl

pub close_refusal : (t : Tables) (settings : Settings) (h : History) (moment caller : ℕ) (refusal : Refusal) → t ≡ tables_of settings h
    → Some refusal ≡ first_failing (first_rules t moment caller true) → verdict settings h moment caller Close ≡ Some refusal
close_refusal t settings h moment caller refusal e report = close_verdict t settings h moment caller e ∙ sym report

-- whether an item was bought, and whether a close took it, with one more close that may
abbrev taken_by : Option Purchase → Bool → Bool
taken_by bought any = not (is_some bought) && any

-- what a close that takes an item leaves
record IsClosed (bought : Option Purchase) (any led settled : Bool) (last : ℕ) : Type 0 where
  state : state_from (is_some bought) (taken_by bought (any || true)) led settled ≡ (if led then Sold else Unsold)
  closed : closed_from bought (taken_by bought (any || true)) last ≡ Some last

closes : (bought : Option Purchase) (any led settled : Bool) (last : ℕ) → is_open (state_from (is_some bought) (taken_by bought any) led settled) ≡ true → IsClosed bought any led settled last
closes bought any led true last is = cc
closes (Some p) any led false last is = cc
closes None true true false last is = cc
closes None true false false last is = cc
closes None false true false last is = record { state = refl; closed = refl }
closes None false false false last is = record { state = refl; closed = refl }

-- and one that doesn't
record IsKept (bought : Option Purchase) (any due led settled : Bool) (last : ℕ) : Type 0 where
  state : state_from (is_some bought) (taken_by bought (any || due)) led settled ≡ state_from (is_some bought) (taken_by bought any) led settled
  closed : closed_from bought (taken_by bought (any || due)) last ≡ closed_from bought (taken_by bought any) last

nothing_closed : is_some {T = ℕ} None ≡ true → ⊥
nothing_closed e = cc

keeps : (bought : Option Purchase) (any due led settled : Bool) (last : ℕ)
    → (is_open (state_from (is_some bought) (taken_by bought any) led settled) && due) ≡ false
    → (settled ≡ true → is_some (closed_from bought (taken_by bought any) last) ≡ true)
    → IsKept bought any due led settled last
keeps bought true due led settled last not before = record { state = refl; closed = refl }
keeps bought false false led settled last not before = record { state = refl; closed = refl }
keeps (Some p) false true led settled last not before = record { state = refl; closed = refl }
keeps None false true led true last not before = absurd (nothing_closed (before refl))
keeps None false true led false last not before = cc

-- the closings with one more that was made after the item was listed
any_more : (h : History) (moment : ℕ) (l : Listing) (cs : List Closing) → l.item ≤ length (listings h)
    → list_any (λ (c : Closing). nat_le l.item c.listed && nat_le l.end c.moment) (cs ++ record { moment = moment; listed = length (listings h) } ∷ [])
    ≡ (list_any (λ (c : Closing). nat_le l.item c.listed && nat_le l.end c.moment) cs || nat_le l.end moment)
any_more h moment l [] small =
    let before : nat_le l.item (length (listings h)) ≡ true = grind (arith, nat_tests) in rw before (one_test (nat_le l.end moment)) where
      one_test : (due : Bool) → (due || false) ≡ due
      one_test true = refl
      one_test false = refl
any_more h moment l (c ∷ cs) small =
    elim (by_test (nat_le l.item c.listed && nat_le l.end c.moment)) [ inl is ↦ rw is refl | inr not ↦ rw not (any_more h moment l cs small) ]

-- an item that is due is closed, and every other is as it was
closed_row : (settings : Settings) (h : History) (moment caller : ℕ) (l : Listing) → l.item ≤ length (listings h)
    → (is_settled h l.item ≡ true → is_some (closed_at h l) ≡ true)
    → with_close moment (row_now settings h l) ≡ row_now settings (entry moment caller Close ∷ h) l
closed_row settings h moment caller l small before =
    let any : Bool = list_any (λ (c : Closing). nat_le l.item c.listed && nat_le l.end c.moment) (closings h) in
    elim (by_test (nat_le l.end moment)) [
      | inl due ↦ elim (by_test (is_open (state_of h l))) [
        | inl is ↦ (let now = closes (purchase_of h l.item) any (close_sells (leader_of h l) (met_of h l)) (is_settled h l.item) l.end is in
            simp append-nil (rw (any_more h moment l (closings h) small, due, is, now.state, now.closed) refl))
        | inr not ↦ (let now = keeps (purchase_of h l.item) any true (close_sells (leader_of h l) (met_of h l)) (is_settled h l.item) l.end (rw not refl) before in
            simp append-nil (rw (any_more h moment l (closings h) small, due, not, now.state, now.closed) refl))
      ]
      | inr later ↦ (let now = keeps (purchase_of h l.item) any false (close_sells (leader_of h l) (met_of h l)) (is_settled h l.item) l.end (and_false (is_open (state_of h l))) before in
          simp append-nil (rw (any_more h moment l (closings h) small, later, and_false (is_open (state_of h l)), now.state, now.closed) refl))
    ] where
      and_false : (b : Bool) → (b && false) ≡ false
      and_false true = refl
      and_false false = refl

settled_was : (bought taken led settled : Bool) → settled ≡ true → was_sold (state_from bought taken led settled) ≡ true
settled_was bought taken led true is = refl
settled_was bought taken led false is = cc

settled_is_closed : (settings : Settings) (h : History) (l : Listing) → IsHistory settings h → listing_at (listings h) l.item ≡ Some l → is_settled h l.item ≡ true → is_some (closed_at h l) ≡ true
settled_is_closed settings h l is own settled =
    sold_is_closed settings h l is own (settled_was (is_bought h l.item) (is_taken h l) (close_sells (leader_of h l) (met_of h l)) (is_settled h l.item) settled)

record IsOwn (h : History) (l : Listing) : Type 0 where
  small : l.item ≤ length (listings h)
  own : listing_at (listings h) l.item ≡ Some l

closed_rows : (settings : Settings) (h : History) (moment caller : ℕ) → IsHistory settings h
    → map (with_close moment) (map (row_now settings h) (listings h)) ≡ map (row_now settings (entry moment caller Close ∷ h)) (listings h)
closed_rows settings h moment caller is =
    each_row (IsOwn h) (row_now settings h) (with_close moment) (row_now settings (entry moment caller Close ∷ h)) (listings h)
    (λ l it. closed_row settings h moment caller l it.small (settled_is_closed settings h l is it.own))
    (every_both (λ l. l.item ≤ length (listings h)) (λ l. listing_at (listings h) l.item ≡ Some l) (IsOwn h) (listings h)
    (λ l small own. record { small = small; own = own }) (numbered h).small (numbered h).own)

close_leads : (settings : Settings) (h : History) (moment caller : ℕ) → IsHistory settings h
    → changed (tables_of settings h) (change.Close moment) ≡ tables_of settings (entry moment caller Close ∷ h)
unfolding changed tables_of questions
close_leads settings h moment caller is = rw (closed_rows settings h moment caller is) (simp append-nil)

pub close_fits : (t : Tables) (moment caller : ℕ) → None ≡ first_failing (first_rules t moment caller true) → IsMoment moment
close_fits t moment caller report = (caller_fits t moment caller true (sym report)).moment_fits

pub close_accepts : (t : Tables) (settings : Settings) (h : History) (moment caller : ℕ) → IsHistory settings h → t ≡ tables_of settings h
    → None ≡ first_failing (first_rules t moment caller true) → IsAccepted settings h moment caller Close (change.Close moment)
close_accepts t settings h moment caller is e report =
    record {
      accepted = close_verdict t settings h moment caller e ∙ sym report;
      fits = close_fits t moment caller report;
      free = tt;
      leads = close_leads settings h moment caller is;
    }
