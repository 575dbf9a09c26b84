use Rattle.std.proofs.Common.{◌≡◌, ℕ, ◌+◌, List, [], ◌∷◌, refl, inl, inr, ap, arith, true, false}
use Rattle.steps.specs.Table.{step_at}
use Rattle.proxy.specs.Bids.{greatest, leader, price, second, top}
use Rattle.house_rows.specs.declared.command.Command.TheVariants.{Bid}
use Rattle.house_rows.specs.declared.item.ItemShown.{ItemShown}
use Rattle.house_rows.specs.declared.message.Message.{Message}
use Rattle.house_rows.specs.declared.message.Message.TheVariants.{Write}
use Rattle.house_rows.specs.Items.{items, items_shown}
use Rattle.house_rows.specs.Pages.{page_of}
use Rattle.house_rows.specs.Questions.{published, questions, waiting}
use Rattle.house_rows.specs.Runs.{next, reply}
use Rattle.house_rows.specs.Verdict.{verdict}
use Rattle.house_rows.specs.Views.{Public, own_watches}
use Rattle.house_laws.specs.Lives.{Life}
use Rattle.house_laws.proofs.twins.twin_lives_may_differ.Goals as goal

abbrev first_count : List ItemShown → ℕ
first_count [] = 0
first_count (it ∷ its) = it.item.terms.count

abbrev amount_in : {F : Type 0} → Message F → ℕ
amount_in (Write moment caller (Bid i maximum)) = maximum
amount_in _ = 0

abbrev amounts : {F : Type 0} → List (Message F) → ℕ
amounts [] = 0
amounts (m ∷ ms) = amount_in m + amounts ms

abbrev first_amounts : {F : Type 0} → List (Life (Message F)) → ℕ
first_amounts [] = 0
first_amounts (life ∷ lives) = amounts life.answered

pub returns-clause-sealed_lives_are_twins : goal.returns-clause-sealed_lives_are_twins
unfolding next verdict items items_shown greatest leader price second top step_at questions published waiting own_watches
returns-clause-sealed_lives_are_twins g c = (
  λ same. let e : 4000 ≡ 9000 = ap first_amounts same in omega (arith, e),
  record {
    look = (
      (inl refl, record { public = refl; waiting = refl }, (inr (refl, refl), record { public = refl; waiting = refl }, tt)),
      (inl refl, record { public = refl; waiting = refl }),
      ((inl refl, record { public = refl; waiting = refl }, tt), tt, tt),
    );
    choices = (λ is. let e : false ≡ true = is in cc, (tt, tt));
  },
)

pub returns-clause-twin_lives_get_these_replies : goal.returns-clause-twin_lives_get_these_replies
unfolding next reply verdict items items_shown greatest leader price second top step_at questions published waiting page_of own_watches
returns-clause-twin_lives_get_these_replies g c = refl

pub returns-clause-own_choice_is_answered : goal.returns-clause-own_choice_is_answered
unfolding next reply verdict items items_shown greatest leader price second top step_at questions published waiting page_of own_watches
returns-clause-own_choice_is_answered g c = (
  (
    tt,
    (inl refl, record { public = refl; waiting = refl }),
    ((inl refl, record { public = refl; waiting = refl }, tt), tt, tt),
  ),
  refl,
  refl,
)

pub returns-clause-own_choice_makes_no_twin : goal.returns-clause-own_choice_makes_no_twin
returns-clause-own_choice_makes_no_twin g c = λ twin. let e : true ≡ false = twin.choices.0 refl in cc

pub returns-clause-kept_bid_makes_no_twin : goal.returns-clause-kept_bid_makes_no_twin
unfolding next verdict items items_shown greatest leader price second top step_at questions published waiting
returns-clause-kept_bid_makes_no_twin g c = λ twin.
    let e : 1 ≡ 0 = ap (λ (p : Public). first_count p.items) twin.look.1.1.public in omega (arith, e)
