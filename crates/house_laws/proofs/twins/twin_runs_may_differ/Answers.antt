use Rattle.std.proofs.Common.{◌≡◌, ℕ, ◌+◌, List, [], ◌∷◌, refl, inl, inr, ap, arith}
use Rattle.steps.specs.Table.{step_at}
use Rattle.proxy.specs.Bids.{greatest, leader, price, second, top}
use Rattle.house_rows.specs.declared.command.Command.TheVariants.{Bid}
use Rattle.house_rows.specs.declared.item.ItemShown.{ItemShown}
use Rattle.house_rows.specs.Items.{items, items_shown}
use Rattle.house_rows.specs.Pages.{page_of}
use Rattle.house_rows.specs.Questions.{published, questions, waiting}
use Rattle.house_rows.specs.declared.message.Message.{Message}
use Rattle.house_rows.specs.declared.message.Message.TheVariants.{Write}
use Rattle.house_rows.specs.Runs.{next, reply}
use Rattle.house_rows.specs.Verdict.{verdict}
use Rattle.house_rows.specs.Views.{Public}
use Rattle.house_laws.proofs.twins.twin_runs_may_differ.Goals as goal

abbrev first_price : List ItemShown → ℕ
first_price [] = 0
first_price (it ∷ its) = it.item.terms.price

abbrev amount_in : {F : Type 0} → Message F → ℕ
amount_in (Write moment caller (Bid i maximum)) = maximum
amount_in _ = 0

abbrev amounts : {F : Type 0} → List (Message F) → ℕ
amounts [] = 0
amounts (m ∷ ms) = amount_in m + amounts ms

pub returns-clause-twins_get_these_replies : goal.returns-clause-twins_get_these_replies
unfolding next reply verdict items items_shown greatest leader price second top step_at questions published waiting page_of
returns-clause-twins_get_these_replies g c = refl

pub returns-clause-sealed_maxima_make_twins : goal.returns-clause-sealed_maxima_make_twins
unfolding next verdict items items_shown greatest leader price second top step_at questions published waiting
returns-clause-sealed_maxima_make_twins g c = (
  λ same. let e : 4000 ≡ 9000 = ap amounts same in omega (arith, e),
  (
    inl refl,
    record { public = refl; waiting = refl },
    (
      inl refl,
      record { public = refl; waiting = refl },
      (
        inl refl,
        record { public = refl; waiting = refl },
        (
          inl refl,
          record { public = refl; waiting = refl },
          (
            inl refl,
            record { public = refl; waiting = refl },
            (
              inl refl,
              record { public = refl; waiting = refl },
              (
                inr (refl, refl),
                record { public = refl; waiting = refl },
                (inl refl, record { public = refl; waiting = refl }, tt),
              ),
            ),
          ),
        ),
      ),
    ),
  ),
)

pub returns-clause-low_maximum_caps_the_price : goal.returns-clause-low_maximum_caps_the_price
unfolding verdict items items_shown greatest leader price second top step_at
returns-clause-low_maximum_caps_the_price g c = ((refl, refl), (refl, refl))

pub returns-clause-capped_price_makes_no_twin : goal.returns-clause-capped_price_makes_no_twin
unfolding next verdict items items_shown greatest leader price second top step_at questions published waiting
returns-clause-capped_price_makes_no_twin g c = λ twin.
    let e : 1050 ≡ 1040 = ap (λ (p : Public). first_price p.items) twin.2.2.2.2.2.2.1.public in omega (arith, e)

pub returns-clause-own_message_makes_no_twin : goal.returns-clause-own_message_makes_no_twin
returns-clause-own_message_makes_no_twin g c = λ twin.
    elim twin.2.2.2.2.2.2.0 [ inl same ↦ (let e : 3000 ≡ 8000 = ap amount_in same in omega (arith, e)) | inr others ↦ (let e = others.0 in cc) ]
