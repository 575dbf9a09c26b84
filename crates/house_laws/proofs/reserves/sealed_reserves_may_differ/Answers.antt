use Rattle.std.proofs.Common.{◌≡◌, ℕ, List, ◌∷◌, refl, inl, inr, ap, arith}
use Rattle.std.specs.Prelude.{unwrap_or}
use Rattle.steps.specs.Table.{step_at}
use Rattle.proxy.specs.Bids.{greatest, leader, price, second, top}
use Rattle.house_rows.specs.declared.command.Command.TheVariants.{List as Listed}
use Rattle.house_rows.specs.declared.item.ItemShown.{ItemShown}
use Rattle.house_rows.specs.Items.{items, items_shown}
use Rattle.house_rows.specs.Questions.{published, questions, waiting}
use Rattle.house_rows.specs.declared.message.Message.{Message}
use Rattle.house_rows.specs.declared.message.Message.TheVariants.{Write}
use Rattle.house_rows.specs.Runs.{next}
use Rattle.house_rows.specs.Verdict.{verdict}
use Rattle.house_rows.specs.Views.{Public}
use Rattle.house_laws.proofs.reserves.sealed_reserves_may_differ.Goals as goal

-- the price of the second of some items
abbrev second_price : List ItemShown → ℕ
second_price (a ∷ it ∷ its) = it.item.terms.price
second_price _ = 0

abbrev reserve_in : {F : Type 0} → Message F → ℕ
reserve_in (Write moment caller (Listed category lot title text start buy_now end reserve)) = unwrap_or reserve 0
reserve_in _ = 0

pub returns-clause-twins : goal.returns-clause-twins
unfolding next verdict items items_shown greatest leader price second top step_at questions published waiting
returns-clause-twins g c = (inl refl, record { public = refl; waiting = refl }, (inl refl, record { public = refl; waiting = refl }, (inl refl, record { public = refl; waiting = refl }, (inl refl, record { public = refl; waiting = refl }, (inl refl, record { public = refl; waiting = refl }, (inr (refl, refl), record { public = refl; waiting = refl }, (inl refl, record { public = refl; waiting = refl }, (inl refl, record { public = refl; waiting = refl }, tt))))))))

pub returns-clause-met : goal.returns-clause-met
unfolding next verdict items items_shown greatest leader price second top step_at questions published waiting
returns-clause-met g c = λ twin.
    let e : 500 ≡ 600 = ap (λ (p : Public). second_price p.items) twin.2.2.2.2.2.2.1.public in omega (arith, e)

pub returns-clause-own : goal.returns-clause-own
returns-clause-own g c = λ twin.
    elim twin.2.2.2.2.2.0 [ inl same ↦ (let e : 900 ≡ 2000 = ap reserve_in same in omega (arith, e)) | inr others ↦ (let e = others.0 in cc) ]
