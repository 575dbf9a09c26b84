use Rattle.std.proofs.Common.{◌≡◌, ℕ, List, [], ◌∷◌, ◌++◌, None, Some, codes, refl, ap, arith}
use Rattle.steps.specs.Table.{step_at}
use Rattle.proxy.specs.Bids.{greatest, leader, price, second, top}
use Rattle.house_rows.specs.declared.command.Command.TheVariants.{Bid}
use Rattle.house_rows.specs.declared.item.ItemShown.{ItemShown}
use Rattle.house_rows.specs.declared.message.Message.TheVariants.{Write, Read}
use Rattle.house_rows.specs.declared.query.Query.TheVariants as query
use Rattle.house_rows.specs.Items.{items, items_shown}
use Rattle.house_rows.specs.Runs.{next}
use Rattle.house_rows.specs.Verdict.{verdict}
use Rattle.house_rows.specs.Views.{Public}
use Rattle.house_laws.specs.ReserveRows.{lists_reserved}
use Rattle.house_laws.specs.TwinRuns.{setup_messages}
use Rattle.house_laws.proofs.surplus.surplus_needs_its_premises.Goals as goal

abbrev first_price : List ItemShown → ℕ
first_price [] = 0
first_price (it ∷ its) = it.item.terms.price

abbrev second_price : List ItemShown → ℕ
second_price (a ∷ it ∷ its) = it.item.terms.price
second_price _ = 0

abbrev first_count : List ItemShown → ℕ
first_count [] = 0
first_count (it ∷ its) = it.item.terms.count

pub returns-clause-covered : goal.returns-clause-covered
unfolding next verdict items items_shown greatest leader price second top step_at
returns-clause-covered g c = record {
  before = setup_messages ++ Write 1001 2 (Bid 1 1000) ∷ [];
  here = Write 1002 3 (Bid 1 3000);
  later = Read 2 (query.Item 1) ∷ [];
  parts = refl;
  placed = refl;
  means = refl;
  covered = record {
    accepted = refl;
    no_more = refl;
    listing = record {
      item = 1;
      seller = 1;
      category = 1;
      lot = codes "A1";
      title = codes "Atlas";
      text = [];
      start = 500;
      buy_now = None;
      end = 5000;
      set = [];
      reserve = None;
    };
    listed = refl;
    leads = refl;
    covers = (omega arith, tt);
    above = omega arith;
    fits = omega arith;
  };
  apart = refl;
}

pub returns-clause-step : goal.returns-clause-step
unfolding next verdict items items_shown greatest leader price second top step_at
returns-clause-step g c = λ twin.
    let e : 1040 ≡ 1050 = ap (λ (p : Public). first_price p.items) twin.2.2.2.2.2.2.1.public in omega (arith, e)

pub returns-clause-last : goal.returns-clause-last
unfolding next verdict items items_shown greatest leader price second top step_at
returns-clause-last g c = λ twin.
    let e : 3 ≡ 2 = ap (λ (p : Public). first_count p.items) twin.2.2.2.2.2.2.2.1.public in omega (arith, e)

pub returns-clause-leads : goal.returns-clause-leads
unfolding next verdict items items_shown greatest leader price second top step_at
returns-clause-leads g c = λ twin.
    let e : 3100 ≡ 3200 = ap (λ (p : Public). first_price p.items) twin.2.2.2.2.2.2.2.1.public in omega (arith, e)

pub returns-clause-met : goal.returns-clause-met
unfolding next verdict items items_shown greatest leader price second top step_at
returns-clause-met g c = record {
  before = setup_messages ++ Write 1000 1 (lists_reserved 900) ∷ [];
  here = Write 1001 2 (Bid 2 900);
  later = Read 3 (query.Item 2) ∷ [];
  parts = refl;
  placed = refl;
  means = refl;
  covered = record {
    accepted = refl;
    no_more = refl;
    listing = record {
      item = 2;
      seller = 1;
      category = 1;
      lot = codes "B2";
      title = codes "Globe";
      text = [];
      start = 500;
      buy_now = None;
      end = 6000;
      set = [];
      reserve = Some 900;
    };
    listed = refl;
    leads = refl;
    covers = (tt, omega arith);
    above = omega arith;
    fits = omega arith;
  };
  apart = refl;
}

pub returns-clause-reserve : goal.returns-clause-reserve
unfolding next verdict items items_shown greatest leader price second top step_at
returns-clause-reserve g c = λ twin.
    let e : 500 ≡ 900 = ap (λ (p : Public). second_price p.items) twin.2.2.2.2.2.2.1.public in omega (arith, e)
