use Rattle.std.proofs.Common.{◌≡◌, ◌∙◌, ap, flat_map, rules, subst, sym, take}
use Rattle.std.specs.List.{AllByRecursion}
use Rattle.sqlite.specs.Effect.{Database}
use Rattle.sqlite.specs.Held.{state}
use Rattle.house_rows.specs.Limits.{most_shown}
use Rattle.house_rows.specs.declared.item.Terms.{Terms}
use Rattle.house_rows.specs.declared.talk.Question.{Question}
use Rattle.store_rows.proofs.StateLemmas.{ok_then}
use Rattle.store_rows.proofs.Tested.{all-take}
use Rattle.store_talk.specs.Waiting.{WaitingInTurn, waiting_in}
use Rattle.store_items.specs.ConsistentRows.{ItemIsConsistent}
use Rattle.store_items.proofs.ConsistentRows.{ok_so}
use Rattle.store_talk.proofs.WaitingStanding.{waiting_are_consistent}
use Rattle.store_rows.proofs.Steps.{clean_before}
use Rattle.store_talk.proofs.WaitingItems.{waiting_found, waiting_in_turn}
use Rattle.store_rows.proofs.ReservesServing.{serves, serves_still}
use Rattle.store_talk.proofs.waiting_questions.first_waiting.Goals as goal

pub first_on_each-requires : goal.first_on_each-requires
first_on_each-requires g c =
    let old = state g.S.Store c.args.conn.now in
    let mid = state g.S.Store c.terms_of_seller.new.conn in
    serves c.args.rules.now.reserves mid (serves_still c.args.rules.now.reserves old mid c.terms_of_seller.ensures.finds.read.crash c.in_ok-own.ensures.finds.read.same c.requires)

pub returns-in_err-own-clause-finds : goal.returns-in_err-own-clause-finds
returns-in_err-own-clause-finds g c = record {
  value = search rules;
  damaged = λ clean fits is. c.in_err-own.ensures.finds.damaged clean fits.items (search rules);
  read = search rules;
}

pub returns-clause-finds : goal.returns-clause-finds
returns-clause-finds g c =
    let editions = c.args.rules.now.editions in
    let member = c.args.member in
    let old = state g.S.Store c.args.conn.now in
    let mid = state g.S.Store c.terms_of_seller.new.conn in
    let new = state g.S.Store c.first_on_each.new.conn in
    let own = c.in_ok-own.own.items in
    let same : c.deref.result.now ≡ own = search rules in
    let P = λ (q : Question). ItemIsConsistent editions old.now.trees q.item in
    let F = λ (db : Database). flat_map (λ (t : Terms). waiting_in db.trees t.item) in
    record {
      value = λ clean. (
          let before = clean_before mid new c.first_on_each.ensures.finds.read.crash clean in
          let house = (c.requires (clean_before old mid c.terms_of_seller.ensures.finds.read.crash before)).1 in
          let first = c.in_ok-own.ensures.finds.read.same before in
          let found = waiting_found old.now member own house (c.in_ok-own.ensures.finds.value before) c.in_ok-own.ensures.fits in
          let stand = all-take P most_shown _ (waiting_are_consistent editions old.now.trees member own (c.in_ok-own.ensures.finds.value before) c.in_ok-own.ensures.is_consistent) in
          ok_then c.first_on_each.result (c.first_on_each.ensures.finds.value clean) (λ asked e.
          let are = e ∙ ap (take most_shown) (ap (F mid.now) same ∙ ap (λ (db : Database). F db own) first.0.now_is ∙ found) in
          record { are = are; is_consistent = subst (AllByRecursion P) (sym are) stand }));
      damaged = λ clean fits. (
          let before = clean_before mid new c.first_on_each.ensures.finds.read.crash clean in
          let house = (c.requires (clean_before old mid c.terms_of_seller.ensures.finds.read.crash before)).1 in
          let here = waiting_in_turn old.now member own house (c.in_ok-own.ensures.finds.value before) c.in_ok-own.ensures.fits fits.questions in
          c.first_on_each.ensures.finds.damaged clean
          (subst (λ (db : Database). WaitingInTurn db.trees 0 c.deref.result.now) (sym (c.in_ok-own.ensures.finds.read.same before).0.now_is)
          (subst (WaitingInTurn old.now.trees 0) (sym same) here)));
      read = search rules;
    }

pub returns-clause-kept : goal.returns-clause-kept
returns-clause-kept g c = λ clean.
    let before = clean_before (state g.S.Store c.terms_of_seller.new.conn) (state g.S.Store c.first_on_each.new.conn) c.first_on_each.ensures.finds.read.crash clean in
    ok_so c.first_on_each.result (c.in_ok-own.ensures.kept before)
