use Rattle.std.proofs.Common.{◌≡◌, ◌∙◌, ap, false, filter, flat_map, map, rules, subst, sym, true, true≢false}
use Rattle.sqlite.specs.Effect.{Database}
use Rattle.sqlite.specs.Held.{state}
use Rattle.proxy.specs.Bids.{is_leader}
use Rattle.house_rows.specs.Pages.{sale_of}
use Rattle.house_rows.specs.Tables.{ItemRow}
use Rattle.store_rows.specs.ItemRows.{items_in}
use Rattle.store_rows.proofs.StateLemmas.{ok_then}
use Rattle.store_items.specs.ConsistentRows.{RowsAreKept}
use Rattle.store_items.specs.LookUps.{ItemsFitBy}
use Rattle.store_items.specs.Rising.{rise_from}
use Rattle.store_items.proofs.PartySales.{both_fit, rising_from_0, sales_are, sales_found}
use Rattle.store_items.proofs.ConsistentRows.{led_fit, sales_are_consistent, sales_are_kept, sold_fit}
use Rattle.store_rows.proofs.Steps.{clean_before}
use Rattle.store_rows.proofs.ReservesServing.{serves_still}
use Rattle.store_items.proofs.sales.sales_of_member.Goals as goal

pub terms_led_by-requires : goal.terms_led_by-requires
terms_led_by-requires g c = serves_still c.args.rules.now.reserves (state g.S.Store c.args.conn.now) (state g.S.Store c.terms_of_seller.new.conn) c.terms_of_seller.ensures.finds.read.crash c.in_ok-sold.ensures.finds.read.same c.requires.serves

pub returns-in_err-sold-clause-finds : goal.returns-in_err-sold-clause-finds
returns-in_err-sold-clause-finds g c = record {
  value = search rules;
  damaged = λ clean fit is. c.in_err-sold.ensures.finds.damaged clean (sold_fit c.args.rules.now.editions (state g.S.Store c.args.conn.now).now.trees c.args.member fit) (search rules);
  read = search rules;
}

pub returns-in_err-led-clause-finds : goal.returns-in_err-led-clause-finds
returns-in_err-led-clause-finds g c = record {
  value = search rules;
  damaged = λ clean fit is. (
      let editions = c.args.rules.now.editions in
      let before = clean_before (state g.S.Store c.terms_of_seller.new.conn) (state g.S.Store c.terms_led_by.new.conn) c.terms_led_by.ensures.finds.read.crash clean in
      let leads = led_fit editions (state g.S.Store c.args.conn.now).now.trees c.args.member fit in
      c.in_err-led.ensures.finds.damaged clean
      (subst (λ (db : Database). ItemsFitBy editions (λ (row : ItemRow). is_leader row.item.terms.leader c.args.member) db.trees) (sym (c.in_ok-sold.ensures.finds.read.same before).0.now_is) leads) (search rules));
  read = search rules;
}

pub returns-then-not-rise-clause-finds : goal.returns-then-not-rise-clause-finds
returns-then-not-rise-clause-finds g c =
    let old = state g.S.Store c.args.conn.now in
    let mid = state g.S.Store c.terms_of_seller.new.conn in
    let new = state g.S.Store c.terms_led_by.new.conn in
    let all = c.in_ok-items.items.items in
    record {
      value = search rules;
      damaged = λ clean _ _. (
          let before = clean_before mid new c.terms_led_by.ensures.finds.read.crash clean in
          let same = (c.in_ok-sold.ensures.finds.read.same before).0.now_is in
          let house = (c.requires.serves (clean_before old mid c.terms_of_seller.ensures.finds.read.crash before)).1 in
          let sold_is = c.in_ok-sold.ensures.finds.value before in
          let led_is = c.in_ok-led.ensures.finds.value clean ∙ ap (λ (db : Database). map (λ (row : ItemRow). row.item.terms) (filter (λ row. is_leader row.item.terms.leader c.args.member) (items_in db.trees))) same in
          let found = sales_found old.now c.args.member c.in_ok-sold.sold.items c.in_ok-led.led.items all house c.requires.numbered sold_is led_is c.in_ok-sold.ensures.fits c.in_ok-led.ensures.fits c.in_ok-items.ensures.both c.in_ok-items.ensures.ordered in
          let shown : c.deref.result.now ≡ all = search rules in
          let yes : c.rise.result ≡ true = c.rise.ensures ∙ ap (rise_from 0) shown ∙ rising_from_0 all found.1 in
          let no : c.rise.result ≡ false = search rules in
          absurd (true≢false (sym yes ∙ no)));
      read = search rules;
    }

pub returns-clause-finds : goal.returns-clause-finds
returns-clause-finds g c =
    let old = state g.S.Store c.args.conn.now in
    let mid = state g.S.Store c.terms_of_seller.new.conn in
    let new = state g.S.Store c.terms_led_by.new.conn in
    let all = c.in_ok-items.items.items in
    record {
      value = λ clean. (
          let before = clean_before mid new c.terms_led_by.ensures.finds.read.crash clean in
          let same = (c.in_ok-sold.ensures.finds.read.same before).0.now_is in
          let house = (c.requires.serves (clean_before old mid c.terms_of_seller.ensures.finds.read.crash before)).1 in
          let sold_is = c.in_ok-sold.ensures.finds.value before in
          let led_is = c.in_ok-led.ensures.finds.value clean ∙ ap (λ (db : Database). map (λ (row : ItemRow). row.item.terms) (filter (λ row. is_leader row.item.terms.leader c.args.member) (items_in db.trees))) same in
          let found = sales_found old.now c.args.member c.in_ok-sold.sold.items c.in_ok-led.led.items all house c.requires.numbered sold_is led_is c.in_ok-sold.ensures.fits c.in_ok-led.ensures.fits c.in_ok-items.ensures.both c.in_ok-items.ensures.ordered in
          let shown : c.deref-2.result.now ≡ all = search rules in
          ok_then c.sales_of.result c.sales_of.ensures.value (λ sales e. record {
            sales = e ∙ ap (flat_map sale_of) shown ∙ found.0;
            is_consistent = sales_are_consistent c.args.rules.now.editions old.now.trees c.args.member c.in_ok-sold.sold.items c.in_ok-led.led.items c.requires.numbered sold_is led_is c.in_ok-sold.ensures.is_consistent c.in_ok-led.ensures.is_consistent;
            kept = sales_are_kept c.args.rules.now.editions old.now.trees c.args.member c.requires.numbered (c.in_ok-sold.ensures.kept before)
                (subst (λ (db : Database). RowsAreKept c.args.rules.now.editions (λ (row : ItemRow). is_leader row.item.terms.leader c.args.member) db.trees) same (c.in_ok-led.ensures.kept clean));
          }));
      damaged = λ clean _. c.sales_of.ensures.memory;
      read = search rules;
    }

pub returns-clause-fits : goal.returns-clause-fits
returns-clause-fits g c =
    let all = c.in_ok-items.items.items in
    let tested : c.deref.result.now ≡ all = search rules in
    let shown : c.deref-2.result.now ≡ all = search rules in
    let yes : c.rise.result ≡ true = search rules in
    let up : rise_from 0 all ≡ true = sym (c.rise.ensures ∙ ap (rise_from 0) tested) ∙ yes in
    let fit = both_fit c.in_ok-sold.sold.items c.in_ok-led.led.items all c.in_ok-sold.ensures.fits c.in_ok-led.ensures.fits c.in_ok-items.ensures.both in
    ok_then c.sales_of.result c.sales_of.ensures.value (λ sales e. sales_are all sales.items up fit (e ∙ ap (flat_map sale_of) shown))
