use Rattle.std.proofs.Common.{◌≡◌, ◌++◌, arith, get_or, rules, subst, sym, take}
use Rattle.std.specs.List.{AllByRecursion}
use Rattle.std.proofs.lemmas.List.{take_all, take_more}
use Rattle.sqlite.specs.Effect.{Database}
use Rattle.sqlite.specs.Held.{state}
use Rattle.store_items.specs.ConsistentRows.{IsKeptAt, RowFitsAt}
use Rattle.store_items.proofs.IsConsistent.{row_has}
use Rattle.store_watches.specs.Watched.{item_found}
use Rattle.store_rows.proofs.Wrote.{all_more}
use Rattle.store_rows.proofs.Steps.{both_same, both_survive, clean_before, found_more}
use Rattle.store_watches.proofs.WatchedItems.{all_small}
use Rattle.store_rows.proofs.ReservesServing.{serves_still}
use Rattle.store_watches.proofs.watched_items.items_at.Goals as goal

pub add_item-requires : goal.add_item-requires
add_item-requires g c =
    let held = c.loop-number.invariant in
    serves_still c.args.rules.now.reserves (state g.S.Store c.args.conn.now) (state g.S.Store c.loop-number.conn) held.survives held.same c.requires

pub loop-number-preserved : goal.loop-number-preserved
loop-number-preserved g c =
    let old = state g.S.Store c.args.conn.now in
    let mid = state g.S.Store c.loop-number.conn in
    let new = state g.S.Store c.add_item.new.conn in
    let held = c.loop-number.invariant in
    let crash = c.add_item.ensures.finds.read.crash in
    record {
      survives = both_survive old mid new held.survives crash;
      same = λ clean. both_same old mid new (held.same (clean_before mid new crash clean)) (c.in_ok-add_item.ensures.finds.read.same clean);
      mode = λ out. c.add_item.ensures.finds.read.mode (held.mode out);
      found = λ clean. (let before = clean_before mid new crash clean in
          found_more (item_found old.now.trees) c.args.numbers.now c.loop-number.number-index 0 c.loop-number.items.items c.add_item.new.items.items _ c.loop-number-test.true (held.found before)
          (subst (λ (db : Database). c.add_item.new.items.items ≡ c.loop-number.items.items ++ item_found db.trees (get_or c.args.numbers.now c.loop-number.number-index 0)) (held.same before).0.now_is (c.in_ok-add_item.ensures.finds.value clean)));
      fits = record {
        fits = c.in_ok-add_item.ensures.fits held.fits.fits;
        is_consistent = c.in_ok-add_item.ensures.is_consistent held.fits.is_consistent;
      };
      kept = λ clean. (let before = clean_before mid new crash clean in
          let numbers = c.args.numbers.now in
          let i = c.loop-number.number-index in
          let Keeps = IsKeptAt c.args.rules.now.editions old.now.trees in
          let here : Keeps (get_or numbers i 0) = subst (λ (db : Database). IsKeptAt c.args.rules.now.editions db.trees (get_or numbers i 0)) (held.same before).0.now_is (c.in_ok-add_item.ensures.kept clean) in
          subst (AllByRecursion Keeps) (sym (take_more numbers i 0 c.loop-number-test.true)) (all_more Keeps (take i numbers) (get_or numbers i 0) (held.kept before) here));
    }

pub returns-clause-small : goal.returns-clause-small
returns-clause-small g c = all_small c.args.numbers.now (λ i. omega (arith, c.type_inv.numbers i))

pub returns-in_err-add_item-clause-small : goal.returns-in_err-add_item-clause-small
returns-in_err-add_item-clause-small g c = all_small c.args.numbers.now (λ i. omega (arith, c.type_inv.numbers i))

pub returns-in_err-add_item-clause-finds : goal.returns-in_err-add_item-clause-finds
returns-in_err-add_item-clause-finds g c =
    let old = state g.S.Store c.args.conn.now in
    let mid = state g.S.Store c.loop-number.conn in
    record {
      value = search rules;
      damaged = λ clean fits is. (
          let before = clean_before mid (state g.S.Store c.add_item.new.conn) c.add_item.ensures.finds.read.crash clean in
          let number = get_or c.args.numbers.now c.loop-number.number-index 0 in
          let here = row_has (RowFitsAt c.args.rules.now.editions old.now.trees) c.args.numbers.now c.loop-number.number-index 0 c.loop-number-test.true fits in
          c.in_err-add_item.ensures.finds.damaged clean (subst (λ (db : Database). RowFitsAt c.args.rules.now.editions db.trees number) (sym (c.loop-number.invariant.same before).0.now_is) here) (search rules));
      read = search rules;
    }

pub returns-clause-kept : goal.returns-clause-kept
returns-clause-kept g c = λ clean.
    subst (AllByRecursion (IsKeptAt c.args.rules.now.editions (state g.S.Store c.args.conn.now).now.trees)) (take_all c.loop-number.number-index c.args.numbers.now c.loop-number-test.false)
    (c.loop-number.invariant.kept clean)
