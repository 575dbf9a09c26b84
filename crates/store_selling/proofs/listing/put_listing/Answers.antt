use Rattle.std.proofs.Common.{◌≡◌, Some, None, arith, refl, rules, sym, subst, Option, ℕ}
use Rattle.sqlite.specs.Held.{state}
use Rattle.sqlite.specs.State.{HasCleanDisk}
use Rattle.house_rows.specs.Changed.{new_item}
use Rattle.store_rows.proofs.StateLemmas.{ok_then}
use Rattle.store_selling.specs.Listed.{AddsListing}
use Rattle.store_selling.proofs.Listed.{adds_item, adds_reserved}
use Rattle.store_selling.proofs.listing.put_listing.Goals as goal

pub put_reserve-requires : goal.put_reserve-requires
put_reserve-requires g c = record {
  serves = λ clean. ((c.in_ok-put_item.ensures.write.inside clean).is_open, (c.in_ok-put_item.ensures.ok clean).house);
  begun = search rules;
}

pub returns-in-Some-clause-ok : goal.returns-in-Some-clause-ok
returns-in-Some-clause-ok g c clean =
    let old = (state g.S.Store c.args.tx.now.conn.now).now in
    let mid_clean : HasCleanDisk (state g.S.Store c.put_item.new.tx.conn.now) = omega (arith, c.put_reserve.ensures.write.crash.clean) in
    let old_clean : HasCleanDisk (state g.S.Store c.args.tx.now.conn.now) = omega (arith, c.put_item.ensures.write.crash.clean, mid_clean) in
    let item = record c.args.item.now { end = c.args.end } in
    let is : c.args.item.now.reserve ≡ Some c.in-Some.reserve = search rules in
    ok_then c.put_reserve.result (c.put_reserve.ensures.ok clean) (λ _ two.
    subst (λ (r : Option ℕ). AddsListing (new_item c.args.number (record item { reserve = r })) old (state g.S.Store c.put_reserve.new.tx.conn.now).now) (sym is)
    (adds_reserved c.args.number c.in-Some.reserve item old (state g.S.Store c.put_item.new.tx.conn.now).now (state g.S.Store c.put_reserve.new.tx.conn.now).now
    (c.requires.numbered old_clean) (c.requires.next old_clean) (c.in_ok-put_item.ensures.ok mid_clean) two))

pub returns-in-None-clause-ok : goal.returns-in-None-clause-ok
returns-in-None-clause-ok g c clean =
    let old = (state g.S.Store c.args.tx.now.conn.now).now in
    let old_clean : HasCleanDisk (state g.S.Store c.args.tx.now.conn.now) = omega (arith, c.put_item.ensures.write.crash.clean) in
    let item = record c.args.item.now { end = c.args.end } in
    let is : c.args.item.now.reserve ≡ None = search rules in
    subst (λ (r : Option ℕ). AddsListing (new_item c.args.number (record item { reserve = r })) old (state g.S.Store c.put_item.new.tx.conn.now).now) (sym is)
    (adds_item (new_item c.args.number (record item { reserve = None })) old (state g.S.Store c.put_item.new.tx.conn.now).now (c.requires.numbered old_clean) (c.requires.next old_clean) refl (c.in_ok-put_item.ensures.ok clean))
