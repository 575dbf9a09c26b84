use Rattle.std.proofs.Common.{arith, rules}
use Rattle.sqlite.specs.Held.{state}
use Rattle.store_rows.proofs.StateLemmas.{ok_then}
use Rattle.store_selling.proofs.Listed.{lists}
use Rattle.store_selling.proofs.listing.list_within.Goals as goal

pub returns-clause-ok : goal.returns-clause-ok
returns-clause-ok g c clean =
    ok_then c.set_clock.result (c.set_clock.ensures.ok clean) (λ _ w.
    lists c.args.number c.args.moment (record c.args.item.now { end = c.args.end })
    (state g.S.Store c.args.tx.now.conn.now).now (state g.S.Store c.put_listing.new.tx.conn.now).now (state g.S.Store c.set_clock.new.tx.conn.now).now
    (c.requires.next (omega (arith, c.set_clock.ensures.write.crash.clean, c.put_listing.ensures.write.crash.clean)))
    (c.in_ok-put_listing.ensures.ok (omega (arith, c.set_clock.ensures.write.crash.clean))) w)

pub set_clock-requires : goal.set_clock-requires
set_clock-requires g c = record {
  serves = λ clean. ((c.in_ok-put_listing.ensures.write.inside clean).is_open, (c.in_ok-put_listing.ensures.ok clean).house);
  begun = search rules;
}
