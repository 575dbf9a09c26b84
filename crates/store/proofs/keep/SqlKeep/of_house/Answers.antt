use Rattle.sqlite.specs.Held.{state}
use Rattle.store.proofs.Begins.{known_read}
use Rattle.store.proofs.Houses.{opened_version, rests_in_houses, rests_in_schema}
use Rattle.store.proofs.keep.SqlKeep.of_house.Goals as goal

pub invariant_of-result : goal.invariant_of-result
invariant_of-result g c = record {
  idle = c.requires.mode;
  unlimited = c.requires.unlimited;
  moment = c.requires.moment;
  rests = λ going honest. c.requires.rests honest;
  known = λ going honest. known_read _ _ _ _ _ (c.requires.editions honest) (c.requires.reserves honest) (c.requires.counts honest) (c.requires.clock honest);
  seen_fits = tt;
  houses = rests_in_houses _ (λ db is_open may. g.met.S.Store.settled c.args.house.conn.store db is_open may) c.requires.rests;
  one_schema = rests_in_schema _ (λ db is_open may. g.met.S.Store.settled c.args.house.conn.store db is_open may) c.requires.rests;
  version = opened_version (state g.S.Store c.args.house.conn) c.requires.only c.requires.row;
}
