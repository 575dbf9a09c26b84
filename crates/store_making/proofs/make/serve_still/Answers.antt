use Rattle.std.proofs.Common.{rules}
use Rattle.sqlite.specs.Held.{state}
use Rattle.store_house.proofs.OpenLemmas.{kept_where_not_run}
use Rattle.store_making.proofs.make.serve_still.Goals.{in-Ok, in-Err}
use Rattle.store_making.proofs.make.serve_still.Goals as goal

pub returns-clause-read : goal.returns-clause-read
returns-clause-read g c = record {
  same = search rules;
  err = λ clean. elim c.match-prepare.branch [
    | in-Ok w ↦ search rules
    | in-Err w ↦ let kept = kept_where_not_run _ (state g.S.Store c.args.conn.now) (state g.S.Store c.prepare.new.self) _ (w.in-Err.ensures.err clean) in search rules
  ];
  mode = search rules;
  crash = search rules;
}
