use Rattle.std.proofs.Common.{◌∙◌, arith, refl, rules}
use Rattle.site_connections.proofs.Takes.{as_many, has_failed, has_stopped, one_more, taken_by_zone, well_by_zone}
use Rattle.site_serve.specs.Serving.{keep_of}
use Rattle.site_connections.proofs.turns.serve_each.Goals as goal

pub loop-taken-init : goal.loop-taken-init
loop-taken-init g c = record { each = refl; few = omega arith; zone = refl }

pub loop-taken-preserved : goal.loop-taken-preserved
loop-taken-preserved g c = record {
  each = one_more _ c.loop-taken.taken _ _ _ c.loop-taken.invariant.each
      (well_by_zone g.K.Keep g.C.Input.Source g.C.Output.Sink g.C.Connections.accepts
      g.C.Connections.ends c.args.most _ _ c.loop-taken.invariant.zone _ _
      c.in_ok-serve_well.ensures.taken);
  few = omega (arith, c.loop-taken-test.true);
  zone = c.in_ok-serve_well.ensures.zone ∙ c.loop-taken.invariant.zone;
}

-- where accepting failed
pub returns-in_err-serve_well-clause-stopped : goal.returns-in_err-serve_well-clause-stopped
returns-in_err-serve_well-clause-stopped g c = λ e.
    has_stopped _ g.C.Connections.accepts c.loop-taken.taken c.args.count _
    (c.loop-taken.connections, keep_of c.loop-taken.site) _ (omega (arith, c.loop-taken-test.true))
    c.loop-taken.invariant.each (c.in_err-serve_well.ensures.accept (search rules))

-- where the keep failed
pub returns-in_err-serve_well-clause-failed : goal.returns-in_err-serve_well-clause-failed
returns-in_err-serve_well-clause-failed g c = λ e.
    let last = c.in_err-serve_well.ensures.store (search rules) in
    has_failed g.K.Keep.is_failed _ c.loop-taken.taken c.args.count _
    (c.loop-taken.connections, keep_of c.loop-taken.site) _ (omega (arith, c.loop-taken-test.true))
    c.loop-taken.invariant.each (
      taken_by_zone g.K.Keep g.C.Input.Source g.C.Output.Sink g.C.Connections.accepts
          g.C.Connections.ends c.args.most _ _ c.loop-taken.invariant.zone _ _ last.0,
      last.1,
    )

-- where as many came as were asked for
pub returns-clause-each : goal.returns-clause-each
returns-clause-each g c =
    as_many _ c.loop-taken.taken c.args.count _ _ (omega (arith, c.loop-taken.invariant.few))
    c.loop-taken.invariant.each
