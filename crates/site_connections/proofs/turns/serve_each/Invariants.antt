use Rattle.std.proofs.Common.{◌-◌, ◌≡◌, ◌≤◌}
use Rattle.site.specs.Replies.{zone_of}
use Rattle.site_connections.specs.Turns.{Takes, TakesEach, TakesWell}
use Rattle.site_serve.specs.Serving.{keep_of}
use Rattle.site_connections.proofs.turns.serve_each.Given as goal

-- so many were taken so far
abbrev pub invariant-loop-taken : goal.invariant-loop-taken
invariant-loop-taken g l = record {
  each : TakesEach (TakesWell g.K.Keep.is_failed
      (Takes g.K.Keep g.C.Input.Source g.C.Output.Sink g.C.Connections.accepts
      g.C.Connections.ends (zone_of l.fn.site) l.most)) l.taken
      (l.fn.connections, keep_of l.fn.site) (l.connections, keep_of l.site);
  few : l.taken ≤ l.count;
  zone : zone_of l.site ≡ zone_of l.fn.site;
}

abbrev pub decreases-loop-taken : goal.decreases-loop-taken
decreases-loop-taken g l = l.count - l.taken
