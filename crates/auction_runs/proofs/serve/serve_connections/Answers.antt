use Rattle.std.proofs.Common.{subst, sym}
use Rattle.std.specs.Prelude.{IfErr}
use Rattle.site.specs.Replies.{zone_of}
use Rattle.site_connections.specs.Turns.{Takes}
use Rattle.site_serve.specs.Serving.{keep_of}
use Rattle.auction_runs.specs.Served.{StopsServing}
use Rattle.auction_runs.proofs.serve.serve_connections.Goals as goal

pub returns-clause-stops : goal.returns-clause-stops
returns-clause-stops g c = subst (λ k. IfErr c.listen-answered.result
    (StopsServing g.K.Keep.is_failed (Takes g.K.Keep g.C.Input.Source g.C.Output.Sink
    g.C.Connections.accepts g.C.Connections.ends (zone_of c.args.site) 10000)
    g.C.Connections.accepts c.args.count (c.args.connections.now, keep_of c.args.site)
    (c.listen-answered.new.connections, k))) (sym c.end.ensures) c.listen-answered.ensures.stops
