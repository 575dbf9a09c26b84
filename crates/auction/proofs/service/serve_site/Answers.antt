use Rattle.std.proofs.Common.{inr}
use Rattle.auction_runs.proofs.Outcomes.{on_ok_then}
use Rattle.auction_runs.proofs.Served.{some_of_answered}
use Rattle.site.specs.Replies.{zone_of}
use Rattle.site_connections.specs.Turns.{Takes}
use Rattle.site_serve.specs.Serving.{keep_of}
use Rattle.auction.proofs.service.serve_site.Goals as goal

pub returns-in-Ok-clause-all : goal.returns-in-Ok-clause-all
returns-in-Ok-clause-all g c =
    on_ok_then c.serve_connections.result.0 c.serve_connections.ensures.each (λ each. record {
      zone = zone_of c.args.site;
      kept_zone = c.requires.zone;
      came = c.in-Ok.connections;
      listened = c.in-Ok.ensures;
      gone = c.serve_connections.new.connections;
      each = each;
    })

pub returns-in-Ok-clause-some : goal.returns-in-Ok-clause-some
returns-in-Ok-clause-some g c = inr (record {
  zone = zone_of c.args.site;
  kept_zone = c.requires.zone;
  came = c.in-Ok.connections;
  listened = c.in-Ok.ensures;
  some = some_of_answered g.K.Keep.is_failed
      (Takes g.K.Keep g.C.Input.Source g.C.Output.Sink g.C.Connections.accepts g.C.Connections.ends
      (zone_of c.args.site) 10000) c.args.asked.count g.C.Connections.accepts
      (c.in-Ok.connections, keep_of c.args.site)
      (c.serve_connections.new.connections, c.serve_connections.result.1) c.serve_connections.result.0
      c.serve_connections.ensures.each c.serve_connections.ensures.stops;
})
