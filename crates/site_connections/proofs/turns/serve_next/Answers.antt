use Rattle.std.proofs.Common.{inl}
use Rattle.site_connections.proofs.turns.serve_next.Goals as goal

pub returns-clause-taken : goal.returns-clause-taken
returns-clause-taken g c = inl (record {
  came = c.in-Some.connection;
  between = c.accept.new.self;
  accepted = rw c.in-Some.is at c.in_ok-connection.ensures;
  ended = c.serve_one-report.new.connection;
  report = c.serve_one-report.result;
  served = c.serve_one-report.ensures.served;
  left = c.end.ensures;
})
