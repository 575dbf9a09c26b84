use Rattle.std.proofs.Common.{codes}
use Rattle.std.proofs.lemmas.Bool.Decides.{Decides-eqb}
use Rattle.std.proofs.lemmas.Slice.Eq.{starts_is}
use Rattle.auction_runs.proofs.setup.check_reply.Goals as goal

pub returns-then-starts_with-clause-taken : goal.returns-then-starts_with-clause-taken
returns-then-starts_with-clause-taken c = (
  _,
  (starts_is Decides-eqb c.args.reply.now (codes "HTTP/1.1 201 ") c.starts_with.result
      c.starts_with.ensures.value).0 c.if-starts_with.true,
)
