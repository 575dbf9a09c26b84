use Rattle.serde_json.specs.View.{view}
use Rattle.site_bodies.proofs.Readable.{body_refused}
use Rattle.site_bodies.proofs.tree.reads.Goals as goal

pub returns-in-Ok : goal.returns-in-Ok
returns-in-Ok c = let read = c.in-Ok.ensures.ok in (view c.in-Ok.value, read.0, read.1)

pub returns-in-Err : goal.returns-in-Err
returns-in-Err c = body_refused c.args.bytes.now (c.in-Err.ensures.err (λ m. let t = c.is_memory.ensures.1 m in cc))
