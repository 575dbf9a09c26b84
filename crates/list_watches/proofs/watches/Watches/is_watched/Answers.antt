use Rattle.std.proofs.Common.{◌∙◌, ap}
use Rattle.std.specs.Prelude.{is_some}
use Rattle.list_watches.proofs.Watched.{found_any, some_copied}
use Rattle.list_watches.proofs.watches.Watches.is_watched.Goals as goal

pub returns : goal.returns
returns c = c.is_some.ensures ∙ some_copied c.row.result ∙ ap is_some (rw (c.new.ensures, c.deref.ensures.value, c.self.view_is) at c.row.ensures) ∙ found_any c.args.member c.args.item c.args.self.now
