use Rattle.std.proofs.Common.{◌∙◌, sym}
use Rattle.house_rows.specs.Watches.{watch_key}
use Rattle.list_rows.specs.Blocks.{rows_of}
use Rattle.list_rows.proofs.Blocked.{rows_rise}
use Rattle.list_watches.proofs.Watched.{watched_already, watched_newly}
use Rattle.list_watches.proofs.watches.Watches.watch.Goals as goal

pub returns-then-is_watched : goal.returns-then-is_watched
returns-then-is_watched c = watched_already c.args.member c.args.item c.args.self.now
    (rw c.self.view_is at (rows_rise watch_key 0 c.self.inside.blocks.items c.self.invariant))
    (rw (c.from.ensures, c.from-2.ensures) at (sym c.is_watched.ensures ∙ c.if-is_watched.true))

pub returns : goal.returns
returns c = watched_newly c.put.result c.args.member c.args.item c.args.self.now (rows_of c.put.new.blocks.items)
    (rw (c.from.ensures, c.from-2.ensures) at (sym c.is_watched.ensures ∙ c.if-is_watched.false))
    (rw c.self.view_is at c.put.ensures.made)
