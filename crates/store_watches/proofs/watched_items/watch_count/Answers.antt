use Rattle.std.proofs.Common.{◌≡◌, ◌∙◌, length, rules}
use Rattle.sqlite.specs.Held.{state}
use Rattle.store_watches.proofs.Counted.{watches_are}
use Rattle.store_watches.proofs.watched_items.watch_count.Goals as goal

pub returns : goal.returns
returns g c = record {
  value = λ clean. (
      let items = c.in_ok-items.items.items in
      let many : c.len.result ≡ length items = search rules in
      many ∙ watches_are (state g.S.Store c.args.conn.now).now.trees c.args.member items (c.in_ok-items.ensures.value clean).items);
  damaged = search rules;
  read = search rules;
}
