use Rattle.std.proofs.Common.{◌≡◌, ◌==◌, ◌<◌, ◌^◌, ◌∙◌, ap, arith, length, not, rules}
use Rattle.sqlite.specs.Held.{state}
use Rattle.store_watches.proofs.FindMeaning.{is_watched_is}
use Rattle.store_watches.proofs.WatchFinds.{watch_found}
use Rattle.store_watches.proofs.look_up.is_watched.Goals as goal

pub rows_shown-requires-clause-plain : goal.rows_shown-requires-clause-plain
rows_shown-requires-clause-plain g c = λ b. (is_watched_is b).2

pub returns-clause-finds : goal.returns-clause-finds
returns-clause-finds g c = record {
  value = λ clean. (
      let low : c.args.member < 2 ^ 32 = omega (arith, c.ranges.member) in
      let small : c.args.item < 2 ^ 32 = omega (arith, c.ranges.item) in
      let shown = rw (c.params-to_sql.ensures, c.params-to_sql-2.ensures) at (c.in_ok-rows.ensures.rows clean) in
      let none : c.is_empty.result ≡ (length c.in_ok-rows.rows.items == 0) = search rules in
      ap not none ∙ watch_found c.args.member c.args.item low small (state g.S.Store c.args.conn.now) (state g.S.Store c.rows_shown.new.conn) c.in_ok-rows.rows.items (c.rows_shown.ensures.house clean) shown);
  damaged = search rules;
  read = search rules;
}
