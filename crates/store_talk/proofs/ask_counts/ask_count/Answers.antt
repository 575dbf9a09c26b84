use Rattle.std.proofs.Common.{◌≡◌, ◌<◌, ◌^◌, ◌∙◌, arith, length, rules}
use Rattle.sqlite.specs.Held.{state}
use Rattle.store_talk.proofs.FindMeaning.{ask_count_is}
use Rattle.store_talk.proofs.QuestionFinds.{questions_counted}
use Rattle.store_talk.proofs.ask_counts.ask_count.Goals as goal

pub rows_shown-requires-clause-plain : goal.rows_shown-requires-clause-plain
rows_shown-requires-clause-plain g c = λ b. (ask_count_is b).2

pub returns-clause-finds : goal.returns-clause-finds
returns-clause-finds g c = record {
  value = λ clean. (
      let low : c.args.asker < 2 ^ 32 = omega (arith, c.ranges.asker) in
      let small : c.args.item < 2 ^ 32 = omega (arith, c.ranges.item) in
      let shown = rw (c.params-to_sql.ensures, c.params-to_sql-2.ensures) at (c.in_ok-rows.ensures.rows clean) in
      let many : c.len.result ≡ length c.in_ok-rows.rows.items = search rules in
      many ∙ questions_counted c.args.asker c.args.item low small (state g.S.Store c.args.conn.now) (state g.S.Store c.rows_shown.new.conn) c.in_ok-rows.rows.items (c.rows_shown.ensures.house clean) shown);
  damaged = search rules;
  read = search rules;
}
