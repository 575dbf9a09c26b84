use Rattle.std.proofs.Common.{◌≡◌, ◌<◌, ◌^◌, ◌∙◌, ap, sym, subst, arith, rules, map}
use Rattle.std.specs.List.{AllByRecursion}
use Rattle.std.specs.Prelude.{AllPairs}
use Rattle.sqlite.specs.Held.{state}
use Rattle.store_rows.proofs.Both.{ok_both}
use Rattle.store_watches.proofs.WatchLists.{item_shown, watched_here, watched_is, watched_rise, watched_shown}
use Rattle.store_watches.proofs.list.watched_by.Goals as goal

pub rows_shown-requires-clause-plain : goal.rows_shown-requires-clause-plain
rows_shown-requires-clause-plain g c = λ b. (watched_is b).2

pub returns : goal.returns
returns g c =
    let low : c.args.member < 2 ^ 32 = omega (arith, c.ranges.member) in
    let old = state g.S.Store c.args.conn.now in
    let mid = state g.S.Store c.rows_shown.new.conn in
    let items = c.in_ok-rows.rows.items in
    let same : c.deref.result.now ≡ items = search rules in
    record {
      value = λ clean. (
          let house = c.rows_shown.ensures.house clean in
          let shown = rw c.params-to_sql.ensures at (c.in_ok-rows.ensures.rows clean) in
          ok_both c.all_of.result c.all_of.ensures.value c.all_of.ensures.fits (λ all e fits.
          let report = e ∙ ap (map item_shown) same in
          let small = subst (AllByRecursion (λ n. n < 2 ^ 32)) report fits in
          record {
            items = report ∙ watched_shown c.args.member low old mid items house shown small;
            rises = subst (AllPairs (λ m n. m < n)) (sym report) (watched_rise c.args.member low old mid items house shown small);
          }));
      damaged = λ clean fits. (
          let shown = rw c.params-to_sql.ensures at (c.in_ok-rows.ensures.rows clean) in
          c.all_of.ensures.damaged (subst (AllByRecursion (λ n. n < 2 ^ 32)) (sym (ap (map item_shown) same))
          (watched_here c.args.member low old mid items (c.rows_shown.ensures.house clean) shown fits)));
      read = search rules;
    }
