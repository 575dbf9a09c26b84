use Rattle.std.proofs.Common.{◌<◌, ◌^◌, arith, subst}
use Rattle.store_rows.proofs.StateLemmas.{ok_then}
use Rattle.store_items.proofs.MaybeLemmas.{IsSmall, bound_maybe}
use Rattle.store_items.proofs.ItemLemmas.{IsSmallKept, sets_standing}
use Rattle.store_items.proofs.item.set_standing.Goals as goal

pub returns-clause-ok : goal.returns-clause-ok
returns-clause-ok g c clean =
    let house = c.run.ensures.house clean in
    let k = c.args.standing.now in
    let low : c.args.item < 2 ^ 32 = omega (arith, c.ranges.item) in
    let kept : IsSmallKept k = record {
      price_low = subst (λ n. n < 2 ^ 32) c.price.ensures c.stored_cents-price.ensures.small;
      leader_low = subst IsSmall c.leader.ensures c.stored_maybe_number-leader.ensures.small;
      top_low = subst IsSmall c.top.ensures c.stored_maybe_cents-top.ensures.small;
      second_low = subst IsSmall c.second.ensures c.stored_maybe_cents-second.ensures.small;
      count_low = subst (λ n. n < 2 ^ 32) c.count-count.ensures c.count-count.type_inv;
    } in
    ok_then c.run.result (rw (
      c.params-to_sql.ensures,
      c.params-to_sql-2.ensures,
      c.params-to_sql-3.ensures,
      c.params-to_sql-4.ensures,
      c.params-to_sql-5.ensures,
      c.params-to_sql-6.ensures,
      c.stored_cents-price.ensures.value,
      c.price.ensures,
      c.stored_maybe_number-leader.ensures.value,
      c.leader.ensures,
      c.stored_maybe_cents-top.ensures.value,
      c.top.ensures,
      c.stored_maybe_cents-second.ensures.value,
      c.second.ensures,
      c.count-count.ensures,
      bound_maybe k.leader,
      bound_maybe k.top,
      bound_maybe k.second,
    ) at (c.run.ensures.ran clean))
    (λ _ ran. sets_standing _ _ c.args.item k ran.0 house low kept ran.1)
