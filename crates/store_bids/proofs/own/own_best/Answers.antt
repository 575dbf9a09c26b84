use Rattle.std.proofs.Common.{◌≡◌, ◌∙◌, ap, length, rules}
use Rattle.sqlite.specs.Held.{state}
use Rattle.proxy.specs.Bids.{greatest_of, maxima}
use Rattle.store_bids.proofs.Best.{best_is}
use Rattle.store_bids.proofs.InTurn.{bids_are}
use Rattle.store_bids.proofs.own.own_best.Goals as goal

pub returns-in_err-bids : goal.returns-in_err-bids
returns-in_err-bids g c = record {
  value = search rules;
  damaged = λ clean fits is. c.in_err-bids.ensures.finds.damaged clean (rw (bids_are (state g.S.Store c.args.conn.now).now.trees) fits) (search rules);
  read = search rules;
}

pub returns : goal.returns
returns g c = record {
  value = λ clean. (
      let bids = c.in_ok-bids.bids.items in
      let same : c.deref.result.now ≡ bids = search rules in
      let most : c.greatest.result ≡ greatest_of (maxima bids) = c.greatest.ensures ∙ ap (λ l. greatest_of (maxima l)) same in
      let many : c.len.result ≡ length bids = search rules in
      best_is (state g.S.Store c.args.conn.now).now.trees c.args.member c.args.item bids (c.in_ok-bids.ensures.finds.value clean) c.greatest.result c.len.result most many);
  damaged = search rules;
  read = search rules;
}
