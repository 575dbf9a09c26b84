use Rattle.std.proofs.Common.{◌≡◌, ◌<◌, ◌^◌, ◌∙◌, ap, flat_map, rules, subst, sym}
use Rattle.std.specs.List.{AllByRecursion}
use Rattle.sqlite.specs.Effect.{Database}
use Rattle.sqlite.specs.Held.{state}
use Rattle.store_items.specs.ConsistentRows.{IsKeptAt, RowFitsAt}
use Rattle.store_items.proofs.ConsistentRows.{ok_as}
use Rattle.store_rows.proofs.StateLemmas.{ok_then}
use Rattle.store_watches.specs.Watched.{item_found}
use Rattle.store_rows.proofs.Steps.{clean_before}
use Rattle.store_watches.proofs.WatchedItems.{watched_fit_at, watched_found, watched_kept}
use Rattle.store_rows.proofs.ReservesServing.{serves, serves_still}
use Rattle.store_watches.proofs.watched_items.items_watched.Goals as goal

pub watched_by-requires : goal.watched_by-requires
watched_by-requires g c = serves c.args.rules.now.reserves (state g.S.Store c.args.conn.now) c.requires

pub items_at-requires : goal.items_at-requires
items_at-requires g c =
    serves_still c.args.rules.now.reserves (state g.S.Store c.args.conn.now) (state g.S.Store c.watched_by.new.conn) c.watched_by.ensures.read.crash c.in_ok-numbers.ensures.read.same c.requires

pub returns-in_err-numbers-clause-finds : goal.returns-in_err-numbers-clause-finds
returns-in_err-numbers-clause-finds g c = record {
  value = search rules;
  damaged = λ clean fit is. c.in_err-numbers.ensures.damaged clean fit.watches (search rules);
  read = search rules;
}

pub returns-clause-finds : goal.returns-clause-finds
returns-clause-finds g c =
    let old = state g.S.Store c.args.conn.now in
    let mid = state g.S.Store c.watched_by.new.conn in
    let new = state g.S.Store c.items_at.new.conn in
    let numbers = c.in_ok-numbers.numbers.items in
    let same : c.deref.result.now ≡ numbers = search rules in
    record {
      value = λ clean. (
          let before = clean_before mid new c.items_at.ensures.finds.read.crash clean in
          let first = c.in_ok-numbers.ensures.read.same before in
          let house = (c.requires (clean_before old mid c.watched_by.ensures.read.crash before)).1 in
          let low : AllByRecursion (λ n. n < 2 ^ 64) numbers = subst (AllByRecursion (λ n. n < 2 ^ 64)) same c.items_at.ensures.small in
          let watched = c.in_ok-numbers.ensures.value before in
          let found = watched_found old.now c.args.member numbers house watched.items watched.rises low in
          ok_then c.items_at.result (c.items_at.ensures.finds.value clean) (λ items e.
          e ∙ ap (flat_map (item_found mid.now.trees)) same ∙ ap (λ (db : Database). flat_map (item_found db.trees) numbers) first.0.now_is ∙ found));
      damaged = λ clean fit. (
          let before = clean_before mid new c.items_at.ensures.finds.read.crash clean in
          let here = watched_fit_at old.now.trees c.args.rules.now.editions c.args.member numbers (c.in_ok-numbers.ensures.value before).items fit.items in
          c.items_at.ensures.finds.damaged clean
          (subst (λ (db : Database). AllByRecursion (RowFitsAt c.args.rules.now.editions db.trees) c.deref.result.now) (sym (c.in_ok-numbers.ensures.read.same before).0.now_is)
          (subst (AllByRecursion (RowFitsAt c.args.rules.now.editions old.now.trees)) (sym same) here)));
      read = search rules;
    }

pub returns-clause-kept : goal.returns-clause-kept
returns-clause-kept g c = λ clean.
    let old = state g.S.Store c.args.conn.now in
    let mid = state g.S.Store c.watched_by.new.conn in
    let new = state g.S.Store c.items_at.new.conn in
    let editions = c.args.rules.now.editions in
    let numbers = c.in_ok-numbers.numbers.items in
    let same : c.deref.result.now ≡ numbers = search rules in
    let before = clean_before mid new c.items_at.ensures.finds.read.crash clean in
    let still = (c.in_ok-numbers.ensures.read.same before).0.now_is in
    ok_as c.items_at.result (c.items_at.ensures.kept clean) (λ kept.
    watched_kept (IsKeptAt editions old.now.trees) old.now.trees c.args.member numbers (c.in_ok-numbers.ensures.value before).items
    (subst (AllByRecursion (IsKeptAt editions old.now.trees)) same (subst (λ (db : Database). AllByRecursion (IsKeptAt editions db.trees) c.deref.result.now) still kept)))
