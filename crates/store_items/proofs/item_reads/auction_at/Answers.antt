use Rattle.std.proofs.Common.{◌≡◌, ◌<◌, ◌^◌, ◌∙◌, ap, arith, rules, slice_get, option_map, subst, sym, IfSome}
use Rattle.sqlite.specs.Held.{state}
use Rattle.store_rows.specs.ItemRows.{auction_by}
use Rattle.store_rows.specs.Rows.{reserves_in}
use Rattle.store_rows.proofs.StateLemmas.{ok_then}
use Rattle.store_items.proofs.ItemMeaning.{auction_at_is}
use Rattle.store_items.proofs.ItemLemmas.{first_auction}
use Rattle.store_items.specs.Standing.{TermsHold}
use Rattle.store_items.proofs.Holding.{terms_here}
use Rattle.store_rows.proofs.ReservesServing.{serves}
use Rattle.store_items.proofs.item_reads.auction_at.Goals as goal

pub rows_shown-requires-clause-serves : goal.rows_shown-requires-clause-serves
rows_shown-requires-clause-serves g c = serves c.args.rules.now.reserves (state g.S.Store c.args.conn.now) c.requires

pub rows_shown-requires-clause-plain : goal.rows_shown-requires-clause-plain
rows_shown-requires-clause-plain g c = λ b. (auction_at_is b).2

pub returns-clause-finds : goal.returns-clause-finds
returns-clause-finds g c =
    let old = state g.S.Store c.args.conn.now in
    let new = state g.S.Store c.rows_shown.new.conn in
    let editions = c.args.rules.now.editions in
    let items = c.in_ok-rows.rows.items in
    let same : c.deref.result.now ≡ items = search rules in
    let low : c.args.number < 2 ^ 32 = omega (arith, c.ranges.number) in
    record {
      value = λ clean. (
          let known = (c.requires (omega (arith, c.rows_shown.ensures.read.crash.clean, clean))).2 in
          let shown = rw c.params-to_sql.ensures at (c.in_ok-rows.ensures.rows clean) in
          let found = first_auction old new items (c.rows_shown.ensures.house clean) c.args.number low shown in
          ok_then c.first_auction.result c.first_auction.ensures.value (λ _ e. e ∙ ap (λ rs. option_map (auction_by rs) (slice_get c.deref.result.now 0)) known ∙ ap (λ l. option_map (auction_by (reserves_in old.now.trees)) (slice_get l 0)) same ∙ found));
      damaged = λ clean fits. (
          let known = (c.requires (omega (arith, c.rows_shown.ensures.read.crash.clean, clean))).2 in
          let shown = rw c.params-to_sql.ensures at (c.in_ok-rows.ensures.rows clean) in
          let holds = terms_here old new items (c.rows_shown.ensures.house clean) editions c.args.number low shown fits in
          c.first_auction.ensures.damaged (subst (λ rs. IfSome (slice_get c.deref.result.now 0) (TermsHold editions rs)) (sym known) (subst (λ l. IfSome (slice_get l 0) (TermsHold editions (reserves_in old.now.trees))) (sym same) holds)));
      read = search rules;
    }
