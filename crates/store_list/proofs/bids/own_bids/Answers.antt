use Rattle.std.proofs.Common.{◌≤◌, ◌<◌, length, take, sym, ◌∙◌, ap, subst, arith}
use Rattle.std.proofs.lemmas.List.{length-map, take_all}
use Rattle.house_rows.specs.Keeping.{AreInTurn}
use Rattle.house_rows.specs.Limits.{most_shown}
use Rattle.list_bids.specs.declared.tally.Tally.{Tally}
use Rattle.list_bids.specs.Tallies.{numbers_in}
use Rattle.list_items.specs.Indexed.{number_of}
use Rattle.list_items.proofs.Fronts.{page_full}
use Rattle.store_list.proofs.OwnBids.{bid_less, bid_more, bids_all, is_listed, listed_at, shown_from, tally_reported, report_by}
use Rattle.store_list.proofs.bids.own_bids.Goals as goal
use Rattle.store_list.proofs.bids.own_bids.Goals.{in-Some+in_ok-push, in_default}

pub loop-tally-preserved : goal.loop-tally-preserved
loop-tally-preserved c = λ t items bids.
    let so_far = c.loop-tally.invariant t items bids in
    let shown = shown_from t c.args.member c.args.from c.tallies_of.result.now c.tallies_from-tallies.result.now (c.tallies_of.ensures t bids) c.tallies_from-tallies.ensures in
    let best = tally_reported t c.args.member c.args.from c.tallies_from-tallies.result.now c.loop-tally.tally-index c.tally-item.result shown c.loop-tally-test.true c.tally-item.is in
    elim c.match-own_bid.branch [
      | in-Some+in_ok-push w ↦ (let room : length c.loop-tally.found.items < most_shown = omega (arith, c.if-len-ge-MOST_SHOWN.false, c.len.ensures, c.loop-tally.found.ok.0) in
          rw (w.found-is, w.in_ok-push.ensures.ok) (bid_more t c.args.member c.args.from c.tallies_from-tallies.result.now c.loop-tally.tally-index c.tally-item.result w.in-Some.bid c.loop-tally.found.items shown c.loop-tally-test.true c.tally-item.is so_far
          (w.in-Some.ensures t items best) room))
      | in_default w ↦ rw w.found-is (bid_less t c.args.member c.args.from c.tallies_from-tallies.result.now c.loop-tally.tally-index c.tally-item.result c.loop-tally.found.items shown c.loop-tally-test.true c.tally-item.is so_far (w.in_default.ensures t items best))
    ]

pub returns-then-len-ge-MOST_SHOWN-clause-value : goal.returns-then-len-ge-MOST_SHOWN-clause-value
returns-then-len-ge-MOST_SHOWN-clause-value c = λ t items bids.
    let shown = shown_from t c.args.member c.args.from c.tallies_of.result.now c.tallies_from-tallies.result.now (c.tallies_of.ensures t bids) c.tallies_from-tallies.ensures in
    let full : most_shown ≤ length c.loop-tally.found.items = omega (arith, c.if-len-ge-MOST_SHOWN.true, c.len.ensures, c.loop-tally.found.ok.0) in
    page_full (report_by t c.args.member) (is_listed c.args.from) number_of t.items (numbers_in c.tallies_from-tallies.result.now) c.loop-tally.tally-index most_shown c.loop-tally.found.items (c.loop-tally.invariant t items bids) full
    ∙ bids_all t c.args.member c.args.from c.tallies_from-tallies.result.now shown (subst (λ rows. AreInTurn number_of 1 rows) (sym items) c.requires.in_turn)

pub returns-clause-value : goal.returns-clause-value
returns-clause-value c = λ t items bids.
    let shown = shown_from t c.args.member c.args.from c.tallies_of.result.now c.tallies_from-tallies.result.now (c.tallies_of.ensures t bids) c.tallies_from-tallies.ensures in
    let past : length (numbers_in c.tallies_from-tallies.result.now) ≤ c.loop-tally.tally-index = rw (length-map c.tallies_from-tallies.result.now (λ (tally : Tally). tally.item)) c.loop-tally-test.false in
    c.loop-tally.invariant t items bids
    ∙ ap (λ ks. take most_shown (listed_at t c.args.member c.args.from ks)) (take_all c.loop-tally.tally-index (numbers_in c.tallies_from-tallies.result.now) past)
    ∙ bids_all t c.args.member c.args.from c.tallies_from-tallies.result.now shown (subst (λ rows. AreInTurn number_of 1 rows) (sym items) c.requires.in_turn)
