use Rattle.std.proofs.Common.{◌≡◌, option_map, find, sym, ◌∙◌}
use Rattle.list_rows.specs.Blocks.{rows_of}
use Rattle.list_bids.specs.declared.tally.Tally.{Tally}
use Rattle.list_bids.specs.Tallies.{is_tally}
use Rattle.list_bids.proofs.Telling.{none_mapped, opened_found, opened_reported}
use Rattle.list_bids.proofs.places.open_tally.Goals as goal

pub returns-clause-same : goal.returns-clause-same
returns-clause-same c =
    let found : c.best_there.result ≡ option_map (λ (tally : Tally). tally.best) (find (is_tally c.args.member c.args.item) (rows_of c.args.tallies.now.items)) = rw (c.from.ensures, c.from-2.ensures, c.deref.ensures.value) at c.best_there.ensures in
    opened_reported c.put.result (rows_of c.args.tallies.now.items) (rows_of c.put.new.blocks.items) c.args.member c.args.item _ (none_mapped _ (sym found ∙ c.in_default.is)) (rw c.none-best.ensures at c.put.ensures.made)

pub returns-clause-there : goal.returns-clause-there
returns-clause-there c =
    let found : c.best_there.result ≡ option_map (λ (tally : Tally). tally.best) (find (is_tally c.args.member c.args.item) (rows_of c.args.tallies.now.items)) = rw (c.from.ensures, c.from-2.ensures, c.deref.ensures.value) at c.best_there.ensures in
    rw c.in_ok-put.was at (opened_found c.put.result (rows_of c.args.tallies.now.items) (rows_of c.put.new.blocks.items) c.args.member c.args.item _ (none_mapped _ (sym found ∙ c.in_default.is)) (rw c.none-best.ensures at c.put.ensures.made))
