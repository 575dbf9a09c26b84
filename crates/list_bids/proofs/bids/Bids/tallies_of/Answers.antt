use Rattle.std.proofs.Common.{◌≡◌, filter, sym, ◌∙◌, subst}
use Rattle.std.specs.Prelude.{◌==◌}
use Rattle.list_rows.specs.Blocks.{rows_of}
use Rattle.list_bids.specs.declared.tally.Tally.{Tally}
use Rattle.list_bids.specs.Tallies.{AreTallies}
use Rattle.list_bids.proofs.Telling.{tallies_are}
use Rattle.list_bids.proofs.bids.Bids.tallies_of.Goals as goal

pub returns : goal.returns
returns c = λ t same.
    let shown : c.block.result.now ≡ filter (λ (tally : Tally). tally.member == c.args.member) (rows_of c.self.inside.tallies.items) = rw c.deref.ensures.value at c.block.ensures in
    subst (AreTallies t c.args.member) (sym shown) (tallies_are t c.self.inside.bids.items c.self.inside.tallies.items c.args.member c.self.invariant (same ∙ sym c.self.view_is))
