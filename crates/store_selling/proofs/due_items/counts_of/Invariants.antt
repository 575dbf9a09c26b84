use Rattle.std.proofs.Common.{◌≡◌, not, take}
use Rattle.house_rows.specs.History.{counted}
use Rattle.house_rows.specs.Items.{close_sells}
use Rattle.store_selling.proofs.due_items.counts_of.Given as goal

abbrev pub invariant-loop-terms : goal.invariant-loop-terms
invariant-loop-terms l =
    record {
      sold : l.sold ≡ counted (λ t. close_sells t.leader t.met) (take l.terms-index l.due);
      unsold : l.unsold ≡ counted (λ t. not (close_sells t.leader t.met)) (take l.terms-index l.due);
    }
