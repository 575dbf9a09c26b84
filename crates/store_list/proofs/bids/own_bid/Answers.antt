use Rattle.std.proofs.Common.{◌≡◌, true, Some, refl, rules, tests, arith}
use Rattle.std.specs.Prelude.{◌==◌, find, nat_lt, option_map}
use Rattle.std.proofs.lemmas.Bool.Decides.{nat_tests}
use Rattle.proxy.specs.Bids.{is_leader}
use Rattle.house_rows.specs.Tables.{ItemRow}
use Rattle.list_items.specs.Indexed.{number_of}
use Rattle.store_list.proofs.OwnBids.{bid_reported}
use Rattle.store_list.proofs.bids.own_bid.Goals as goal

pub returns : goal.returns
returns c = λ t items best.
    let leading : c.is_some_and.result ≡ is_leader c.in_ok-terms.terms.leader c.args.member = search (rules, tests) in
    let more : nat_lt 0 c.args.tally.now.best.mine ≡ true = grind (arith, nat_tests) in
    let there : Some c.in_ok-terms.terms ≡ option_map (λ (row : ItemRow). row.item.terms) (find (λ row. number_of row == c.args.tally.now.item) t.items) = rw (c.from.ensures, ← items) at c.in_ok-terms.ensures in
    rw more (bid_reported t c.args.member c.args.tally.now.item c.args.tally.now.best c.in_ok-terms.terms _ (find (λ row. number_of row == c.args.tally.now.item) t.items) refl there best (rw leading refl))
