-- The answers name no call, so that an arm that calls another function is refused by its clause.
use Rattle.std.proofs.Common.{◌≡◌, codes}
use Rattle.auction_words.proofs.command_line.task_of.Goals as goal

pub returns-in-bands-clause-asked : goal.returns-in-bands-clause-asked
returns-in-bands-clause-asked c =
    let is : c.args.name.now ≡ codes "bands" = c.in-bands.is in
    rw is assumption

pub returns-in-bands-clause-refused : goal.returns-in-bands-clause-refused
returns-in-bands-clause-refused c =
    let is : c.args.name.now ≡ codes "bands" = c.in-bands.is in
    rw is assumption

pub returns-in-surplus-clause-asked : goal.returns-in-surplus-clause-asked
returns-in-surplus-clause-asked c =
    let is : c.args.name.now ≡ codes "surplus" = c.in-surplus.is in
    rw is assumption

pub returns-in-surplus-clause-refused : goal.returns-in-surplus-clause-refused
returns-in-surplus-clause-refused c =
    let is : c.args.name.now ≡ codes "surplus" = c.in-surplus.is in
    rw is assumption
