use Rattle.auction.proofs.audit.compare.Goals as goal

pub returns-in-New-clause-made : goal.returns-in-New-clause-made
returns-in-New-clause-made g c = rw c.in-New.is c.compare_new.ensures.made
