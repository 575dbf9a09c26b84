use Rattle.list_bids.proofs.bids.Bids.place.Goals as goal

pub returns : goal.returns
returns c = rw c.self.view_is at c.place.ensures.made
