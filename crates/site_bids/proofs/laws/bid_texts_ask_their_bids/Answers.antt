use Rattle.site_bids.proofs.BidTexts.{text_asks}
use Rattle.site_bids.proofs.laws.bid_texts_ask_their_bids.Goals as goal

pub returns : goal.returns
returns c = text_asks
