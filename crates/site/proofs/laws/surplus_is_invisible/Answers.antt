use Rattle.site.proofs.Raised.{raised_replies, raised_twins, texts_raised}
use Rattle.site.proofs.laws.surplus_is_invisible.Goals as goal

pub returns-clause-twins : goal.returns-clause-twins
returns-clause-twins c = raised_twins

pub returns-clause-replies : goal.returns-clause-replies
returns-clause-replies c = raised_replies

pub returns-clause-texts : goal.returns-clause-texts
returns-clause-texts c = texts_raised
