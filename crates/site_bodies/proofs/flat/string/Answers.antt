use Rattle.site_bodies.proofs.Walked.{text_value}
use Rattle.site_bodies.proofs.flat.string.Goals as goal

pub returns : goal.returns
returns c = text_value c.in_ok-text.text c.in_ok-text.ensures
