use Rattle.json.specs.Lex.{comma}
use Rattle.site_bodies.proofs.Walked.{around, comma_passed}
use Rattle.site_bodies.proofs.flat.next.Goals as goal

pub returns : goal.returns
returns c = around 44 comma comma_passed c.after_spaces.ensures c.in_ok-more.ensures c.after_spaces-2.ensures
