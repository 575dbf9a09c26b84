use Rattle.json.specs.Lex.{token}
use Rattle.json.specs.Token.{begin_object}
use Rattle.site_bodies.proofs.Walked.{around, open_passed}
use Rattle.site_bodies.proofs.flat.after_brace.Goals as goal

pub returns : goal.returns
returns c = around 123 (token begin_object) open_passed c.after_spaces.ensures c.in_ok-inside.ensures
    c.after_spaces-2.ensures
