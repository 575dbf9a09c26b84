use Rattle.std.proofs.Common.{List, ap, take, rules, tests}
use Rattle.std.specs.Prelude.{is_some}
use Rattle.house_rows.specs.declared.talk.Question.{Question}
use Rattle.house_rows.specs.Changed.{question_key}
use Rattle.house_rows.specs.Limits.{most_shown}
use Rattle.list_rows.specs.Blocks.{rows_of}
use Rattle.list_rows.proofs.Blocked.{rows_rise}
use Rattle.list_talk.proofs.Askers.{by_asker, published_from}
use Rattle.list_talk.proofs.Gathered.{ok_same}
use Rattle.list_talk.proofs.questions.Questions.published.Goals as goal

pub from_asker-rows-requires : goal.from_asker-rows-requires
from_asker-rows-requires c = rw (c.block.ensures, c.deref.ensures.value) (by_asker c.args.item (rows_of c.self.inside.blocks.items) (rows_rise question_key 0 c.self.inside.blocks.items c.self.invariant.blocked))

pub returns-clause-value : goal.returns-clause-value
returns-clause-value c = ok_same c.chosen.result _ _ (c.chosen.ensures.value (λ q. is_some q.answer) (λ row answer given. search (rules, tests)))
    (ap (λ (xs : List Question). take most_shown xs) (rw (c.from_asker-rows.ensures, c.block.ensures, c.deref.ensures.value, c.self.view_is) (published_from c.args.item c.args.from c.args.self.now)))
