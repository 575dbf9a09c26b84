use Rattle.std.proofs.Common.{◌∙◌, ap}
use Rattle.std.specs.Prelude.{is_some}
use Rattle.list_talk.proofs.Noting.{some_copied}
use Rattle.list_talk.proofs.Rates.{given_any}
use Rattle.list_talk.proofs.feedback.FeedbackTable.is_given.Goals as goal

pub returns : goal.returns
returns c = c.is_some.ensures ∙ some_copied c.row.result ∙ ap is_some (rw (c.new.ensures, c.deref.ensures.value, c.self.view_is) at c.row.ensures) ∙ given_any c.args.item c.args.giver c.args.self.now
