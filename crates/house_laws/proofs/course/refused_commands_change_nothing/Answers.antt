use Rattle.std.proofs.Common.{refl}
use Rattle.house_rows.specs.Runs.{next}
use Rattle.house_laws.proofs.course.refused_commands_change_nothing.Goals as goal

pub returns : goal.returns
unfolding next
returns c = λ more settings h moment caller command refusal refused. rw refused refl
