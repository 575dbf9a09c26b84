use Rattle.lives.proofs.Told.{told_alike}
use Rattle.house_laws.proofs.Lives.{rendered_lives}
use Rattle.site.specs.Runs.{meant, rendered}
use Rattle.lives.proofs.twin_lives_are_told_alike.Goals as goal

pub returns : goal.returns
returns c settings zone caller h k runs others lives more alike twins are also =
    told_alike settings zone caller h k runs others lives more
    (rendered_lives meant (rendered zone) settings caller h k lives more alike twins) are also
