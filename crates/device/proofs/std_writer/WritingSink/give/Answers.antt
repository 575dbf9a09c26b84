use Rattle.std.proofs.Common.{sym, subst}
use Rattle.device.specs.Given.{IsBeginning}
use Rattle.device.specs.Writing.{handed_on_of}
use Rattle.device.proofs.Beginnings.{is_beginning-refl, is_beginning-trans}
use Rattle.device.proofs.std_writer.WritingSink.give.Goals as goal
use Rattle.device.proofs.std_writer.WritingSink.give.Goals.{then-is_full+then-not-is_empty+in_ok-hand_on, else-is_full}

pub returns-then-bytes-gt-SIZE-clause-front : goal.returns-then-bytes-gt-SIZE-clause-front
returns-then-bytes-gt-SIZE-clause-front g c =
    let handed = handed_on_of g.W.Write.contents in
    let before : IsBeginning (handed c.args.self.now) (handed c.if-is_full.self) = elim c.if-is_full.branch [
      | then-is_full+then-not-is_empty+in_ok-hand_on w ↦ subst (λ s. IsBeginning (handed c.args.self.now) (handed s)) (sym w.self-is) w.hand_on.ensures.front
      | else-is_full w ↦ subst (λ s. IsBeginning (handed c.args.self.now) (handed s)) (sym w.self-is) (is_beginning-refl _)
    ] in
    is_beginning-trans _ _ _ before c.pass_on.ensures.front
