use Rattle.std.proofs.Common.{[], subst, sym}
use Rattle.site_bodies.specs.Passes.{Passes}
use Rattle.site_bodies.proofs.Walked.{nothing_passed, space_passed}
use Rattle.site_bodies.proofs.lone.after_space.Goals as goal

pub returns-in-Some : goal.returns-in-Some
returns-in-Some c =
    subst (λ l. Passes l [] c.in-Some.rest.now) (sym c.in-Some.ensures) (space_passed c.in-Some.rest.now)

pub returns-in-None : goal.returns-in-None
returns-in-None c = nothing_passed c.args.bytes.now
