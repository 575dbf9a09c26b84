use Rattle.std.proofs.Common.{refl}
use Rattle.house_laws.proofs.Alike.{isolation, message_isolation}
use Rattle.house_laws.proofs.CoveredRuns.{covered_twins}
use Rattle.house_laws.specs.Covered.{bid_message, raised, with_maximum}
use Rattle.house_laws.proofs.surplus.surplus_is_invisible.Goals as goal

pub returns-clause-twins : goal.returns-clause-twins
returns-clause-twins g c = covered_twins

pub returns-clause-rendered : goal.returns-clause-rendered
returns-clause-rendered g c = λ meant rendered settings member place y b run other valid covered is.
    isolation meant rendered settings member run (raised place other run) (covered_twins meant settings member place y b run other valid covered is)

pub returns-clause-messages : goal.returns-clause-messages
returns-clause-messages g c = λ settings member place y b run valid covered.
    covered_twins (λ m. m) settings member place y b run (bid_message (with_maximum y b)) valid covered refl

pub returns-clause-replies : goal.returns-clause-replies
returns-clause-replies g c = λ settings member place y b run valid covered.
    message_isolation settings member run (raised place (bid_message (with_maximum y b)) run)
    (covered_twins (λ m. m) settings member place y b run (bid_message (with_maximum y b)) valid covered refl)
