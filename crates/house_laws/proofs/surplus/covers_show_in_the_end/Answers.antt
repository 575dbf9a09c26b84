use Rattle.house_laws.proofs.CoveredLeads.{covered_led, led_covered}
use Rattle.house_laws.proofs.surplus.covers_show_in_the_end.Goals as goal

pub returns : goal.returns
returns g c = λ meant settings member place y b run other valid raises.
    (covered_led meant settings member place y b run other valid raises, led_covered meant settings member place y b run other valid raises)
