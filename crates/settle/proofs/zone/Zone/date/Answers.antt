use Rattle.std.proofs.Common.{◌≡◌, ◌∙◌, ap, rules, pos, to_z, w64}
use Rattle.jiff.proofs.Family.{epoch_day-civil_nanos}
use Rattle.jiff.specs.Words.{epoch_day}
use Rattle.settle.specs.Zoned.{day_at}
use Rattle.settle.proofs.zone.Zone.date.Goals as goal

pub returns : goal.returns
unfolding day_at
returns c =
    let same : to_z w64 c.args.moment ≡ pos c.args.moment = search rules in
    let day = epoch_day-civil_nanos c.to_datetime.result in
    let e : epoch_day c.date.result ≡ epoch_day c.to_datetime.result.date = ap epoch_day c.date.ensures in
    e ∙ (rw (c.to_datetime.ensures, c.in-Ok.ensures.value, same) at day)
