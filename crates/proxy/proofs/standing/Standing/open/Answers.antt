use Rattle.std.proofs.Common.{sym}
use Rattle.proxy.proofs.Placed.{standing-none}
use Rattle.proxy.proofs.standing.Standing.open.Goals as goal

pub returns : goal.returns
returns c = λ bands. sym (standing-none bands (record { start = c.args.start; reserve = c.args.reserve }))
