use Rattle.std.proofs.Common.{ℕ, arith}
use Rattle.std.proofs.lemmas.List.{length-take, length-drop}
use Rattle.device.proofs.RoomLemmas.{consumed}
use Rattle.device.proofs.room.Room.consume.Goals as goal

pub returns : goal.returns
returns c =
    let r = c.args.self.now in
    consumed r.bytes r.start r.end c.args.count (omega (arith, length-take {A = ℕ}, length-drop {A = ℕ}))
