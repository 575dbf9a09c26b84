use Rattle.std.proofs.Common.{take, drop}
use Rattle.house.proofs.Begun.{IsUnderWay}
use Rattle.house.proofs.changes.fill.Given as goal

abbrev pub invariant-loop-change : goal.invariant-loop-change
invariant-loop-change g l = IsUnderWay g.K.Keep.content g.K.Keep.is_failed g.K.Keep.is_honest g.K.Keep.may_leave l.fn.keep l.keep (take l.change-index l.changes) (drop l.change-index l.changes)
