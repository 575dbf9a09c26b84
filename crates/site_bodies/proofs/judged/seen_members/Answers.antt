use Rattle.std.proofs.Common.{arith}
use Rattle.site_bodies.proofs.Readable.{readable_step, refused_step, readable_end}
use Rattle.site_bodies.proofs.judged.seen_members.Goals as goal

pub loop-member-preserved : goal.loop-member-preserved
loop-member-preserved c = readable_step c.args.members.now c.loop-member.member-index c.member-item.result
    (omega arith) c.member-item.is c.in-Readable.ensures c.loop-member.invariant

pub returns-in-Refused : goal.returns-in-Refused
returns-in-Refused c = refused_step c.args.members.now c.loop-member.member-index c.member-item.result
    (omega arith) c.member-item.is c.in-Refused.ensures c.loop-member.invariant

pub returns : goal.returns
returns c = readable_end c.args.members.now c.loop-member.member-index (omega arith) c.loop-member.invariant
