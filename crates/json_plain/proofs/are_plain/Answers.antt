use Rattle.std.proofs.Common.{◌≡◌, subst, arith}
use Rattle.std.proofs.lemmas.List.{take_all}
use Rattle.json.specs.Print.{escape}
use Rattle.json_plain.proofs.Plain.{none_seen, one_seen}
use Rattle.json_plain.proofs.are_plain.Goals as goal

pub loop-byte-init : goal.loop-byte-init
loop-byte-init c = none_seen c.args.bytes.now

pub loop-byte-preserved : goal.loop-byte-preserved
loop-byte-preserved c = one_seen c.args.bytes.now c.loop-byte.byte-index c.is_plain-plain.result c.loop-byte.plain c.loop-byte-test.true
    c.is_plain-plain.ensures c.loop-byte.invariant

pub returns-clause-plain : goal.returns-clause-plain
returns-clause-plain c plain = subst (λ l. escape l ≡ l)
    (take_all c.loop-byte.byte-index c.args.bytes.now c.loop-byte-test.false) (c.loop-byte.invariant.all plain)

pub returns-clause-other : goal.returns-clause-other
returns-clause-other c not =
    let one = c.loop-byte.invariant.other not in
    (one.0, omega (arith, one.1, c.loop-byte.auto.byte-index-end), one.2)
