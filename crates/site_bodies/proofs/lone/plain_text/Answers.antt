use Rattle.std.proofs.Common.{◌≡◌, refl, subst}
use Rattle.std.proofs.lemmas.List.{take_all}
use Rattle.json.specs.Print.{escape}
use Rattle.json_plain.proofs.Plain.{plain_step}
use Rattle.site_bodies.proofs.Alone.{plain_is}
use Rattle.site_bodies.proofs.lone.plain_text.Goals as goal

pub loop-byte-init : goal.loop-byte-init
loop-byte-init c = refl

pub loop-byte-preserved : goal.loop-byte-preserved
loop-byte-preserved c = plain_step c.args.bytes.now c.loop-byte.byte-index c.loop-byte-test.true c.loop-byte.invariant
    (c.if-not-is_plain.ensures.0 refl)

pub returns : goal.returns
returns c = plain_is c.text_of.result (subst (λ l. escape l ≡ l)
    (take_all c.loop-byte.byte-index c.args.bytes.now c.loop-byte-test.false) c.loop-byte.invariant) c.text_of.ensures
