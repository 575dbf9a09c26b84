use Rattle.std.proofs.Common.{◌≡◌, subst}
use Rattle.std.specs.Prelude.{IfOk}
use Rattle.house_rows.specs.Asks.{ChangeFits}
use Rattle.house_rows.specs.Changed.{changed}
use Rattle.house_script.proofs.Leading.{not_failed, one_more_leads}
use Rattle.house_script.proofs.filled_keep.given.Goals as goal

pub loop-line-preserved : goal.loop-line-preserved
loop-line-preserved g c = λ honest working.
    let given = c.in-Ok-Ok.ensures in
    let before = g.K.Keep.content c.loop-line.keep in
    let next = g.K.Keep.content c.give.new.keep in
    let worked = not_failed (g.K.Keep.is_failed c.loop-line.keep) (g.K.Keep.is_failed c.give.new.keep) given.stays working in
    let made = subst (λ report. IfOk report (λ change. ChangeFits before change × (next ≡ changed before change))) c.in-Ok-Ok.field-0-is (given.made honest) in
    rw c.in-Ok.ensures.items
    (one_more_leads c.loop-line.changes.items before c.in-Ok-Ok.change next (c.loop-line.invariant (given.honest honest) worked) (given.housed honest working) made.0 made.1)
