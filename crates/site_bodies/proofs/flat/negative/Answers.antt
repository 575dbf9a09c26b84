use Rattle.std.proofs.Common.{rules, subst, sym, w64}
use Rattle.std.proofs.Math.Facts.{to_z-of_z}
use Rattle.site_bodies.specs.Passes.{IsValue}
use Rattle.site_bodies.specs.declared.slots.Plain.TheVariants as plain
use Rattle.site_bodies.proofs.Walked.{below_value}
use Rattle.site_bodies.proofs.flat.negative.Goals as goal

pub returns : goal.returns
returns c =
    let z = c.in_ok-minus.field-0 in
    subst (λ w. IsValue c.args.bytes.now (plain.Below w) c.in_ok-size.after.now) (sym (to_z-of_z {w = w64} (search rules)))
    (below_value c.in_ok-size.size z c.in_ok-rest_after.ensures c.in_ok-size.ensures c.in_ok-minus.ensures)
