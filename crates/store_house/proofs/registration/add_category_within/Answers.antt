use Rattle.std.proofs.Common.{arith}
use Rattle.store_rows.proofs.StateLemmas.{ok_then}
use Rattle.store_house.proofs.Written.{adds_category_named}
use Rattle.store_house.proofs.registration.add_category_within.Goals as goal

pub returns-clause-ok : goal.returns-clause-ok
returns-clause-ok g c clean =
    ok_then c.set_clock.result (c.set_clock.ensures.ok clean) (λ _ w.
    adds_category_named _ _ c.args.name _ _ _ (c.requires.numbered (omega (arith, c.set_clock.ensures.write.crash.clean, c.put_category.ensures.write.crash.clean))) (c.requires.next (omega (arith, c.set_clock.ensures.write.crash.clean, c.put_category.ensures.write.crash.clean)))
    (rw c.as_str.ensures at (c.in_ok-put_category.ensures.ok (omega (arith, c.set_clock.ensures.write.crash.clean)))) w)
