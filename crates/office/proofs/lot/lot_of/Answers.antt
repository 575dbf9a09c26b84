use Rattle.std.proofs.Common.{refl, sym}
use Rattle.office.proofs.lot.lot_of.Goals as goal

pub returns-in_default-amount-clause-fault : goal.returns-in_default-amount-clause-fault
returns-in_default-amount-clause-fault c = record {
  unreadable = λ read. c.in_default-amount.ensures.none refl read.0 read.1;
  earlier = (
    (_, c.in-Some.ensures.some),
    (
      (_, sym c.in-Some-number.ensures),
      ((_, c.in-Some-text.ensures.some), ((_, c.in-Some-text-2.ensures.some), tt)),
    ),
  );
}
