use Rattle.std.proofs.Common.{◌≡◌, ◌<◌, ◌^◌, drop}
use Rattle.site_digits.specs.Digits.{digits_after}
use Rattle.office.proofs.lot.value.Given as goal

-- the digits so far make so small a number, and the rest is read after them
abbrev pub invariant-loop-byte : goal.invariant-loop-byte
invariant-loop-byte l = record {
  small : l.number < 10 ^ l.byte-index;
  rest : digits_after l.number (drop l.byte-index l.digits) ≡ digits_after 0 l.digits;
}
