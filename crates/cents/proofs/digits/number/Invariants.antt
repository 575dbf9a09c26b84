use Rattle.std.proofs.Common.{◌≡◌, min, take}
use Rattle.std.specs.Str.Parse.{AllDigits, digits_value}
use Rattle.cents.specs.declared.digits.TheConstants.{PLENTY}
use Rattle.cents.proofs.digits.number.Given as goal

-- the bytes so far are digits, and their number is counted up to `PLENTY`
abbrev pub invariant-loop-byte : goal.invariant-loop-byte
invariant-loop-byte l = record {
  digits : AllDigits 10 (take l.byte-index l.digits);
  number : l.number ≡ min (digits_value 10 (take l.byte-index l.digits)) PLENTY;
}
