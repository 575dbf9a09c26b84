-- all digits so far, and their number as far as it matters
use Rattle.std.proofs.Common.{◌≡◌, ◌≤◌, ◌<◌, ◌⊎◌, true, take}
use Rattle.std.specs.Char.{is_ascii_digit}
use Rattle.std.specs.List.{list_all}
use Rattle.std.specs.Str.Parse.{digits_value}
use Rattle.wire.proofs.known.length_of.Given as goal

abbrev pub invariant-loop-byte : goal.invariant-loop-byte
invariant-loop-byte l = record {
  digits : list_all is_ascii_digit (take l.byte-index l.digits) ≡ true;
  few : l.number ≤ 163849;
  number : (l.number ≡ digits_value 10 (take l.byte-index l.digits)) ⊎ ((16384 < l.number) × (16384 < digits_value 10
      (take l.byte-index l.digits)));
}
