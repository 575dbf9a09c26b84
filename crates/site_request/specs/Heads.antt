-- The two fields of a head that the house reads.
use Rattle.std.specs.Prelude.{if◌then◌else◌, ℕ, List, codes, nat_le, Option, Some, None, option_and_then}
use Rattle.house_rows.specs.Limits.{last_moment}
use Rattle.site_digits.specs.Digits.{count_in}
use Rattle.wire.specs.Fields.{only, values_of}
use Rattle.wire.specs.Message.{Message}

-- the number of the field of that name, where it occurs exactly once
unfoldable pub numbered : List ℕ → Message → Option ℕ
numbered name m = option_and_then count_in (only (values_of name m.fields))

-- whose the message is
unfoldable pub caller_in : Message → Option ℕ
caller_in m = numbered (codes "x-member") m

abbrev pub up_to_last : ℕ → Option ℕ
up_to_last moment = if nat_le moment last_moment then Some moment else None

-- the moment of a command
unfoldable pub moment_in : Message → Option ℕ
moment_in m = option_and_then up_to_last (numbered (codes "x-moment") m)
