-- Known bytes that are a beginning of others.
use Rattle.std.proofs.Common.{List, ℕ, [], ◌++◌, Option}
use Rattle.std.specs.Io.KnownBytes.{Appends}
use Rattle.std.proofs.KnownBytes.{Appends-nil, Appends-trans}
use Rattle.device.specs.Given.{IsBeginning}

pub is_beginning-refl : (a : Option (List ℕ)) → IsBeginning a a
is_beginning-refl a = ([], Appends-nil a)

-- what bytes began is a beginning also of what they grow to
pub is_beginning-step : (a b c : Option (List ℕ)) (bytes : List ℕ) → IsBeginning a b → Appends b c bytes → IsBeginning a c
is_beginning-step a b c bytes (rest, first) then = (rest ++ bytes, Appends-trans a b c rest bytes first then)

pub is_beginning-trans : (a b c : Option (List ℕ)) → IsBeginning a b → IsBeginning b c → IsBeginning a c
is_beginning-trans a b c first (bytes, then) = is_beginning-step a b c bytes first then
