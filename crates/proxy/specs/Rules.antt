-- A verdict is a list of rules in order, each with whether it fails and what is then reported.
use Rattle.std.specs.Prelude.{if◌then◌else◌, List, [], ◌∷◌, Bool, Option, Some, None}

-- what the first rule that fails reports, if one does
abbrev pub first_failing : {A : Type 0} → List (Bool × A) → Option A
first_failing [] = None
first_failing (rule ∷ rules) = if rule.0 then Some rule.1 else first_failing rules
