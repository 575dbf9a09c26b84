-- How many connections are still to come to a listener.
use Rattle.std.specs.Prelude.{◌≡◌, ◌≢◌, ◌-◌, ℕ, None, Result, OnErr, OnOk, true, is_some}
use Rattle.tcp.specs.declared.listener.Listener.{Listener}

-- so many are to come, to a port that is open
abbrev pub IsListening : Listener → ℕ → Type 0
IsListening listener count = (listener.left ≡ count) × (is_some listener.listener ≡ true)

-- one fewer is to come, and the port is given up with the last of them
abbrev pub IsOneFewer : Listener → Listener → Type 0
IsOneFewer old new = (new.left ≡ old.left - 1)
    × (new.left ≡ 0 → new.listener ≡ None)
    × (new.left ≢ 0 → new.listener ≡ old.listener)

-- what accepting does: one came, or it failed and nothing is changed
abbrev pub Accepts : {T E : Type 0} → Listener → Result T E → Listener → Type 0
Accepts old result new = OnOk result (IsOneFewer old new) × OnErr result (new ≡ old)

-- as many are to come as before, at the same port
abbrev pub IsAsOpen : Listener → Listener → Type 0
IsAsOpen old new = (new.left ≡ old.left) × (new.listener ≡ old.listener)
