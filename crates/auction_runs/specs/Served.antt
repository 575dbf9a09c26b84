-- What ends the answering of connections.
use Rattle.std.specs.Prelude.{◌≡◌, ◌⊎◌, ℕ, Bool, Option, Result}
use Rattle.device.specs.declared.failure.Failure.{Failure}
use Rattle.site_connections.specs.Turns.{HasFailed, HasStopped, TakesWell}
use Rattle.site_connections.specs.declared.connection.Connection.{Connection}
use Rattle.auction_runs.specs.declared.fault.TaskFault.{TaskFault}
use Rattle.auction_runs.specs.declared.fault.TaskFault.TheVariants.{Socket, Store, Write}

-- how many messages of a connection are answered
abbrev pub most_messages : ℕ
most_messages = 10000

-- The output failed and no connection was taken; accepting failed, after fewer were taken; or the keep
-- failed in the last connection that was taken. Nothing else was done to the connections or the keep.
abbrev pub StopsServing : {C K R W : Type 0} → (K → Bool) → (C × K → C × K → Type 0)
    → (C → Result (Option (Connection R W)) Failure → C → Type 0) → ℕ → C × K → C × K → TaskFault
    → Type 0
StopsServing is_failed Takes accepts count old new fault = ((fault ≡ Write) × (new ≡ old))
    ⊎ ((fault ≡ Socket) × HasStopped (TakesWell is_failed Takes) accepts count old new)
    ⊎ ((fault ≡ Store) × HasFailed is_failed Takes count old new)
