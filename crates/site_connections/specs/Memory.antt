-- What a clause reads of connections in memory.
use Rattle.std.specs.Prelude.{◌≡◌, ◌⊎◌, List, [], ◌∷◌, ◌++◌, Bool, false, Option, Some, Result, MatchResult}
use Rattle.device.specs.declared.failure.Failure.{Failure}
use Rattle.device.specs.declared.memory_sink.MemorySink.{MemorySink}
use Rattle.device.specs.declared.memory_source.MemorySource.{MemorySource}
use Rattle.site_serve.specs.declared.server.ServeFault.{ServeFault}
use Rattle.site_serve.specs.declared.server.Served.{Served}
use Rattle.site_connections.specs.declared.connection.Connection.{Connection}
use Rattle.site_connections.specs.declared.connection.Ended.{Ended}
use Rattle.site_connections.specs.declared.memory.MemoryConnections.{MemoryConnections}

-- those that come, the next first
abbrev pub waiting_of : MemoryConnections → List (Connection MemorySource MemorySink)
waiting_of c = c.waiting.items

-- those that were served, in turn
abbrev pub ended_of : MemoryConnections → List (Ended MemorySource MemorySink)
ended_of c = c.ended.items

-- whether all that were served are among these
abbrev pub is_whole : MemoryConnections → Bool
is_whole c = c.is_whole

-- the first that waited came; or none did, and nothing has changed
abbrev pub GivesNext : MemoryConnections
    → Result (Option (Connection MemorySource MemorySink)) Failure → MemoryConnections → Type 0
GivesNext old result new = MatchResult result
    (λ given. (first : Connection MemorySource MemorySink) × (given ≡ Some first)
    × (waiting_of old ≡ first ∷ waiting_of new)
    × (ended_of new ≡ ended_of old) × (is_whole new ≡ is_whole old))
    (λ _. (waiting_of old ≡ []) × (waiting_of new ≡ [])
    × (ended_of new ≡ ended_of old) × (is_whole new ≡ is_whole old))

-- one more was served; where memory was refused for it, those before stay and that is reported
abbrev pub KeepsEnded : MemoryConnections → Connection MemorySource MemorySink
    → Result Served ServeFault → MemoryConnections → Type 0
KeepsEnded old connection report new = (waiting_of new ≡ waiting_of old)
    × (((is_whole new ≡ false) × (ended_of new ≡ ended_of old))
    ⊎ ((is_whole new ≡ is_whole old)
    × (ended_of new ≡ ended_of old ++ record { connection = connection; report = report } ∷ [])))
