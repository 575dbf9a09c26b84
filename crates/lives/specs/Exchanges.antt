-- What was asked over connections that were taken in turn, and what was replied.
use Rattle.std.specs.Prelude.{◌≡◌, ◌⊎◌, ℕ, ◌≤◌, zero, suc, List, [], ◌++◌, Option, Result, map}
use Rattle.device.specs.declared.failure.Failure.{Failure}
use Rattle.device.specs.declared.sink.Sink as sink
use Rattle.device.specs.declared.source.Source as source
use Rattle.house_rows.specs.declared.keep.Keep as keep
use Rattle.settle.specs.declared.zone.Zone.{Zone}
use Rattle.site_connections.specs.Turns.{HasAnswered, HasGivenUp, ServesOne}
use Rattle.site_connections.specs.declared.connection.Connection.{Connection}
use Rattle.site_request.specs.declared.asked.Asked.{Asked}
use Rattle.site_serve.specs.Serving.{heard}
use Rattle.site_serve.specs.declared.server.ServeFault.{ServeFault}
use Rattle.site_serve.specs.declared.server.Served.{Served}

-- a connection was answered: these messages were read of it, and these are the replies to them
pub record Exchanges {C K R W : Type 0} (k : keep.Ghosts K) (input : source.Ghosts R)
    (output : sink.Ghosts W) (accepts : C → Result (Option (Connection R W)) Failure → C → Type 0)
    (ends : C → Connection R W → Result Served ServeFault → C → Type 0) (zone : Zone) (most : ℕ)
    (asked : List Asked) (replies : List (List ℕ)) (old new : C × K) : Type 0 where
  pub answered : HasAnswered
      (ServesOne k.content k.is_failed k.is_honest k.may_leave zone input.left input.has_failed
      output.taken output.handed_on output.has_failed most) accepts ends old new
  pub read : asked ≡ map heard answered.served.crash.messages
  pub replied : replies ≡ answered.served.crash.replies

-- or it was given up, and nothing was
pub record ExchangesNothing {C K R W : Type 0}
    (accepts : C → Result (Option (Connection R W)) Failure → C → Type 0)
    (asked : List Asked) (replies : List (List ℕ)) (old new : C × K) : Type 0 where
  pub given_up : HasGivenUp accepts old new
  pub none : asked ≡ []
  pub nothing : replies ≡ []

-- one connection is taken, and this is asked and replied over it
abbrev pub TakesAs : {C K R W : Type 0} → keep.Ghosts K → source.Ghosts R → sink.Ghosts W
    → (C → Result (Option (Connection R W)) Failure → C → Type 0)
    → (C → Connection R W → Result Served ServeFault → C → Type 0)
    → Zone → ℕ → List Asked → List (List ℕ) → C × K → C × K → Type 0
TakesAs k input output accepts ends zone most asked replies old new =
    Exchanges k input output accepts ends zone most asked replies old new
    ⊎ ExchangesNothing accepts asked replies old new

-- something is asked and replied, and then something else
pub record IsThen {S : Type 0} (First Later : List Asked → List (List ℕ) → S → S → Type 0)
    (asked : List Asked) (replies : List (List ℕ)) (old new : S) : Type 0 where
  pub mid : S
  pub first_asked : List Asked
  pub first_replies : List (List ℕ)
  pub first : First first_asked first_replies old mid
  pub later_asked : List Asked
  pub later_replies : List (List ℕ)
  pub later : Later later_asked later_replies mid new
  pub asked_so : asked ≡ first_asked ++ later_asked
  pub replied_so : replies ≡ first_replies ++ later_replies

-- so many are taken in turn, and this is asked and replied over them
abbrev pub TakesEachAs : {S : Type 0} → (List Asked → List (List ℕ) → S → S → Type 0) → ℕ
    → List Asked → List (List ℕ) → S → S → Type 0
TakesEachAs Takes zero asked replies old new = (new ≡ old) × (asked ≡ []) × (replies ≡ [])
TakesEachAs Takes (suc n) asked replies old new =
    IsThen Takes (λ later more mid last. TakesEachAs Takes n later more mid last) asked replies old new

-- some are, at most so many, and this is the keep after them
pub record HasExchanged {C K : Type 0}
    (Takes : List Asked → List (List ℕ) → C × K → C × K → Type 0) (count : ℕ)
    (asked : List Asked) (replies : List (List ℕ)) (old : C × K) (keep : K) : Type 0 where
  pub last : C
  pub taken : ℕ
  pub within : taken ≤ count
  pub each : TakesEachAs Takes taken asked replies old (last, keep)
