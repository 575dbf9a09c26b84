-- What serving connections in turn does. Start here.
use Rattle.std.specs.Prelude.{◌≡◌, ◌⊎◌, ℕ, ◌<◌, ◌≤◌, zero, suc, List, Bool, true, false, Option, Some, None, Result, Ok, Err, IfOk, IfSome, OnOk}
use Rattle.device.specs.declared.failure.Failure.{Failure}
use Rattle.device.specs.declared.sink.Sink as sink
use Rattle.device.specs.declared.source.Source as source
use Rattle.house_rows.specs.Tables.{Tables}
use Rattle.house_rows.specs.declared.keep.Keep as keep
use Rattle.settle.specs.declared.zone.Zone.{Zone}
use Rattle.site.specs.Replies.{IsStep}
use Rattle.site_serve.specs.Ends.{HasEnded}
use Rattle.site_serve.specs.Lives.{HasLived, LeavesLives}
use Rattle.site_serve.specs.Serving.{HasRead, HasServed, HasWritten, IsFlushed}
use Rattle.site_serve.specs.declared.server.ServeFault.{ServeFault}
use Rattle.site_serve.specs.declared.server.ServeFault.TheVariants.{Memory, Read, Write}
use Rattle.site_serve.specs.declared.server.Served.{Served}
use Rattle.site_connections.specs.declared.connection.Connection.{Connection}

-- what `serve` says of one connection: as it came and as it ended, the result, and the keep before
-- and after
pub record ServesOne {K R W : Type 0} (content : K → Tables) (is_failed : K → Bool)
    (is_honest : K → Type 0) (may_leave : K → Tables → Type 0) (zone : Zone)
    (left : R → Option (List ℕ)) (source_has_failed : R → Bool)
    (taken handed_on : W → Option (List ℕ)) (sink_has_failed : W → Bool) (most : ℕ)
    (came ended : Connection R W) (report : Result Served ServeFault) (old new : K) : Type 0 where
  pub served : IfOk report (λ served. IfSome (left came.source) (λ stream.
      HasServed (IsStep content is_failed is_honest may_leave zone) stream most
      (taken came.sink) (taken ended.sink) old new served))
  pub read : report ≡ Err Read → (source_has_failed ended.source ≡ true)
      × HasRead (IsStep content is_failed is_honest may_leave zone)
      (left came.source) (left ended.source) most (taken came.sink) (taken ended.sink) old new
  pub write : report ≡ Err Write → (sink_has_failed ended.sink ≡ true)
      × IfSome (left came.source) (λ stream.
      HasWritten (IsStep content is_failed is_honest may_leave zone) stream most
      (taken came.sink) (taken ended.sink) old new)
  pub memory : report ≡ Err Memory
      → (ended.source ≡ came.source) × (ended.sink ≡ came.sink) × (new ≡ old)
  pub crash : HasEnded content is_failed is_honest may_leave zone
      (left came.source) (left ended.source) most (taken came.sink) (taken ended.sink) old new
  pub isolation_from : HasLived content is_failed is_honest may_leave zone
      (left came.source) (left ended.source) most (taken came.sink) (taken ended.sink) report old new
  pub life : LeavesLives content is_failed is_honest may_leave zone
      (left came.source) (left ended.source) most (taken came.sink) (taken ended.sink) report old new
  pub flushed : OnOk report (IsFlushed handed_on taken came.sink ended.sink)
  pub waits : report ≡ Err Read → IsFlushed handed_on taken came.sink ended.sink
  pub source : source_has_failed ended.source ≡ true
      → (source_has_failed came.source ≡ true) ⊎ (report ≡ Err Read)

-- a connection came, was served, and ended
pub record HasAnswered {C K R W : Type 0}
    (Serves : Connection R W → Connection R W → Result Served ServeFault → K → K → Type 0)
    (accepts : C → Result (Option (Connection R W)) Failure → C → Type 0)
    (ends : C → Connection R W → Result Served ServeFault → C → Type 0)
    (old new : C × K) : Type 0 where
  pub came : Connection R W
  pub between : C
  pub accepted : accepts old.0 (Ok (Some came)) between
  pub ended : Connection R W
  pub report : Result Served ServeFault
  pub served : Serves came ended report old.1 new.1
  pub left : ends between ended report new.0

-- one that came was given up: nothing of it was answered, and the keep is as it was
pub record HasGivenUp {C K R W : Type 0}
    (accepts : C → Result (Option (Connection R W)) Failure → C → Type 0)
    (old new : C × K) : Type 0 where
  pub accepted : accepts old.0 (Ok None) new.0
  pub same : new.1 ≡ old.1

-- one connection is taken
abbrev pub TakesOne : {C K R W : Type 0}
    → (Connection R W → Connection R W → Result Served ServeFault → K → K → Type 0)
    → (C → Result (Option (Connection R W)) Failure → C → Type 0)
    → (C → Connection R W → Result Served ServeFault → C → Type 0)
    → C × K → C × K → Type 0
TakesOne Serves accepts ends old new =
    HasAnswered Serves accepts ends old new ⊎ HasGivenUp accepts old new

-- so many are taken in turn, each over what the one before left, and nothing comes between them
abbrev pub TakesEach : {S : Type 0} → (S → S → Type 0) → ℕ → S → S → Type 0
TakesEach Takes zero old new = new ≡ old
TakesEach {S} Takes (suc n) old new = (mid : S) × Takes old mid × TakesEach Takes n mid new

-- one connection is taken over a keep by its zone, of which at most so many messages are answered
abbrev pub Takes : {C K R W : Type 0} → keep.Ghosts K → source.Ghosts R → sink.Ghosts W
    → (C → Result (Option (Connection R W)) Failure → C → Type 0)
    → (C → Connection R W → Result Served ServeFault → C → Type 0)
    → Zone → ℕ → C × K → C × K → Type 0
Takes k input output accepts ends zone most = TakesOne
    (ServesOne k.content k.is_failed k.is_honest k.may_leave zone input.left input.has_failed
    output.taken output.handed_on output.has_failed most) accepts ends

-- and the keep has not failed after it
abbrev pub TakesWell : {C K : Type 0} → (K → Bool) → (C × K → C × K → Type 0) → C × K → C × K
    → Type 0
TakesWell is_failed Takes old new = Takes old new × (is_failed new.1 ≡ false)

-- fewer were taken, and then accepting failed
pub record HasStopped {C K R W : Type 0} (Takes : C × K → C × K → Type 0)
    (accepts : C → Result (Option (Connection R W)) Failure → C → Type 0) (count : ℕ)
    (old new : C × K) : Type 0 where
  pub taken : ℕ
  pub fewer : taken < count
  pub last : C × K
  pub each : TakesEach Takes taken old last
  pub failure : Failure
  pub failed : accepts last.0 (Err failure) new.0
  pub same : new.1 ≡ last.1

-- some were taken, and the keep failed in the last of them
pub record HasFailed {C K : Type 0} (is_failed : K → Bool) (Takes : C × K → C × K → Type 0)
    (count : ℕ) (old new : C × K) : Type 0 where
  pub before : ℕ
  pub fewer : before < count
  pub mid : C × K
  pub each : TakesEach (TakesWell is_failed Takes) before old mid
  pub last : Takes mid new
  pub failed : is_failed new.1 ≡ true

-- some were taken, at most so many, and the keep has not failed
pub record HasTaken {C K : Type 0} (is_failed : K → Bool) (Takes : C × K → C × K → Type 0)
    (count : ℕ) (old new : C × K) : Type 0 where
  pub taken : ℕ
  pub within : taken ≤ count
  pub each : TakesEach (TakesWell is_failed Takes) taken old new

-- However it ended: some were taken, none after one in which the keep failed, and nothing else was
-- done to the keep.
pub record HasTakenSome {C K : Type 0} (is_failed : K → Bool) (Takes : C × K → C × K → Type 0)
    (count : ℕ) (old : C × K) (keep : K) : Type 0 where
  pub last : C
  pub taken : HasTaken is_failed Takes count old (last, keep)
      ⊎ HasFailed is_failed Takes count old (last, keep)
