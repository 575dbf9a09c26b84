-- Connections that are taken in turn.
use Rattle.std.proofs.Common.{◌≡◌, ℕ, ◌+◌, ◌<◌, zero, suc, Bool, Option, Result, Err, add-one, refl, subst, sym, true}
use Rattle.device.specs.declared.failure.Failure.{Failure}
use Rattle.device.specs.declared.sink.Sink as sink
use Rattle.device.specs.declared.source.Source as source
use Rattle.house_rows.specs.declared.keep.Keep as keep
use Rattle.settle.specs.declared.zone.Zone.{Zone}
use Rattle.site_serve.specs.declared.server.ServeFault.{ServeFault}
use Rattle.site_serve.specs.declared.server.Served.{Served}
use Rattle.site_connections.specs.Turns.{HasFailed, HasStopped, Takes, TakesEach, TakesWell}
use Rattle.site_connections.specs.declared.connection.Connection.{Connection}

rest_after : {S : Type 0} (Takes : S → S → Type 0) (n : ℕ) (old mid new : S)
    → TakesEach Takes n old mid → Takes mid new → TakesEach Takes (suc n) old new
rest_after Takes zero old mid new same one = (new, subst (λ s. Takes s new) same one, refl)
rest_after Takes (suc n) old mid new (next, first, rest) one =
    (next, first, rest_after Takes n next mid new rest one)

-- after so many one more is taken
pub one_more : {S : Type 0} (Takes : S → S → Type 0) (n : ℕ) (old mid new : S)
    → TakesEach Takes n old mid → Takes mid new → TakesEach Takes (n + 1) old new
one_more Takes n old mid new each one =
    subst (λ m. TakesEach Takes m old new) (sym (add-one n)) (rest_after Takes n old mid new each one)

-- as many as were asked for were taken
pub as_many : {S : Type 0} (Takes : S → S → Type 0) (n count : ℕ) (old new : S)
    → n ≡ count → TakesEach Takes n old new → TakesEach Takes count old new
as_many Takes n count old new all each = subst (λ m. TakesEach Takes m old new) all each

-- a connection is taken by the zone that a site began with
module _ {C K R W : Type 0} (k : keep.Ghosts K) (input : source.Ghosts R) (output : sink.Ghosts W)
    (accepts : C → Result (Option (Connection R W)) Failure → C → Type 0)
    (ends : C → Connection R W → Result Served ServeFault → C → Type 0)
    (most : ℕ) (now first : Zone) (same : now ≡ first) (old new : C × K) where
  pub taken_by_zone : Takes k input output accepts ends now most old new
      → Takes k input output accepts ends first most old new
  taken_by_zone one = subst (λ z. Takes k input output accepts ends z most old new) same one

  pub well_by_zone : TakesWell k.is_failed (Takes k input output accepts ends now most) old new
      → TakesWell k.is_failed (Takes k input output accepts ends first most) old new
  well_by_zone one = (taken_by_zone one.0, one.1)

-- accepting failed after fewer
pub has_stopped : {C K R W : Type 0} (Takes : C × K → C × K → Type 0)
    (accepts : C → Result (Option (Connection R W)) Failure → C → Type 0) (n count : ℕ)
    (old last new : C × K) → n < count → TakesEach Takes n old last
    → ((failure : Failure) × accepts last.0 (Err failure) new.0 × (new.1 ≡ last.1))
    → HasStopped Takes accepts count old new
has_stopped Takes accepts n count old last new fewer each failed = record {
  taken = n;
  fewer = fewer;
  last = last;
  each = each;
  failure = failed.0;
  failed = failed.1;
  same = failed.2;
}

-- the keep failed in the last
pub has_failed : {C K : Type 0} (is_failed : K → Bool) (Takes : C × K → C × K → Type 0)
    (n count : ℕ) (old mid new : C × K) → n < count → TakesEach (TakesWell is_failed Takes) n old mid
    → (Takes mid new × (is_failed new.1 ≡ true)) → HasFailed is_failed Takes count old new
has_failed is_failed Takes n count old mid new fewer each last = record {
  before = n;
  fewer = fewer;
  mid = mid;
  each = each;
  last = last.0;
  failed = last.1;
}
