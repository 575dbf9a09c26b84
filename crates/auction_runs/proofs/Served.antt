-- How many connections were taken.
use Rattle.std.proofs.Common.{ℕ, zero, arith, inl, inr, refl, subst, sym, Bool, Result, Ok, Err}
use Rattle.std.specs.Prelude.{IfErr, OnOk, Option}
use Rattle.device.specs.declared.failure.Failure.{Failure}
use Rattle.site_connections.specs.Turns.{HasStopped, HasTaken, HasTakenSome, TakesEach, TakesWell}
use Rattle.site_connections.specs.declared.connection.Connection.{Connection}
use Rattle.auction_runs.specs.Served.{StopsServing}
use Rattle.auction_runs.specs.declared.fault.TaskFault.{TaskFault}

module _ {C K : Type 0} (is_failed : K → Bool) (Takes : C × K → C × K → Type 0) (count : ℕ) where
  -- all of them
  pub some_of_all : (old new : C × K) → TakesEach (TakesWell is_failed Takes) count old new
      → HasTakenSome is_failed Takes count old new.1
  some_of_all old new each = record {
    last = new.0;
    taken = inl (record { taken = count; within = omega arith; each = each });
  }

  -- none
  pub some_of_none : (old : C × K) → HasTakenSome is_failed Takes count old old.1
  some_of_none old = record {
    last = old.0;
    taken = inl (record { taken = zero; within = omega arith; each = refl });
  }

  -- those before accepting failed
  pub taken_of_stopped : {R W : Type 0}
      (accepts : C → Result (Option (Connection R W)) Failure → C → Type 0) (old new : C × K)
      → HasStopped (TakesWell is_failed Takes) accepts count old new
      → (last : C) × HasTaken is_failed Takes count old (last, new.1)
  taken_of_stopped accepts old new stopped = (
    stopped.last.0,
    record {
      taken = stopped.taken;
      within = omega (arith, stopped.fewer);
      each = subst (λ k. TakesEach (TakesWell is_failed Takes) stopped.taken old (stopped.last.0, k))
          (sym stopped.same) stopped.each;
    },
  )

  -- whatever ended it
  pub some_of_end : {R W : Type 0}
      (accepts : C → Result (Option (Connection R W)) Failure → C → Type 0) (old new : C × K)
      {fault : _} → StopsServing is_failed Takes accepts count old new fault
      → HasTakenSome is_failed Takes count old new.1
  some_of_end accepts old new (inl none) =
      subst (λ s. HasTakenSome is_failed Takes count old s.1) (sym none.1) (some_of_none old)
  some_of_end accepts old new (inr (inl stopped)) =
      let taken = taken_of_stopped accepts old new stopped.1 in
      record { last = taken.0; taken = inl taken.1 }
  some_of_end accepts old new (inr (inr failed)) = record { last = new.0; taken = inr failed.1 }

  -- however answering ended
  pub some_of_answered : {R W T : Type 0}
      (accepts : C → Result (Option (Connection R W)) Failure → C → Type 0) (old new : C × K)
      (r : Result T TaskFault) → OnOk r (TakesEach (TakesWell is_failed Takes) count old new)
      → IfErr r (StopsServing is_failed Takes accepts count old new)
      → HasTakenSome is_failed Takes count old new.1
  some_of_answered accepts old new (Ok x) each stops = some_of_all old new each
  some_of_answered accepts old new (Err fault) each stops = some_of_end accepts old new stops
