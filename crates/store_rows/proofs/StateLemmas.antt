-- What a plain statement leaves.
use Rattle.std.proofs.Common.{◌≡◌, ◌∙◌, ◌⊎◌, inl, inr, List, [], ℕ, Ok, subst, Result, arith, Err, IfOk, IfErr, IsTrue, OnErr, OnOk, sym}
use Rattle.sqlite_value.specs.Order.{Row}
use Rattle.sqlite.specs.declared.error.Error.{Error}
use Rattle.sqlite.specs.Clock.{timed}
use Rattle.sqlite.specs.State.{State, HasCleanDisk, IsUnchanged, IsRolledBack, KeepsCommit, Fails, FailsToQuery, FailsToShow, IsNotRun, Shown, ShowsRows, Survives, CommitsShowing}
use Rattle.sqlite.specs.Listing.{understood}
use Rattle.sqlite.proofs.StateLemmas.{survives_weaker}
use Rattle.sqlite.proofs.Callers.{IsPlain, never_commits}
use Rattle.store_rows.specs.Statements.{AlwaysPlain}
use Rattle.store_rows.specs.House.{IsHouse}

-- what holds anyway holds of an error
pub on_error : {T E : Type 0} {P : Type 0} (r : Result T E) → P → OnErr r P
on_error (Ok x) h = tt
on_error (Err e) h = h

module _ (sql : List ℕ) (params : Row) (old new : State) (plain : IsPlain (understood old.now.schema sql)) where
  pub shown_same : (rows : List Row) → Shown sql params old new rows → IsUnchanged old new
  unfolding Shown
  shown_same rows h =
      let none = (subst IsPlain h.1.is plain).0 in
      let it = subst (ShowsRows old new sql h.0 (timed params h.0.formats h.1.now) rows) none h.2 in
      it.3

  -- a query that fails has left all as it was, or the store failed
  pub query_failed : (e : Error) → FailsToQuery sql params old new e → IsUnchanged old new ⊎ Fails old new ⊥ e
  unfolding FailsToQuery IsNotRun
  query_failed e (inl (inl refused)) = inl refused.1
  query_failed e (inl (inr failed)) = inr failed
  query_failed e (inr h) =
      let none = (subst IsPlain h.1.is plain).0 in
      let it = subst (FailsToShow old new sql h.0 (timed params h.0.formats h.1.now) e) none h.2 in
      inl it.3

-- a text that is not run has left all as it was, or the store failed
pub not_run_ended : (sql : List ℕ) (params : Row) (old new : State) (e : Error) → IsNotRun old new sql params e → IsUnchanged old new ⊎ IsRolledBack old new
unfolding IsNotRun
not_run_ended sql params old new e (inl refused) = inl refused.1
not_run_ended sql params old new e (inr failed) = inr failed.3

pub prepared_ended : {T : Type 0} (P : T → Type 0) (sql : List ℕ) (old new : State) (r : Result T Error) → IfOk r (λ s. P s × IsUnchanged old new) → IfErr r (λ e. (params : Row) → IsNotRun old new sql params e)
    → IsUnchanged old new ⊎ IsRolledBack old new
prepared_ended P sql old new (Ok s) ok err = inl ok.1
prepared_ended P sql old new (Err e) ok err = not_run_ended sql [] old new e (err [])

pub only_reads : (sql : List ℕ) (params : Row) (old new : State) → (HasCleanDisk old → IsPlain (understood old.now.schema sql)) → Survives old new (CommitsShowing sql params old) → Survives old new (λ _. ⊥)
only_reads sql params old new plain s = survives_weaker old new _ _ (λ clean db. never_commits sql params old db (plain (before s clean))) s
  where
    before : Survives old new (CommitsShowing sql params old) → HasCleanDisk new → HasCleanDisk old
    before s clean = omega (arith, s.clean)

pub ok_then : {T E : Type 0} {P Q : T → Type 0} (r : Result T E) → IfOk r P → ((x : T) → P x → Q x) → IfOk r Q
ok_then (Ok x) h f = f x h
ok_then (Err e) h f = h

pub err_then : {T E : Type 0} {P Q : E → Type 0} (r : Result T E) → IfErr r P → ((e : E) → P e → Q e) → IfErr r Q
err_then (Ok x) h f = h
err_then (Err e) h f = f e h

-- a query that fails leaves what was committed
pub query_ended : (sql : List ℕ) (params : Row) (old new : State) → IsPlain (understood old.now.schema sql) → (e : Error) → FailsToQuery sql params old new e → IsUnchanged old new ⊎ IsRolledBack old new
query_ended sql params old new plain e h = elim (query_failed sql params old new plain e h) [ inl same ↦ inl same | inr failed ↦ inr failed.3 ]

-- an error after steps that committed nothing has committed nothing
pub still_committed : (old now new : State) → IsTrue old.is_open → now.committed ≡ old.committed → IsUnchanged now new ⊎ IsRolledBack now new → KeepsCommit old new
still_committed old now new was_open same (inl kept) = record { was_open = λ _. was_open; committed = λ _. kept.0.committed_is ∙ same }
still_committed old now new was_open same (inr undone) = record { was_open = λ _. was_open; committed = λ is_open. (undone.undone is_open).1 ∙ same }

-- what is plain over the schema of a house is so on a connection that holds one
pub plain_at : (sql : List ℕ) (s : State) → AlwaysPlain sql → IsHouse s.now → IsPlain (understood s.now.schema sql)
plain_at sql s plain house = subst (λ x. IsPlain (understood x sql)) (sym house.schema) (plain house.is_indexed)

-- what holds of a value that is there
pub on_ok_where : {T E P Q : Type 0} (r : Result T E) → OnOk r P → (P → Q) → OnOk r Q
on_ok_where (Ok x) h f = f h
on_ok_where (Err e) h f = h
