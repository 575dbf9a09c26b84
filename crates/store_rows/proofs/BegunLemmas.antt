-- What statements leave in a transaction that one of them began.
use Rattle.std.proofs.Common.{◌≡◌, ◌≢◌, inl, inr, ℕ, true, false, true≢false, List, [], ◌∷◌, codes, IsTrue, Ok, Err, Option, Some, None, Result, refl, sym, ap, subst, ◌∙◌}
use Rattle.sqlite_value.specs.Order.{Row}
use Rattle.sqlite_trees.specs.Tree.{Trees}
use Rattle.sqlite_schema.specs.declared.command.Command.{Command}
use Rattle.sqlite_schema.specs.declared.command.Command.TheVariants.{Begin, Commit, CreateTable, Release}
use Rattle.sqlite_schema.specs.declared.command.Returning.{Returning}
use Rattle.sqlite_schema.specs.declared.schema.Schema.{Schema}
use Rattle.sqlite_resolve.specs.declared.compiled.Compiled.{Compiled}
use Rattle.sqlite_resolve.specs.declared.error.CompileError.{CompileError}
use Rattle.sqlite.specs.Listing.{understood}
use Rattle.sqlite.specs.Does.{Does, Tally}
use Rattle.sqlite.specs.Effect.{Database}
use Rattle.sqlite.specs.declared.run.Mode.{Mode}
use Rattle.sqlite.specs.declared.error.Error.{Error}
use Rattle.sqlite.specs.State.{State, CommitsBy, Executes, ExecutesIn, IsNotRun, KeepsCommit, Shows, Writes, mode_of, shows_rows, text_of}
use Rattle.sqlite.specs.Clock.{timed}
use Rattle.std.proofs.lemmas.Bool.{cases_Bool}
use Rattle.sqlite.proofs.Callers.{IsPlain, command_of, runs_as}
use Rattle.sqlite.proofs.InsideLemmas.{unchanged_keeps}
use Rattle.sqlite_tied.specs.Compute.{everything}
use Rattle.store_rows.specs.Begun.{IsInner, StaysInside}
use Rattle.store_rows.specs.House.{IsInside}

-- within a transaction what ends none commits nothing
pub inner_commits_nothing : (sql : List ℕ) (params : Row) (s : State) (db : Trees) → IsTrue s.in_transaction → StaysInside (understood s.now.schema sql) → ¬ CommitsBy sql params s db
unfolding CommitsBy
inner_commits_nothing sql params s db begun inner h =
    let is : IsInner h.0.command = subst StaysInside h.1.is inner in
    elim h.2 [
      | inl (inl commit, at) ↦ absurd (is.0 commit)
      | inl (inr release, at) ↦ absurd (is.1 release.0 release.2)
      | inr writes ↦ absurd (true≢false (sym begun ∙ writes.0))
    ]

-- a statement that is a command which ends none
pub is_inner : (command : Command) (is : Result Compiled CompileError) → command_of is ≡ command → IsInner command → StaysInside is
is_inner command (Ok c) is inner = subst IsInner (sym is) inner
is_inner command (Err e) is inner = tt

pub wrote_inside : (old new : State) (returning : Option Returning) (command : Command) (text : List ℕ) (params : Row) (count : ℕ) → IsTrue old.in_transaction → Writes old new returning command text params count → IsInside old new
wrote_inside old new returning command text params count begun w =
    let shown = rw begun at w.shown in
    record { mode = shown.mode; is_open = shown.is_open; committed = shown.committed_is }

-- ---- BEGIN and COMMIT

abbrev pub begin_text : List ℕ
begin_text = codes "BEGIN"

abbrev pub commit_text : List ℕ
commit_text = codes "COMMIT"

pub begin_is : (schema : Schema) → (command_of (understood schema begin_text) ≡ Begin) × IsPlain (understood schema begin_text)
unfolding understood everything
begin_is schema = (refl, (refl, refl))

pub commit_is : (schema : Schema) → (command_of (understood schema commit_text) ≡ Commit) × IsPlain (understood schema commit_text)
unfolding understood everything
commit_is schema = (refl, (refl, refl))

pub begins : (old new : State) (count : ℕ) → Executes begin_text [] old new (Ok count) → Shows old new old.now old.committed true
begins old new count h = let it = begin_is old.now.schema in (runs_as begin_text [] old new old.now.schema refl Begin it.0 it.1 count h).1

pub ends : (old new : State) (count : ℕ) → Executes commit_text [] old new (Ok count) → Shows old new old.now old.now false
ends old new count h = let it = commit_is old.now.schema in (runs_as commit_text [] old new old.now.schema refl Commit it.0 it.1 count h).1

begun_does_nothing : (limit : Option ℕ) (mode : Mode) (params : Row) (db : Database) (text : List ℕ) (returning : Option Returning) (command : Command) (out : Tally × Database) → command ≡ Begin → ¬ Does limit mode params db text returning command (Ok out)
begun_does_nothing limit mode params db text None command out is h = absurd (let e = rw is at h in cc)
begun_does_nothing limit mode params db text (Some what) command out is h = absurd (let e = rw is at h in cc)

-- an error has committed nothing
pub execute_ended : (sql : List ℕ) (params : Row) (old new : State) (e : Error) → Executes sql params old new (Err e) → KeepsCommit old new
unfolding ExecutesIn IsNotRun
execute_ended sql params old new e (inl (inl none)) = unchanged_keeps old new (inl none.1)
execute_ended sql params old new e (inl (inr failed)) = unchanged_keeps old new (inr failed.3)
execute_ended sql params old new e (inr h) = elim (cases_Bool (shows_rows false h.0)) [
  | inl shows ↦ unchanged_keeps old new (inl (rw shows at h.2).1)
  | inr runs ↦ elim (rw runs at h.2) [ inl refused ↦ unchanged_keeps old new (inl refused.1) | inr failed ↦ unchanged_keeps old new (inr failed.3) ]
]

pub begin_commits_nothing : (s : State) (db : Trees) → ¬ CommitsBy begin_text [] s db
unfolding CommitsBy
begin_commits_nothing s db h =
    let is : h.0.command ≡ Begin = sym (ap command_of h.1.is) ∙ (begin_is s.now.schema).0 in
    elim h.2 [
      | inl (inl commit, at) ↦ absurd (let e = sym is ∙ commit in cc)
      | inl (inr release, at) ↦ absurd (let e = sym is ∙ release.2 in cc)
      | inr writes ↦ begun_does_nothing s.step_limit (mode_of s) (timed [] h.0.formats h.1.now) s.now (text_of begin_text h.0) h.0.returning h.0.command (writes.1, writes.2) is writes.3
    ]

pub commit_commits : (s : State) (db : Trees) → IsTrue s.in_transaction → CommitsBy commit_text [] s db → db ≡ s.now.trees
unfolding CommitsBy
commit_commits s db begun h = elim h.2 [
  | inl commits ↦ commits.1
  | inr writes ↦ absurd (true≢false (sym begun ∙ writes.0))
]
