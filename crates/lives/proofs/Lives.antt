-- What a life leaves of the files.
use Rattle.std.proofs.Common.{◌≡◌, ◌∙◌, ℕ, Bool, List, [], ◌∷◌, None, refl, ap, inl, inr, sym, subst, arith}
use Rattle.std.proofs.Math.Logic.{∥∥₁_elim, ∥∥₁_map}
use Rattle.auction_runs.specs.Tabled.{MayTable}
use Rattle.house_laws.proofs.Lives.{lives_are_histories}
use Rattle.house_laws.specs.Lives.{life_history}
use Rattle.house_rows.specs.declared.command.Command.TheVariants.{SetBands}
use Rattle.house_rows.specs.declared.settings.Settings.{Settings}
use Rattle.house_rows.specs.History.{History}
use Rattle.house_rows.specs.Runs.{entered, entry, next}
use Rattle.house_rows.specs.Tables.{Tables, tables_of}
use Rattle.house_rows.specs.Verdict.{IsHistory, verdict}
use Rattle.lives.specs.Lives.{Answers, AreRuns, Does, FindsHistory, HasAnswered, HoldHistory, IsBegun, IsRun, IsUnended, LeaveHistories, LeavesHistory, MayFind, Run, Sets, life_of, over_disk, setting}
use Rattle.settle.specs.declared.zone.Zone.{Zone}
use Rattle.site.proofs.Left.{leaves_a_life}
use Rattle.site.specs.Replies.{IsStep}
use Rattle.site.specs.Lives.{LeavesALife}
use Rattle.site.specs.Runs.{InTurn, meant}
use Rattle.site_request.specs.declared.asked.Asked.{Asked}
use Rattle.sqlite_disk.specs.declared.Disk.{Ghosts}
use Rattle.sqlite_disk.specs.declared.Files.{Files}
use Rattle.sqlite_store.specs.declared.store.FileStore.{FileStore}
use Rattle.sqlite_trees.specs.Tree.{Trees}
use Rattle.sqlite_wal.specs.Recovery.{Image}
use Rattle.store.specs.Closing.{MayHold}
use Rattle.store.specs.InOrder.{over_order}
use Rattle.store.specs.Kept.{House, IsHonest, MayLeave, content, is_failed}
use Rattle.store_files.specs.InOrder.{FindsHouse}
use Rattle.store_files.specs.Opened.{IsMade, IsOpened}
use Rattle.store_house.specs.Named.{tables_held}
use Rattle.tree_order.specs.declared.renumbered.Renumbered.{Renumbered}

-- a keep that is honest after messages was so before them
pub was_honest : {K : Type 0} (content : K → Tables) (is_failed : K → Bool) (is_honest : K → Type 0)
    (may_leave : K → Tables → Type 0) (zone : Zone) (asked : List Asked) (replies : List (List ℕ))
    (old new : K) → InTurn (IsStep content is_failed is_honest may_leave zone) asked replies old new
    → is_honest new → is_honest old
was_honest content is_failed is_honest may_leave zone [] [] old new same honest =
    subst is_honest same honest
was_honest content is_failed is_honest may_leave zone (m ∷ ms) (r ∷ rs) old new (mid, one, rest) honest =
    one.honest (was_honest content is_failed is_honest may_leave zone ms rs mid new rest honest)
was_honest content is_failed is_honest may_leave zone [] (r ∷ rs) old new differ honest = absurd differ
was_honest content is_failed is_honest may_leave zone (m ∷ ms) [] old new differ honest = absurd differ

-- a house that accepts the table enters it
set_next : (settings : Settings) (h : History) (moment : ℕ) (bands : List (ℕ × ℕ))
    → verdict settings h moment 0 (SetBands bands) ≡ None
    → life_history meant settings h (life_of (setting moment bands ∷ []))
    ≡ entry moment 0 (SetBands bands) ∷ h
unfolding next
set_next settings h moment bands none =
    ap (λ v. entered v (entry moment 0 (SetBands bands)) h) none

-- one keep, from an opening on
module _ {D : Type 0} {g : Ghosts D} (settings : Settings) (zone : Zone) (h : History)
    (image : Image) (name : List ℕ) (opened last : House (Renumbered (FileStore D g)))
    (is : IsHistory settings h) (held : HoldHistory settings h image)
    (is_opened : IsOpened (content over_order) is_failed (IsHonest over_order)
    (MayLeave over_order) name image name opened) (honest : IsHonest over_order last)
    (t : Tables) (may : MayLeave over_order last t) where
  opened_has : IsHonest over_order opened → content over_order opened ≡ tables_of settings h
  opened_has fine = is_opened.found refl fine (tables_of settings h) held

  begun_has : (begun : House (Renumbered (FileStore D g))) → IsBegun (over_disk g) opened begun
      → IsHonest over_order begun → content over_order begun ≡ tables_of settings h
  begun_has begun (inl same) fine =
      ap (content over_order) same ∙ opened_has (subst (IsHonest over_order) same fine)
  begun_has begun (inr (read, works)) fine = read.same fine works ∙ opened_has (read.honest fine)

  begun_only : (begun : House (Renumbered (FileStore D g))) → IsBegun (over_disk g) opened begun
      → IsHonest over_order begun → (t : Tables) → MayLeave over_order begun t
      → t ≡ content over_order begun
  begun_only begun (inl same) fine = subst
      (λ k. IsHonest over_order k → (t : Tables) → MayLeave over_order k t → t ≡ content over_order k)
      (sym same) is_opened.begun.only fine
  begun_only begun (inr (read, works)) fine = λ t left_so.
      is_opened.begun.only (read.honest fine) t (read.crash fine t left_so) ∙ sym (read.same fine works)

  -- messages were answered
  of_answers : (asked : List Asked) (replies : List (List ℕ))
      → HasAnswered (over_disk g) zone asked replies opened last
      → FindsHistory settings zone h (Answers asked replies) t
  of_answers asked replies run =
      let after = run.read.honest honest in
      let fine = was_honest (content over_order) is_failed (IsHonest over_order)
      (MayLeave over_order) zone asked replies run.begun run.after run.turn after in
      let lived : LeavesALife (content over_order) (MayLeave over_order) settings zone h asked replies
      run.begun run.after = leaves_a_life (content over_order) is_failed (IsHonest over_order)
      (MayLeave over_order) settings zone h asked replies run.begun run.after run.turn after is
      (begun_has run.begun run.so fine) in
      let life = lived (begun_only run.begun run.so fine) t (run.read.crash honest t may) in
      record {
        life = life.0;
        is_life = life.1;
        history = lives_are_histories meant settings h (life.0 ∷ []) is;
        tables = sym life.2;
      }

  -- a band table was set, or not
  of_setting : (moment : ℕ) (bands : List (ℕ × ℕ))
      → MayTable (content over_order) (IsHonest over_order) (MayLeave over_order) moment
      (SetBands bands) opened last
      → FindsHistory settings zone h (Sets moment bands) t
  of_setting moment bands table =
      let fine = table.honest honest in
      elim (table.left honest settings h is (opened_has fine) t may) [
        | inl before ↦ record {
          life = life_of [];
          is_life = inl refl;
          history = is;
          tables = sym (is_opened.begun.only fine t before ∙ opened_has fine);
        }
        | inr (none, after) ↦ record {
          life = life_of (setting moment bands ∷ []);
          is_life = inr (none, refl);
          history = lives_are_histories meant settings h (life_of (setting moment bands ∷ []) ∷ []) is;
          tables = ap (tables_of settings) (set_next settings h moment bands none) ∙ sym after;
        }
      ]

  of_run : (run : Run) → Does (over_disk g) zone run opened last
      → FindsHistory settings zone h run t
  of_run (Answers asked replies) run = of_answers asked replies run
  of_run (Sets moment bands) table = of_setting moment bands table

-- a keep of which a run was honest to its end was so as it was opened
begun_honest : {D : Type 0} {g : Ghosts D} (opened begun : House (Renumbered (FileStore D g)))
    → IsBegun (over_disk g) opened begun → IsHonest over_order begun → IsHonest over_order opened
begun_honest opened begun (inl same) fine = subst (IsHonest over_order) same fine
begun_honest opened begun (inr (read, works)) fine = read.honest fine

opened_honest : {D : Type 0} {g : Ghosts D} (zone : Zone) (run : Run)
    (opened last : House (Renumbered (FileStore D g))) → Does (over_disk g) zone run opened last
    → IsHonest over_order last → IsHonest over_order opened
opened_honest zone (Answers asked replies) opened last run honest =
    begun_honest opened run.begun run.so (was_honest (content over_order) is_failed
    (IsHonest over_order) (MayLeave over_order) zone asked replies run.begun run.after run.turn
    (run.read.honest honest))
opened_honest zone (Sets moment bands) opened last table honest = table.honest honest

-- so it found a house in its files
pub run_finds : {D : Type 0} {g : Ghosts D} (zone : Zone) (image left : Image) (run : Run)
    → (was : IsRun g zone image run left) → FindsHouse image (content over_order was.opened)
run_finds zone image left run was = was.is_opened.there refl
    (opened_honest zone run was.opened was.last was.done was.ended.honest)

-- and so did one whose keep could not be ended
pub unended_finds : {D : Type 0} {g : Ghosts D} (zone : Zone) (image : Image) (run : Run)
    (files : Files D) → (was : IsUnended g zone image run files) → (db : Trees)
    → MayFind was.last files was.ended db → FindsHouse image (content over_order was.opened)
unended_finds zone image run files was db may = was.is_opened.there refl
    (opened_honest zone run was.opened was.last was.done
    (omega (arith, was.ended.closed.clean, may.honest)))

-- a run leaves a life
pub leaves : {D : Type 0} {g : Ghosts D} (settings : Settings) (zone : Zone) (h : History)
    (image left : Image) (run : Run) → IsHistory settings h → HoldHistory settings h image
    → IsRun g zone image run left → ∥ LeavesHistory settings zone h run left ∥₁
leaves settings zone h image left run is held was = ∥∥₁_map was.ended.left_so (λ found.
    let finds = of_run settings zone h image was.name was.opened was.last is held was.is_opened
    was.ended.honest (tables_held found.0) found.2 run was.done in
    let r : LeavesHistory settings zone h run left = record {
      life = finds.life;
      is_life = finds.is_life;
      history = finds.history;
      holds = record { db = found.0; holds = found.1; tables = finds.tables };
    } in
    r)

-- and so does one whose keep could not be ended
pub unended_leaves : {D : Type 0} {g : Ghosts D} (settings : Settings) (zone : Zone) (h : History)
    (image : Image) (run : Run) (files : Files D) → IsHistory settings h → HoldHistory settings h image
    → (was : IsUnended g zone image run files) → (db : Trees) → MayFind was.last files was.ended db
    → FindsHistory settings zone h run (tables_held db)
unended_leaves settings zone h image run files is held was db may =
    of_run settings zone h image was.name was.opened was.last is held was.is_opened
    (omega (arith, was.ended.closed.clean, may.honest)) (tables_held db)
    (was.ended.tables may.honest db may.recovers) run was.done

pub made_holds : {D : Type 0} {g : Ghosts D} (settings : Settings) (name : List ℕ) (before left : Image)
    (made : House (Renumbered (FileStore D g)))
    → IsMade (content over_order) is_failed (IsHonest over_order) (MayLeave over_order)
    name before name settings made
    → IsHonest over_order made → MayHold made left → ∥ HoldHistory settings [] left ∥₁
made_holds settings name before left made is honest may = ∥∥₁_map may (λ found.
    let r : HoldHistory settings [] left = record {
      db = found.0;
      holds = found.1;
      tables = sym (is.begun.only honest (tables_held found.0) found.2 ∙ is.empty honest);
    } in
    r)

-- over any number of runs
pub runs_leave : (settings : Settings) (zone : Zone) (h : History) (image left : Image)
    (runs : List Run) → IsHistory settings h → HoldHistory settings h image
    → AreRuns settings zone image runs left → ∥ LeaveHistories settings zone h runs left ∥₁
runs_leave settings zone h image left [] is held same = ∣ (
    let r : LeaveHistories settings zone h [] left = record {
      lives = [];
      are = tt;
      history = is;
      holds = subst (HoldHistory settings h) (sym same) held;
    } in
    r
    ) ∣₁
runs_leave settings zone h image left (run ∷ runs) is held (mid, one, rest) =
    ∥∥₁_elim (one h is held) squash₁ (λ first.
    ∥∥₁_map (runs_leave settings zone (life_history meant settings h first.life) mid left runs
    first.history first.holds rest) (λ later.
    let r : LeaveHistories settings zone h (run ∷ runs) left = record {
      lives = first.life ∷ later.lives;
      are = (first.is_life, later.are);
      history = later.history;
      holds = later.holds;
    } in
    r))
