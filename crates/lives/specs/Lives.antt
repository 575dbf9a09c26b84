-- The lives of a house's files. Start here.
use Rattle.std.specs.Prelude.{◌≡◌, ◌⊎◌, ℕ, Bool, List, [], ◌∷◌, false, true, length, None}
use Rattle.std.specs.List.{AllZip}
use Rattle.steps.specs.Table.{Band}
use Rattle.auction_runs.specs.Tabled.{MayTable}
use Rattle.house_laws.specs.Lives.{Life, life_history, lives_history}
use Rattle.house_rows.specs.Keeping.{IsRead}
use Rattle.house_rows.specs.declared.command.Command.TheVariants.{SetBands}
use Rattle.house_rows.specs.declared.keep.Keep as keep
use Rattle.house_rows.specs.declared.message.Message.TheVariants.{Write}
use Rattle.house_rows.specs.declared.settings.Settings.{Settings}
use Rattle.house_rows.specs.History.{History}
use Rattle.house_rows.specs.Tables.{Tables, tables_of}
use Rattle.house_rows.specs.Verdict.{IsHistory, verdict}
use Rattle.lives.specs.Exchanges.{HasExchanged}
use Rattle.office.specs.Listings.{IsOrderOf}
use Rattle.office.specs.declared.lister.Lister.{Lister}
use Rattle.office.specs.declared.lot.Lot.{Lot}
use Rattle.settle.specs.Zoned.{IsZoneOf}
use Rattle.settle.specs.declared.zone.Zone.{Zone}
use Rattle.site.specs.Replies.{IsStep}
use Rattle.site.specs.Lives.{IsLifeOf, served_replies}
use Rattle.site.specs.Runs.{InTurn, at_places, meant}
use Rattle.site_request.specs.declared.asked.Asked.{Asked}
use Rattle.sqlite_disk.specs.declared.Disk as disk
use Rattle.sqlite_disk.specs.declared.Files.{Files}
use Rattle.sqlite_store.specs.FileStore.{recovers, view}
use Rattle.sqlite_store.specs.declared.store.FileStore.{FileStore}
use Rattle.sqlite_trees.specs.Tree.{Trees}
use Rattle.sqlite_trees.specs.View.{IsClean}
use Rattle.sqlite_wal.specs.Recovery.{Image}
use Rattle.store.specs.Closing.{IsLeft, MayHold}
use Rattle.store.specs.InOrder.{over_order}
use Rattle.store.specs.Kept.{House, IsHonest, MayLeave, content, is_failed}
use Rattle.store_files.specs.Opened.{IsOpened}
use Rattle.store_files.specs.InOrder.{HoldsTables}
use Rattle.store_house.specs.Named.{HoldsFirstHouse, HoldsHouse, tables_held}
use Rattle.tree_order.specs.declared.renumbered.Renumbered.{Renumbered}

-- files hold the tables of a history
abbrev pub HoldHistory : Settings → History → Image → Type 0
HoldHistory settings h image = HoldsTables image (tables_of settings h)

-- a keep of a house in files
abbrev pub over_disk : {D : Type 0} → (g : disk.Ghosts D) → keep.Ghosts (House (Renumbered (FileStore D g)))
over_disk g = record {
  content = content over_order;
  is_failed = is_failed;
  is_honest = IsHonest over_order;
  may_leave = MayLeave over_order;
}

-- ---- runs

-- some messages were answered in turn
pub record AreInTurn {K : Type 0} (Step : Asked → List ℕ → K → K → Type 0) (old new : K) : Type 0 where
  pub asked : List Asked
  pub replies : List (List ℕ)
  pub turn : InTurn Step asked replies old new

-- What a run does over the keep that it opens: it answers messages in turn with these replies, or has the
-- house set a band table at a moment.
pub data Run : Type 0 where
  Answers : List Asked → List (List ℕ) → Run
  Sets : ℕ → List Band → Run

-- messages are answered over a keep as it was opened, or after it was read, in which it didn't fail
abbrev pub IsBegun : {K : Type 0} → keep.Ghosts K → K → K → Type 0
IsBegun k opened begun = (begun ≡ opened)
    ⊎ (IsRead k.content k.is_failed k.is_honest k.may_leave opened begun × (k.is_failed begun ≡ false))

-- messages were answered in turn, and the keep may have been read before them and after them
pub record HasAnswered {K : Type 0} (k : keep.Ghosts K) (zone : Zone) (asked : List Asked)
    (replies : List (List ℕ)) (opened last : K) : Type 0 where
  pub begun : K
  pub so : IsBegun k opened begun
  pub after : K
  pub turn : InTurn (IsStep k.content k.is_failed k.is_honest k.may_leave zone) asked replies begun after
  pub read : IsRead k.content k.is_failed k.is_honest k.may_leave after last

-- a run was done, over one keep and to another
abbrev pub Does : {K : Type 0} → keep.Ghosts K → Zone → Run → K → K → Type 0
Does k zone (Answers asked replies) opened last = HasAnswered k zone asked replies opened last
Does k zone (Sets moment bands) opened last =
    MayTable k.content k.is_honest k.may_leave moment (SetBands bands) opened last

-- A keep was opened over files that held this, this was done over it, and then it ended so.
pub record IsRunTo {D : Type 0} (g : disk.Ghosts D) (zone : Zone) (image : Image) (run : Run)
    (Ends : House (Renumbered (FileStore D g)) → Type 0) : Type 0 where
  pub opened : House (Renumbered (FileStore D g))
  pub name : List ℕ
  pub is_opened : IsOpened (content over_order) is_failed (IsHonest over_order)
      (MayLeave over_order) name image name opened
  pub last : House (Renumbered (FileStore D g))
  pub done : Does (over_disk g) zone run opened last
  pub ended : Ends last

-- this was left of its files, by a crash at that moment or since it was ended; its disk was honest
pub record Leaves {D : Type 0} (g : disk.Ghosts D) (left : Image) (keep : House (Renumbered (FileStore D g))) :
    Type 0 where
  pub honest : IsHonest over_order keep
  pub left_so : MayHold keep left

-- a run that left this of the files
abbrev pub IsRun : {D : Type 0} → disk.Ghosts D → Zone → Image → Run → Image → Type 0
IsRun g zone image run left = IsRunTo g zone image run (Leaves g left)

-- a run whose keep could not be ended, so that these files were left of its store
abbrev pub IsUnended : {D : Type 0} → (g : disk.Ghosts D) → Zone → Image → Run → Files D → Type 0
IsUnended g zone image run files = IsRunTo g zone image run (λ keep. IsLeft g keep files)

-- what an opening after a crash may find in that store, whose disk was honest
pub record MayFind {D : Type 0} {g : disk.Ghosts D} (keep : House (Renumbered (FileStore D g))) (files : Files D)
    (left : IsLeft g keep files) (db : Trees) : Type 0 where
  pub honest : IsClean (view left.store)
  pub recovers : recovers left.store db

-- so it is of the tables of whatever is found, by their names, of some keep that could not be ended
pub record FindsTables {D : Type 0} (g : disk.Ghosts D) (files : Files D) (Are : Tables → Type 0) :
    Type 0 where
  pub keep : House (Renumbered (FileStore D g))
  pub left : IsLeft g keep files
  pub tables : (db : Trees) → MayFind keep files left db → Are (tables_held db)

-- messages were answered, by the zone that was kept
pub record IsAnswering {D : Type 0} (g : disk.Ghosts D) (image : Image)
    (Ends : House (Renumbered (FileStore D g)) → Type 0) : Type 0 where
  pub zone : Zone
  pub asked : List Asked
  pub replies : List (List ℕ)
  pub run : IsRunTo g zone image (Answers asked replies) Ends
  pub kept_zone : IsHonest over_order run.last
      → IsZoneOf (content over_order run.opened).settings.zone zone

-- they are those of connections at that place, which were taken in turn over the keep that was opened
pub record IsServing {C D : Type 0} (g : disk.Ghosts D) (image : Image) (is_at : C → Type 0)
    (Takes : Zone → List Asked → List (List ℕ) → C × House (Renumbered (FileStore D g))
    → C × House (Renumbered (FileStore D g)) → Type 0) (count : ℕ)
    (Ends : House (Renumbered (FileStore D g)) → Type 0) : Type 0 where
  pub answering : IsAnswering g image Ends
  pub came : C
  pub listened : is_at came
  pub exchanged : HasExchanged (Takes answering.zone) count answering.asked answering.replies
      (came, answering.run.opened) answering.run.last

-- some were, or none, which is so by whatever zone
abbrev pub MayServe : {C D : Type 0} → (g : disk.Ghosts D) → Image → (C → Type 0)
    → (Zone → List Asked → List (List ℕ) → C × House (Renumbered (FileStore D g))
    → C × House (Renumbered (FileStore D g)) → Type 0) → ℕ
    → (House (Renumbered (FileStore D g)) → Type 0) → Type 0
MayServe g image is_at Takes count Ends = ((zone : Zone) → IsRunTo g zone image (Answers [] []) Ends)
    ⊎ IsServing g image is_at Takes count Ends

-- they are the orders of these lots, in turn
pub record IsListing {D : Type 0} (g : disk.Ghosts D) (image : Image) (by : Lister)
    (Ends : House (Renumbered (FileStore D g)) → Type 0) : Type 0 where
  pub answering : IsAnswering g image Ends
  pub lots : List Lot
  pub orders : AllZip (IsOrderOf by) lots answering.asked

-- some were, or none
abbrev pub MayList : {D : Type 0} → (g : disk.Ghosts D) → Image → Lister
    → (House (Renumbered (FileStore D g)) → Type 0) → Type 0
MayList g image by Ends = ((zone : Zone) → IsRunTo g zone image (Answers [] []) Ends)
    ⊎ IsListing g image by Ends

-- a band table was set, or was not, which is so by whatever zone
abbrev pub MaySet : {D : Type 0} → (g : disk.Ghosts D) → Image → ℕ → (House (Renumbered (FileStore D g)) → Type 0)
    → Type 0
MaySet g image moment Ends = (bands : List Band)
    × ((zone : Zone) → IsRunTo g zone image (Sets moment bands) Ends)

-- A database holds a house of version 1 where an upgrade tells that it found one, and otherwise one of
-- version 2.
abbrev pub HoldsToldHouse : Bool → Trees → Type 0
HoldsToldHouse true db = HoldsFirstHouse db
HoldsToldHouse false db = HoldsHouse db

-- So it is of a keep that was ended, of whose files this was left, or of one that could not be.
abbrev pub EndsAs : {D : Type 0} → (g : disk.Ghosts D) → Image → Files D
    → ((House (Renumbered (FileStore D g)) → Type 0) → Type 0) → Type 0
EndsAs g left files Is = Is (Leaves g left) ⊎ Is (λ keep. IsLeft g keep files)

-- ---- their lives

-- the house's command to set a band table, as a message
abbrev pub setting : ℕ → List Band → Asked
setting moment bands = record { closes = false; message = Write moment 0 (SetBands bands) }

-- the life of a house to which this happened and nothing was in flight
abbrev pub life_of : List Asked → Life Asked
life_of asked = record { answered = asked; in_flight = None }

-- A life of a run from a history on. A band table was set by a message that the history accepts, or it
-- wasn't set.
abbrev pub IsLifeIn : Settings → Zone → History → Run → Life Asked → Type 0
IsLifeIn settings zone h (Answers asked replies) life =
    IsLifeOf settings zone h asked replies life.answered life.in_flight
IsLifeIn settings zone h (Sets moment bands) life = (life ≡ life_of [])
    ⊎ ((verdict settings h moment 0 (SetBands bands) ≡ None)
    × (life ≡ life_of (setting moment bands ∷ [])))

-- a life of a run, and the tables of the history after it are these
pub record FindsHistory (settings : Settings) (zone : Zone) (h : History) (run : Run) (t : Tables) :
    Type 0 where
  pub life : Life Asked
  pub is_life : IsLifeIn settings zone h run life
  pub history : IsHistory settings (life_history meant settings h life)
  pub tables : tables_of settings (life_history meant settings h life) ≡ t

-- a life of a run, after which the files hold the history after it
pub record LeavesHistory (settings : Settings) (zone : Zone) (h : History) (run : Run)
    (left : Image) : Type 0 where
  pub life : Life Asked
  pub is_life : IsLifeIn settings zone h run life
  pub history : IsHistory settings (life_history meant settings h life)
  pub holds : HoldHistory settings (life_history meant settings h life) left

-- whatever history files held, they hold one after a life of the run
abbrev pub LeavesLife : Settings → Zone → Image → Run → Image → Type 0
LeavesLife settings zone image run left = (h : History) → IsHistory settings h
    → HoldHistory settings h image → ∥ LeavesHistory settings zone h run left ∥₁

-- runs over the same files, each of which leaves a life of what the one before left of them. Each may
-- be over a disk of its own
abbrev pub AreRuns : Settings → Zone → Image → List Run → Image → Type 0
AreRuns settings zone image [] left = left ≡ image
AreRuns settings zone image (r ∷ rs) left = (mid : Image)
    × LeavesLife settings zone image r mid × AreRuns settings zone mid rs left

-- the lives of runs, from a history on
abbrev pub AreLivesOf : Settings → Zone → History → List Run → List (Life Asked) → Type 0
AreLivesOf settings zone h [] [] = Unit {0}
AreLivesOf settings zone h (r ∷ rs) (life ∷ lives) = IsLifeIn settings zone h r life
    × AreLivesOf settings zone (life_history meant settings h life) rs lives
AreLivesOf settings zone h [] (life ∷ lives) = ⊥
AreLivesOf settings zone h (r ∷ rs) [] = ⊥

-- there are lives of the runs, and the files hold the history after them
pub record LeaveHistories (settings : Settings) (zone : Zone) (h : History) (runs : List Run)
    (left : Image) : Type 0 where
  pub lives : List (Life Asked)
  pub are : AreLivesOf settings zone h runs lives
  pub history : IsHistory settings (lives_history meant settings h lives)
  pub holds : HoldHistory settings (lives_history meant settings h lives) left

-- ---- what members are told

-- Of a run and its life, what a member is told: the replies at its places among the messages that were
-- answered, which are the first that were served. Of a band table that the run set nobody was told; a
-- reply to it would be the house's.
abbrev pub IsTold : ℕ → Run → Life Asked → List (List ℕ) → Type 0
IsTold c (Answers asked replies) life told =
    told ≡ at_places c life.answered (served_replies replies)
IsTold c (Sets moment bands) life told = (unsent : List (List ℕ))
    × (length unsent ≡ length life.answered) × (told ≡ at_places c life.answered unsent)

-- in each of two lists of runs, life by life, a member is told the same
abbrev pub AreToldAlike : ℕ → List Run → List (Life Asked) → List Run → List (Life Asked) → Type 0
AreToldAlike c (r ∷ rs) (l ∷ ls) (s ∷ ss) (m ∷ ms) =
    ((told : List (List ℕ)) × IsTold c r l told × IsTold c s m told) × AreToldAlike c rs ls ss ms
AreToldAlike c [] [] [] [] = Unit {0}
AreToldAlike c _ _ _ _ = ⊥
