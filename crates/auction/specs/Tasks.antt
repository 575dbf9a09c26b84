-- What is done of each task to the house in its file, and what is left of that. Start here.
use Rattle.std.specs.Prelude.{◌≡◌, ◌⊎◌, ℕ, Bool, List, Option, Result, true, ⊤}
use Rattle.auction_runs.specs.Listed.{HasTaken, IsOrderedOver}
use Rattle.auction_runs.specs.Over.{IsOver, IsReadOver}
use Rattle.auction_runs.specs.Runs.{HasAsked, HasDone, HasServed, HasSetTable, IsLeftBy, IsMadeBy, IsServedOver, IsUpgradedAs, MayHaveSetTable}
use Rattle.auction_runs.specs.Served.{most_messages}
use Rattle.auction_words.specs.CommandLine.{house_app}
use Rattle.auction_words.specs.Houses.{IsNew}
use Rattle.auction_words.specs.Tasks.{IsAsked, IsWithin}
use Rattle.auction_words.specs.declared.command_line.Beginning.{Beginning}
use Rattle.auction_words.specs.declared.command_line.Beginning.TheVariants.{House, New}
use Rattle.auction_words.specs.declared.command_line.HouseWords.{HouseWords}
use Rattle.auction_words.specs.declared.command_line.Task.{Task}
use Rattle.auction_words.specs.declared.command_line.Task.TheVariants.{Audit, Bands, Import, Init, Replay, Serve, Statement, Surplus, Upgrade}
use Rattle.clap.specs.Takes.{takes}
use Rattle.device.specs.declared.failure.Failure.{Failure}
use Rattle.device.specs.declared.sink.Sink as sink
use Rattle.device.specs.declared.source.Source as source
use Rattle.house_rows.specs.Tables.{Tables}
use Rattle.house_rows.specs.declared.keep.Keep as keep
use Rattle.house_rows.specs.declared.settings.Settings.{Settings}
use Rattle.settle.specs.declared.zone.Zone.{Zone}
use Rattle.site_connections.specs.Turns.{Takes}
use Rattle.site_connections.specs.declared.connection.Connection.{Connection}
use Rattle.site_serve.specs.declared.server.ServeFault.{ServeFault}
use Rattle.site_serve.specs.declared.server.Served.{Served}
use Rattle.auction.specs.Remains.{IsEndedWith, IsLeftAs}
use Rattle.auction.specs.declared.remains.Remains.{Remains}

-- a task was done over a keep that was opened, made or upgraded at the path, and it was ended. Of a task that
-- is done over no keep in a file nothing is said here
abbrev pub IsDone : {C K L : Type 0} → keep.Ghosts K → (C → ℕ → ℕ → Type 0) → (K → L → Type 0)
    → (List ℕ → K → Type 0) → (List ℕ → Settings → K → Type 0) → (List ℕ → Bool → K → Type 0)
    → (Zone → C × K → C × K → Type 0) → Task → Option L → Type 0
IsDone k is_at is_ended is_opened is_new is_upgraded Takes (Init path words) = IsEndedWith
    (HasDone (IsMadeBy (is_new path.now) words) is_ended)
IsDone k is_at is_ended is_opened is_new is_upgraded Takes (Serve path asked) = IsEndedWith
    (HasDone (is_opened path.now)
    (HasServed k (λ came. is_at came asked.port asked.count) is_ended Takes asked.count))
IsDone k is_at is_ended is_opened is_new is_upgraded Takes (Import path asked) = IsEndedWith
    (HasDone (is_opened path.now)
    (λ given left. HasTaken k.content k.is_failed k.is_honest k.may_leave
    (λ last. is_ended last left) (record { member = asked.member; moment = asked.moment }) given))
IsDone k is_at is_ended is_opened is_new is_upgraded Takes (Statement path asked) = IsEndedWith
    (HasDone (is_opened path.now)
    (λ given left. HasAsked k (λ last. is_ended last left) asked given))
IsDone k is_at is_ended is_opened is_new is_upgraded Takes (Bands path asked) = IsEndedWith
    (HasDone (is_opened path.now)
    (λ given left. HasSetTable k (λ last. is_ended last left) asked.moment given))
IsDone k is_at is_ended is_opened is_new is_upgraded Takes (Upgrade path) = IsEndedWith
    (HasDone (IsUpgradedAs (is_upgraded path.now)) is_ended)
IsDone k is_at is_ended is_opened is_new is_upgraded Takes (Replay words asked) = λ _. ⊤
IsDone k is_at is_ended is_opened is_new is_upgraded Takes (Audit begun asked) = λ _. ⊤
IsDone k is_at is_ended is_opened is_new is_upgraded Takes (Surplus begun asked) = λ _. ⊤

-- a keep in memory was made of a new house, as the words set it up
pub record IsMadeNew {M : Type 0} (content : M → Tables) (words : HouseWords) : Type 0 where
  pub given : M
  pub new : IsNew words (content given)

-- so it was where a comparison begins with new houses
abbrev pub IsBegunNew : {M : Type 0} → (M → Tables) → Beginning → Type 0
IsBegunNew content (New words) = IsMadeNew content words
IsBegunNew content (House path) = ⊤

-- and of each task that is done over new houses in memory. What was answered over them isn't said here
abbrev pub HasNewHouse : {M : Type 0} → (M → Tables) → Task → Type 0
HasNewHouse content (Init path words) = ⊤
HasNewHouse content (Serve path asked) = ⊤
HasNewHouse content (Import path asked) = ⊤
HasNewHouse content (Statement path asked) = ⊤
HasNewHouse content (Bands path asked) = ⊤
HasNewHouse content (Upgrade path) = ⊤
HasNewHouse content (Replay words asked) = IsMadeNew content words
HasNewHouse content (Audit begun asked) = IsBegunNew content begun
HasNewHouse content (Surplus begun asked) = IsBegunNew content begun

-- this is left of the file, however the task ended
abbrev pub IsLeftOf : {C K R L : Type 0} → keep.Ghosts K → (C → ℕ → ℕ → Type 0) → (K → L → Type 0)
    → (K → L → Type 0)
    → (List ℕ → K → Type 0) → (List ℕ → Settings → K → Type 0) → (List ℕ → Bool → K → Type 0)
    → (List ℕ → R → Type 0) → (List ℕ → Settings → R → Type 0) → (List ℕ → R → Type 0)
    → (Zone → C × K → C × K → Type 0) → Task → Remains R L → Type 0
IsLeftOf k is_at is_ended is_left is_opened is_new is_upgraded is_held is_made is_grown Takes
    (Init path words) = IsLeftAs (IsLeftBy (is_made path.now) words)
    (HasDone (IsMadeBy (is_new path.now) words) (IsOver is_ended is_left))
IsLeftOf k is_at is_ended is_left is_opened is_new is_upgraded is_held is_made is_grown Takes
    (Serve path asked) = IsLeftAs (is_held path.now)
    (HasDone (is_opened path.now)
    (IsServedOver k (λ came. is_at came asked.port asked.count) is_ended is_left Takes asked.count))
IsLeftOf k is_at is_ended is_left is_opened is_new is_upgraded is_held is_made is_grown Takes
    (Import path asked) = IsLeftAs (is_held path.now)
    (HasDone (is_opened path.now)
    (IsOrderedOver k.content k.is_failed k.is_honest k.may_leave is_ended is_left
    (record { member = asked.member; moment = asked.moment })))
IsLeftOf k is_at is_ended is_left is_opened is_new is_upgraded is_held is_made is_grown Takes
    (Statement path asked) = IsLeftAs (is_held path.now)
    (HasDone (is_opened path.now)
    (IsReadOver k.content k.is_failed k.is_honest k.may_leave is_ended is_left))
IsLeftOf k is_at is_ended is_left is_opened is_new is_upgraded is_held is_made is_grown Takes
    (Bands path asked) = IsLeftAs (is_held path.now)
    (HasDone (is_opened path.now) (MayHaveSetTable k is_ended is_left asked.moment))
IsLeftOf k is_at is_ended is_left is_opened is_new is_upgraded is_held is_made is_grown Takes
    (Upgrade path) = IsLeftAs (is_grown path.now)
    (HasDone (IsUpgradedAs (is_upgraded path.now)) (IsOver is_ended is_left))
IsLeftOf k is_at is_ended is_left is_opened is_new is_upgraded is_held is_made is_grown Takes
    (Replay words asked) = λ _. ⊤
IsLeftOf k is_at is_ended is_left is_opened is_new is_upgraded is_held is_made is_grown Takes
    (Audit begun asked) = λ _. ⊤
IsLeftOf k is_at is_ended is_left is_opened is_new is_upgraded is_held is_made is_grown Takes
    (Surplus begun asked) = λ _. ⊤

-- words ask for no task with its numbers in their ranges, or `clap` doesn't take them
abbrev pub AskForNoTask : List (List ℕ) → Type 0
AskForNoTask words = takes house_app words ≡ true
    → (task : Task) → IsAsked words task → IsWithin task → ⊥

-- the task that words ask for was done, and left what is said of the keep that was ended. Of words that
-- ask for none, as for help, nothing is said
abbrev pub IsDoneAsAsked : {L : Type 0} → (Task → Option L → Type 0) → List (List ℕ) → Type 0
IsDoneAsAsked {L} Did words = AskForNoTask words
    ⊎ ((task : Task) × (left : Option L) × IsAsked words task × Did task left)

-- and so it was over a keep in a file, keeps in memory, and connections
abbrev pub HasRun : {K L M C I O : Type 0} → keep.Ghosts K → (K → L → Type 0)
    → (List ℕ → K → Type 0) → (List ℕ → Settings → K → Type 0) → (List ℕ → Bool → K → Type 0)
    → (M → Tables) → (C → ℕ → ℕ → Type 0) → source.Ghosts I → sink.Ghosts O
    → (C → Result (Option (Connection I O)) Failure → C → Type 0)
    → (C → Connection I O → Result Served ServeFault → C → Type 0) → List (List ℕ) → Type 0
HasRun k is_ended is_opened is_new is_upgraded content is_at input output accepts ends =
    IsDoneAsAsked (λ task left. IsDone k is_at is_ended is_opened is_new is_upgraded
    (λ zone. Takes k input output accepts ends zone most_messages) task left
    × HasNewHouse content task)
