-- A stream over whatever history a house has: its replies to a member, and what it leaves.
use Rattle.std.specs.Prelude.{◌≡◌, ℕ, ◌≤◌, List, ◌++◌, map, take, drop, Bool, Option, Result, IsOk}
use Rattle.std.specs.Io.KnownBytes.{Appends, Consumes}
use Rattle.std.specs.List.{AllByRecursion, concat}
use Rattle.device.specs.Given.{AppendsBeginning}
use Rattle.house_rows.specs.declared.settings.Settings.{Settings}
use Rattle.house_rows.specs.History.{History}
use Rattle.house_rows.specs.Tables.{Tables, tables_of}
use Rattle.house_rows.specs.Verdict.{IsHistory}
use Rattle.settle.specs.declared.zone.Zone.{Zone}
use Rattle.site.specs.Replies.{IsStep}
use Rattle.site.specs.Lives.{LeavesALife, LivesOn}
use Rattle.site.specs.Runs.{InTurn}
use Rattle.site_replies.specs.Texts.{IsServed}
use Rattle.wire.specs.Cut.{Cut, Stop}
use Rattle.wire.specs.Message.{Message}
use Rattle.site_serve.specs.Serving.{heard, rest_bytes}
use Rattle.site_serve.specs.declared.server.ServeFault.{ServeFault}
use Rattle.site_serve.specs.declared.server.Served.{Served}

-- however serving ended: these messages of what was read were answered in turn. What was written is
-- a beginning of their replies and that to a broken rest, and all of it where serving ended well.
-- Over every history whose tables the keep had: where all were served, the replies are isolated,
-- and the keep has the tables of the history after them
pub record HasLived {K : Type 0} (content : K → Tables) (is_failed : K → Bool)
    (is_honest : K → Type 0) (may_leave : K → Tables → Type 0) (zone : Zone)
    (left now : Option (List ℕ)) (most : ℕ) (before after : Option (List ℕ))
    (report : Result Served ServeFault) (old new : K) : Type 0 where
  pub read : List ℕ
  pub took : Consumes left now read
  pub count : ℕ
  pub few : count ≤ most
  pub messages : List Message
  pub rest : List ℕ
  pub stop : Stop
  pub cut : Cut read count messages rest stop
  pub replies : List (List ℕ)
  pub answered : InTurn (IsStep content is_failed is_honest may_leave zone) (map heard messages)
      replies old new
  pub written : AppendsBeginning before after (concat replies ++ rest_bytes stop)
  pub whole : IsOk report → Appends before after (concat replies ++ rest_bytes stop)
  pub lives_on : is_honest new → (settings : Settings) (h : History) → IsHistory settings h
      → content old ≡ tables_of settings h → AllByRecursion IsServed replies
      → LivesOn content settings zone h (map heard messages) replies new

-- what a crash leaves of such messages, over every history whose tables the keep had: the tables of
-- a life, as it ended and after so many of them
pub record LeavesLives {K : Type 0} (content : K → Tables) (is_failed : K → Bool)
    (is_honest : K → Type 0) (may_leave : K → Tables → Type 0) (zone : Zone)
    (left now : Option (List ℕ)) (most : ℕ) (before after : Option (List ℕ))
    (report : Result Served ServeFault) (old new : K) : Type 0 where
  pub lived : HasLived content is_failed is_honest may_leave zone left now most before after report
      old new
  pub at_end : is_honest new → (settings : Settings) (h : History) → IsHistory settings h
      → content old ≡ tables_of settings h
      → LeavesALife content may_leave settings zone h (map heard lived.messages) lived.replies
      old new
  pub at_each : is_honest new → (n : ℕ) → (between : K)
      × InTurn (IsStep content is_failed is_honest may_leave zone)
      (take n (map heard lived.messages)) (take n lived.replies) old between
      × InTurn (IsStep content is_failed is_honest may_leave zone)
      (drop n (map heard lived.messages)) (drop n lived.replies) between new
      × ((settings : Settings) (h : History) → IsHistory settings h
      → content old ≡ tables_of settings h
      → LeavesALife content may_leave settings zone h (take n (map heard lived.messages))
      (take n lived.replies) old between)
