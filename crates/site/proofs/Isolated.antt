-- Twin runs get the same replies, from any two histories on that are alike.
use Rattle.std.proofs.Common.{◌≡◌, ◌∙◌, ◌++◌, ◌∷◌, [], ℕ, List, Bool, refl, ap, inl, inr}
use Rattle.std.specs.Prelude.{if◌then◌else◌}
use Rattle.std.specs.List.{AllByRecursion, AllZip}
use Rattle.house_laws.specs.Alike.{AreAlike}
use Rattle.house_laws.proofs.Alike as laws
use Rattle.house_rows.specs.declared.settings.Settings.{Settings}
use Rattle.house_rows.specs.History.{History}
use Rattle.house_rows.specs.Runs.{rendered_from}
use Rattle.house_rows.specs.Tables.{Tables, tables_of}
use Rattle.house_rows.specs.Verdict.{IsHistory}
use Rattle.settle.specs.declared.zone.Zone.{Zone}
use Rattle.site_request.specs.Asked.{IsAsked}
use Rattle.site_request.specs.declared.asked.Asked.{Asked}
use Rattle.site_replies.specs.Texts.{IsServed}
use Rattle.site_replies.proofs.StatusLemmas.{memory_reported}
use Rattle.site.specs.Replies.{IsStep, next_of, reply_to}
use Rattle.site.specs.Lives.{IsAnsweredTheSame, LivesOn, TwinRunsFrom, asked_history}
use Rattle.site.specs.Runs.{InTurn, IsGoing, IsRun, TwinRuns, at_places, is_from, meant, rendered, replies_from, replies_to}
use Rattle.site.proofs.Steps.{not_both}
use Rattle.site.proofs.Turns.{Turns, one_asked, ran_of, ran_texts}

-- where every reply was served, the replies are those of the definitions
served_run : (settings : Settings) (zone : Zone) (h : History) (ms : List Asked)
    (rs : List (List ℕ)) (after : History)
    → IsRun settings zone h ms rs after → AllByRecursion IsServed rs
    → rs ≡ replies_from settings zone h ms
served_run settings zone h [] [] after run served = refl
served_run settings zone h [] (r ∷ rs) after run served = absurd run
served_run settings zone h (m ∷ ms) [] after run served = absurd run
served_run settings zone h (m ∷ ms) (r ∷ rs) after (inl (e, run)) served =
    rw (e, served_run settings zone (next_of settings h m) ms rs after run served.1) refl
served_run settings zone h (m ∷ ms) (r ∷ rs) after (inr (e, run)) served =
    absurd (not_both _ (memory_reported m.closes) (rw e at served.0.not_wanting))

-- and the history after them is that of all messages
served_after : (settings : Settings) (zone : Zone) (h : History) (ms : List Asked)
    (rs : List (List ℕ)) (after : History)
    → IsRun settings zone h ms rs after → AllByRecursion IsServed rs
    → after ≡ asked_history settings h ms
unfolding next_of
served_after settings zone h [] [] after run served = run
served_after settings zone h [] (r ∷ rs) after run served = absurd run
served_after settings zone h (m ∷ ms) [] after run served = absurd run
served_after settings zone h (m ∷ ms) (r ∷ rs) after (inl (e, run)) served =
    served_after settings zone (next_of settings h m) ms rs after run served.1
served_after settings zone h (m ∷ ms) (r ∷ rs) after (inr (e, run)) served =
    absurd (not_both _ (memory_reported m.closes) (rw e at served.0.not_wanting))

served_going : (rs : List (List ℕ)) → AllByRecursion IsServed rs → AllByRecursion IsGoing rs
served_going [] served = tt
served_going (r ∷ rs) served = (served.0.not_failed, served_going rs served.1)

-- the replies at a member's places are those to it
pub places_are : (settings : Settings) (zone : Zone) (c : ℕ) (h : History) (ms : List Asked)
    → at_places c ms (replies_from settings zone h ms)
    ≡ rendered_from meant (rendered zone) settings c h ms
unfolding reply_to next_of
places_are settings zone c h [] = refl
places_are settings zone c h (m ∷ ms) =
    ap (λ rest. (if is_from c m then reply_to settings zone h m ∷ [] else []) ++ rest)
    (places_are settings zone c (next_of settings h m) ms)

pub isolated : (settings : Settings) (zone : Zone) (c : ℕ) (left right : List Asked)
    → TwinRuns settings c left right
    → replies_to settings zone c left ≡ replies_to settings zone c right
isolated settings zone c left right twin =
    laws.isolation meant (rendered zone) settings c left right twin

-- a run that was served gives a member the replies that any twin run gives it
report_the_same : (settings : Settings) (zone : Zone) (h : History) (asked : List Asked)
    (rs : List (List ℕ)) (after : History)
    → IsRun settings zone h asked rs after → AllByRecursion IsServed rs
    → (c : ℕ) (k : History) (second : List Asked)
    → AreAlike settings c h k → TwinRunsFrom settings c h k asked second
    → IsAnsweredTheSame settings zone c h k asked second rs
report_the_same settings zone h asked rs after run served c k second alike twin = record {
  same = ap (at_places c asked) (served_run settings zone h asked rs after run served)
      ∙ places_are settings zone c h asked
      ∙ laws.rendered_same meant (rendered zone) settings c h k asked second alike twin;
  alike = laws.alike_again meant settings c h k asked second alike twin;
}

-- messages that were answered in turn over any history, and all of them served
pub lives_on : {K : Type 0} (content : K → Tables) (is_failed : K → Bool) (is_honest : K → Type 0)
    (may_leave : K → Tables → Type 0)
    (settings : Settings) (zone : Zone) (h : History) (asked : List Asked) (rs : List (List ℕ))
    (old new : K)
    → InTurn (IsStep content is_failed is_honest may_leave zone) asked rs old new → is_honest new
    → IsHistory settings h → content old ≡ tables_of settings h → AllByRecursion IsServed rs
    → LivesOn content settings zone h asked rs new
lives_on content is_failed is_honest may_leave settings zone h asked rs old new turn honest is e
    served =
    let ran = ran_of content is_failed is_honest may_leave settings zone h asked rs old new turn
    honest is e (served_going rs served) in
    let last = served_after settings zone h asked rs ran.after ran.run served in
    record {
      isolated = λ c k texts second are alike twin.
          report_the_same settings zone h asked rs ran.after ran.run served c k second alike twin;
      history = rw last at ran.history;
      tables = ran.tables ∙ ap (tables_of settings) last;
    }

-- of texts, whatever they ask
pub run_lives_on : {K : Type 0} (content : K → Tables) (is_failed : K → Bool)
    (is_honest : K → Type 0) (may_leave : K → Tables → Type 0)
    (settings : Settings) (zone : Zone) (h : History) (texts rs : List (List ℕ)) (old new : K)
    → Turns (IsStep content is_failed is_honest may_leave zone) texts rs old new → is_honest new
    → IsHistory settings h → content old ≡ tables_of settings h
    → (asked : List Asked) → AllZip IsAsked texts asked → AllByRecursion IsServed rs
    → LivesOn content settings zone h asked rs new
run_lives_on content is_failed is_honest may_leave settings zone h texts rs old new
    (ms, are, turn) honest is e asked also served =
    lives_on content is_failed is_honest may_leave settings zone h asked rs old new
    (rw (one_asked texts ms asked are also) at turn) honest is e served

-- over a new house
pub run_isolated : {K : Type 0} (content : K → Tables) (is_failed : K → Bool)
    (is_honest : K → Type 0) (may_leave : K → Tables → Type 0)
    (settings : Settings) (zone : Zone) (texts rs : List (List ℕ)) (old new : K)
    → Turns (IsStep content is_failed is_honest may_leave zone) texts rs old new → is_honest new
    → content old ≡ tables_of settings [] → AllByRecursion IsServed rs
    → (c : ℕ) (firsts seconds : List Asked) → AllZip IsAsked texts firsts
    → TwinRuns settings c firsts seconds
    → at_places c firsts rs ≡ replies_to settings zone c seconds
run_isolated content is_failed is_honest may_leave settings zone texts rs old new turns honest e
    served c firsts seconds are twin =
    let ran = ran_texts content is_failed is_honest may_leave settings zone [] texts rs old new
    turns honest tt e firsts are (served_going rs served) in
    (report_the_same settings zone [] firsts rs ran.after ran.run served c [] seconds
    (record { public = refl; own = refl; waiting = refl }) twin).same
