-- What a crash leaves of messages answered in turn: the tables of a life.
use Rattle.std.proofs.Common.{◌≡◌, ◌⊎◌, ◌∙◌, ◌∷◌, [], ℕ, List, Bool, true, false, None, Some, refl, ap, inl, inr}
use Rattle.std.specs.List.{AllByRecursion, AllZip}
use Rattle.house_rows.specs.declared.settings.Settings.{Settings}
use Rattle.house_rows.specs.History.{History}
use Rattle.house_rows.specs.Runs.{reply}
use Rattle.house_rows.specs.Tables.{Tables, tables_of}
use Rattle.house_rows.specs.Verdict.{IsHistory}
use Rattle.house_rows.proofs.Put.{by_test}
use Rattle.settle.specs.declared.zone.Zone.{Zone}
use Rattle.site_request.specs.Asked.{IsAsked}
use Rattle.site_request.specs.declared.asked.Asked.{Asked}
use Rattle.site_replies.specs.Texts.{is_failure, is_refusal_of_memory}
use Rattle.site_replies.proofs.StatusLemmas.{memory_reported, reply_served}
use Rattle.site.specs.Replies.{IsStep, next_of, reply_to}
use Rattle.site.specs.Lives.{AreAnswered, LeavesALife, WasCut, asked_history, served_among, served_replies}
use Rattle.site.specs.Runs.{InTurn, IsGoing, IsRun, Ran, Stopped, at_places, replies_from}
use Rattle.site.proofs.Isolated.{places_are}
use Rattle.site.proofs.Steps.{memory_goes, not_both}
use Rattle.site.proofs.Stops.{stopped_of}
use Rattle.site.proofs.Turns.{Turns, one_asked, ran_of}

-- the reply of the definitions is no 503, and no 500
reply_is_no_refusal : (settings : Settings) (zone : Zone) (h : History) (m : Asked)
    → is_refusal_of_memory (reply_to settings zone h m) ≡ false
unfolding reply_to
reply_is_no_refusal settings zone h m =
    (reply_served zone m.closes (reply settings h m.message)).not_wanting

reply_goes : (settings : Settings) (zone : Zone) (h : History) (m : Asked)
    → IsGoing (reply_to settings zone h m)
unfolding reply_to
reply_goes settings zone h m =
    (reply_served zone m.closes (reply settings h m.message)).not_failed

-- no reply of a run says that the store failed
run_goes : (settings : Settings) (zone : Zone) (h : History) (ms : List Asked)
    (rs : List (List ℕ)) (after : History) → IsRun settings zone h ms rs after
    → AllByRecursion IsGoing rs
run_goes settings zone h [] [] after run = tt
run_goes settings zone h [] (r ∷ rs) after run = absurd run
run_goes settings zone h (m ∷ ms) [] after run = absurd run
run_goes settings zone h (m ∷ ms) (r ∷ rs) after (inl (e, run)) = (
  rw e (reply_goes settings zone h m),
  run_goes settings zone (next_of settings h m) ms rs after run,
)
run_goes settings zone h (m ∷ ms) (r ∷ rs) after (inr (e, run)) =
    (rw e (memory_goes m.closes), run_goes settings zone h ms rs after run)

-- the history after a run is that of what was served in it
run_served : (settings : Settings) (zone : Zone) (h : History) (ms : List Asked)
    (rs : List (List ℕ)) (after : History) → IsRun settings zone h ms rs after
    → after ≡ asked_history settings h (served_among ms rs)
unfolding next_of
run_served settings zone h [] [] after run = run
run_served settings zone h [] (r ∷ rs) after run = absurd run
run_served settings zone h (m ∷ ms) [] after run = absurd run
run_served settings zone h (m ∷ ms) (r ∷ rs) after (inl (e, run)) =
    rw (ap is_refusal_of_memory e ∙ reply_is_no_refusal settings zone h m)
    (run_served settings zone (next_of settings h m) ms rs after run)
run_served settings zone h (m ∷ ms) (r ∷ rs) after (inr (e, run)) =
    rw (ap is_refusal_of_memory e ∙ memory_reported m.closes)
    (run_served settings zone h ms rs after run)

-- and the replies to that are those of the definitions
run_tells : (settings : Settings) (zone : Zone) (h : History) (ms : List Asked)
    (rs : List (List ℕ)) (after : History) → IsRun settings zone h ms rs after
    → served_replies rs ≡ replies_from settings zone h (served_among ms rs)
run_tells settings zone h [] [] after run = refl
run_tells settings zone h [] (r ∷ rs) after run = absurd run
run_tells settings zone h (m ∷ ms) [] after run = absurd run
run_tells settings zone h (m ∷ ms) (r ∷ rs) after (inl (e, run)) =
    rw (ap is_refusal_of_memory e ∙ reply_is_no_refusal settings zone h m)
    (rw (e, run_tells settings zone (next_of settings h m) ms rs after run) refl)
run_tells settings zone h (m ∷ ms) (r ∷ rs) after (inr (e, run)) =
    rw (ap is_refusal_of_memory e ∙ memory_reported m.closes)
    (run_tells settings zone h ms rs after run)

answered_by : (settings : Settings) (zone : Zone) (h : History) (ms : List Asked)
    (rs : List (List ℕ)) (after : History) → IsRun settings zone h ms rs after
    → AreAnswered settings zone h ms rs (served_among ms rs)
answered_by settings zone h ms rs after run = record {
  going = run_goes settings zone h ms rs after run;
  are = refl;
  report = λ c. ap (at_places c (served_among ms rs)) (run_tells settings zone h ms rs after run)
      ∙ places_are settings zone c h (served_among ms rs);
}

going_or_not : (rs : List (List ℕ)) → AllByRecursion IsGoing rs ⊎ ¬ (AllByRecursion IsGoing rs)
going_or_not [] = inl tt
going_or_not (r ∷ rs) = elim (by_test (is_failure r)) [
  | inl failing ↦ inr (λ all. not_both _ failing all.0)
  | inr going ↦ elim (going_or_not rs) [
    | inl all ↦ inl (going, all)
    | inr not ↦ inr (λ all. not all.1)
  ]
]

-- where the store didn't fail, nothing is in flight
ran_leaves : {K : Type 0} (content : K → Tables) (is_failed : K → Bool)
    (may_leave : K → Tables → Type 0) (settings : Settings) (zone : Zone) (h : History)
    (ms : List Asked) (rs : List (List ℕ)) (old new : K)
    → Ran content is_failed may_leave settings zone h ms rs old new
    → LeavesALife content may_leave settings zone h ms rs old new
ran_leaves content is_failed may_leave settings zone h ms rs old new ran = λ first t may. (
  record { answered = served_among ms rs; in_flight = None },
  answered_by settings zone h ms rs ran.after ran.run,
  ran.settled first t may ∙ ran.tables
      ∙ ap (tables_of settings) (run_served settings zone h ms rs ran.after ran.run),
)

-- where it failed, the message in which it did is in flight
stopped_leaves : {K : Type 0} (content : K → Tables) (is_failed : K → Bool)
    (may_leave : K → Tables → Type 0) (settings : Settings) (zone : Zone) (h : History)
    (ms : List Asked) (rs : List (List ℕ)) (old new : K)
    → Stopped content is_failed may_leave settings zone h ms rs old new
    → LeavesALife content may_leave settings zone h ms rs old new
unfolding next_of
stopped_leaves content is_failed may_leave settings zone h ms rs old new stop = λ first t may.
    let served = served_among stop.first stop.first_replies in
    let last = run_served settings zone h stop.first stop.first_replies stop.after stop.run in
    let cut : WasCut settings zone h ms rs served stop.last = record {
      first = stop.first;
      later = stop.later;
      parts = stop.parts;
      first_replies = stop.first_replies;
      later_replies = stop.later_replies;
      replied = stop.replied;
      answered = answered_by settings zone h stop.first stop.first_replies stop.after stop.run;
      down = stop.down;
    } in
    elim (stop.left first t may) [
      | inl out ↦ (
        record {
          answered = served;
          in_flight = Some (record { element = stop.last; is_in = false });
        },
        cut,
        out ∙ ap (tables_of settings) last,
      )
      | inr in_it ↦ (
        record {
          answered = served;
          in_flight = Some (record { element = stop.last; is_in = true });
        },
        cut,
        in_it ∙ ap (λ k. tables_of settings (next_of settings k stop.last)) last,
      )
    ]

-- messages answered in turn
pub leaves_a_life : {K : Type 0} (content : K → Tables) (is_failed : K → Bool)
    (is_honest : K → Type 0) (may_leave : K → Tables → Type 0)
    (settings : Settings) (zone : Zone) (h : History) (ms : List Asked) (rs : List (List ℕ))
    (old new : K)
    → InTurn (IsStep content is_failed is_honest may_leave zone) ms rs old new → is_honest new
    → IsHistory settings h → content old ≡ tables_of settings h
    → LeavesALife content may_leave settings zone h ms rs old new
leaves_a_life content is_failed is_honest may_leave settings zone h ms rs old new turn honest is e =
    elim (going_or_not rs) [
      | inl going ↦ ran_leaves content is_failed may_leave settings zone h ms rs old new
          (ran_of content is_failed is_honest may_leave settings zone h ms rs old new turn honest is
          e going)
      | inr not ↦ stopped_leaves content is_failed may_leave settings zone h ms rs old new
          (stopped_of content is_failed is_honest may_leave settings zone h ms rs old new turn
          honest is e not)
    ]

-- of texts, whatever they ask
pub run_leaves : {K : Type 0} (content : K → Tables) (is_failed : K → Bool)
    (is_honest : K → Type 0) (may_leave : K → Tables → Type 0)
    (settings : Settings) (zone : Zone) (h : History) (texts rs : List (List ℕ)) (old new : K)
    → Turns (IsStep content is_failed is_honest may_leave zone) texts rs old new → is_honest new
    → IsHistory settings h → content old ≡ tables_of settings h
    → (asked : List Asked) → AllZip IsAsked texts asked
    → LeavesALife content may_leave settings zone h asked rs old new
run_leaves content is_failed is_honest may_leave settings zone h texts rs old new (ms, are, turn)
    honest is e asked also =
    leaves_a_life content is_failed is_honest may_leave settings zone h asked rs old new
    (rw (one_asked texts ms asked are also) at turn) honest is e
