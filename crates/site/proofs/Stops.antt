-- Runs in which a reply reported a failure.
use Rattle.std.proofs.Common.{◌≡◌, ◌∙◌, ◌∷◌, [], ℕ, List, Bool, true, false, refl, sym, ap, inl, inr}
use Rattle.std.specs.List.{AllByRecursion, AllZip}
use Rattle.house_rows.specs.declared.settings.Settings.{Settings}
use Rattle.house_rows.specs.History.{History}
use Rattle.house_rows.specs.Runs.{reply}
use Rattle.house_rows.specs.Tables.{Tables, tables_of}
use Rattle.house_rows.specs.Verdict.{IsHistory}
use Rattle.house_rows.proofs.Put.{by_test}
use Rattle.settle.specs.declared.zone.Zone.{Zone}
use Rattle.site_request.specs.Asked.{IsAsked}
use Rattle.site_request.specs.declared.asked.Asked.{Asked}
use Rattle.site_replies.specs.Texts.{is_failure}
use Rattle.site_replies.proofs.StatusLemmas.{reply_served, store_reported}
use Rattle.site.specs.Replies.{IsDown, IsFailed, IsStep, Replies, next_of, reply_to}
use Rattle.site.specs.Runs.{AreDown, InTurn, IsGoing, StaysDown, Stopped}
use Rattle.site.proofs.Steps.{memory_goes, not_both}
use Rattle.site.proofs.Turns.{Turns, honest_before, next_is, one_asked, one_meaning, settled_next}

-- a store that failed stays so
failed_after : {K : Type 0} (content : K → Tables) (is_failed : K → Bool) (is_honest : K → Type 0)
    (may_leave : K → Tables → Type 0)
    (zone : Zone) (ms : List Asked) (rs : List (List ℕ)) (old new : K)
    → InTurn (IsStep content is_failed is_honest may_leave zone) ms rs old new
    → is_failed old ≡ true → is_failed new ≡ true
failed_after content is_failed is_honest may_leave zone [] [] old new turn failed = rw turn failed
failed_after content is_failed is_honest may_leave zone [] (r ∷ rs) old new turn failed =
    absurd turn
failed_after content is_failed is_honest may_leave zone (m ∷ ms) [] old new turn failed =
    absurd turn
failed_after content is_failed is_honest may_leave zone (m ∷ ms) (r ∷ rs) old new (mid, step, turn)
    failed =
    failed_after content is_failed is_honest may_leave zone ms rs mid new turn (step.stays failed)

-- each command and each read is answered so
pub down_after : {K : Type 0} (content : K → Tables) (is_failed : K → Bool) (is_honest : K → Type 0)
    (may_leave : K → Tables → Type 0)
    (zone : Zone) (ms : List Asked) (rs : List (List ℕ)) (old new : K)
    → InTurn (IsStep content is_failed is_honest may_leave zone) ms rs old new
    → is_failed old ≡ true → AreDown ms rs
down_after content is_failed is_honest may_leave zone [] [] old new turn failed = tt
down_after content is_failed is_honest may_leave zone [] (r ∷ rs) old new turn failed = absurd turn
down_after content is_failed is_honest may_leave zone (m ∷ ms) [] old new turn failed = absurd turn
down_after content is_failed is_honest may_leave zone (m ∷ ms) (r ∷ rs) old new (mid, step, turn)
    failed = (
      step.down (step.stays failed),
      down_after content is_failed is_honest may_leave zone ms rs mid
          new turn (step.stays failed),
    )

pub stays_down : {K : Type 0} (content : K → Tables) (is_failed : K → Bool)
    (is_honest : K → Type 0) (may_leave : K → Tables → Type 0)
    (zone : Zone) (ms : List Asked) (rs : List (List ℕ)) (old new : K)
    → InTurn (IsStep content is_failed is_honest may_leave zone) ms rs old new → StaysDown ms rs
stays_down content is_failed is_honest may_leave zone [] [] old new turn = tt
stays_down content is_failed is_honest may_leave zone [] (r ∷ rs) old new turn = absurd turn
stays_down content is_failed is_honest may_leave zone (m ∷ ms) [] old new turn = absurd turn
stays_down content is_failed is_honest may_leave zone (m ∷ ms) (r ∷ rs) old new
    (mid, step, turn) = (
      (λ report. down_after content is_failed is_honest may_leave zone ms rs mid new turn
          (step.store report).0),
      stays_down content is_failed is_honest may_leave zone ms rs mid new turn,
    )

-- and a crash leaves nothing that it could not have left before
left_after : {K : Type 0} (content : K → Tables) (is_failed : K → Bool) (is_honest : K → Type 0)
    (may_leave : K → Tables → Type 0)
    (zone : Zone) (ms : List Asked) (rs : List (List ℕ)) (old new : K)
    → InTurn (IsStep content is_failed is_honest may_leave zone) ms rs old new → is_honest new
    → is_failed old ≡ true
    → (t : Tables) → may_leave new t → may_leave old t
left_after content is_failed is_honest may_leave zone [] [] old new turn honest failed t may =
    rw turn at may
left_after content is_failed is_honest may_leave zone [] (r ∷ rs) old new turn honest failed t may =
    absurd turn
left_after content is_failed is_honest may_leave zone (m ∷ ms) [] old new turn honest failed t may =
    absurd turn
left_after content is_failed is_honest may_leave zone (m ∷ ms) (r ∷ rs) old new (mid, step, turn)
    honest failed t may =
    elim (step.crash (honest_before content is_failed is_honest may_leave zone ms rs mid new turn
    honest) t
    (left_after content is_failed is_honest may_leave zone ms rs mid new turn honest
    (step.stays failed) t may)) [
      | inl could ↦ could
      | inr acts ↦ absurd (not_both _ failed acts.0)
    ]

-- a message before a run that stopped
stopped_later : {K : Type 0} (content : K → Tables) (is_failed : K → Bool)
    (may_leave : K → Tables → Type 0) (settings : Settings) (zone : Zone) (h : History)
    (m : Asked) (r : List ℕ) (ms : List Asked) (rs : List (List ℕ)) (old mid new : K)
    → IsHistory settings h → content old ≡ tables_of settings h
    → Replies content is_failed may_leave settings zone h m r old mid
    → ¬ (IsFailed m r (is_failed mid))
    → ((k : History) → IsHistory settings k → content mid ≡ tables_of settings k
    → Stopped content is_failed may_leave settings zone k ms rs mid new)
    → Stopped content is_failed may_leave settings zone h (m ∷ ms) (r ∷ rs) old new
stopped_later content is_failed may_leave settings zone h m r ms rs old mid new is e replied going
    rest =
    elim replied.outcome [
      | inl done ↦ (let stop = rest (next_of settings h m) (next_is settings h m is) done.tables in
          record {
            first = m ∷ stop.first;
            last = stop.last;
            later = stop.later;
            parts = ap (λ x. m ∷ x) stop.parts;
            first_replies = r ∷ stop.first_replies;
            later_replies = stop.later_replies;
            replied = ap (λ x. r ∷ x) stop.replied;
            after = stop.after;
            run = inl (done.report, stop.run);
            history = stop.history;
            down = stop.down;
            failed = stop.failed;
            left = λ first. stop.left
                (settled_next content is_failed may_leave settings zone h m r old
                mid e done replied.crash first);
          })
      | inr other ↦ elim other [
        | inl wanting ↦ (let stop = rest h is (wanting.tables ∙ e) in record {
          first = m ∷ stop.first;
          last = stop.last;
          later = stop.later;
          parts = ap (λ x. m ∷ x) stop.parts;
          first_replies = r ∷ stop.first_replies;
          later_replies = stop.later_replies;
          replied = ap (λ x. r ∷ x) stop.replied;
          after = stop.after;
          run = inr (wanting.report, stop.run);
          history = stop.history;
          down = stop.down;
          failed = stop.failed;
          left = λ first. stop.left (λ t may. first t (wanting.left t may) ∙ sym wanting.tables);
        })
        | inr failed ↦ absurd (going failed)
      ]
    ]

-- a reply and a refusal of memory don't report a failure
failed_if : {K : Type 0} (content : K → Tables) (is_failed : K → Bool)
    (may_leave : K → Tables → Type 0) (settings : Settings) (zone : Zone) (h : History)
    (m : Asked) (r : List ℕ) (old mid : K)
    → Replies content is_failed may_leave settings zone h m r old mid → is_failure r ≡ true
    → IsFailed m r (is_failed mid)
unfolding reply_to
failed_if content is_failed may_leave settings zone h m r old mid replied failing =
    elim replied.outcome [
      | inl done ↦ absurd (not_both _ (rw done.report at failing)
          (reply_served zone m.closes (reply settings h m.message)).not_failed)
      | inr other ↦ elim other [
        | inl wanting ↦ absurd (not_both _ (rw wanting.report at failing) (memory_goes m.closes))
        | inr failed ↦ failed
      ]
    ]

not_failed_if : (m : Asked) (r : List ℕ) (failed : Bool) → is_failure r ≡ false
    → ¬ (IsFailed m r failed)
not_failed_if m r failed going is = not_both _ (store_reported m.closes) (rw is.report at going)

-- a run in which a reply reported a failure stopped
pub stopped_of : {K : Type 0} (content : K → Tables) (is_failed : K → Bool) (is_honest : K → Type 0)
    (may_leave : K → Tables → Type 0)
    (settings : Settings) (zone : Zone) (h : History) (ms : List Asked) (rs : List (List ℕ))
    (old new : K)
    → InTurn (IsStep content is_failed is_honest may_leave zone) ms rs old new → is_honest new
    → IsHistory settings h → content old ≡ tables_of settings h → ¬ (AllByRecursion IsGoing rs)
    → Stopped content is_failed may_leave settings zone h ms rs old new
stopped_of content is_failed is_honest may_leave settings zone h [] [] old new turn honest is e
    stopped = absurd (stopped tt)
stopped_of content is_failed is_honest may_leave settings zone h [] (r ∷ rs) old new turn honest is
    e stopped = absurd turn
stopped_of content is_failed is_honest may_leave settings zone h (m ∷ ms) [] old new turn honest is
    e stopped = absurd turn
stopped_of content is_failed is_honest may_leave settings zone h (m ∷ ms) (r ∷ rs) old new
    (mid, step, turn) honest is e stopped =
    let replied = step.replies (honest_before content is_failed is_honest may_leave zone ms rs mid
    new turn honest) settings h is e in
    elim (by_test (is_failure r)) [
      | inl failing ↦ (let failed = failed_if content is_failed may_leave settings zone h m r old
          mid replied failing in record {
            first = [];
            last = m;
            later = ms;
            parts = refl;
            first_replies = [];
            later_replies = rs;
            replied = ap (λ x. x ∷ rs) failed.report;
            after = h;
            run = refl;
            history = is;
            down = down_after content is_failed is_honest may_leave zone ms rs mid new turn
                failed.failed;
            failed = failed_after content is_failed is_honest may_leave zone ms rs mid new turn
                failed.failed;
            left = λ first t may.
                elim (replied.crash t
                (left_after content is_failed is_honest may_leave zone ms rs mid
                new turn honest failed.failed t may)) [
                  | inl could ↦ inl (first t could ∙ e)
                  | inr acts ↦ inr acts.1
                ];
          })
      | inr going ↦ stopped_later content is_failed may_leave settings zone h m r ms rs old mid new
          is e replied (not_failed_if m r (is_failed mid) going)
          (λ k also same. stopped_of content is_failed is_honest may_leave settings zone k ms rs mid
          new turn honest also same (λ all. stopped (going, all)))
    ]

pub stopped_texts : {K : Type 0} (content : K → Tables) (is_failed : K → Bool)
    (is_honest : K → Type 0) (may_leave : K → Tables → Type 0)
    (settings : Settings) (zone : Zone) (h : History) (texts rs : List (List ℕ)) (old new : K)
    → Turns (IsStep content is_failed is_honest may_leave zone) texts rs old new → is_honest new
    → IsHistory settings h → content old ≡ tables_of settings h → (asked : List Asked)
    → AllZip IsAsked texts asked
    → ¬ (AllByRecursion IsGoing rs)
    → Stopped content is_failed may_leave settings zone h asked rs old new
stopped_texts content is_failed is_honest may_leave settings zone h texts rs old new (ms, are, turn)
    honest is e asked also stopped =
    stopped_of content is_failed is_honest may_leave settings zone h asked rs old new
    (rw (one_asked texts ms asked are also) at turn) honest is e stopped

-- of texts, whatever they ask
pub down_text : {K : Type 0} (content : K → Tables) (is_failed : K → Bool)
    (is_honest : K → Type 0) (may_leave : K → Tables → Type 0)
    (zone : Zone) (text r : List ℕ) (old new : K)
    → (m : Asked) × IsAsked text m × IsStep content is_failed is_honest may_leave zone m r old new
    → is_failed old ≡ true → (asked : Asked) → IsAsked text asked → IsDown asked r
down_text content is_failed is_honest may_leave zone text r old new (m, is, step) failed asked
    also =
    rw (one_meaning text m asked is also) at (step.down (step.stays failed))

pub down_texts : {K : Type 0} (content : K → Tables) (is_failed : K → Bool)
    (is_honest : K → Type 0) (may_leave : K → Tables → Type 0)
    (zone : Zone) (texts rs : List (List ℕ)) (old new : K)
    → Turns (IsStep content is_failed is_honest may_leave zone) texts rs old new
    → is_failed old ≡ true → (asked : List Asked) → AllZip IsAsked texts asked → AreDown asked rs
down_texts content is_failed is_honest may_leave zone texts rs old new (ms, are, turn) failed asked
    also =
    down_after content is_failed is_honest may_leave zone asked rs old new
    (rw (one_asked texts ms asked are also) at turn) failed

pub stays_texts : {K : Type 0} (content : K → Tables) (is_failed : K → Bool)
    (is_honest : K → Type 0) (may_leave : K → Tables → Type 0)
    (zone : Zone) (texts rs : List (List ℕ)) (old new : K)
    → Turns (IsStep content is_failed is_honest may_leave zone) texts rs old new
    → (asked : List Asked) → AllZip IsAsked texts asked → StaysDown asked rs
stays_texts content is_failed is_honest may_leave zone texts rs old new (ms, are, turn) asked
    also =
    stays_down content is_failed is_honest may_leave zone asked rs old new
    (rw (one_asked texts ms asked are also) at turn)
