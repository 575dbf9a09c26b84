-- What a crash leaves, message by message.
use Rattle.std.proofs.Common.{◌≡◌, ◌≢◌, ◌⊎◌, ◌∙◌, ◌++◌, ◌∷◌, [], ℕ, ◌+◌, ◌<◌, ◌≤◌, zero, suc, List, Bool, true, false, Option, Some, None, Err, arith, append-nil, length, length-append, map, take, drop, refl, sym, ap, subst, inl, inr}
use Rattle.std.specs.Prelude.{IsOk, Result, is_none}
use Rattle.std.specs.Io.KnownBytes.{Appends, Consumes, Keeps}
use Rattle.std.specs.List.{concat}
use Rattle.std.proofs.KnownBytes.{Appends-kept, Appends-trans, Consumes-kept, Keeps-refl}
use Rattle.std.proofs.lemmas.List.{take-append-le}
use Rattle.std.proofs.Math.Seq.{take-append-add}
use Rattle.device.specs.Given.{AppendsBeginning}
use Rattle.house_rows.specs.declared.command.Command.{Command}
use Rattle.house_rows.specs.declared.message.Message.{Message as Meant}
use Rattle.house_rows.specs.declared.message.Message.TheVariants.{Write, Read, Broken}
use Rattle.house_rows.specs.declared.refusal.Refusal.{Refusal}
use Rattle.house_rows.specs.declared.settings.Settings.{Settings}
use Rattle.house_rows.specs.History.{History}
use Rattle.house_rows.specs.Runs.{next}
use Rattle.house_rows.specs.Tables.{Tables, tables_of}
use Rattle.house_rows.specs.Verdict.{IsHistory, verdict}
use Rattle.house_rows.proofs.Next.{next_broken, next_is_history, next_read, next_refused}
use Rattle.house_rows.proofs.Put.{by_test}
use Rattle.settle.specs.declared.zone.Zone.{Zone}
use Rattle.site.specs.Replies.{IsAnswered, IsFailed, IsStep, IsWanting, next_of}
use Rattle.site.specs.Runs.{AreDown, InTurn}
use Rattle.site.proofs.Isolated.{lives_on}
use Rattle.site.proofs.Left.{leaves_a_life}
use Rattle.site.proofs.Stops.{down_after, stays_down}
use Rattle.site_acts.specs.Acted.{is_entered}
use Rattle.site_request.specs.declared.asked.Asked.{Asked}
use Rattle.site_request.specs.declared.fault.RequestFault.{RequestFault}
use Rattle.wire.specs.Cut.{Cut, Stop, broken, closed, limit}
use Rattle.wire.specs.Frame.{IsFront, IsMessageAt}
use Rattle.wire.specs.Look.{IsFaultOf}
use Rattle.wire.specs.Message.{Message}
use Rattle.wire.specs.declared.fault.WireFault.{WireFault}
use Rattle.site_serve.specs.Ends.{HasEnded, HasFailed, IsKept}
use Rattle.site_serve.specs.Lives.{HasLived, LeavesLives}
use Rattle.site_serve.specs.Serving.{fault_bytes, heard, rest_bytes}
use Rattle.site_serve.specs.declared.server.ServeFault.{ServeFault}
use Rattle.site_serve.specs.declared.server.ServeFault.TheVariants as fault
use Rattle.site_serve.specs.declared.server.Served.{Served}
use Rattle.site_serve.proofs.Cuts.{concat_push, cut_closed, cut_last, cut_of, ends, turn_push}
use Rattle.site_serve.proofs.Runs.{Serving, whole_begins}

-- messages answered in turn, parted in two
parted : {K : Type 0} (Step : Asked → List ℕ → K → K → Type 0) (n : ℕ) (ms : List Asked)
    (rs : List (List ℕ)) (old new : K) → InTurn Step ms rs old new
    → (between : K) × InTurn Step (take n ms) (take n rs) old between
    × InTurn Step (drop n ms) (drop n rs) between new
parted Step zero ms rs old new turn = (old, refl, turn)
parted Step (suc n) [] [] old new turn = (old, refl, turn)
parted Step (suc n) [] (r ∷ rs) old new turn = absurd turn
parted Step (suc n) (m ∷ ms) [] old new turn = absurd turn
parted Step (suc n) (m ∷ ms) (r ∷ rs) old new (mid, step, turn) =
    let (between, first, later) = parted Step n ms rs mid new turn in
    (between, (mid, step, first), later)

-- what is honest after them was so before
honest_before : {K : Type 0} (content : K → Tables) (is_failed : K → Bool)
    (is_honest : K → Type 0) (may_leave : K → Tables → Type 0)
    (zone : Zone) (ms : List Asked) (rs : List (List ℕ)) (old new : K)
    → InTurn (IsStep content is_failed is_honest may_leave zone) ms rs old new → is_honest new
    → is_honest old
honest_before content is_failed is_honest may_leave zone [] [] old new turn honest =
    rw turn at honest
honest_before content is_failed is_honest may_leave zone [] (r ∷ rs) old new turn honest =
    absurd turn
honest_before content is_failed is_honest may_leave zone (m ∷ ms) [] old new turn honest =
    absurd turn
honest_before content is_failed is_honest may_leave zone (m ∷ ms) (r ∷ rs) old new (mid, step, turn)
    honest =
    step.honest (honest_before content is_failed is_honest may_leave zone ms rs mid new turn honest)

-- after a store that has failed: it stays so, what asks it for anything is answered so, and a crash
-- leaves nothing that it could not have left before
pub record Failing {K : Type 0} (is_failed : K → Bool) (is_honest : K → Type 0)
    (may_leave : K → Tables → Type 0) (ms : List Asked) (rs : List (List ℕ)) (old new : K)
    : Type 0 where
  pub failed : is_failed new ≡ true
  pub down : AreDown ms rs
  pub left : is_honest new → (t : Tables) → may_leave new t → may_leave old t

not_both : (b : Bool) → b ≡ true → b ≡ false → ⊥
not_both true is not = cc
not_both false is not = cc

failing : {K : Type 0} (content : K → Tables) (is_failed : K → Bool) (is_honest : K → Type 0)
    (may_leave : K → Tables → Type 0)
    (zone : Zone) (ms : List Asked) (rs : List (List ℕ)) (old new : K)
    → InTurn (IsStep content is_failed is_honest may_leave zone) ms rs old new
    → is_failed old ≡ true → Failing is_failed is_honest may_leave ms rs old new
failing content is_failed is_honest may_leave zone [] [] old new turn failed =
    rw turn (record { failed = failed; down = tt; left = λ honest t may. may })
failing content is_failed is_honest may_leave zone [] (r ∷ rs) old new turn failed = absurd turn
failing content is_failed is_honest may_leave zone (m ∷ ms) [] old new turn failed = absurd turn
failing content is_failed is_honest may_leave zone (m ∷ ms) (r ∷ rs) old new (mid, step, turn)
    failed =
    let rest = failing content is_failed is_honest may_leave zone ms rs mid new turn
    (step.stays failed) in
    record {
      failed = rest.failed;
      down = (step.down (step.stays failed), rest.down);
      left = λ honest t may.
          elim (step.crash (honest_before content is_failed is_honest may_leave zone ms rs mid new
          turn honest) t (rest.left honest t may)) [
            | inl could ↦ could
            | inr acts ↦ absurd (not_both _ failed acts.0)
          ];
    }

-- the history after a message is one too
next_is : (settings : Settings) (h : History) (m : Asked) → IsHistory settings h
    → IsHistory settings (next_of settings h m)
unfolding next_of
next_is settings h m is = next_is_history settings h m.message is

-- a message that wasn't entered leaves the history
stays_if : (settings : Settings) (h : History) (moment caller : ℕ) (command : Command)
    (o : Option Refusal) → verdict settings h moment caller command ≡ o → is_none o ≡ false
    → next {F = RequestFault} settings h (Write moment caller command) ≡ h
stays_if settings h moment caller command None e not = cc
stays_if settings h moment caller command (Some refusal) e not =
    next_refused RequestFault settings h moment caller command refusal e

stays : (settings : Settings) (h : History) (m : Meant RequestFault) → is_entered settings h m ≡ false
    → next settings h m ≡ h
stays settings h (Write moment caller command) not =
    stays_if settings h moment caller command (verdict settings h moment caller command) refl not
stays settings h (Read caller query) not = next_read RequestFault settings h caller query
stays settings h (Broken caller fault) not = next_broken settings h caller fault

not_entered : (settings : Settings) (h : History) (m : Asked)
    → is_entered settings h m.message ≡ false → next_of settings h m ≡ h
unfolding next_of
not_entered settings h m not = stays settings h m.message not

-- one more message before those that were kept
kept_after_reply : {K : Type 0} (content : K → Tables) (is_failed : K → Bool)
    (may_leave : K → Tables → Type 0) (settings : Settings) (zone : Zone) (h after : History)
    (m : Asked) (r : List ℕ) (ms : List Asked) (rs : List (List ℕ)) (old mid new : K)
    → IsAnswered content is_failed may_leave settings zone h m r old mid
    → ((t : Tables) → may_leave mid t → may_leave old t
    ⊎ ((is_failed old ≡ false) × (t ≡ tables_of settings (next_of settings h m))))
    → IsKept content is_failed may_leave settings zone (next_of settings h m) ms rs after mid new
    → IsKept content is_failed may_leave settings zone h (m ∷ ms) (r ∷ rs) after old new
kept_after_reply content is_failed may_leave settings zone h after m r ms rs old mid new done
    crash kept =
    record {
      run = inl (done.report, kept.run);
      history = kept.history;
      tables = kept.tables;
      same = kept.same ∙ done.same;
      crash = λ t may. elim (kept.crash t may) [
        | inl now ↦ inl now
        | inr still ↦ elim (by_test (is_entered settings h m.message)) [
          | inl entered ↦ inl (done.kept entered t still.1 ∙ done.tables
              ∙ ap (tables_of settings) (sym still.0))
          | inr not ↦ elim (crash t still.1) [
            | inl could ↦ inr (still.0 ∙ not_entered settings h m not, could)
            | inr acts ↦ inl (acts.1 ∙ ap (tables_of settings) (sym still.0))
          ]
        ]
      ];
    }

kept_after_refusal : {K : Type 0} (content : K → Tables) (is_failed : K → Bool)
    (may_leave : K → Tables → Type 0) (settings : Settings) (zone : Zone) (h after : History)
    (m : Asked) (r : List ℕ) (ms : List Asked) (rs : List (List ℕ)) (old mid new : K)
    → IsWanting content is_failed may_leave m r old mid
    → IsKept content is_failed may_leave settings zone h ms rs after mid new
    → IsKept content is_failed may_leave settings zone h (m ∷ ms) (r ∷ rs) after old new
kept_after_refusal content is_failed may_leave settings zone h after m r ms rs old mid new wanting
    kept =
    record {
      run = inr (wanting.report, kept.run);
      history = kept.history;
      tables = kept.tables;
      same = kept.same ∙ wanting.same;
      crash = λ t may. elim (kept.crash t may) [
        | inl now ↦ inl now
        | inr still ↦ inr (still.0, wanting.left t still.1)
      ];
    }

-- what is left of one history
abbrev LeavesOf : {K : Type 0} → (K → Tables) → (K → Bool) → (K → Tables → Type 0) → Settings
    → Zone → History → List Asked → List (List ℕ) → K → K → Type 0
LeavesOf content is_failed may_leave settings zone h ms rs old new =
    ((after : History) × IsKept content is_failed may_leave settings zone h ms rs after old new)
    ⊎ HasFailed content is_failed may_leave settings zone h ms rs old new

left_after : {K : Type 0} (content : K → Tables) (is_failed : K → Bool)
    (may_leave : K → Tables → Type 0) (settings : Settings) (zone : Zone) (h k : History)
    (m : Asked) (r : List ℕ) (ms : List Asked) (rs : List (List ℕ)) (old mid new : K)
    → ((first : List Asked) (firsts : List (List ℕ)) (after : History) (between : K)
    → IsKept content is_failed may_leave settings zone k first firsts after mid between
    → IsKept content is_failed may_leave settings zone h (m ∷ first) (r ∷ firsts) after old between)
    → LeavesOf content is_failed may_leave settings zone k ms rs mid new
    → LeavesOf content is_failed may_leave settings zone h (m ∷ ms) (r ∷ rs) old new
left_after content is_failed may_leave settings zone h k m r ms rs old mid new more
    (inl (after, kept)) = inl (after, more ms rs after new kept)
left_after content is_failed may_leave settings zone h k m r ms rs old mid new more
    (inr failed) = inr (record {
      first = m ∷ failed.first;
      last = failed.last;
      later = failed.later;
      parts = ap (λ x. m ∷ x) failed.parts;
      first_replies = r ∷ failed.first_replies;
      later_replies = failed.later_replies;
      replied = ap (λ x. r ∷ x) failed.replied;
      after = failed.after;
      between = failed.between;
      kept = more failed.first failed.first_replies failed.after failed.between failed.kept;
      down = failed.down;
      failed = failed.failed;
      crash = failed.crash;
    })

-- no message yet
kept_none : {K : Type 0} (content : K → Tables) (is_failed : K → Bool)
    (may_leave : K → Tables → Type 0) (settings : Settings) (zone : Zone) (h : History) (k : K)
    → IsHistory settings h → content k ≡ tables_of settings h
    → IsKept content is_failed may_leave settings zone h [] [] h k k
kept_none content is_failed may_leave settings zone h k is e = record {
  run = refl;
  history = is;
  tables = e;
  same = refl;
  crash = λ t may. inr (refl, may);
}

-- the store failed in the first of them
failed_first : {K : Type 0} (content : K → Tables) (is_failed : K → Bool) (is_honest : K → Type 0)
    (may_leave : K → Tables → Type 0) (settings : Settings) (zone : Zone) (h : History)
    (m : Asked) (r : List ℕ) (ms : List Asked) (rs : List (List ℕ)) (old mid new : K)
    → IsHistory settings h → content old ≡ tables_of settings h → is_honest new
    → IsFailed m r (is_failed mid)
    → ((t : Tables) → may_leave mid t → may_leave old t
    ⊎ ((is_failed old ≡ false) × (t ≡ tables_of settings (next_of settings h m))))
    → Failing is_failed is_honest may_leave ms rs mid new
    → HasFailed content is_failed may_leave settings zone h (m ∷ ms) (r ∷ rs) old new
failed_first content is_failed is_honest may_leave settings zone h m r ms rs old mid new is e honest
    failed crash rest = record {
      first = [];
      last = m;
      later = ms;
      parts = refl;
      first_replies = [];
      later_replies = rs;
      replied = ap (λ x. x ∷ rs) failed.report;
      after = h;
      between = old;
      kept = kept_none content is_failed may_leave settings zone h old is e;
      down = rest.down;
      failed = rest.failed;
      crash = λ t may. elim (crash t (rest.left honest t may)) [
        | inl could ↦ inl could
        | inr acts ↦ inr acts.1
      ];
    }

left_of : {K : Type 0} (content : K → Tables) (is_failed : K → Bool) (is_honest : K → Type 0)
    (may_leave : K → Tables → Type 0) (settings : Settings) (zone : Zone) (h : History)
    (ms : List Asked) (rs : List (List ℕ)) (old new : K)
    → InTurn (IsStep content is_failed is_honest may_leave zone) ms rs old new → is_honest new
    → IsHistory settings h → content old ≡ tables_of settings h
    → LeavesOf content is_failed may_leave settings zone h ms rs old new
left_of content is_failed is_honest may_leave settings zone h [] [] old new turn honest is e =
    rw turn (inl (h, kept_none content is_failed may_leave settings zone h old is e))
left_of content is_failed is_honest may_leave settings zone h [] (r ∷ rs) old new turn honest is e =
    absurd turn
left_of content is_failed is_honest may_leave settings zone h (m ∷ ms) [] old new turn honest is e =
    absurd turn
left_of content is_failed is_honest may_leave settings zone h (m ∷ ms) (r ∷ rs) old new
    (mid, step, turn) honest is e =
    let replied = step.replies (honest_before content is_failed is_honest may_leave zone ms rs mid
    new turn honest) settings h is e in
    elim replied.outcome [
      | inl done ↦ left_after content is_failed may_leave settings zone h (next_of settings h m) m
          r ms rs old mid new
          (λ first firsts after between kept. kept_after_reply content is_failed may_leave
          settings zone h after m r first firsts old mid between done replied.crash kept)
          (left_of content is_failed is_honest may_leave settings zone (next_of settings h m) ms rs
          mid new turn honest (next_is settings h m is) done.tables)
      | inr other ↦ elim other [
        | inl wanting ↦ left_after content is_failed may_leave settings zone h h m r ms rs old mid
            new
            (λ first firsts after between kept. kept_after_refusal content is_failed may_leave
            settings zone h after m r first firsts old mid between wanting kept)
            (left_of content is_failed is_honest may_leave settings zone h ms rs mid new turn honest
            is (wanting.tables ∙ e))
        | inr failed ↦ inr (failed_first content is_failed is_honest may_leave settings zone h m r
            ms rs old mid new is e honest failed replied.crash
            (failing content is_failed is_honest may_leave zone ms rs mid new turn failed.failed))
      ]
    ]

-- a beginning of what follows, or of more
begins_after : (before after last : Option (List ℕ)) (done text : List ℕ)
    → Appends before after done → AppendsBeginning after last text
    → AppendsBeginning before last (done ++ text)
begins_after before after last done text wrote (n, within, part) = (
  length done + n,
  omega (arith, within, length-append done text),
  rw (take-append-add done text n) (Appends-trans before after last done (take n text) wrote part),
)

begins_more : (before last : Option (List ℕ)) (text more : List ℕ)
    → AppendsBeginning before last text → AppendsBeginning before last (text ++ more)
begins_more before last text more (n, within, part) = (
  n,
  omega (arith, within, length-append text more),
  rw (take-append-le n text more within) part,
)

-- what was answered by the end, over whatever history there was
lived : {K : Type 0} (content : K → Tables) (is_failed : K → Bool) (is_honest : K → Type 0)
    (may_leave : K → Tables → Type 0) (zone : Zone) (left now before after : Option (List ℕ))
    (most count : ℕ) (report : Result Served ServeFault) (old new : K) (read rest : List ℕ)
    (messages : List Message) (replies : List (List ℕ)) (stop : Stop)
    → Consumes left now read → count ≤ most → Cut read count messages rest stop
    → InTurn (IsStep content is_failed is_honest may_leave zone) (map heard messages) replies
    old new
    → AppendsBeginning before after (concat replies ++ rest_bytes stop)
    → (IsOk report → Appends before after (concat replies ++ rest_bytes stop))
    → HasLived content is_failed is_honest may_leave zone left now most before after report old new
lived content is_failed is_honest may_leave zone left now before after most count report old new read
    rest messages replies stop took few cut answered written whole = record {
      read = read;
      took = took;
      count = count;
      few = few;
      messages = messages;
      rest = rest;
      stop = stop;
      cut = cut;
      replies = replies;
      answered = answered;
      written = written;
      whole = whole;
      lives_on = λ honest settings h is e served. lives_on content is_failed is_honest may_leave
          settings zone h (map heard messages) replies old new answered honest is e served;
    }

-- what a crash leaves as it ended
pub has_ended : {K : Type 0} (content : K → Tables) (is_failed : K → Bool)
    (is_honest : K → Type 0) (may_leave : K → Tables → Type 0) (zone : Zone)
    (left now : Option (List ℕ)) (most : ℕ) (before after : Option (List ℕ))
    (report : Result Served ServeFault) (old new : K)
    → HasLived content is_failed is_honest may_leave zone left now most before after report old new
    → HasEnded content is_failed is_honest may_leave zone left now most before after old new
has_ended content is_failed is_honest may_leave zone left now most before after report old new life =
    record {
      read = life.read;
      took = life.took;
      count = life.count;
      few = life.few;
      messages = life.messages;
      rest = life.rest;
      stop = life.stop;
      cut = life.cut;
      replies = life.replies;
      answered = life.answered;
      written = life.written;
      down = λ failed. down_after content is_failed is_honest may_leave zone
          (map heard life.messages) life.replies old new life.answered failed;
      stays_down = stays_down content is_failed is_honest may_leave zone (map heard life.messages)
          life.replies old new life.answered;
      at_end = λ honest settings h is e. left_of content is_failed is_honest may_leave settings zone
          h (map heard life.messages) life.replies old new life.answered honest is e;
      at_each = λ honest n.
          let (between, first, later) = parted (IsStep content is_failed is_honest may_leave zone) n
          (map heard life.messages) life.replies old new life.answered in (
            between,
            (λ settings h is e. left_of content is_failed is_honest may_leave settings zone h
                (take n (map heard life.messages)) (take n life.replies) old between first
                (honest_before content is_failed is_honest may_leave zone
                (drop n (map heard life.messages)) (drop n life.replies) between new later honest)
                is e),
            first,
            later,
          );
    }

-- and of which life those tables are
pub leaves_lives : {K : Type 0} (content : K → Tables) (is_failed : K → Bool)
    (is_honest : K → Type 0) (may_leave : K → Tables → Type 0) (zone : Zone)
    (left now : Option (List ℕ)) (most : ℕ) (before after : Option (List ℕ))
    (report : Result Served ServeFault) (old new : K)
    → HasLived content is_failed is_honest may_leave zone left now most before after report old new
    → LeavesLives content is_failed is_honest may_leave zone left now most before after report old new
leaves_lives content is_failed is_honest may_leave zone left now most before after report old new
    life =
    record {
      lived = life;
      at_end = λ honest settings h is e. leaves_a_life content is_failed is_honest may_leave
          settings zone h (map heard life.messages) life.replies old new life.answered honest is e;
      at_each = λ honest n.
          let (between, first, later) = parted (IsStep content is_failed is_honest may_leave zone) n
          (map heard life.messages) life.replies old new life.answered in (
            between,
            first,
            later,
            (λ settings h is e. leaves_a_life content is_failed is_honest may_leave settings zone h
                (take n (map heard life.messages)) (take n life.replies) old between first
                (honest_before content is_failed is_honest may_leave zone
                (drop n (map heard life.messages)) (drop n life.replies) between new later honest)
                is e),
          );
    }

-- it ended after the messages so far
pub ended_so_far : {K : Type 0} (content : K → Tables) (is_failed : K → Bool)
    (is_honest : K → Type 0) (may_leave : K → Tables → Type 0) (zone : Zone)
    (left now later before after last : Option (List ℕ)) (report : Result Served ServeFault)
    (old new : K) (held : List ℕ) (count most : ℕ)
    → Serving (IsStep content is_failed is_honest may_leave zone) left now before after old new held
    count → count ≤ most → Keeps now later → Keeps after last
    → HasLived content is_failed is_honest may_leave zone left later most before last report old new
ended_so_far content is_failed is_honest may_leave zone left now later before after last report old
    new held count most run few kept flushed =
    lived content is_failed is_honest may_leave zone left later before last most
    (length run.messages) report old new run.read held run.messages run.replies limit
    (Consumes-kept left now later run.read run.took kept) (omega (arith, few, run.counted))
    (cut_of run.messages run.read held (length run.messages) limit run.off (omega arith)
    (omega arith)) run.answered
    (begins_more before last (concat run.replies) []
    (whole_begins before after last (concat run.replies) run.written flushed))
    (λ well. rw (append-nil (concat run.replies)) (Appends-kept before after last
    (concat run.replies) run.written flushed))

-- the writer failed in the reply to one more message
pub ended_in_reply : {K : Type 0} (content : K → Tables) (is_failed : K → Bool)
    (is_honest : K → Type 0) (may_leave : K → Tables → Type 0) (zone : Zone)
    (left now before after last : Option (List ℕ)) (old new next : K) (held rest r : List ℕ)
    (m : Message) (count most : ℕ)
    → Serving (IsStep content is_failed is_honest may_leave zone) left now before after old new held
    count → count < most → IsMessageAt held m rest
    → IsStep content is_failed is_honest may_leave zone (heard m) r new next
    → AppendsBeginning after last r
    → HasLived content is_failed is_honest may_leave zone left now most before last (Err fault.Write)
    old next
ended_in_reply content is_failed is_honest may_leave zone left now before after last old new next
    held rest r m count most run fewer here step part =
    let (stop, cut) = cut_last run.messages run.read held rest m run.off here in
    lived content is_failed is_honest may_leave zone left now before last most
    (length run.messages + 1) (Err fault.Write) old next run.read rest (run.messages ++ m ∷ [])
    (run.replies ++ r ∷ []) stop run.took (omega (arith, fewer, run.counted)) cut
    (turn_push (IsStep content is_failed is_honest may_leave zone) run.messages run.replies m r old
    new next run.answered step)
    (begins_more before last (concat (run.replies ++ r ∷ [])) (rest_bytes stop)
    (rw (concat_push run.replies r) (begins_after before after last (concat run.replies) r
    run.written part)))
    (λ well. absurd cc)

-- it ended after the reply to a message that ends the connection
pub ended_closed : {K : Type 0} (content : K → Tables) (is_failed : K → Bool)
    (is_honest : K → Type 0) (may_leave : K → Tables → Type 0) (zone : Zone)
    (left now before after given last : Option (List ℕ)) (report : Result Served ServeFault)
    (old new next : K) (held rest r : List ℕ) (m : Message) (count most : ℕ)
    → Serving (IsStep content is_failed is_honest may_leave zone) left now before after old new held
    count → count < most → IsMessageAt held m rest → ends m ≡ true
    → IsStep content is_failed is_honest may_leave zone (heard m) r new next
    → Appends after given r → Keeps given last
    → HasLived content is_failed is_honest may_leave zone left now most before last report old next
ended_closed content is_failed is_honest may_leave zone left now before after given last report old
    new next held rest r m count most run fewer here out step wrote kept =
    let whole : Appends before last (concat (run.replies ++ r ∷ [])) =
    rw (concat_push run.replies r) (Appends-kept before given last _
    (Appends-trans before after given (concat run.replies) r run.written wrote) kept) in
    lived content is_failed is_honest may_leave zone left now before last most
    (length run.messages + 1) report old next run.read rest (run.messages ++ m ∷ [])
    (run.replies ++ r ∷ []) closed run.took (omega (arith, fewer, run.counted))
    (cut_closed run.messages run.read held rest (length run.messages + 1) m run.off here out
    (omega arith))
    (turn_push (IsStep content is_failed is_honest may_leave zone) run.messages run.replies m r old
    new next run.answered step)
    (begins_more before last (concat (run.replies ++ r ∷ [])) []
    (whole_begins before last last (concat (run.replies ++ r ∷ [])) whole (Keeps-refl last)))
    (λ well. rw (append-nil (concat (run.replies ++ r ∷ []))) whole)

-- a fault of what is held is one of what was read
fault_held : (held : List ℕ) (has_ended : Bool) (f : WireFault) → IsFaultOf held has_ended f
    → IsFront held (Err f)
fault_held held true f here = here
fault_held held false f here = subst (λ l. IsFront l (Err f)) (append-nil held) (here [])

-- it ended in the reply to a broken rest, or after it
pub ended_in_fault : {K : Type 0} (content : K → Tables) (is_failed : K → Bool)
    (is_honest : K → Type 0) (may_leave : K → Tables → Type 0) (zone : Zone)
    (left now before after last : Option (List ℕ)) (report : Result Served ServeFault)
    (old new : K) (held : List ℕ) (count most : ℕ) (has_ended : Bool) (f : WireFault)
    → Serving (IsStep content is_failed is_honest may_leave zone) left now before after old new held
    count → count < most → held ≢ [] → IsFaultOf held has_ended f
    → AppendsBeginning after last (fault_bytes f)
    → (IsOk report → Appends after last (fault_bytes f))
    → HasLived content is_failed is_honest may_leave zone left now most before last report old new
ended_in_fault content is_failed is_honest may_leave zone left now before after last report old new
    held count most has_ended f run fewer some here part whole =
    lived content is_failed is_honest may_leave zone left now before last most most report old new
    run.read held run.messages run.replies (broken f) run.took (omega arith)
    (cut_of run.messages run.read held most (broken f) run.off (omega (arith, fewer, run.counted))
    (omega (arith, fewer, run.counted), some, fault_held held has_ended f here)) run.answered
    (begins_after before after last (concat run.replies) (fault_bytes f) run.written part)
    (λ well. Appends-trans before after last (concat run.replies) (fault_bytes f) run.written
    (whole well))
