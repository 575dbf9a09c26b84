-- What answering one message does, from what carrying it out did.
use Rattle.std.proofs.Common.{◌≡◌, ◌⊎◌, ◌∙◌, ◌++◌, ℕ, List, [], Bool, true, false, refl, sym, ap, subst, inl, inr, Ok, Err}
use Rattle.std.specs.Borrow.{Bor}
use Rattle.std.specs.Fmt.{digits}
use Rattle.std.specs.Prelude.{OnOk, Result, codes, drop, take}
use Rattle.std.specs.Str.{bytes_eq}
use Rattle.std.proofs.lemmas.List.{append_cancel_left}
use Rattle.house_rows.specs.declared.fault.KeepFault.{KeepFault}
use Rattle.house_rows.specs.declared.fault.KeepFault.TheVariants.{Memory, Store, Damaged}
use Rattle.house_rows.specs.declared.message.Message.{Message}
use Rattle.house_rows.specs.declared.message.Message.TheVariants.{Broken, Write, Read}
use Rattle.house_rows.specs.declared.query.Query.{Query}
use Rattle.house_rows.specs.declared.reply.Reply.{Reply}
use Rattle.house_rows.specs.declared.reply.Reply.TheVariants.{Done, Denied, Faulty, Shows}
use Rattle.house_rows.specs.declared.settings.Settings.{Settings}
use Rattle.house_rows.specs.History.{History}
use Rattle.house_rows.specs.Runs.{next, reply}
use Rattle.house_rows.specs.Tables.{Tables, tables_of}
use Rattle.house_rows.proofs.Put.{by_test}
use Rattle.pages_laws.specs.ByTables.{page_by}
use Rattle.settle.specs.declared.zone.Zone.{Zone}
use Rattle.site_acts.specs.Acted.{IfRead, IsActed, IsOwnChangeOrNone, TellsUnchanged, is_asking, is_entered}
use Rattle.site_request.specs.Asked.{asked_of, may_ask}
use Rattle.site_request.specs.declared.asked.Asked.{Asked}
use Rattle.site_request.specs.declared.fault.RequestFault.{RequestFault}
use Rattle.site_request.specs.declared.fault.RequestFault.TheVariants as fault
use Rattle.site_replies.specs.Texts.{digits_in, fault_text, is_failure, reply_text}
use Rattle.site_replies.proofs.StatusLemmas.{reply_served, store_reported}
use Rattle.status.specs.Status.{phrase_of}
use Rattle.wire.specs.Response.{head_start, response_bytes, status_line}
use Rattle.wire.specs.Frame.{IsFrame}
use Rattle.wire.specs.Message.{Message as Framed}
use Rattle.wire.specs.declared.fault.WireFault.{WireFault}
use Rattle.wire.specs.declared.fault.WireFault.TheVariants as wire
use Rattle.wire.proofs.OneFrame.{one_frame}
use Rattle.site.specs.Replies.{IsAppended, IsReported, IsStep, IsUnmade, broken_text, next_of, reply_to}

pub not_both : (b : Bool) → b ≡ true → b ≡ false → ⊥
not_both true is not = cc
not_both false is not = cc

-- running out of memory isn't reported as a failure
pub memory_goes : (closes : Bool) → is_failure (fault_text Memory closes) ≡ false
unfolding fault_text digits_in response_bytes head_start status_line
memory_goes closes = refl

-- a failed store and a damaged row differ in the second digit of their content-length
abbrev is_of_17 : List ℕ → Bool
is_of_17 text = bytes_eq (take 1 (drop 85 text)) (codes "7")

store_is_of_17 : (closes : Bool) → is_of_17 (fault_text Store closes) ≡ true
unfolding fault_text response_bytes head_start status_line phrase_of digits
store_is_of_17 closes = refl

damage_is_not : (closes : Bool) → is_of_17 (fault_text Damaged closes) ≡ false
unfolding fault_text response_bytes head_start status_line phrase_of digits
damage_is_not closes = refl

-- a text that isn't reported as a failure doesn't say that the store failed
served_not_store : (text : List ℕ) (closes : Bool) → is_failure text ≡ false
    → text ≡ fault_text Store closes → ⊥
served_not_store text closes served e =
    not_both _ (store_reported closes) (rw e at served)

damage_not_store : (closes : Bool) → fault_text Damaged closes ≡ fault_text Store closes → ⊥
damage_not_store closes e = not_both _ (store_is_of_17 closes) (rw e at (damage_is_not closes))

-- what asks for anything may ask
asks_may : (message : Message RequestFault) → is_asking message ≡ true → may_ask message ≡ true
asks_may (Write moment caller command) asks = refl
asks_may (Read caller query) asks = refl
asks_may (Broken caller f) asks = absurd (let wrong : false ≡ true = asks in cc)

-- a message that asks for nothing leaves the keep; another was asked of one that hasn't failed,
-- where no failure was reported
idle_or_going : {K : Type 0} (is_failed : K → Bool) (old new : K) (asks : Bool)
    → (asks ≡ false → new ≡ old)
    → ((is_failed new ≡ true) × (asks ≡ true) → ⊥) → (new ≡ old) ⊎ (is_failed new ≡ false)
idle_or_going is_failed old new asks asleep none = elim (by_test asks) [
  | inr idle ↦ inl (asleep idle)
  | inl is ↦ elim (by_test (is_failed new)) [
    | inl failed ↦ absurd (none (failed, is))
    | inr going ↦
        inr going
  ]
]

same_failed : {K : Type 0} (is_failed : K → Bool) (old new : K)
    → (is_failed old ≡ true → is_failed new ≡ true)
    → (new ≡ old) ⊎ (is_failed new ≡ false) → is_failed new ≡ is_failed old
same_failed is_failed old new stays (inl e) = ap is_failed e
same_failed is_failed old new stays (inr going) =
    elim (by_test (is_failed old)) [
      | inl was ↦ absurd (not_both (is_failed new) (stays was) going)
      | inr not ↦ going ∙ sym not
    ]

same_tables : {K : Type 0} (content : K → Tables) (is_failed : K → Bool) (old new : K)
    → (is_failed new ≡ false → content new ≡ content old)
    → (new ≡ old) ⊎ (is_failed new ≡ false) → content new ≡ content old
same_tables content is_failed old new unmade (inl e) = ap content e
same_tables content is_failed old new unmade (inr going) = unmade going

same_left : {K : Type 0} (is_failed : K → Bool) (may_leave : K → Tables → Type 0) (old new : K)
    → (is_failed new ≡ false → (t : Tables) → may_leave new t → may_leave old t)
    → (new ≡ old) ⊎ (is_failed new ≡ false) → (t : Tables) → may_leave new t → may_leave old t
same_left is_failed may_leave old new left (inl e) t may = subst (λ k. may_leave k t) e may
same_left is_failed may_leave old new left (inr going) t may = left going t may

-- a read that was carried out shows its page
read_shown : (message : Message RequestFault) (zone : Zone) (t : Tables) (closes : Bool) (u : Unit {0})
    (before after text : List ℕ) → after ≡ before ++ text
    → IfRead message (λ caller query. OnOk {E = KeepFault} (Ok u) (after ≡ before
    ++ reply_text zone closes (Shows (page_by t caller query))))
    → IfRead message (λ caller query.
    text ≡ reply_text zone closes (Shows (page_by t caller query)))
read_shown (Write moment caller command) zone t closes u before after text e shown = tt
read_shown (Read caller query) zone t closes u before after text e shown =
    append_cancel_left before text
    (reply_text zone closes (Shows (page_by t caller query))) (sym e ∙ shown)
read_shown (Broken caller fault) zone t closes u before after text e shown = tt

-- where something comes before the bytes, they alone say what became of a message
own_text : (message : Message RequestFault) (zone : Zone) (t now : Tables) (closes : Bool)
    (before after text : List ℕ) → after ≡ before ++ text
    → IsOwnChangeOrNone zone closes message t now before after
    → IsOwnChangeOrNone zone closes message t now [] text
own_text message zone t now closes before after text e
    (inr (change, own, leads, (report, is, told))) = inr (
      change,
      own,
      leads,
      (
        report,
        is,
        append_cancel_left before text (reply_text zone closes (Done report)) (sym e ∙ told),
      ),
    )
own_text (Write moment caller command) zone t now closes before after text e
    (inl (same, (refusal, told))) = inl (
      same,
      (
        refusal,
        append_cancel_left before text (reply_text zone closes (Denied refusal)) (sym e ∙ told),
      ),
    )
own_text (Read caller query) zone t now closes before after text e (inl (same, told)) = inl (
  same,
  append_cancel_left before text (reply_text zone closes (Shows (page_by t caller query)))
      (sym e ∙ told),
)
own_text (Broken caller fault) zone t now closes before after text e (inl (same, told)) = inl (
  same,
  append_cancel_left before text (reply_text zone closes (Faulty fault)) (sym e ∙ told),
)

-- where it met a fault nothing has acted, unless the store failed
unmade : {K : Type 0} (content : K → Tables) (is_failed : K → Bool) (is_honest : K → Type 0)
    (may_leave : K → Tables → Type 0)
    (zone : Zone) (asked : Asked) (f : KeepFault) (before after : List ℕ) (old new : K)
    → IsActed content is_failed is_honest may_leave zone asked.closes asked.message (Err f) before
    after old new
    → IsUnmade content is_failed is_honest may_leave asked (fault_text f asked.closes) old new
unmade content is_failed is_honest may_leave zone asked f before after old new acted = record {
  text = (f, refl);
  tables = acted.unmade;
  left = acted.left;
}

-- it was carried out
step_ok : {K : Type 0} (content : K → Tables) (is_failed : K → Bool) (is_honest : K → Type 0)
    (may_leave : K → Tables → Type 0)
    (zone : Zone) (asked : Asked) (u : Unit {0}) (before after : List ℕ) (old new : K)
    → IsActed content is_failed is_honest may_leave zone asked.closes asked.message (Ok u) before
    after old new
    → (text : List ℕ) × (after ≡ before ++ text)
    × IsStep content is_failed is_honest may_leave zone asked text old new
unfolding reply_to next_of
step_ok content is_failed is_honest may_leave zone asked u before after old new acted =
    let (r, e) = acted.text in
    let still : (new ≡ old) ⊎ (is_failed new ≡ false) =
    idle_or_going is_failed old new (is_asking asked.message) acted.asleep
    (λ failed. let wrong = acted.store.1 failed in cc) in (
      reply_text zone asked.closes r,
      e,
      record {
        replies = λ honest settings h is same. record {
          outcome = inl (record {
            report = append_cancel_left before (reply_text zone asked.closes r)
                (reply_text zone asked.closes (reply settings h asked.message)) (sym e
                ∙ acted.report honest settings h is same);
            tables = acted.tables honest settings h is same;
            same = same_failed is_failed old new acted.stays still;
            kept = λ entered t may. acted.kept honest settings h is same entered t may;
          });
          crash = λ t may. acted.crash_next honest settings h is same t may;
        };
        report = inl (record {
          text = (r, refl);
          shown = λ honest. read_shown asked.message zone (content old) asked.closes u before after
              (reply_text zone asked.closes r) e (acted.shown honest);
          made = λ honest going. own_text asked.message zone (content old) (content new)
              asked.closes before after (reply_text zone asked.closes r) e
              (acted.made honest going);
        });
        crash = acted.crash;
        failure = λ honest sound failing.
            absurd (not_both _ failing (reply_served zone asked.closes r).not_failed);
        undamaged = λ honest fit failing.
            absurd (not_both _ failing (reply_served zone asked.closes r).not_failed);
        down = λ failed asks. absurd (let wrong = acted.store.1 (failed, asks) in cc);
        store = λ report. absurd (served_not_store (reply_text zone asked.closes r)
            asked.closes (reply_served zone asked.closes r).not_failed report);
        honest = acted.honest;
        stays = acted.stays;
        asleep = acted.asleep;
      },
    )

-- it met a fault
step_err : {K : Type 0} (content : K → Tables) (is_failed : K → Bool) (is_honest : K → Type 0)
    (may_leave : K → Tables → Type 0)
    (zone : Zone) (asked : Asked) (f : KeepFault) (before after : List ℕ) (old new : K)
    → IsActed content is_failed is_honest may_leave zone asked.closes asked.message (Err f) before
    after old new
    → IsStep content is_failed is_honest may_leave zone asked (fault_text f asked.closes) old new
unfolding next_of
step_err content is_failed is_honest may_leave zone asked Memory before after old new acted =
    let still : (new ≡ old) ⊎ (is_failed new ≡ false) =
    idle_or_going is_failed old new (is_asking asked.message) acted.asleep
    (λ failed. let wrong = acted.store.1 failed in cc) in
    record {
      replies = λ honest settings h is same. record {
        outcome = inr (inl (record {
          report = refl;
          tables = same_tables content is_failed old new (acted.unmade honest) still;
          same = same_failed is_failed old new acted.stays still;
          left = same_left is_failed may_leave old new (acted.left honest) still;
        }));
        crash = λ t may. acted.crash_next honest settings h is same t may;
      };
      report = inr (unmade content is_failed is_honest may_leave zone asked Memory before after old new acted);
      crash = acted.crash;
      failure = λ honest sound failing. absurd (not_both _ failing (memory_goes asked.closes));
      undamaged = λ honest fit failing. absurd (not_both _ failing (memory_goes asked.closes));
      down = λ failed asks. absurd (let wrong = acted.store.1 (failed, asks) in cc);
      store = λ report. absurd (served_not_store (fault_text Memory asked.closes) asked.closes
          (memory_goes asked.closes) report);
      honest = acted.honest;
      stays = acted.stays;
      asleep = acted.asleep;
    }
step_err content is_failed is_honest may_leave zone asked Store before after old new acted =
    record {
      replies = λ honest settings h is same. record {
        outcome = inr (inr (record {
          report = refl;
          asking = asks_may asked.message (acted.store.0 refl).1;
          failed = (acted.store.0 refl).0;
        }));
        crash = λ t may. acted.crash_next honest settings h is same t may;
      };
      report = inr (unmade content is_failed is_honest may_leave zone asked Store before after old new acted);
      crash = acted.crash;
      failure = λ honest sound failing. inl (acted.store.0 refl).0;
      undamaged = λ honest fit failing. inl (acted.store.0 refl).0;
      down = λ failed asks. refl;
      store = λ report. ((acted.store.0 refl).0, asks_may asked.message (acted.store.0 refl).1);
      honest = acted.honest;
      stays = acted.stays;
      asleep = acted.asleep;
    }
step_err content is_failed is_honest may_leave zone asked Damaged before after old new acted =
    record {
      replies = λ honest settings h is same. absurd (acted.whole honest settings h is same refl);
      report = inr (unmade content is_failed is_honest may_leave zone asked Damaged before after old new acted);
      crash = acted.crash;
      failure = λ honest sound failing. inr (acted.damaged honest sound refl);
      undamaged = λ honest fit failing. inr (acted.undamaged honest fit refl);
      down = λ failed asks. absurd (let wrong = acted.store.1 (failed, asks) in cc);
      store = λ report. absurd (damage_not_store asked.closes report);
      honest = acted.honest;
      stays = acted.stays;
      asleep = acted.asleep;
    }

-- whatever carrying it out gave
pub step_acted : {K : Type 0} (content : K → Tables) (is_failed : K → Bool) (is_honest : K → Type 0)
    (may_leave : K → Tables → Type 0)
    (zone : Zone) (asked : Asked) (acted : Result (Unit {0}) KeepFault)
    (result : Result (Unit {0}) (Bor (List ℕ))) (before after : List ℕ) (old new : K)
    → IsActed content is_failed is_honest may_leave zone asked.closes asked.message acted before
    after old new → IsReported asked.closes acted result
    → (text : List ℕ) × IsAppended result before after text
    × IsStep content is_failed is_honest may_leave zone asked text old new
step_acted content is_failed is_honest may_leave zone asked (Ok u) (Ok v) before after old new acted
    report =
    step_ok content is_failed is_honest may_leave zone asked u before after old new acted
step_acted content is_failed is_honest may_leave zone asked (Err f) (Err text) before after old new
    acted report = (
      fault_text f asked.closes,
      (report, acted.err),
      step_err content is_failed is_honest may_leave
          zone asked f before after old new acted,
    )
step_acted content is_failed is_honest may_leave zone asked (Ok u) (Err text) before after old new
    acted report = absurd report
step_acted content is_failed is_honest may_leave zone asked (Err f) (Ok v) before after old new
    acted report = absurd report

-- memory was refused for the body, over a keep that goes on
unread_going : {K : Type 0} (content : K → Tables) (is_failed : K → Bool)
    (is_honest : K → Type 0) (may_leave : K → Tables → Type 0)
    (zone : Zone) (asked : Asked) (k : K) → is_failed k ≡ false
    → IsStep content is_failed is_honest may_leave zone asked (fault_text Memory asked.closes) k k
unread_going content is_failed is_honest may_leave zone asked k going = record {
  replies = λ honest settings h is e. record {
    outcome = inr (inl (record { report = refl; tables = refl; same = refl; left = λ t may. may }));
    crash = λ t may. inl may;
  };
  report = inr (record {
    text = (Memory, refl);
    tables = λ honest going. refl;
    left = λ honest going t may. may;
  });
  crash = λ honest t may. inl may;
  failure = λ honest sound failing. absurd (not_both _ failing (memory_goes asked.closes));
  undamaged = λ honest fit failing. absurd (not_both _ failing (memory_goes asked.closes));
  down = λ failed asks. absurd (not_both _ failed going);
  store = λ report. absurd (served_not_store (fault_text Memory asked.closes) asked.closes
      (memory_goes asked.closes) report);
  honest = λ honest. honest;
  stays = λ failed. failed;
  asleep = λ idle. refl;
}

-- over one that has failed
unread_down : {K : Type 0} (content : K → Tables) (is_failed : K → Bool)
    (is_honest : K → Type 0) (may_leave : K → Tables → Type 0)
    (zone : Zone) (asked : Asked) (k : K) → may_ask asked.message ≡ true → is_failed k ≡ true
    → IsStep content is_failed is_honest may_leave zone asked (fault_text Store asked.closes) k k
unread_down content is_failed is_honest may_leave zone asked k may failed = record {
  replies = λ honest settings h is e. record {
    outcome = inr (inr (record { report = refl; asking = may; failed = failed }));
    crash = λ t may. inl may;
  };
  report = inr (record {
    text = (Store, refl);
    tables = λ honest going. refl;
    left = λ honest going t may. may;
  });
  crash = λ honest t may. inl may;
  failure = λ honest sound failing. inl failed;
  undamaged = λ honest fit failing. inl failed;
  down = λ failed asks. refl;
  store = λ report. (failed, may);
  honest = λ honest. honest;
  stays = λ failed. failed;
  asleep = λ idle. refl;
}

-- and whatever the keep has done before
pub step_unread : {K : Type 0} (content : K → Tables) (is_failed : K → Bool)
    (is_honest : K → Type 0) (may_leave : K → Tables → Type 0)
    (zone : Zone) (asked : Asked) (closes : Bool) (reply : List ℕ) (k : K)
    → closes ≡ asked.closes → may_ask asked.message ≡ true
    → (is_failed k ≡ true → reply ≡ fault_text Store closes)
    → (is_failed k ≡ false → reply ≡ fault_text Memory closes)
    → IsStep content is_failed is_honest may_leave zone asked reply k k
step_unread content is_failed is_honest may_leave zone asked closes reply k same may down going =
    elim (by_test (is_failed k)) [
      | inl failed ↦ rw (down failed, same)
          (unread_down content is_failed is_honest may_leave zone asked k may failed)
      | inr goes ↦ rw (going goes, same)
          (unread_going content is_failed is_honest may_leave zone asked k goes)
    ]

-- the text that is ready for a broken frame is that of the reply
broken_replied : (settings : Settings) (zone : Zone) (h : History) (f : WireFault)
    → broken_text f ≡ reply_to settings zone h (asked_of (Err f))
unfolding reply_to asked_of reply reply_text
broken_replied settings zone h f = refl

broken_reply : (zone : Zone) (f : WireFault)
    → (r : Reply RequestFault) × (broken_text f ≡ reply_text zone (asked_of (Err f)).closes r)
unfolding asked_of reply_text
broken_reply zone f = (Faulty (fault.Frame f), refl)

broken_told : (zone : Zone) (f : WireFault) (t : Tables)
    → TellsUnchanged zone (asked_of (Err f)).closes (asked_of (Err f)).message t [] (broken_text f)
unfolding asked_of reply_text
broken_told zone f t = refl

broken_reads : (f : WireFault) (P : ℕ → Query → Type 0) → IfRead (asked_of (Err f)).message P
unfolding asked_of
broken_reads f P = tt

broken_leaves : (settings : Settings) (h : History) (f : WireFault)
    → next_of settings h (asked_of (Err f)) ≡ h
unfolding next_of asked_of next
broken_leaves settings h f = refl

broken_asks : (f : WireFault) → is_asking (asked_of (Err f)).message ≡ false
unfolding asked_of
broken_asks f = refl

broken_enters : (settings : Settings) (h : History) (f : WireFault)
    → is_entered settings h (asked_of (Err f)).message ≡ false
unfolding asked_of
broken_enters settings h f = refl

broken_goes : (f : WireFault) → is_failure (broken_text f) ≡ false
unfolding digits_in response_bytes head_start status_line
broken_goes wire.Head = refl
broken_goes wire.Host = refl
broken_goes wire.Transfer = refl
broken_goes wire.Length = refl
broken_goes wire.Size = refl
broken_goes wire.End = refl
broken_goes wire.Excess = refl

-- the frame is broken
pub step_broken : {K : Type 0} (content : K → Tables) (is_failed : K → Bool)
    (is_honest : K → Type 0) (may_leave : K → Tables → Type 0)
    (zone : Zone) (f : WireFault) (k : K)
    → IsStep content is_failed is_honest may_leave zone (asked_of (Err f)) (broken_text f) k k
step_broken content is_failed is_honest may_leave zone f k = record {
  replies = λ honest settings h is e. record {
    outcome = inl (record {
      report = broken_replied settings zone h f;
      tables = e ∙ ap (tables_of settings) (sym (broken_leaves settings h f));
      same = refl;
      kept = λ entered. absurd (not_both _ entered (broken_enters settings h f));
    });
    crash = λ t may. inl may;
  };
  report = inl (record {
    text = broken_reply zone f;
    shown = λ honest. broken_reads f _;
    made = λ honest going. inl (refl, broken_told zone f (content k));
  });
  crash = λ honest t may. inl may;
  failure = λ honest sound failing. absurd (not_both _ failing (broken_goes f));
  undamaged = λ honest fit failing. absurd (not_both _ failing (broken_goes f));
  down = λ failed asks. absurd (not_both _ asks (broken_asks f));
  store = λ report. absurd (served_not_store (broken_text f) (asked_of (Err f)).closes (broken_goes f)
      report);
  honest = λ honest. honest;
  stays = λ failed. failed;
  asleep = λ idle. refl;
}

-- a text that is a message has no broken frame
pub not_broken : (text : List ℕ) (m : Framed) (f : WireFault) → IsFrame text (Ok m)
    → IsFrame text (Err f) → ⊥
not_broken text m f is also = let wrong : Ok m ≡ Err f = one_frame text (Ok m) (Err f) is also in cc

-- and one that is none has one fault
pub one_fault : (text : List ℕ) (f g : WireFault) → IsFrame text (Err f) → IsFrame text (Err g)
    → f ≡ g
one_fault text f g is also = let same = one_frame text (Err f) (Err g) is also in cc
