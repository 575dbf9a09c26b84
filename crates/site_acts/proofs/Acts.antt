-- What has acted: a message that only read, a command whose change was made or wasn't, and a
-- message that asks for nothing.
use Rattle.std.proofs.Common.{◌≡◌, ◌++◌, ◌∙◌, ℕ, List, Bool, true, false, refl, sym, ap, inl, inr}
use Rattle.std.specs.Prelude.{Option, Result, Ok, Err, IfErr, OnOk, OnErr}
use Rattle.house.specs.Decided.{IsAccepted}
use Rattle.house.specs.Own.{IsOf}
use Rattle.house.specs.Taken.{CommandRowsFit}
use Rattle.house.proofs.Found.{by_test}
use Rattle.house.proofs.Taken.{command_rows_fit}
use Rattle.house.proofs.Unchanged.{still_there}
use Rattle.house_rows.specs.declared.change.Change.{Change}
use Rattle.house_rows.specs.declared.command.Command.{Command}
use Rattle.house_rows.specs.declared.fault.KeepFault.{KeepFault}
use Rattle.house_rows.specs.declared.fault.KeepFault.TheVariants.{Memory}
use Rattle.house_rows.specs.declared.message.Message.{Message}
use Rattle.house_rows.specs.declared.message.Message.TheVariants.{Write, Read, Broken}
use Rattle.house_rows.specs.declared.refusal.Refusal.{Refusal}
use Rattle.house_rows.specs.declared.reply.Reply.{Reply}
use Rattle.house_rows.specs.declared.reply.Reply.TheVariants.{Done, Denied, Faulty, Shows}
use Rattle.house_rows.specs.declared.settings.Settings.{Settings}
use Rattle.house_rows.specs.declared.command_result.CommandResult.{CommandResult}
use Rattle.house_rows.specs.Asks.{ChangeFits}
use Rattle.house_rows.specs.Changed.{changed}
use Rattle.house_rows.specs.History.{History}
use Rattle.house_rows.specs.Keeping.{AreSound, Faults, IsRead}
use Rattle.house_rows.specs.Making.{ChangeRowsFit}
use Rattle.house_rows.specs.Runs.{next, reply}
use Rattle.house_rows.specs.Tables.{Tables, tables_of}
use Rattle.house_rows.specs.Taken.{IsUndamaged}
use Rattle.house_rows.specs.Verdict.{IsHistory}
use Rattle.house_rows.proofs.Next.{next_accepted, reply_accepted}
use Rattle.house_rows.proofs.Sound.{change_rows_fit, rows_are_sound}
use Rattle.pages_laws.specs.ByTables.{page_by}
use Rattle.settle.specs.declared.zone.Zone.{Zone}
use Rattle.site_request.specs.declared.fault.RequestFault.{RequestFault}
use Rattle.site_replies.specs.Texts.{reply_text}
use Rattle.site_results.specs.ByTables.{IsResultBy}
use Rattle.site_acts.specs.Acted.{IfRead, IsActed, IsMade, MessageRowsFit, TellsResult}
use Rattle.site_acts.specs.Acted.{TellsUnchanged, is_asking, is_entered}
use Rattle.site_acts.specs.Entered.{IfReported, IsApplied, TellsDone}

-- the tables of a history are sound
held_is_sound : (t : Tables) (settings : Settings) (h : History) → IsHistory settings h
    → t ≡ tables_of settings h → AreSound t
held_is_sound t settings h is e = rw e (rows_are_sound settings h is)

-- what a read is told is its page
page_told : (message : Message RequestFault) (result : Result (Unit {0}) KeepFault) (zone : Zone)
    (closes : Bool) (t : Tables) (before after : List ℕ)
    → OnOk result (TellsUnchanged zone closes message t before after)
    → IfRead message (λ caller query. OnOk result (after ≡ before
    ++ reply_text zone closes (Shows (page_by t caller query))))
page_told (Write moment caller command) result zone closes t before after told = tt
page_told (Read caller query) result zone closes t before after told = told
page_told (Broken caller fault) result zone closes t before after told = tt

-- a message that only read, and leaves the history
pub acted_by_reading : {K : Type 0} (content : K → Tables) (is_failed : K → Bool)
    (is_honest : K → Type 0) (may_leave : K → Tables → Type 0)
    (zone : Zone) (closes : Bool) (message : Message RequestFault) (result : Result (Unit {0}) KeepFault)
    (before after : List ℕ) (old new : K)
    → is_asking message ≡ true
    → (is_honest new → (settings : Settings)
    (h : History) → IsHistory settings h → content old ≡ tables_of settings h
    → OnOk result ((after ≡ before
    ++ reply_text zone closes (reply settings h message))
    × (next settings h message ≡ h) × (is_entered settings h message ≡ false)))
    → OnOk result ((r : Reply RequestFault)
    × (after ≡ before ++ reply_text zone closes r))
    → (is_honest new → OnOk result
    (TellsUnchanged zone closes message (content old) before after))
    → OnErr result (after ≡ before)
    → Faults result (is_honest new) (is_failed new) (content old)
    → (is_honest new → MessageRowsFit (content old) message → IsUndamaged result)
    → IsRead content is_failed is_honest may_leave old new
    → IsActed content is_failed is_honest may_leave zone closes message result before after old new
acted_by_reading content is_failed is_honest may_leave zone closes message (Ok u) before after old
    new asks value text told same faults undamaged read = record {
      report = λ honest settings h is e. (value honest settings h is e).0;
      tables = λ honest settings h is e.
          still_there u content is_failed is_honest may_leave old new faults read honest ∙ e
          ∙ ap (tables_of settings) (sym (value honest settings h is e).1);
      text = text;
      shown = λ honest. page_told message (Ok u) zone closes (content old) before after
          (told honest);
      made = λ honest going. inl (read.same honest going, told honest);
      err = tt;
      unmade = λ honest going. tt;
      store = (λ e. (faults.store.0 e, asks), λ e. faults.store.1 e.0);
      whole = λ honest settings h is e. faults.damaged honest
          (held_is_sound (content old) settings h is e);
      damaged = λ honest sound wrong. absurd (faults.damaged honest sound wrong);
      undamaged = λ honest fit wrong. absurd (undamaged honest fit wrong);
      honest = read.honest;
      stays = read.stays;
      asleep = λ e. absurd (let wrong : true ≡ false = sym asks ∙ e in cc);
      left = λ honest going. tt;
      crash = λ honest t may. inl (read.crash honest t may);
      crash_next = λ honest settings h is e t may. inl (read.crash honest t may);
      kept = λ honest settings h is e entered. absurd (let wrong : true ≡ false = sym entered
          ∙ (value honest settings h is e).2 in cc);
    }
acted_by_reading content is_failed is_honest may_leave zone closes message (Err f) before after old
    new asks value text told same faults undamaged read = record {
      report = λ honest settings h is e. tt;
      tables = λ honest settings h is e. tt;
      text = tt;
      shown = λ honest. page_told message (Err f) zone closes (content old) before after
          (told honest);
      made = λ honest going. tt;
      err = same;
      unmade = λ honest going. read.same honest going;
      store = (λ e. (faults.store.0 e, asks), λ e. faults.store.1 e.0);
      whole = λ honest settings h is e. faults.damaged honest
          (held_is_sound (content old) settings h is e);
      damaged = λ honest sound wrong. absurd (faults.damaged honest sound wrong);
      undamaged = λ honest fit wrong. absurd (undamaged honest fit wrong);
      honest = read.honest;
      stays = read.stays;
      asleep = λ e. absurd (let wrong : true ≡ false = sym asks ∙ e in cc);
      left = λ honest going t may. read.crash honest t may;
      crash = λ honest t may. inl (read.crash honest t may);
      crash_next = λ honest settings h is e t may. inl (read.crash honest t may);
      kept = λ honest settings h is e entered. tt;
    }

-- what is known of an accepted command before its bytes are written and its change is made
pub record IsReady {K : Type 0} (content : K → Tables) (is_failed : K → Bool)
    (is_honest : K → Type 0) (may_leave : K → Tables → Type 0)
    (moment caller : ℕ) (command : Command) (change : Change) (old mid : K) : Type 0 where
  pub going : is_failed mid ≡ false
  pub read : IsRead content is_failed is_honest may_leave old mid
  pub same : is_honest mid → content mid ≡ content old
  pub accepted : is_honest mid → (settings : Settings) (h : History) → IsHistory settings h
      → content old ≡ tables_of settings h → IsAccepted settings h moment caller command change
  pub fits : is_honest mid → CommandRowsFit (content old) caller command
      → ChangeRowsFit (content old) change → ChangeFits (content old) change
  pub own : is_honest mid → IsOf moment caller command change

-- the keep hadn't failed before either
not_before : {K : Type 0} (is_failed : K → Bool) (old mid : K)
    → (is_failed old ≡ true → is_failed mid ≡ true) → is_failed mid ≡ false → is_failed old ≡ false
not_before is_failed old mid stays going = elim (by_test (is_failed old)) [
  | inl failed ↦ absurd (let wrong : true ≡ false = sym (stays failed) ∙ going in cc)
  | inr not ↦ not
]

-- the tables after the change are those of the next history
leads_on : (settings : Settings) (h : History) (moment caller : ℕ) (command : Command)
    (change : Change) (t : Tables) → t ≡ tables_of settings h
    → IsAccepted settings h moment caller command change
    → changed t change ≡ tables_of settings
    (next {F = RequestFault} settings h (Write moment caller command))
leads_on settings h moment caller command change t e is =
    ap (λ (x : Tables). changed x change) e ∙ is.leads
    ∙ ap (tables_of settings)
    (sym (next_accepted RequestFault settings h moment caller command is.accepted))

-- the change of a ready command fits sound tables
sound_change : {K : Type 0} (content : K → Tables) (is_failed : K → Bool)
    (is_honest : K → Type 0) (may_leave : K → Tables → Type 0)
    (moment caller : ℕ) (command : Command) (change : Change) (old mid : K)
    → IsReady content is_failed is_honest may_leave moment caller command change old mid
    → is_honest mid → AreSound (content old) → ChangeFits (content old) change
sound_change content is_failed is_honest may_leave moment caller command change old mid ready honest
    sound = ready.fits honest (command_rows_fit (content old) caller command sound)
    (change_rows_fit (content old) change sound)

-- and it is the command's own
own_change : {K : Type 0} (content : K → Tables) (is_failed : K → Bool)
    (is_honest : K → Type 0) (may_leave : K → Tables → Type 0)
    (moment caller : ℕ) (command : Command) (change : Change) (old mid : K) (now : Tables)
    → IsReady content is_failed is_honest may_leave moment caller command change old mid
    → is_honest mid → now ≡ changed (content mid) change
    → IsMade (Write moment caller command) (content old) now
own_change content is_failed is_honest may_leave moment caller command change old mid now ready
    honest leads = (
      change,
      (
        ready.own honest,
        ready.fits honest,
        sound_change content is_failed is_honest may_leave moment caller command change old mid
            ready honest,
      ),
      leads ∙ ap (λ (x : Tables). changed x change) (ready.same honest),
    )

-- what reports an accepted command is the text of a reply
some_reply : (zone : Zone) (closes : Bool) (before after : List ℕ) → TellsDone zone closes before after
    → (r : Reply RequestFault) × (after ≡ before ++ reply_text zone closes r)
some_reply zone closes before after (report, e) = (Done report, e)

-- an accepted command
pub acted_by_change : {K : Type 0} (content : K → Tables) (is_failed : K → Bool)
    (is_honest : K → Type 0) (may_leave : K → Tables → Type 0)
    (zone : Zone) (closes : Bool) (moment caller : ℕ) (command : Command) (change : Change)
    (result : Result (Unit {0}) KeepFault) (before after : List ℕ) (old mid new : K)
    → IsReady content is_failed is_honest may_leave moment caller command change old mid
    → (is_honest new → IfReported (content mid) change
    (λ report. OnOk result (after ≡ before ++ reply_text zone closes (Done report))))
    → OnOk result (TellsDone zone closes before after)
    → (is_honest new → OnOk result (TellsResult zone closes (content mid) change before after))
    → OnErr result (after ≡ before)
    → IsApplied content is_failed is_honest may_leave change result mid new
    → IsActed content is_failed is_honest may_leave zone closes (Write moment caller command) result
    before after old new
acted_by_change content is_failed is_honest may_leave zone closes moment caller command change
    (Ok u) before after old mid new ready value text told same applied = record {
      report = λ honest settings h is e.
          let b = applied.honest honest in
          let accepted = ready.accepted b settings h is e in
          value honest settings h is (ready.same b ∙ e) moment caller command accepted
          (ready.own b)
          ∙ ap (λ (r : Reply RequestFault). before ++ reply_text zone closes r)
          (sym (reply_accepted settings h moment caller command accepted.accepted));
      tables = λ honest settings h is e.
          let b = applied.honest honest in
          applied.ok honest ∙ leads_on settings h moment caller command change (content mid)
          (ready.same b ∙ e) (ready.accepted b settings h is e);
      text = some_reply zone closes before after text;
      shown = λ honest. tt;
      made = λ honest going.
          let b = applied.honest honest in
          inr (
            change,
            (
              ready.own b,
              ready.fits b,
              sound_change content is_failed is_honest may_leave moment caller command change old
                  mid ready b,
            ),
            applied.ok honest ∙ ap (λ (x : Tables). changed x change) (ready.same b),
            rw (ready.same b) at (told honest),
          );
      err = tt;
      unmade = λ honest going. tt;
      store = (λ e. cc, λ e. applied.faults.store.1 e.0);
      whole = λ honest settings h is e wrong. cc;
      damaged = λ honest sound wrong. cc;
      undamaged = λ honest fit wrong. cc;
      honest = λ honest. ready.read.honest (applied.honest honest);
      stays = λ e. applied.stays (ready.read.stays e);
      asleep = λ e. cc;
      left = λ honest going. tt;
      crash = λ honest t may. inr (
        not_before is_failed old mid ready.read.stays ready.going,
        own_change content is_failed is_honest may_leave moment caller command change old mid
            t ready (applied.honest honest) (applied.kept honest t may ∙ applied.ok honest),
      );
      crash_next = λ honest settings h is e t may.
          let b = applied.honest honest in
          inr (
            not_before is_failed old mid ready.read.stays ready.going,
            applied.kept honest t may ∙ applied.ok honest
                ∙ leads_on settings h moment caller command change (content mid) (ready.same b
                ∙ e) (ready.accepted b settings h is e),
          );
      kept = λ honest settings h is e entered. applied.kept honest;
    }
acted_by_change content is_failed is_honest may_leave zone closes moment caller command change
    (Err f) before after old mid new ready value text told same applied = record {
      report = λ honest settings h is e. tt;
      tables = λ honest settings h is e. tt;
      text = tt;
      shown = λ honest. tt;
      made = λ honest going. tt;
      err = same;
      unmade = λ honest going. applied.err honest going ∙ ready.same (applied.honest honest);
      store = (λ e. (applied.faults.store.0 e, refl), λ e. applied.faults.store.1 e.0);
      whole = λ honest settings h is e wrong.
          let b = applied.honest honest in
          let now : content mid ≡ tables_of settings h = ready.same b ∙ e in
          let accepted = ready.accepted b settings h is e in
          applied.faults.damaged honest (rw now accepted.fits)
          (change_rows_fit (content mid) change (held_is_sound (content mid) settings h is now))
          (rw now accepted.free) wrong;
      damaged = λ honest sound wrong.
          let b = applied.honest honest in
          let fits = sound_change content is_failed is_honest may_leave moment caller command change
          old mid ready b sound in (
            change,
            ready.own b,
            fits,
            λ free. applied.faults.damaged honest (rw (ready.same b) fits)
                (rw (ready.same b) (change_rows_fit (content old) change sound))
                (rw (ready.same b) free) wrong,
          );
      undamaged = λ honest fit wrong.
          let b = applied.honest honest in
          let own = ready.own b in
          let made = fit.1 change own in
          let fits = ready.fits b fit.0 made in (
            change,
            own,
            fits,
            λ free. applied.faults.damaged honest (rw (ready.same b) fits)
                (rw (ready.same b) made) (rw (ready.same b) free) wrong,
          );
      honest = λ honest. ready.read.honest (applied.honest honest);
      stays = λ e. applied.stays (ready.read.stays e);
      asleep = λ e. cc;
      left = λ honest going t may. elim (applied.crash honest t may) [
        | inl could ↦ ready.read.crash (applied.honest honest) t could
        | inr now ↦ absurd (let wrong : true ≡ false = sym now.1 ∙ going in cc)
      ];
      crash = λ honest t may. elim (applied.crash honest t may) [
        | inl could ↦ inl (ready.read.crash (applied.honest honest) t could)
        | inr now ↦ inr (
          not_before is_failed old mid ready.read.stays ready.going,
          own_change content is_failed is_honest may_leave moment caller command change old mid
              t ready (applied.honest honest) now.2,
        )
      ];
      crash_next = λ honest settings h is e t may. elim (applied.crash honest t may) [
        | inl could ↦ inl (ready.read.crash (applied.honest honest) t could)
        | inr now ↦ inr (
          not_before is_failed old mid ready.read.stays ready.going,
          now.2 ∙ leads_on settings h moment caller command change (content mid)
              (ready.same (applied.honest honest)
              ∙ e) (ready.accepted (applied.honest honest) settings h is e),
        )
      ];
      kept = λ honest settings h is e entered. tt;
    }

-- a message that asks for nothing
pub acted_by_nothing : {K : Type 0} (content : K → Tables) (is_failed : K → Bool)
    (is_honest : K → Type 0) (may_leave : K → Tables → Type 0)
    (zone : Zone) (closes : Bool) (caller : Option ℕ) (fault : RequestFault)
    (result : Result (Unit {0}) KeepFault) (before after : List ℕ) (k : K)
    → OnOk result (after ≡ before ++ reply_text zone closes (Faulty fault))
    → OnErr result (after ≡ before) → IfErr result (λ f. f ≡ Memory)
    → IsActed content is_failed is_honest may_leave zone closes (Broken caller fault) result before
    after k k
unfolding next reply
acted_by_nothing content is_failed is_honest may_leave zone closes caller fault (Ok u) before after
    k value same memory = record {
      report = λ honest settings h is e. value;
      tables = λ honest settings h is e. e;
      text = (Faulty fault, value);
      shown = λ honest. tt;
      made = λ honest going. inl (refl, value);
      err = tt;
      unmade = λ honest going. tt;
      store = (λ e. cc, λ e. absurd (let wrong : false ≡ true = e.1 in cc));
      whole = λ honest settings h is e wrong. cc;
      damaged = λ honest sound wrong. cc;
      undamaged = λ honest fit wrong. cc;
      honest = λ honest. honest;
      stays = λ e. e;
      asleep = λ e. refl;
      left = λ honest going. tt;
      crash = λ honest t may. inl may;
      crash_next = λ honest settings h is e t may. inl may;
      kept = λ honest settings h is e entered. cc;
    }
acted_by_nothing content is_failed is_honest may_leave zone closes caller fault (Err f) before after
    k value same memory = record {
      report = λ honest settings h is e. tt;
      tables = λ honest settings h is e. tt;
      text = tt;
      shown = λ honest. tt;
      made = λ honest going. tt;
      err = same;
      unmade = λ honest going. refl;
      store = (λ e. cc, λ e. absurd (let wrong : false ≡ true = e.1 in cc));
      whole = λ honest settings h is e wrong. cc;
      damaged = λ honest sound wrong. cc;
      undamaged = λ honest fit wrong. cc;
      honest = λ honest. honest;
      stays = λ e. e;
      asleep = λ e. refl;
      left = λ honest going t may. may;
      crash = λ honest t may. inl may;
      crash_next = λ honest settings h is e t may. inl may;
      kept = λ honest settings h is e entered. tt;
    }

-- the text of one reply is that of some reply
pub some_text : (result : Result (Unit {0}) KeepFault) (zone : Zone) (closes : Bool)
    (r : Reply RequestFault) (before after : List ℕ)
    → OnOk result (after ≡ before ++ reply_text zone closes r)
    → OnOk result ((r : Reply RequestFault)
    × (after ≡ before ++ reply_text zone closes r))
some_text (Ok u) zone closes r before after e = (r, e)
some_text (Err f) zone closes r before after e = tt

-- and that of a refusal is that of some refusal
pub refused_text : (result : Result (Unit {0}) KeepFault) (zone : Zone) (closes : Bool)
    (refusal : Refusal) (before after : List ℕ)
    → OnOk result (after ≡ before ++ reply_text zone closes (Denied refusal))
    → OnOk result ((refusal : Refusal)
    × (after ≡ before ++ reply_text zone closes (Denied refusal)))
refused_text (Ok u) zone closes refusal before after e = (refusal, e)
refused_text (Err f) zone closes refusal before after e = tt

-- and a text with the result of an accepted command says that it was accepted
pub done_text : (result : Result (Unit {0}) KeepFault) (zone : Zone) (closes : Bool)
    (report : CommandResult) (before after : List ℕ)
    → OnOk result (after ≡ before ++ reply_text zone closes (Done report))
    → OnOk result (TellsDone zone closes before after)
done_text (Ok u) zone closes report before after e = (report, e)
done_text (Err f) zone closes report before after e = tt

-- and, where the result is the change's, it tells that
pub result_text : (result : Result (Unit {0}) KeepFault) (zone : Zone) (closes : Bool) (t : Tables)
    (change : Change) (report : CommandResult) (before after : List ℕ)
    → IsResultBy t change report
    → OnOk result (after ≡ before ++ reply_text zone closes (Done report))
    → OnOk result (TellsResult zone closes t change before after)
result_text (Ok u) zone closes t change report before after is e = (report, is, e)
result_text (Err f) zone closes t change report before after is e = tt
