-- What a call that leaves the history is replied: a read, or a command that is refused.
use Rattle.std.proofs.Common.{◌≡◌, ◌++◌, ◌∙◌, ℕ, List, Bool, false, refl, sym, ap, Some}
use Rattle.std.specs.Prelude.{Result, Ok, Err, IfErr, OnOk, IsErrOf, length, take}
use Rattle.std.proofs.Math.Seq.{take-append_seam}
use Rattle.house_rows.specs.declared.command.Command.{Command}
use Rattle.house_rows.specs.declared.fault.KeepFault.{KeepFault}
use Rattle.house_rows.specs.declared.fault.KeepFault.TheVariants.{Memory, Store, Damaged}
use Rattle.house_rows.specs.declared.message.Message.TheVariants.{Write, Read}
use Rattle.house_rows.specs.declared.page.Page.{Page}
use Rattle.house_rows.specs.declared.query.Query.{Query}
use Rattle.house_rows.specs.declared.refusal.Refusal.{Refusal}
use Rattle.house_rows.specs.declared.reply.Reply.{Reply}
use Rattle.house_rows.specs.declared.reply.Reply.TheVariants.{Denied, Shows}
use Rattle.house_rows.specs.declared.settings.Settings.{Settings}
use Rattle.house_rows.specs.History.{History}
use Rattle.house_rows.specs.Keeping.{Faults}
use Rattle.house_rows.specs.Pages.{page_of}
use Rattle.house_rows.specs.Runs.{next, reply}
use Rattle.house_rows.specs.Tables.{Tables}
use Rattle.house_rows.specs.Taken.{IsUndamaged}
use Rattle.house_rows.specs.Verdict.{verdict}
use Rattle.house_rows.proofs.Next.{next_refused, reply_refused}
use Rattle.settle.specs.declared.zone.Zone.{Zone}
use Rattle.site_request.specs.declared.fault.RequestFault.{RequestFault}
use Rattle.site_replies.specs.Texts.{reply_text}
use Rattle.site_acts.specs.Acted.{is_entered}

-- a buffer that is cut to its old length has what it had
pub cut_back : (before text after cut : List ℕ) (n : ℕ) → n ≡ length before → after ≡ before ++ text
    → cut ≡ take n after → cut ≡ before
cut_back before text after cut n at more is = is ∙ rw (at, more) (take-append_seam before text)

-- the faults of a call stay those of what follows where that only lacks memory
pub faults_after : {A : Type 0} (x : A) (result : Result (Unit {0}) KeepFault) (is_honest : Type 0)
    (is_failed : Bool) (content : Tables)
    → Faults (Ok x) is_honest is_failed content → IfErr result (λ f. f ≡ Memory)
    → Faults result is_honest is_failed content
faults_after x (Ok u) is_honest is_failed content faults memory = record {
  store = (λ e. cc, λ e. absurd (let wrong : Ok x ≡ Err Store = faults.store.1 e in cc));
  damaged = λ honest sound wrong. cc;
}
faults_after x (Err f) is_honest is_failed content faults memory = record {
  store = (λ e. cc, λ e. absurd (let wrong : Ok x ≡ Err Store = faults.store.1 e in cc));
  damaged = λ honest sound wrong. cc;
}

-- one fault in results of two types
same_fault : (A B : Type 0) (f g : KeepFault) → IsErrOf {T = A} (Err f) g
    → IsErrOf {T = B} (Err f) g
same_fault A B f g e = let same : f ≡ g = cc in ap Err same

pub faults_err : (A B : Type 0) (f : KeepFault) (is_honest : Type 0) (is_failed : Bool)
    (content : Tables)
    → Faults {A = A} (Err f) is_honest is_failed content
    → Faults {A = B} (Err f) is_honest is_failed content
faults_err A B f is_honest is_failed content faults = record {
  store = (
    λ e. faults.store.0 (same_fault B A f Store e),
    λ e. same_fault A B f Store
        (faults.store.1 e),
  );
  damaged = λ honest sound wrong. faults.damaged honest sound (same_fault B A f Damaged wrong);
}

-- nor is a call damaged whose fault is that of one that isn't
pub undamaged_err : (A B : Type 0) (f : KeepFault) → IsUndamaged {A = A} (Err f)
    → IsUndamaged {A = B} (Err f)
undamaged_err A B f undamaged = λ wrong. undamaged (same_fault B A f Damaged wrong)

-- or that only lacks memory
pub undamaged_after : (result : Result (Unit {0}) KeepFault) → IfErr result (λ f. f ≡ Memory)
    → IsUndamaged result
undamaged_after (Ok u) memory = λ wrong. cc
undamaged_after (Err f) memory = λ wrong. cc

-- a refused command
pub refused_reads : (result : Result (Unit {0}) KeepFault) (zone : Zone) (closes : Bool)
    (settings : Settings) (h : History) (moment caller : ℕ) (command : Command) (refusal : Refusal)
    (before after : List ℕ)
    → verdict settings h moment caller command ≡ Some refusal
    → OnOk result (after ≡ before ++ reply_text zone closes (Denied refusal))
    → OnOk result ((after ≡ before
    ++ reply_text zone closes (reply settings h (Write moment caller command)))
    × (next {F = RequestFault} settings h (Write moment caller command) ≡ h)
    × (is_entered settings h (Write moment caller command) ≡ false))
refused_reads (Ok u) zone closes settings h moment caller command refusal before after refused
    text = (
      text ∙ ap (λ (r : Reply RequestFault). before ++ reply_text zone closes r)
          (sym (reply_refused settings h moment caller command refusal refused)),
      next_refused RequestFault settings h moment caller command refusal refused,
      rw refused refl,
    )
refused_reads (Err f) zone closes settings h moment caller command refusal before after refused
    text = tt

-- a read
pub shown_reads : (result : Result (Unit {0}) KeepFault) (zone : Zone) (closes : Bool)
    (settings : Settings) (h : History) (caller : ℕ) (query : Query) (page : Page)
    (before after : List ℕ)
    → page ≡ page_of settings h caller query
    → OnOk result (after ≡ before ++ reply_text zone closes (Shows page))
    → OnOk result ((after ≡ before
    ++ reply_text zone closes (reply settings h (Read caller query)))
    × (next {F = RequestFault} settings h (Read caller query) ≡ h)
    × (is_entered settings h (Read caller query) ≡ false))
unfolding next reply
shown_reads (Ok u) zone closes settings h caller query page before after is text =
    (rw (← is) text, refl, refl)
shown_reads (Err f) zone closes settings h caller query page before after is text = tt

-- a page, by the tables that are kept
pub shown_page : (result : Result (Unit {0}) KeepFault) (zone : Zone) (closes : Bool)
    (page other : Page) (before after : List ℕ) → page ≡ other
    → OnOk result (after ≡ before ++ reply_text zone closes (Shows page))
    → OnOk result (after ≡ before ++ reply_text zone closes (Shows other))
shown_page (Ok u) zone closes page other before after is text = rw (← is) text
shown_page (Err f) zone closes page other before after is text = tt
