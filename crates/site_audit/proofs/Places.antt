-- The result for one place.
use Rattle.std.proofs.Common.{if◌then◌else◌, ◌≡◌, ◌∙◌, ◌++◌, ◌∷◌, [], ℕ, List, Bool, true, false, refl, sym, ap, subst, inl, inr, Result, Ok, Err}
use Rattle.std.specs.Prelude.{IsErr, IsErrAnd}
use Rattle.house_rows.specs.declared.fault.KeepFault.TheVariants as keep_fault
use Rattle.house_rows.specs.declared.settings.Settings.{Settings}
use Rattle.house_rows.specs.History.{History}
use Rattle.house_rows.specs.Runs.{Agrees, reply}
use Rattle.house_rows.specs.Tables.{Tables, tables_of}
use Rattle.house_rows.specs.Verdict.{IsHistory}
use Rattle.house_rows.proofs.Next.{next_is_history}
use Rattle.settle.specs.declared.zone.Zone.{Zone}
use Rattle.site.specs.Replies.{IsStep, Replies, next_of, reply_to}
use Rattle.site.specs.Runs.{is_from}
use Rattle.wire.specs.Response.{head_start, response_bytes, status_line}
use Rattle.site_request.specs.Asked.{IsAsked, asked_of}
use Rattle.site_request.specs.declared.asked.Asked.{Asked}
use Rattle.wire.proofs.OneFrame.{one_frame}
use Rattle.site_audit.specs.declared.fault.AuditFault.{AuditFault}
use Rattle.site_audit.specs.declared.fault.AuditFault.TheVariants.{Memory, Store, NotNew}
use Rattle.site_audit.specs.Places.{ArePaired, Heard, IsJudged, IsPlaceReported, IsReplyReported, IsSeen, reply_at}
use Rattle.site_replies.specs.Texts.{digits_in, fault_text, is_failure}
use Rattle.site_replies.proofs.StatusLemmas.{memory_reported, reply_served, store_reported}

pub not_both : (b : Bool) → b ≡ true → b ≡ false → ⊥
not_both true is other = cc
not_both false is other = cc

-- running out of memory isn't reported as a failure
memory_goes : (closes : Bool) → is_failure (fault_text keep_fault.Memory closes) ≡ false
unfolding fault_text digits_in response_bytes head_start status_line
memory_goes closes = refl

-- a reply of a step that was looked at
pub reply_reported : {K R : Type 0} (content : K → Tables) (is_failed : K → Bool)
    (may_leave : K → Tables → Type 0) (items : R → List ℕ)
    (settings : Settings) (zone : Zone) (h : History) (asked : Asked) (given : R) (old new : K)
    (result : Result R AuditFault)
    → Replies content is_failed may_leave settings zone h asked (items given) old new
    → IsJudged items given result
    → IsReplyReported content is_failed items settings zone h asked new result
unfolding reply_to
reply_reported content is_failed may_leave items settings zone h asked given old new (Ok same) replied
    (e, served) =
    elim replied.outcome [
      | inl done ↦ (ap items e ∙ done.report, done.tables)
      | inr other ↦ elim other [
        | inl wanting ↦ absurd (not_both _ (memory_reported asked.closes)
            (rw wanting.report at served.not_wanting))
        | inr failed ↦ absurd (not_both _ (store_reported asked.closes)
            (rw failed.report at served.not_failed))
      ]
    ]
reply_reported content is_failed may_leave items settings zone h asked given old new (Err Memory)
    replied wanting = tt
reply_reported content is_failed may_leave items settings zone h asked given old new (Err Store)
    replied failing =
    elim replied.outcome [
      | inl done ↦ absurd (not_both _ (rw done.report at failing)
          (reply_served zone asked.closes (reply settings h asked.message)).not_failed)
      | inr other ↦ elim other [
        | inl wanting ↦ absurd (not_both _ (rw wanting.report at failing)
            (memory_goes asked.closes))
        | inr failed ↦ failed.failed
      ]
    ]
reply_reported content is_failed may_leave items settings zone h asked given old new (Err NotNew)
    replied judged = absurd judged

-- the same of a text, whatever it was found to ask
pub step_reported : {K R : Type 0} (content : K → Tables) (is_failed : K → Bool)
    (is_honest : K → Type 0) (may_leave : K → Tables → Type 0) (items : R → List ℕ)
    (settings : Settings) (zone : Zone) (h : History) (text : List ℕ) (found asked : Asked)
    (given : R) (old new : K) (result : Result R AuditFault) → IsAsked text found
    → IsAsked text asked
    → IsStep content is_failed is_honest may_leave zone found (items given) old new
    → IsJudged items given result → is_honest new → IsHistory settings h
    → content old ≡ tables_of settings h
    → IsReplyReported content is_failed items settings zone h asked new result
step_reported content is_failed is_honest may_leave items settings zone h text found asked given old
    new result (f, is, e) (g, also, d) step judged honest history tables =
    let same : found ≡ asked = e ∙ ap asked_of (one_frame text f g is also) ∙ sym d in
    reply_reported content is_failed may_leave items settings zone h asked given old new result
    (subst (λ a. Replies content is_failed may_leave settings zone h a (items given) old new) same
    (step.replies honest settings h history tables)) judged

-- the fault that a fault was made into
pub place_gave : {K : Type 0} (content : K → Tables) (is_failed : K → Bool)
    (settings : Settings) (zone : Zone) (c : ℕ) (h k : History) (x y : Heard)
    (before after : List (List ℕ)) (left right : K) (fault : AuditFault)
    (result : Result Bool AuditFault) → IsErr result × IsErrAnd result (λ report. report ≡ fault)
    → IsPlaceReported content is_failed settings zone c h k x y before after left right (Err fault)
    → IsPlaceReported content is_failed settings zone c h k x y before after left right result
place_gave content is_failed settings zone c h k x y before after left right fault (Ok report) gave
    place = absurd gave.1
place_gave content is_failed settings zone c h k x y before after left right fault (Err report) gave
    place =
    subst (λ f. IsPlaceReported content is_failed settings zone c h k x y before after left right
    (Err f)) (sym gave.1) place

-- a left reply that isn't given
pub place_left : {K R : Type 0} (content : K → Tables) (is_failed : K → Bool) (items : R → List ℕ)
    (settings : Settings) (zone : Zone) (c : ℕ) (h k : History) (x y : Heard)
    (before after : List (List ℕ)) (left right : K) (fault : AuditFault)
    → IsReplyReported content is_failed items settings zone h x.asked left (Err fault)
    → IsPlaceReported content is_failed settings zone c h k x y before after left right (Err fault)
place_left content is_failed items settings zone c h k x y before after left right Memory report = tt
place_left content is_failed items settings zone c h k x y before after left right Store report =
    inl report
place_left content is_failed items settings zone c h k x y before after left right NotNew report =
    report

-- a right reply that isn't given
pub place_right : {K R : Type 0} (content : K → Tables) (is_failed : K → Bool) (items : R → List ℕ)
    (settings : Settings) (zone zone' : Zone) (c : ℕ) (h k : History) (x y : Heard)
    (before after : List (List ℕ)) (left right : K) (fault : AuditFault)
    → IsReplyReported content is_failed items settings zone' k y.asked right (Err fault)
    → IsPlaceReported content is_failed settings zone c h k x y before after left right (Err fault)
place_right content is_failed items settings zone zone' c h k x y before after left right Memory
    report = tt
place_right content is_failed items settings zone zone' c h k x y before after left right Store
    report = inr report
place_right content is_failed items settings zone zone' c h k x y before after left right NotNew
    report = report

-- both were answered, and the keeps looked at
pub place_seen : {K : Type 0} (content : K → Tables) (is_failed : K → Bool)
    (settings : Settings) (zone : Zone) (c : ℕ) (h k : History) (x y : Heard)
    (before after : List (List ℕ)) (left right left_new right_new : K)
    (result : Result Bool AuditFault) → ArePaired c x y
    → content left ≡ tables_of settings (next_of settings h x.asked)
    → content right ≡ tables_of settings (next_of settings k y.asked)
    → after ≡ before ++ reply_at settings zone c h x.asked
    → IsSeen content is_failed (Agrees settings c (next_of settings h x.asked)
    (next_of settings k y.asked)) left right left_new right_new result
    → IsPlaceReported content is_failed settings zone c h k x y before after left_new right_new result
place_seen content is_failed settings zone c h k x y before after left right left_new right_new
    (Ok true) paired e d replies (report, same, same') = record {
      twin = record { paired = paired; agree = report.0 refl };
      have = record { left_has = same ∙ e; right_has = same' ∙ d };
      kept = replies;
    }
place_seen content is_failed settings zone c h k x y before after left right left_new right_new
    (Ok false) paired e d replies (report, same, same') =
    λ place. not_both false (report.1 place.agree) refl
place_seen content is_failed settings zone c h k x y before after left right left_new right_new
    (Err Memory) paired e d replies seen = tt
place_seen content is_failed settings zone c h k x y before after left right left_new right_new
    (Err Store) paired e d replies seen = seen
place_seen content is_failed settings zone c h k x y before after left right left_new right_new
    (Err NotNew) paired e d replies seen = seen

-- what is kept of a reply is the reply at its place
pub reply_kept : {R : Type 0} (items : R → List ℕ) (settings : Settings) (zone : Zone) (c : ℕ)
    (h : History) (asked : Asked) (given : R) (mine : Bool) (before after : List (List ℕ))
    → mine ≡ is_from c asked → items given ≡ reply_to settings zone h asked
    → after ≡ before ++ (if mine then items given ∷ [] else [])
    → after ≡ before ++ reply_at settings zone c h asked
reply_kept items settings zone c h asked given mine before after e d kept =
    rw (← e, ← d) kept

-- the history after a message is one too
pub next_is : (settings : Settings) (h : History) (m : Asked) → IsHistory settings h
    → IsHistory settings (next_of settings h m)
unfolding next_of
next_is settings h m is = next_is_history settings h m.message is
