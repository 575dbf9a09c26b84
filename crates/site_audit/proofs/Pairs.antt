-- The result of a look at two keeps.
use Rattle.std.proofs.Common.{◌≡◌, ◌∙◌, [], Bool, true, false, refl, sym, ap, subst, inl, inr, Result, Ok, Err}
use Rattle.std.specs.Prelude.{◌↔◌, IsErr, IsErrAnd, IsErrOf}
use Rattle.house_rows.specs.declared.fault.KeepFault.{KeepFault}
use Rattle.house_rows.specs.declared.fault.KeepFault.TheVariants as keep_fault
use Rattle.house_rows.specs.declared.settings.Settings.{Settings}
use Rattle.house_rows.specs.History.{History}
use Rattle.house_rows.specs.Keeping.{AreSound, Faults, IsRead}
use Rattle.house_rows.specs.Tables.{Tables, tables_of}
use Rattle.house_rows.specs.Verdict.{IsHistory}
use Rattle.house_rows.proofs.Sound.{rows_are_sound}
use Rattle.house_views.specs.Views.{PairFaults}
use Rattle.site_audit.specs.declared.fault.AuditFault.{AuditFault}
use Rattle.site_audit.specs.declared.fault.AuditFault.TheVariants.{Memory, Store, NotNew}
use Rattle.site_audit.specs.Audits.{MayBegin}
use Rattle.site_audit.specs.Faults.{fault_of_keep}
use Rattle.site_audit.specs.Places.{IsSeen}

-- the tables of a history are sound
pub sound_if : (settings : Settings) (h : History) (t : Tables) → IsHistory settings h
    → t ≡ tables_of settings h → AreSound t
sound_if settings h t is e = rw e (rows_are_sound settings h is)

-- a look at two keeps had a result of both
pub seen_ok : {K : Type 0} (content : K → Tables) (is_failed : K → Bool) (is_honest : K → Type 0)
    (may_leave : K → Tables → Type 0) (P : Type 0) (left right left_new right_new : K) (report : Bool)
    → PairFaults {A = Bool} (Ok report) (is_honest left_new × is_honest right_new) (is_failed left_new)
    (is_failed right_new) (content left) (content right)
    → IsRead content is_failed is_honest may_leave left left_new
    → IsRead content is_failed is_honest may_leave right right_new
    → is_honest left_new → is_honest right_new → (report ≡ true) ↔ P
    → IsSeen content is_failed P left right left_new right_new (Ok report)
seen_ok content is_failed is_honest may_leave P left right left_new right_new report faults read read'
    honest honest' is = (
      is,
      read.same honest faults.going.0,
      read'.same honest' faults.going.1,
    )

-- or one of them met a fault
pub seen_err : {K : Type 0} (content : K → Tables) (is_failed : K → Bool) (P are_honest : Type 0)
    (left right left_new right_new : K) (f : KeepFault)
    → PairFaults {A = Bool} (Err f) are_honest (is_failed left_new) (is_failed right_new)
    (content left) (content right)
    → are_honest → AreSound (content left) → AreSound (content right)
    → IsSeen content is_failed P left right left_new right_new (Err (fault_of_keep f))
seen_err content is_failed P are_honest left right left_new right_new keep_fault.Memory faults
    honest sound sound' = tt
seen_err content is_failed P are_honest left right left_new right_new keep_fault.Store faults honest
    sound sound' = faults.store refl
seen_err content is_failed P are_honest left right left_new right_new keep_fault.Damaged faults
    honest sound sound' = absurd (faults.damaged honest sound sound' refl)

-- the error that a fault of a keep was made into
pub seen_gave : {K : Type 0} (content : K → Tables) (is_failed : K → Bool) (P : Type 0)
    (left right left_new right_new : K) (f : KeepFault) (result : Result Bool AuditFault)
    → IsErr result × IsErrAnd result (λ report. report ≡ fault_of_keep f)
    → IsSeen content is_failed P left right left_new right_new (Err (fault_of_keep f))
    → IsSeen content is_failed P left right left_new right_new result
seen_gave content is_failed P left right left_new right_new f (Ok report) gave seen = absurd gave.1
seen_gave content is_failed P left right left_new right_new f (Err report) gave seen =
    subst (λ x. IsSeen content is_failed P left right left_new right_new (Err x)) (sym gave.1) seen

-- no fault of a keep is that a house isn't new
pub keep_gave : {A : Type 0} (f : KeepFault) (result : Result A AuditFault)
    → IsErr result × IsErrAnd result (λ report. report ≡ fault_of_keep f)
    → ¬ (IsErrOf result NotNew)
keep_gave f (Ok a) gave = λ e. absurd gave.1
keep_gave keep_fault.Memory (Err report) gave = λ e. let is : report ≡ Memory = gave.1 in absurd cc
keep_gave keep_fault.Store (Err report) gave = λ e. let is : report ≡ Store = gave.1 in absurd cc
keep_gave keep_fault.Damaged (Err report) gave = λ e. let is : report ≡ Store = gave.1 in absurd cc

-- nor is it what out of memory was made into
pub memory_gave : {A : Type 0} (f : AuditFault) (result : Result A AuditFault)
    → IsErr result × IsErrAnd result (λ report. report ≡ f) → f ≡ Memory
    → ¬ (IsErrOf result NotNew)
memory_gave f (Ok a) gave memory = λ e. absurd gave.1
memory_gave f (Err report) gave memory = λ e. let is : report ≡ f = gave.1 in absurd cc

-- nor what another fault was made into
pub never_gave : {A B : Type 0} (f : AuditFault) (result : Result B AuditFault)
    → IsErr result × IsErrAnd result (λ report. report ≡ f)
    → ¬ (IsErrOf {T = A} (Err f) NotNew) → ¬ (IsErrOf result NotNew)
never_gave f (Ok b) gave never = λ e. absurd gave.1
never_gave f (Err report) gave never = λ e.
    let is : report ≡ f = gave.1 in
    let same : f ≡ NotNew = cc in
    absurd (never (ap Err same))

-- one fault in results of two types
pub never_other : {A B : Type 0} (f : AuditFault) → ¬ (IsErrOf {T = A} (Err f) NotNew)
    → ¬ (IsErrOf {T = B} (Err f) NotNew)
never_other f never = λ e. let same : f ≡ NotNew = cc in absurd (never (ap Err same))

-- what goes on was going before
going_before : (before after : Bool) → (before ≡ true → after ≡ true) → after ≡ false
    → before ≡ false
going_before false after stays going = refl
going_before true after stays going = absurd (let failed = stays refl in cc)

-- a keep that was looked at twice
pub read_twice : {K : Type 0} (content : K → Tables) (is_failed : K → Bool) (is_honest : K → Type 0)
    (may_leave : K → Tables → Type 0) (old mid new : K)
    → IsRead content is_failed is_honest may_leave old mid
    → IsRead content is_failed is_honest may_leave mid new
    → IsRead content is_failed is_honest may_leave old new
read_twice content is_failed is_honest may_leave old mid new a b = record {
  same = λ honest going. b.same honest going
      ∙ a.same (b.honest honest) (going_before (is_failed mid) (is_failed new) b.stays going);
  honest = λ honest. a.honest (b.honest honest);
  stays = λ failed. b.stays (a.stays failed);
  crash = λ honest t left. a.crash (b.honest honest) t (b.crash honest t left);
}

-- and one that is as it was
pub read_same : {K : Type 0} (content : K → Tables) (is_failed : K → Bool) (is_honest : K → Type 0)
    (may_leave : K → Tables → Type 0) (old new : K) → new ≡ old
    → IsRead content is_failed is_honest may_leave old new
read_same content is_failed is_honest may_leave old new same = rw same (record {
  same = λ honest going. refl;
  honest = λ honest. honest;
  stays = λ failed. failed;
  crash = λ honest t left. left;
})

-- keeps with the same tables before
pub seen_from : {K : Type 0} (content : K → Tables) (is_failed : K → Bool) (P : Type 0)
    (a b left right left_new right_new : K) (result : Result Bool AuditFault)
    → content a ≡ content left → content b ≡ content right
    → IsSeen content is_failed P a b left_new right_new result
    → IsSeen content is_failed P left right left_new right_new result
seen_from content is_failed P a b left right left_new right_new (Ok report) e d (is, same, same') =
    (is, same ∙ e, same' ∙ d)
seen_from content is_failed P a b left right left_new right_new (Err Memory) e d seen = seen
seen_from content is_failed P a b left right left_new right_new (Err Store) e d seen = seen
seen_from content is_failed P a b left right left_new right_new (Err NotNew) e d seen = seen

-- the left one alone was asked, and met a fault
pub left_err : {K : Type 0} (content : K → Tables) (is_failed : K → Bool) (P is_honest : Type 0)
    (left right left_new : K) (f : KeepFault)
    → Faults {A = Bool} (Err f) is_honest (is_failed left_new) (content left)
    → is_honest → AreSound (content left)
    → IsSeen content is_failed P left right left_new right (Err (fault_of_keep f))
left_err content is_failed P is_honest left right left_new keep_fault.Memory faults honest sound =
    tt
left_err content is_failed P is_honest left right left_new keep_fault.Store faults honest sound =
    inl (faults.store.0 refl)
left_err content is_failed P is_honest left right left_new keep_fault.Damaged faults honest sound =
    absurd (faults.damaged honest sound refl)

-- or the right one did
pub right_err : {K : Type 0} (content : K → Tables) (is_failed : K → Bool) (P is_honest : Type 0)
    (left right left_new right_new : K) (f : KeepFault)
    → Faults {A = Bool} (Err f) is_honest (is_failed right_new) (content right)
    → is_honest → AreSound (content right)
    → IsSeen content is_failed P left right left_new right_new (Err (fault_of_keep f))
right_err content is_failed P is_honest left right left_new right_new keep_fault.Memory faults
    honest sound = tt
right_err content is_failed P is_honest left right left_new right_new keep_fault.Store faults honest
    sound = inr (faults.store.0 refl)
right_err content is_failed P is_honest left right left_new right_new keep_fault.Damaged faults
    honest sound = absurd (faults.damaged honest sound refl)

its_settings : (settings : Settings) (h : History) → (tables_of settings h).settings ≡ settings
unfolding tables_of
its_settings settings h = refl

pub settings_if : (settings : Settings) (h : History) (t : Tables) → t ≡ tables_of settings h
    → t.settings ≡ settings
settings_if settings h t e = ap (λ (u : Tables). u.settings) e ∙ its_settings settings h

-- keeps of the same settings were set up alike
pub alike_reported : (settings others : Settings) (h k : History) (t u : Tables) (report : Bool)
    → t ≡ tables_of settings h → u ≡ tables_of others k
    → (report ≡ true) ↔ (t.settings ≡ u.settings) → (report ≡ true) ↔ (settings ≡ others)
alike_reported settings others h k t u report e d is =
    rw (settings_if settings h t e, settings_if others k u d) at is

-- an audit can begin where both are new and alike
pub begins : (settings others : Settings) (h k : History) (t u : Tables) → t ≡ tables_of settings h
    → u ≡ tables_of others k → settings ≡ others → t ≡ tables_of settings []
    → u ≡ tables_of others [] → MayBegin t u
begins settings others h k t u e d same new new' = record {
  alike = settings_if settings h t e ∙ same ∙ sym (settings_if others k u d);
  left_new = subst (λ s. t ≡ tables_of s []) (sym (settings_if settings h t e)) new;
  right_new = subst (λ s. u ≡ tables_of s []) (sym (settings_if others k u d)) new';
}

pub left_new : (settings : Settings) (h : History) (t u : Tables) → t ≡ tables_of settings h
    → MayBegin t u → t ≡ tables_of settings []
left_new settings h t u e may =
    subst (λ s. t ≡ tables_of s []) (settings_if settings h t e) may.left_new

pub right_new : (others : Settings) (k : History) (t u : Tables) → u ≡ tables_of others k
    → MayBegin t u → u ≡ tables_of others []
right_new others k t u d may =
    subst (λ s. u ≡ tables_of s []) (settings_if others k u d) may.right_new

pub same_settings : (settings others : Settings) (h k : History) (t u : Tables)
    → t ≡ tables_of settings h → u ≡ tables_of others k → MayBegin t u → settings ≡ others
same_settings settings others h k t u e d may =
    sym (settings_if settings h t e) ∙ may.alike ∙ settings_if others k u d

-- where a house isn't new no audit begins
pub not_begun : {K : Type 0} (content : K → Tables) (is_failed : K → Bool)
    (left right left_new right_new : K) → ¬ (MayBegin (content left) (content right))
    → content left_new ≡ content left → content right_new ≡ content right
    → IsSeen content is_failed (MayBegin (content left) (content right)) left right left_new
    right_new (Ok false)
not_begun content is_failed left right left_new right_new not same same' =
    ((λ e. absurd cc, λ may. absurd (not may)), same, same')

-- where both are, it begins if they are alike
pub begun : {K : Type 0} (content : K → Tables) (is_failed : K → Bool)
    (settings others : Settings) (h k : History) (left right left_mid right_mid left_end right_end : K)
    (result : Result Bool AuditFault) → content left ≡ tables_of settings h
    → content right ≡ tables_of others k → content left ≡ tables_of settings []
    → content right ≡ tables_of others [] → content left_mid ≡ content left
    → content right_mid ≡ content right
    → IsSeen content is_failed (settings ≡ others) left_mid right_mid left_end right_end result
    → IsSeen content is_failed (MayBegin (content left) (content right)) left right left_end
    right_end result
begun content is_failed settings others h k left right left_mid right_mid left_end right_end
    (Ok report) e d new new' same same' (is, stays, stays') = (
      (
        λ yes. begins settings others h k (content left) (content right) e d (is.0 yes) new new',
        λ may. is.1 (same_settings settings others h k (content left) (content right) e d may),
      ),
      stays ∙ same,
      stays' ∙ same',
    )
begun content is_failed settings others h k left right left_mid right_mid left_end right_end
    (Err Memory) e d new new' same same' seen = tt
begun content is_failed settings others h k left right left_mid right_mid left_end right_end
    (Err Store) e d new new' same same' seen = seen
begun content is_failed settings others h k left right left_mid right_mid left_end right_end
    (Err NotNew) e d new new' same same' seen = seen
