-- What is known of a run by how it ended.
use Rattle.std.proofs.Common.{◌≡◌, ◌⊎◌, ◌↔◌, ℕ, List, Bool, true, false, Option, Ok, Err, inl, inr, refl, sym, subst}
use Rattle.std.specs.Prelude.{IfErr, IfOk, IsErr, IsErrOf, IsOk, OnErr, OnOk, Result}
use Rattle.device.specs.declared.sink.Sink as sink
use Rattle.site_serve.specs.Serving.{IsFlushed}
use Rattle.house_rows.specs.declared.fault.KeepFault.{KeepFault}
use Rattle.house_rows.specs.declared.fault.KeepFault.TheVariants as closing
use Rattle.auction_runs.specs.Faults.{IsOfClosing, IsOfEnd, IsOfEnded, fault_of_keep}
use Rattle.auction_runs.specs.Lines.{IsReported, IsTold, TellsFinding}
use Rattle.auction_runs.specs.declared.fault.TaskFault.{TaskFault}

-- what a run promises where it goes well, it has done where it went well
pub where_done : {T E P : Type 0} (r : Result T E) → IsOk r → OnOk r P → P
where_done (Ok x) done p = p
where_done (Err e) done p = absurd cc

-- what a run promises of its value is so of the one that it gave
pub of_value : {T E : Type 0} (P : T → Type 0) (r : Result T E) (x : T) → r ≡ Ok x → IfOk r P → P x
of_value P r x gave p = subst (λ v. IfOk v P) gave p

-- what follows from what is promised
pub on_ok_then : {T E P Q : Type 0} (r : Result T E) → OnOk r P → (P → Q) → OnOk r Q
on_ok_then (Ok x) p f = f p
on_ok_then (Err e) p f = tt

-- what follows of a fault
pub if_err_then : {T E : Type 0} {P Q : E → Type 0} (r : Result T E) → IfErr r P
    → ((e : E) → P e → Q e) → IfErr r Q
if_err_then (Ok x) p f = tt
if_err_then (Err e) p f = f e p

-- both facts of a fault
pub both_faults : {T E : Type 0} (P Q : E → Type 0) (r : Result T E) → IfErr r P → IfErr r Q
    → IfErr r (λ e. P e × Q e)
both_faults P Q (Ok x) p q = tt
both_faults P Q (Err e) p q = (p, q)

-- what is so whatever a result is
pub always : {T E P : Type 0} (r : Result T E) → P → OnOk r P
always (Ok x) p = p
always (Err e) p = tt

-- both facts of a value
pub both : {T E : Type 0} {P Q : T → Type 0} (r : Result T E) → IsOk r → IfOk r P → IfOk r Q
    → (x : T) × P x × Q x
both (Ok x) done p q = (x, p, q)
both (Err e) done p q = absurd cc

-- those of a value that a run which went well was given
pub both_of : {T U E F : Type 0} {P Q : T → Type 0} (s : Result T E) (r : Result U F) → IsOk r
    → OnOk r (IsOk s) → OnOk r (IfOk s P) → IfOk s Q → (x : T) × P x × Q x
both_of s (Ok u) done ok p q = both s ok p q
both_of s (Err e) done ok p q = absurd cc

-- a fault that an end reported, which reports no damage
pub of_closing : (ended : Result (Unit {0}) KeepFault) (reason : KeepFault) (fault : TaskFault)
    → ¬ (IsErrOf ended closing.Damaged) → ended ≡ Err reason → fault ≡ fault_of_keep reason
    → IsOfClosing fault
of_closing ended closing.Memory fault sound gave is = inl is
of_closing ended closing.Store fault sound gave is = inr is
of_closing ended closing.Damaged fault sound gave is = absurd (sound gave)

-- a fault by how a keep's end went is one by what is left of the keep
end_fault : {K L : Type 0} (is_ended is_left : K → L → Type 0) (keep : K) (left : L)
    (before after : Option (List ℕ)) (ended : Result (Unit {0}) KeepFault) (fault : TaskFault)
    → IsOfEnded ended before after fault → OnOk ended (is_ended keep left)
    → OnErr ended (is_left keep left) → ¬ (IsErrOf ended closing.Damaged)
    → IsOfEnd is_ended is_left keep left before after fault
end_fault is_ended is_left keep left before after (Ok u) fault (inl ((kept, gave, is), same)) done
    failed sound = absurd cc
end_fault is_ended is_left keep left before after (Err e) fault (inl ((kept, gave, is), same)) done
    failed sound = inl (of_closing (Err e) kept fault sound gave is, failed, same)
end_fault is_ended is_left keep left before after (Ok u) fault (inr (is, ok)) done failed sound =
    inr (is, done)
end_fault is_ended is_left keep left before after (Err e) fault (inr (is, ok)) done failed sound =
    absurd cc

pub end_faults : {T K L : Type 0} (is_ended is_left : K → L → Type 0) (keep : K) (left : L)
    (before after : Option (List ℕ)) (r : Result T TaskFault) (ended : Result (Unit {0}) KeepFault)
    → IfErr r (IsOfEnded ended before after)
    → OnOk ended (is_ended keep left) → OnErr ended (is_left keep left)
    → ¬ (IsErrOf ended closing.Damaged)
    → IfErr r (IsOfEnd is_ended is_left keep left before after)
end_faults is_ended is_left keep left before after (Ok x) ended why done failed sound = tt
end_faults is_ended is_left keep left before after (Err e) ended why done failed sound =
    end_fault is_ended is_left keep left before after ended e why done failed sound

-- and so is one that comes after another, where there is none before it
pub first_or_end_faults : {T K L : Type 0} (First : TaskFault → Type 0) (None : Type 0)
    (is_ended is_left : K → L → Type 0)
    (keep : K) (left : L) (before after : Option (List ℕ)) (r : Result T TaskFault)
    (ended : Result (Unit {0}) KeepFault)
    → IfErr r (λ fault. First fault ⊎ (None × IsOfEnded ended before after fault))
    → OnOk ended (is_ended keep left) → OnErr ended (is_left keep left)
    → ¬ (IsErrOf ended closing.Damaged)
    → IfErr r (λ fault. First fault ⊎ (None × IsOfEnd is_ended is_left keep left before after fault))
first_or_end_faults First None is_ended is_left keep left before after (Ok x) ended why done failed
    sound = tt
first_or_end_faults First None is_ended is_left keep left before after (Err e) ended (inl first) done
    failed sound = inl first
first_or_end_faults First None is_ended is_left keep left before after (Err e) ended (inr (none, why))
    done failed sound =
    inr (none, end_fault is_ended is_left keep left before after ended e why done failed sound)

-- what is so of a result, whichever it is
pub either_end : {T E P Q : Type 0} (r : Result T E) → OnOk r P → OnErr r Q → P ⊎ Q
either_end (Ok x) p q = inl p
either_end (Err e) p q = inr q

-- where all was handed on and then again, all is handed on
pub flushed_twice : {W : Type 0} (handed_on taken : W → Option (List ℕ)) (a b c : W)
    → IsFlushed handed_on taken a b → IsFlushed handed_on taken b c
    → IsFlushed handed_on taken a c
flushed_twice handed_on taken a b c first (inr all) = inr all
flushed_twice handed_on taken a b c first (inl same) =
    subst (λ w. IsFlushed handed_on taken a w) (sym same) first

-- what a run reports, whose fault is of a kind
pub reported_by : {W : Type 0} (w : sink.Ghosts W) (MayHave : TaskFault → Type 0) (old new : W) (status : ℕ)
    (outcome : Result (Unit {0}) TaskFault) → ((status ≡ 0) ↔ IsOk outcome)
    → ((status ≡ 1) ↔ IsErr outcome) → (IsOk outcome → new ≡ old)
    → IfErr outcome (IsTold w old new) → IfErr outcome MayHave
    → IsReported w MayHave old new status
reported_by w MayHave old new status (Ok u) done failed quiet told may =
    (λ e. quiet (done.0 e), λ e. let wrong = failed.0 e in absurd cc)
reported_by w MayHave old new status (Err fault) done failed quiet told may =
    (λ e. let wrong = done.0 e in absurd cc, λ e. (fault, may, told))

-- what a run tells that finds something out
pub finding_told : {W : Type 0} (w : sink.Ghosts W) (Found : Bool → Type 0) (MayHave : TaskFault → Type 0)
    (old new : W) (status : ℕ) (found : Result Bool TaskFault) → ((status ≡ 0) ↔ (found ≡ Ok true))
    → (IsOk found → new ≡ old) → IfErr found (IsTold w old new) → IfOk found Found → IfErr found MayHave
    → TellsFinding w Found MayHave old new status
finding_told w Found MayHave old new status (Ok true) so quiet told is may =
    (λ e. (is, quiet refl), λ e. let zero = so.1 refl in absurd cc)
finding_told w Found MayHave old new status (Ok false) so quiet told is may =
    (λ e. let wrong = so.0 e in absurd cc, λ e. inl (is, quiet refl))
finding_told w Found MayHave old new status (Err fault) so quiet told is may =
    (λ e. let wrong = so.0 e in absurd cc, λ e. inr (fault, may, told))
