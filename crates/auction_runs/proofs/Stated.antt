-- Why there is no statement of a keep.
use Rattle.std.proofs.Common.{◌≡◌, ◌⊎◌, ◌↔◌, ◌<◌, Bool, true, false, List, ℕ, Option, Result, Ok, Err, inl, inr, refl, subst, sym}
use Rattle.std.specs.Prelude.{IfErr, IfOk, IsErr, IsErrAnd, IsErrOf, IsOk, OnErr, OnOk, is_some}
use Rattle.std.specs.Io.KnownBytes.{Keeps}
use Rattle.device.specs.Given.{AppendsBeginning}
use Rattle.house_rows.specs.Keeping.{AreSound, IsRead}
use Rattle.house_rows.specs.Pages.{member_at}
use Rattle.house_rows.specs.Tables.{Tables}
use Rattle.house_rows.specs.Taken.{MemberFitsAt, SalesFit}
use Rattle.house_rows.specs.declared.fault.KeepFault.{KeepFault}
use Rattle.house_rows.specs.declared.fault.KeepFault.TheVariants as kept
use Rattle.house_rows.specs.declared.keep.Keep as keep
use Rattle.office.specs.declared.account.StatementFault.{StatementFault}
use Rattle.office.specs.declared.account.StatementFault.TheVariants as stating
use Rattle.settle.specs.Statement.{Account}
use Rattle.settle.specs.Written.{IsWritten}
use Rattle.settle.specs.declared.fault.SettleFault.{SettleFault}
use Rattle.settle.specs.declared.fault.SettleFault.TheVariants as settling
use Rattle.site.specs.Replies.{IsReadable}
use Rattle.auction_runs.proofs.Outcomes.{either_end, of_closing}
use Rattle.auction_runs.specs.Faults.{IsEndFault, fault_of_settling, fault_of_statement}
use Rattle.auction_runs.specs.Stated.{HasRead, IsAccount, IsUnmade, IsUnread, IsUnstated, IsUnwritten, account_text}
use Rattle.auction_runs.specs.declared.fault.TaskFault.{TaskFault}
use Rattle.auction_runs.specs.declared.statement.Inquiry.{Inquiry}

-- the fault that stands for the office's has the same causes
unread : {K A : Type 0} (content : K → Tables) (is_failed : K → Bool) (is_honest : K → Type 0)
    (asked : Inquiry) (old new : K) (r : Result A StatementFault) (f : StatementFault) → r ≡ Err f
    → (is_honest new → IsErrOf r stating.Member
    → is_some (member_at (content old).members asked.member) ≡ false)
    → (IsErrOf r stating.Order → asked.to < asked.from)
    → (is_honest old → IsErrOf r stating.Member → IsReadable (content old).settings.zone)
    → (is_honest new → IsErrOf r stating.Order → IsReadable (content old).settings.zone
    × (is_some (member_at (content old).members asked.member) ≡ true))
    → (is_honest new → AreSound (content old) → IsErrOf r stating.Damaged
    → ¬ (IsReadable (content old).settings.zone))
    → (is_honest new → MemberFitsAt asked.member (content old)
    → SalesFit asked.member (content old) → IsErrOf r stating.Damaged
    → ¬ (IsReadable (content old).settings.zone))
    → (IsErrOf r stating.Store ↔ (is_failed new ≡ true))
    → IsUnread content is_failed is_honest asked old new (fault_of_statement f)
unread content is_failed is_honest asked old new r stating.Memory gave member order zone last
    damaged undamaged store =
    record {
      cause = inl (kept.Memory, refl);
      store = (λ e. absurd cc, λ failed. let other = store.1 failed in absurd cc);
      damaged = λ honest sound e. absurd cc;
      undamaged = λ honest fit sales e. absurd cc;
      zone = λ honest e. absurd cc;
      last = λ honest e. absurd cc;
    }
unread content is_failed is_honest asked old new r stating.Store gave member order zone last
    damaged undamaged store =
    record {
      cause = inl (kept.Store, refl);
      store = (λ e. store.0 gave, λ failed. refl);
      damaged = λ honest sound e. absurd cc;
      undamaged = λ honest fit sales e. absurd cc;
      zone = λ honest e. absurd cc;
      last = λ honest e. absurd cc;
    }
unread content is_failed is_honest asked old new r stating.Damaged gave member order zone last
    damaged undamaged store =
    record {
      cause = inl (kept.Damaged, refl);
      store = (λ e. absurd cc, λ failed. let other = store.1 failed in absurd cc);
      damaged = λ honest sound e. damaged honest sound gave;
      undamaged = λ honest fit sales e. undamaged honest fit sales gave;
      zone = λ honest e. absurd cc;
      last = λ honest e. absurd cc;
    }
unread content is_failed is_honest asked old new r stating.Order gave member order zone last
    damaged undamaged store =
    record {
      cause = inr (inl (refl, order gave));
      store = (λ e. absurd cc, λ failed. let other = store.1 failed in absurd cc);
      damaged = λ honest sound e. absurd cc;
      undamaged = λ honest fit sales e. absurd cc;
      zone = λ honest e. absurd cc;
      last = λ honest e. last honest gave;
    }
unread content is_failed is_honest asked old new r stating.Member gave member order zone last
    damaged undamaged store =
    record {
      cause = inr (inr (refl, λ honest. member honest gave));
      store = (λ e. absurd cc, λ failed. let other = store.1 failed in absurd cc);
      damaged = λ honest sound e. absurd cc;
      undamaged = λ honest fit sales e. absurd cc;
      zone = λ honest e. zone honest gave;
      last = λ honest e. absurd cc;
    }

-- and is handed on
pub handed_on : {K A T : Type 0} (content : K → Tables) (is_failed : K → Bool)
    (is_honest : K → Type 0) (asked : Inquiry) (old new : K) (r : Result A StatementFault)
    (f : StatementFault) (result : Result T TaskFault)
    → IsErr result × IsErrAnd result (λ report. report ≡ fault_of_statement f) → r ≡ Err f
    → (is_honest new → IsErrOf r stating.Member
    → is_some (member_at (content old).members asked.member) ≡ false)
    → (IsErrOf r stating.Order → asked.to < asked.from)
    → (is_honest old → IsErrOf r stating.Member → IsReadable (content old).settings.zone)
    → (is_honest new → IsErrOf r stating.Order → IsReadable (content old).settings.zone
    × (is_some (member_at (content old).members asked.member) ≡ true))
    → (is_honest new → AreSound (content old) → IsErrOf r stating.Damaged
    → ¬ (IsReadable (content old).settings.zone))
    → (is_honest new → MemberFitsAt asked.member (content old)
    → SalesFit asked.member (content old) → IsErrOf r stating.Damaged
    → ¬ (IsReadable (content old).settings.zone))
    → (IsErrOf r stating.Store ↔ (is_failed new ≡ true))
    → IfErr result (IsUnread content is_failed is_honest asked old new)
handed_on content is_failed is_honest asked old new r f (Ok x) gives gave member order zone last
    damaged undamaged store = absurd gives.1
handed_on content is_failed is_honest asked old new r f (Err report) gives gave member order zone last
    damaged undamaged store = subst (IsUnread content is_failed is_honest asked old new) (sym gives.1)
    (unread content is_failed is_honest asked old new r f gave member order zone last damaged undamaged
    store)

-- the fault that stands for one of writing
pub unwritten : {T : Type 0} (old new : Option (List ℕ)) (was is : Bool)
    (r : Result (Unit {0}) SettleFault) (text : List ℕ) (f : SettleFault) (result : Result T TaskFault)
    → IsErr result × IsErrAnd result (λ report. report ≡ fault_of_settling f) → r ≡ Err f
    → IsWritten old new was is r text → IfErr result (IsUnwritten is)
unwritten old new was is r text f (Ok x) gives gave written = absurd gives.1
unwritten old new was is r text settling.Write (Err report) gives gave written =
    inr (gives.1, written.write gave)
unwritten old new was is r text settling.Memory (Err report) gives gave written = inl gives.1
unwritten old new was is r text settling.Date (Err report) gives gave written =
    elim (subst (λ v. IfErr v (λ e. (e ≡ settling.Write) ⊎ (e ≡ settling.Memory))) gave written.only) [
      | inl e ↦ absurd cc
      | inr e ↦ absurd cc
    ]
unwritten old new was is r text settling.Order (Err report) gives gave written =
    elim (subst (λ v. IfErr v (λ e. (e ≡ settling.Write) ⊎ (e ≡ settling.Memory))) gave written.only) [
      | inl e ↦ absurd cc
      | inr e ↦ absurd cc
    ]
unwritten old new was is r text settling.Zone (Err report) gives gave written =
    elim (subst (λ v. IfErr v (λ e. (e ≡ settling.Write) ⊎ (e ≡ settling.Memory))) gave written.only) [
      | inl e ↦ absurd cc
      | inr e ↦ absurd cc
    ]

-- why no account was read, by how the keep's end went
pub unmade : {K L : Type 0} (k : keep.Ghosts K) (is_ended is_left : K → L → Type 0) (asked : Inquiry)
    (given last : K) (left : L) (r s : Result Account TaskFault)
    (ended : Result (Unit {0}) KeepFault)
    → IfErr r (λ fault. (s ≡ Err fault) ⊎ IsEndFault ended fault)
    → IfErr s (λ fault. r ≡ Err fault)
    → IfErr s (IsUnread k.content k.is_failed k.is_honest asked given last)
    → (k.is_honest last → IfOk s (IsAccount (k.content given) asked))
    → IsRead k.content k.is_failed k.is_honest k.may_leave given last
    → OnOk ended (is_ended last left) → OnErr ended (is_left last left)
    → ¬ (IsErrOf ended kept.Damaged)
    → IfErr r (IsUnmade k (λ q. is_ended q left) (λ q. is_left q left) asked given)
unmade k is_ended is_left asked given last left (Ok x) s ended why first unread shown read done failed
    sound = tt
unmade k is_ended is_left asked given last left (Err e) (Err f) ended why first unread shown read done
    failed sound =
    let same : f ≡ e = cc first in
    inl (
      last,
      subst (IsUnread k.content k.is_failed k.is_honest asked given last) same unread,
      either_end ended done failed,
    )
unmade k is_ended is_left asked given last left (Err e) (Ok x) ended (inl is) first unread shown read
    done failed sound = absurd cc
unmade k is_ended is_left asked given last left (Err e) (Ok x) ended (inr (reason, gave, is)) first unread
    shown read done failed sound =
    inr (
      of_closing ended reason e sound gave is,
      (
        x,
        record {
          left = last;
          read = read;
          shown = shown;
          ended = subst (λ v. OnErr v (is_left last left)) gave failed;
        },
      ),
    )

-- why there is no statement, by what reading the account came to
pub unstated : {K : Type 0} (k : keep.Ghosts K) (is_ended is_left : K → Type 0) (asked : Inquiry)
    (output_failed : Bool) (before after : Option (List ℕ)) (given : K)
    (made : Result Account TaskFault) (r : Result (Unit {0}) TaskFault)
    → IfErr r (λ fault. ((made ≡ Err fault) × Keeps before after)
    ⊎ (IsUnwritten output_failed fault × IsOk made))
    → IfErr made (IsUnmade k is_ended is_left asked given)
    → IfOk made (HasRead k.content k.is_failed k.is_honest k.may_leave is_ended asked given)
    → IfOk made (λ account. AppendsBeginning before after (account_text asked.csv account))
    → IfErr r (IsUnstated k is_ended is_left asked output_failed before after given)
unstated k is_ended is_left asked output_failed before after given made (Ok u) why unmade has part = tt
unstated k is_ended is_left asked output_failed before after given made (Err e) (inl (is, same)) unmade
    has part = inl (subst (λ v. IfErr v (IsUnmade k is_ended is_left asked given)) is unmade, same)
unstated k is_ended is_left asked output_failed before after given (Ok x) (Err e) (inr (is, ok)) unmade
    has part = inr (is, record { account = x; found = has; part = part })
unstated k is_ended is_left asked output_failed before after given (Err f) (Err e) (inr (is, ok)) unmade
    has part = absurd cc
