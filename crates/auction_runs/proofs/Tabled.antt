-- Why a band table was not set, or not told of.
use Rattle.std.proofs.Common.{◌≡◌, ◌⊎◌, ◌↔◌, ◌≤◌, ◌∙◌, ℕ, List, length, Bool, true, false, Option, Result, Ok, Err, ap, inl, inr, refl, subst, sym}
use Rattle.std.specs.Prelude.{IfErr, IfOk, IsErr, IsErrAnd, IsErrOf, IsOk, OnErr, OnOk}
use Rattle.std.specs.Io.KnownBytes.{Keeps}
use Rattle.steps.specs.Table.{Band}
use Rattle.house.specs.Decided.{IfAccepted, IsDecided}
use Rattle.house.specs.Decides.{Decides}
use Rattle.house.specs.Own.{IsOf, command_of}
use Rattle.house.specs.Taken.{CommandRowsFit}
use Rattle.house_rows.specs.Asks.{ChangeFits, IsFree}
use Rattle.house_rows.specs.Changed.{changed}
use Rattle.house_rows.specs.Keeping.{IsRead}
use Rattle.house_rows.specs.Limits.{most_items}
use Rattle.house_rows.specs.Making.{ChangeRowsFit, IsApplied}
use Rattle.house_rows.specs.Tables.{Tables}
use Rattle.house_rows.specs.Taken.{IsUndamaged}
use Rattle.house_rows.specs.declared.change.Change.{Change}
use Rattle.house_rows.specs.declared.change.Change.TheVariants as change
use Rattle.house_rows.specs.declared.command.Command.{Command}
use Rattle.house_rows.specs.declared.command.Command.TheVariants.{SetBands}
use Rattle.house_rows.specs.declared.fault.KeepFault.{KeepFault}
use Rattle.house_rows.specs.declared.fault.KeepFault.TheVariants as kept
use Rattle.house_rows.specs.declared.keep.Keep as keep
use Rattle.house_rows.specs.declared.refusal.Refusal.{Refusal}
use Rattle.auction_runs.proofs.Outcomes.{either_end, of_closing}
use Rattle.auction_runs.specs.Faults.{IsEndFault, fault_of_keep}
use Rattle.auction_runs.specs.Tabled.{HasSet, IsOwnChange, IsOwnOrNone, IsTable, IsTabled, IsUndone, IsUntabled, IsUntold}
use Rattle.auction_runs.specs.declared.fault.TaskFault.{TaskFault}
use Rattle.auction_runs.specs.declared.fault.TaskFault.TheVariants.{Refused, Write}

-- a keep that answered has not failed
works : {A : Type 0} (r : Result A KeepFault) (is_failed : Bool) (x : A) → r ≡ Ok x
    → (IsErrOf r kept.Store ↔ (is_failed ≡ true)) → is_failed ≡ false
works r true x gave store = let other = store.1 refl in absurd cc
works r false x gave store = refl

-- a fault that a keep reported
pub reported : {K A : Type 0} (content : K → Tables) (is_failed : K → Bool) (is_honest : K → Type 0)
    (moment : ℕ) (command : Command) (old new : K) (r : Result A KeepFault) (f : KeepFault)
    → r ≡ Err f → (IsErrOf r kept.Store ↔ (is_failed new ≡ true))
    → (is_honest new → length (content old).items ≤ most_items → IsUndamaged r)
    → (is_honest new → is_failed new ≡ false
    → IsOwnOrNone moment command (content old) (content new))
    → IsUndone content is_failed is_honest moment command old new (fault_of_keep f)
reported content is_failed is_honest moment command old new r kept.Memory gave store undamaged own = record {
  cause = inl (kept.Memory, refl);
  store = (λ e. absurd cc, λ failed. let other = store.1 failed in absurd cc);
  damaged = λ honest few e. absurd cc;
  same = own;
}
reported content is_failed is_honest moment command old new r kept.Store gave store undamaged own = record {
  cause = inl (kept.Store, refl);
  store = (λ e. store.0 gave, λ failed. refl);
  damaged = λ honest few e. absurd cc;
  same = own;
}
reported content is_failed is_honest moment command old new r kept.Damaged gave store undamaged own = record {
  cause = inl (kept.Damaged, refl);
  store = (λ e. absurd cc, λ failed. let other = store.1 failed in absurd cc);
  damaged = λ honest few e. undamaged honest few gave;
  same = own;
}

-- and is handed on
pub handed_on : {K A T : Type 0} (content : K → Tables) (is_failed : K → Bool)
    (is_honest : K → Type 0) (moment : ℕ) (command : Command) (old new : K) (r : Result A KeepFault)
    (f : KeepFault) (result : Result T TaskFault)
    → IsErr result × IsErrAnd result (λ report. report ≡ fault_of_keep f)
    → r ≡ Err f → (IsErrOf r kept.Store ↔ (is_failed new ≡ true))
    → (is_honest new → length (content old).items ≤ most_items → IsUndamaged r)
    → (is_honest new → is_failed new ≡ false
    → IsOwnOrNone moment command (content old) (content new))
    → IfErr result (IsUndone content is_failed is_honest moment command old new)
handed_on content is_failed is_honest moment command old new r f (Ok x) gives gave store undamaged own =
    absurd gives.1
handed_on content is_failed is_honest moment command old new r f (Err report) gives gave store undamaged
    own = subst (IsUndone content is_failed is_honest moment command old new) (sym gives.1)
    (reported content is_failed is_honest moment command old new r f gave store undamaged own)

-- the house refused its command
pub refused : {K : Type 0} (k : keep.Ghosts K) (moment : ℕ) (command : Command) (old new : K)
    (decided : Result Change Refusal) (refusal : Refusal)
    → Decides k old new (Ok decided) moment 0 command → decided ≡ Err refusal
    → IsUndone k.content k.is_failed k.is_honest moment command old new (Refused refusal)
refused k moment command old new decided refusal decides is =
    let going = works (Ok decided) (k.is_failed new) decided refl decides.faults.store in
    record {
      cause = inr (record {
        refusal = refusal;
        report = refl;
        by_history = λ honest settings h so e.
            subst (λ v. IsDecided settings h moment 0 command v) is
            (decides.decided honest settings h so e);
        same = λ honest. decides.read.same honest going;
      });
      store = (λ e. absurd cc, λ failed. absurd cc);
      damaged = λ honest few e. absurd cc;
      same = λ honest well. inl (decides.read.same honest well);
    }

-- a keep that was only read has the tables that it had
pub only_read : {K : Type 0} (content : K → Tables) (is_failed : K → Bool) (is_honest : K → Type 0)
    (may_leave : K → Tables → Type 0) (moment : ℕ) (command : Command) (old new : K)
    → IsRead content is_failed is_honest may_leave old new → is_honest new → is_failed new ≡ false
    → IsOwnOrNone moment command (content old) (content new)
only_read content is_failed is_honest may_leave moment command old new read honest well =
    inl (read.same honest well)

-- and a crash leaves what it could leave before
pub only_left : {K : Type 0} (content : K → Tables) (is_failed : K → Bool) (is_honest : K → Type 0)
    (may_leave : K → Tables → Type 0) (moment : ℕ) (command : Command) (old new : K)
    → IsRead content is_failed is_honest may_leave old new → is_honest new → (t : Tables)
    → may_leave new t → may_leave old t ⊎ IsOwnChange moment command (content old) t
only_left content is_failed is_honest may_leave moment command old new read honest t may =
    inl (read.crash honest t may)

-- the change that was decided on is the command's own, and is of the tables as they were
own_change : {K : Type 0} (k : keep.Ghosts K) (moment : ℕ) (command : Command) (old mid : K)
    (decided : Result (Result Change Refusal) KeepFault) (made : Change)
    → Decides k old mid decided moment 0 command → decided ≡ Ok (Ok made) → k.is_honest mid
    → IsOf moment 0 command made × (k.content mid ≡ k.content old)
own_change k moment command old mid decided made decides is honest = (
  subst (λ v. IfAccepted v (IsOf moment 0 command)) is (decides.own honest),
  decides.read.same honest (works decided (k.is_failed mid) (Ok made) is decides.faults.store),
)

-- these are the tables with it
by_own_change : (moment : ℕ) (command : Command) (made : Change) (old mid new : Tables)
    → IsOf moment 0 command made × (mid ≡ old) → new ≡ changed mid made
    → IsOwnChange moment command old new
by_own_change moment command made old mid new (own, same) is = record {
  change = made;
  own = own;
  made = is ∙ ap (λ t. changed t made) same;
}

-- where it was made the tables are those with it
pub own_made : {K : Type 0} (k : keep.Ghosts K) (moment : ℕ) (command : Command) (old mid new : K)
    (decided : Result (Result Change Refusal) KeepFault) (made : Change)
    (r : Result (Unit {0}) KeepFault) (u : Unit {0})
    → Decides k old mid decided moment 0 command → decided ≡ Ok (Ok made)
    → IsApplied k.content k.is_failed k.is_honest k.may_leave mid new r made → r ≡ Ok u
    → k.is_honest new → IsOwnChange moment command (k.content old) (k.content new)
own_made k moment command old mid new decided made r u decides is applied gave honest =
    by_own_change moment command made (k.content old) (k.content mid) (k.content new)
    (own_change k moment command old mid decided made decides is (applied.honest honest))
    (subst (λ v. OnOk v (k.content new ≡ changed (k.content mid) made)) gave (applied.ok honest))

-- and whether it was made or not, nothing else was
pub own_or_none : {K : Type 0} (k : keep.Ghosts K) (moment : ℕ) (command : Command) (old mid new : K)
    (decided : Result (Result Change Refusal) KeepFault) (made : Change)
    (r : Result (Unit {0}) KeepFault) → Decides k old mid decided moment 0 command
    → decided ≡ Ok (Ok made)
    → IsApplied k.content k.is_failed k.is_honest k.may_leave mid new r made
    → k.is_honest new → k.is_failed new ≡ false
    → IsOwnOrNone moment command (k.content old) (k.content new)
own_or_none k moment command old mid new decided made (Ok u) decides is applied honest well =
    inr (own_made k moment command old mid new decided made (Ok u) u decides is applied refl honest)
own_or_none k moment command old mid new decided made (Err f) decides is applied honest well =
    let was = own_change k moment command old mid decided made decides is (applied.honest honest) in
    inl (applied.err honest well ∙ was.1)

-- nor does a crash leave anything else
pub own_left : {K : Type 0} (k : keep.Ghosts K) (moment : ℕ) (command : Command) (old mid new : K)
    (decided : Result (Result Change Refusal) KeepFault) (made : Change)
    (r : Result (Unit {0}) KeepFault) → Decides k old mid decided moment 0 command
    → decided ≡ Ok (Ok made)
    → IsApplied k.content k.is_failed k.is_honest k.may_leave mid new r made
    → k.is_honest new → (t : Tables) → k.may_leave new t
    → k.may_leave old t ⊎ IsOwnChange moment command (k.content old) t
own_left k moment command old mid new decided made (Ok u) decides is applied honest t may =
    inr (by_own_change moment command made (k.content old) (k.content mid) t
    (own_change k moment command old mid decided made decides is (applied.honest honest))
    (applied.kept honest t may ∙ applied.ok honest))
own_left k moment command old mid new decided made (Err f) decides is applied honest t may =
    let was = own_change k moment command old mid decided made decides is (applied.honest honest) in
    elim (applied.crash honest t may) [
      | inl before ↦ inl (decides.read.crash (applied.honest honest) t before)
      | inr (worked, failed, after) ↦ inr (by_own_change moment command made (k.content old)
          (k.content mid) t was after)
    ]

-- what setting a table takes fits where there are no more items than there may be, and its key is free
table_fits : (t : Tables) (made : Change) (bands : List Band) → command_of made ≡ SetBands bands
    → length t.items ≤ most_items → ChangeRowsFit t made × IsFree t made
table_fits t (change.Register moment name) bands is few = absurd cc
table_fits t (change.AddCategory moment name) bands is few = absurd cc
table_fits t (change.List moment item) bands is few = absurd cc
table_fits t (change.Bid moment item placed standing) bands is few = absurd cc
table_fits t (change.Buy moment item buyer price) bands is few = absurd cc
table_fits t (change.Close moment) bands is few = absurd cc
table_fits t (change.Settle moment item) bands is few = absurd cc
table_fits t (change.Watch member item) bands is few = absurd cc
table_fits t (change.Unwatch member item) bands is few = absurd cc
table_fits t (change.Ask item asker number text) bands is few = absurd cc
table_fits t (change.Answer moment item asker number text) bands is few = absurd cc
table_fits t (change.Feedback moment item from to rating text) bands is few = absurd cc
table_fits t (change.SetBands moment table) bands is few = (few, tt)

-- deciding on a table takes no row
takes_none : (t : Tables) (caller : ℕ) (command : Command) → IsTable command
    → CommandRowsFit t caller command
takes_none t caller command (bands, is) = subst (CommandRowsFit t caller) (sym is) tt

-- so it is never damaged
pub decided_undamaged : {K : Type 0} (k : keep.Ghosts K) (moment caller : ℕ) (command : Command)
    (old new : K) (decided : Result (Result Change Refusal) KeepFault) → IsTable command
    → Decides k old new decided moment caller command
    → k.is_honest new → length (k.content old).items ≤ most_items → IsUndamaged decided
decided_undamaged k moment caller command old new decided table decides honest few =
    decides.damaged honest (takes_none (k.content old) caller command table)

-- nor is a table that was decided on, where there are no more items than there may be
pub made_undamaged : {K : Type 0} (k : keep.Ghosts K) (moment caller : ℕ) (command : Command)
    (old mid new : K) (decided : Result (Result Change Refusal) KeepFault) (made : Change)
    (r : Result (Unit {0}) KeepFault) → IsTable command
    → Decides k old mid decided moment caller command → decided ≡ Ok (Ok made)
    → IsApplied k.content k.is_failed k.is_honest k.may_leave mid new r made
    → k.is_honest new → length (k.content old).items ≤ most_items → IsUndamaged r
made_undamaged k moment caller command old mid new decided made r table decides is applied honest few =
    let was = applied.honest honest in
    let same : k.content mid ≡ k.content old =
    decides.read.same was (works decided (k.is_failed mid) (Ok made) is decides.faults.store) in
    let own = subst (λ v. IfAccepted v (IsOf moment caller command)) is (decides.own was) in
    let rows = table_fits (k.content old) made table.0 (own.same_command ∙ table.1) few in
    let fits : ChangeRowsFit (k.content old) made → ChangeFits (k.content old) made =
    subst (λ v. IfAccepted v (λ x. ChangeRowsFit (k.content old) x → ChangeFits (k.content old) x)) is
    (decides.fits was (takes_none (k.content old) caller command table)) in
    applied.faults.damaged honest (subst (λ t. ChangeFits t made) (sym same) (fits rows.0))
    (subst (λ t. ChangeRowsFit t made) (sym same) rows.0)
    (subst (λ t. IsFree t made) (sym same) rows.1)

-- why no table was set, by how the keep's end went
pub untabled : {K L : Type 0} (content : K → Tables) (is_failed : K → Bool) (is_honest : K → Type 0)
    (may_leave : K → Tables → Type 0) (is_ended is_left : K → L → Type 0) (moment : ℕ)
    (command : Command) (given last : K) (left : L) (r s : Result ℕ TaskFault)
    (ended : Result (Unit {0}) KeepFault)
    → IfErr r (λ fault. (s ≡ Err fault) ⊎ IsEndFault ended fault)
    → IfErr s (λ fault. r ≡ Err fault)
    → IfErr s (IsUndone content is_failed is_honest moment command given last)
    → (is_honest last → IfOk s (IsTabled content may_leave moment command given last))
    → OnOk ended (is_ended last left) → OnErr ended (is_left last left)
    → ¬ (IsErrOf ended kept.Damaged)
    → IfErr r (IsUntabled content is_failed is_honest may_leave (λ k. is_ended k left)
    (λ k. is_left k left) moment command given)
untabled content is_failed is_honest may_leave is_ended is_left moment command given last left (Ok x) s
    ended why first undone tabled done failed sound = tt
untabled content is_failed is_honest may_leave is_ended is_left moment command given last left (Err e)
    (Err f) ended why first undone tabled done failed sound =
    let same : f ≡ e = cc first in
    inl (
      last,
      subst (IsUndone content is_failed is_honest moment command given last) same undone,
      either_end ended done failed,
    )
untabled content is_failed is_honest may_leave is_ended is_left moment command given last left (Err e)
    (Ok x) ended (inl is) first undone tabled done failed sound = absurd cc
untabled content is_failed is_honest may_leave is_ended is_left moment command given last left (Err e)
    (Ok x) ended (inr (reason, gave, is)) first undone tabled done failed sound =
    inr (
      of_closing ended reason e sound gave is,
      (
        x,
        record {
          left = last;
          tabled = tabled;
          ended = subst (λ v. OnErr v (is_left last left)) gave failed;
        },
      ),
    )

-- why no edition was told, by what setting the table came to
pub untold : {K : Type 0} (content : K → Tables) (is_failed : K → Bool) (is_honest : K → Type 0)
    (may_leave : K → Tables → Type 0) (is_ended is_left : K → Type 0) (moment : ℕ) (command : Command)
    (before after : Option (List ℕ)) (given : K) (set : Result ℕ TaskFault)
    (r : Result (Unit {0}) TaskFault)
    → IfErr r (λ fault. ((set ≡ Err fault) × Keeps before after) ⊎ ((fault ≡ Write) × IsOk set))
    → IfErr set (IsUntabled content is_failed is_honest may_leave is_ended is_left moment command given)
    → IfOk set (HasSet content is_honest may_leave is_ended moment command given)
    → IfErr r (IsUntold content is_failed is_honest may_leave is_ended is_left moment command before after
    given)
untold content is_failed is_honest may_leave is_ended is_left moment command before after given set
    (Ok u) why undone has = tt
untold content is_failed is_honest may_leave is_ended is_left moment command before after given set
    (Err e) (inl (is, same)) undone has = inl (
      subst (λ v. IfErr v (IsUntabled content is_failed
          is_honest may_leave is_ended is_left moment command given)) is undone,
      same,
    )
untold content is_failed is_honest may_leave is_ended is_left moment command before after given (Ok x)
    (Err e) (inr (is, ok)) undone has = inr (is, (x, has))
untold content is_failed is_honest may_leave is_ended is_left moment command before after given (Err f)
    (Err e) (inr (is, ok)) undone has = absurd cc
