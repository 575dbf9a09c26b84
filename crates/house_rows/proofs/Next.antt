-- The next history and the reply, by what the message is and by the verdict on it.
use Rattle.std.proofs.Common.{◌≡◌, ◌∷◌, ℕ, refl, sym, subst, Option, Some, None}
use Rattle.house_rows.specs.declared.command.Command.{Command}
use Rattle.house_rows.specs.declared.message.Message.{Message}
use Rattle.house_rows.specs.declared.message.Message.TheVariants.{Write, Read, Broken}
use Rattle.house_rows.specs.declared.query.Query.{Query}
use Rattle.house_rows.specs.declared.refusal.Refusal.{Refusal}
use Rattle.house_rows.specs.declared.reply.Reply.TheVariants.{Done, Denied, Shows, Faulty}
use Rattle.house_rows.specs.declared.settings.Settings.{Settings}
use Rattle.house_rows.specs.History.{History}
use Rattle.house_rows.specs.Pages.{page_of}
use Rattle.house_rows.specs.Runs.{entry, next, reply}
use Rattle.house_rows.specs.CommandResult.{result_of}
use Rattle.house_rows.specs.Verdict.{IsHistory, verdict}

pub next_accepted : (F : Type 0) (settings : Settings) (h : History) (moment caller : ℕ) (command : Command) → verdict settings h moment caller command ≡ None
    → next {F = F} settings h (Write moment caller command) ≡ entry moment caller command ∷ h
unfolding next
next_accepted F settings h moment caller command e = rw e refl

pub next_refused : (F : Type 0) (settings : Settings) (h : History) (moment caller : ℕ) (command : Command) (refusal : Refusal)
    → verdict settings h moment caller command ≡ Some refusal → next {F = F} settings h (Write moment caller command) ≡ h
unfolding next
next_refused F settings h moment caller command refusal e = rw e refl

pub next_read : (F : Type 0) (settings : Settings) (h : History) (caller : ℕ) (query : Query) → next {F = F} settings h (Read caller query) ≡ h
unfolding next
next_read F settings h caller query = refl

pub next_broken : {F : Type 0} (settings : Settings) (h : History) (caller : Option ℕ) (fault : F) → next settings h (Broken caller fault) ≡ h
unfolding next
next_broken settings h caller fault = refl

ordered : (F : Type 0) (settings : Settings) (h : History) (moment caller : ℕ) (command : Command) (o : Option Refusal) → IsHistory settings h
    → verdict settings h moment caller command ≡ o → IsHistory settings (next {F = F} settings h (Write moment caller command))
ordered F settings h moment caller command None is e = subst (IsHistory settings) (sym (next_accepted F settings h moment caller command e)) (e, is)
ordered F settings h moment caller command (Some refusal) is e = subst (IsHistory settings) (sym (next_refused F settings h moment caller command refusal e)) is

-- it is one of accepted entries too
pub next_is_history : {F : Type 0} (settings : Settings) (h : History) (m : Message F) → IsHistory settings h → IsHistory settings (next settings h m)
next_is_history {F = F} settings h (Write moment caller command) is = ordered F settings h moment caller command (verdict settings h moment caller command) is refl
next_is_history {F = F} settings h (Read caller query) is = subst (IsHistory settings) (sym (next_read F settings h caller query)) is
next_is_history settings h (Broken caller fault) is = subst (IsHistory settings) (sym (next_broken settings h caller fault)) is

pub reply_accepted : {F : Type 0} (settings : Settings) (h : History) (moment caller : ℕ) (command : Command) → verdict settings h moment caller command ≡ None
    → reply {F = F} settings h (Write moment caller command) ≡ Done (result_of settings (entry moment caller command ∷ h) moment caller command h)
unfolding reply
reply_accepted settings h moment caller command e = rw e refl

pub reply_refused : {F : Type 0} (settings : Settings) (h : History) (moment caller : ℕ) (command : Command) (refusal : Refusal)
    → verdict settings h moment caller command ≡ Some refusal → reply {F = F} settings h (Write moment caller command) ≡ Denied refusal
unfolding reply
reply_refused settings h moment caller command refusal e = rw e refl

pub reply_read : {F : Type 0} (settings : Settings) (h : History) (caller : ℕ) (query : Query) → reply {F = F} settings h (Read caller query) ≡ Shows (page_of settings h caller query)
unfolding reply
reply_read settings h caller query = refl

pub reply_broken : {F : Type 0} (settings : Settings) (h : History) (caller : Option ℕ) (fault : F) → reply settings h (Broken caller fault) ≡ Faulty fault
unfolding reply
reply_broken settings h caller fault = refl
