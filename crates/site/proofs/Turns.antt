-- Messages answered in turn, each over what the one before left.
use Rattle.std.proofs.Common.{◌≡◌, ◌⊎◌, ◌∙◌, ◌++◌, ◌∷◌, [], ℕ, List, Bool, false, refl, sym, ap, inl, inr, length, suc}
use Rattle.std.specs.Prelude.{Option, Some, None, is_none}
use Rattle.std.specs.List.{AllByRecursion, AllZip}
use Rattle.house_rows.specs.declared.message.Message.{Message}
use Rattle.house_rows.specs.declared.message.Message.TheVariants.{Write, Read, Broken}
use Rattle.house_rows.specs.declared.command.Command.{Command}
use Rattle.house_rows.specs.declared.refusal.Refusal.{Refusal}
use Rattle.house_rows.specs.declared.settings.Settings.{Settings}
use Rattle.house_rows.specs.History.{History}
use Rattle.house_rows.specs.Runs.{next}
use Rattle.house_rows.specs.Tables.{Tables, tables_of}
use Rattle.house_rows.specs.Verdict.{IsHistory, verdict}
use Rattle.house_rows.proofs.Next.{next_broken, next_is_history, next_read, next_refused}
use Rattle.house_rows.proofs.Put.{by_test}
use Rattle.settle.specs.declared.zone.Zone.{Zone}
use Rattle.site_acts.specs.Acted.{is_entered}
use Rattle.site_request.specs.Asked.{IsAsked, asked_of}
use Rattle.site_request.specs.declared.asked.Asked.{Asked}
use Rattle.site_request.specs.declared.fault.RequestFault.{RequestFault}
use Rattle.site_replies.proofs.StatusLemmas.{store_reported}
use Rattle.wire.proofs.OneFrame.{one_frame}
use Rattle.site.specs.Replies.{IsAnswered, IsStep, Replies, next_of}
use Rattle.site.specs.Runs.{InTurn, IsGoing, Ran}
use Rattle.site.proofs.Steps.{not_both}

pub turn_more : {K : Type 0} (Step : Asked → List ℕ → K → K → Type 0) (ms : List Asked)
    (rs : List (List ℕ)) (m : Asked) (r : List ℕ) (old mid new : K)
    → InTurn Step ms rs old mid → Step m r mid new
    → InTurn Step (ms ++ m ∷ []) (rs ++ r ∷ []) old new
turn_more Step [] [] m r old mid new turn step = (new, rw turn at step, refl)
turn_more Step [] (s ∷ rs) m r old mid new turn step = absurd turn
turn_more Step (n ∷ ms) [] m r old mid new turn step = absurd turn
turn_more Step (n ∷ ms) (s ∷ rs) m r old mid new (k, here, turn) step =
    (k, here, turn_more Step ms rs m r k mid new turn step)

pub zip_more : {A B : Type 0} (R : A → B → Type 0) (xs : List A) (ys : List B) (x : A) (y : B)
    → AllZip R xs ys → R x y → AllZip R (xs ++ x ∷ []) (ys ++ y ∷ [])
zip_more R [] [] x y h r = (r, tt)
zip_more R [] (b ∷ ys) x y h r = absurd h
zip_more R (a ∷ xs) [] x y h r = absurd h
zip_more R (a ∷ xs) (b ∷ ys) x y h r = (h.0, zip_more R xs ys x y h.1 r)

pub honest_before : {K : Type 0} (content : K → Tables) (is_failed : K → Bool)
    (is_honest : K → Type 0) (may_leave : K → Tables → Type 0)
    (zone : Zone) (ms : List Asked) (rs : List (List ℕ)) (old new : K)
    → InTurn (IsStep content is_failed is_honest may_leave zone) ms rs old new → is_honest new
    → is_honest old
honest_before content is_failed is_honest may_leave zone [] [] old new turn honest =
    rw turn at honest
honest_before content is_failed is_honest may_leave zone [] (r ∷ rs) old new turn honest =
    absurd turn
honest_before content is_failed is_honest may_leave zone (m ∷ ms) [] old new turn honest =
    absurd turn
honest_before content is_failed is_honest may_leave zone (m ∷ ms) (r ∷ rs) old new (mid, step, turn)
    honest =
    step.honest (honest_before content is_failed is_honest may_leave zone ms rs mid new turn honest)

-- the history after a message is one too
pub next_is : (settings : Settings) (h : History) (m : Asked) → IsHistory settings h
    → IsHistory settings (next_of settings h m)
unfolding next_of
next_is settings h m is = next_is_history settings h m.message is

stays_if : (settings : Settings) (h : History) (moment caller : ℕ) (command : Command)
    (o : Option Refusal) → verdict settings h moment caller command ≡ o → is_none o ≡ false
    → next {F = RequestFault} settings h (Write moment caller command) ≡ h
stays_if settings h moment caller command None e not = cc
stays_if settings h moment caller command (Some refusal) e not =
    next_refused RequestFault settings h moment caller command refusal e

stays : (settings : Settings) (h : History) (m : Message RequestFault) → is_entered settings h m ≡ false
    → next settings h m ≡ h
stays settings h (Write moment caller command) not =
    stays_if settings h moment caller command (verdict settings h moment caller command) refl not
stays settings h (Read caller query) not = next_read RequestFault settings h caller query
stays settings h (Broken caller fault) not = next_broken settings h caller fault

-- a message that wasn't entered leaves the history
not_entered : (settings : Settings) (h : History) (m : Asked)
    → is_entered settings h m.message ≡ false → next_of settings h m ≡ h
unfolding next_of
not_entered settings h m not = stays settings h m.message not

-- after a reply a crash leaves the tables alone, where it did so before
pub settled_next : {K : Type 0} (content : K → Tables) (is_failed : K → Bool)
    (may_leave : K → Tables → Type 0) (settings : Settings) (zone : Zone) (h : History)
    (m : Asked) (r : List ℕ) (old new : K) → content old ≡ tables_of settings h
    → IsAnswered content is_failed may_leave settings zone h m r old new
    → ((t : Tables) → may_leave new t → may_leave old t
    ⊎ ((is_failed old ≡ false) × (t ≡ tables_of settings (next_of settings h m))))
    → ((t : Tables) → may_leave old t → t ≡ content old) → (t : Tables) → may_leave new t
    → t ≡ content new
settled_next content is_failed may_leave settings zone h m r old new e done crash first t may =
    elim (by_test (is_entered settings h m.message)) [
      | inl entered ↦ done.kept entered t may
      | inr not ↦ elim (crash t may) [
        | inl could ↦ first t could ∙ e
            ∙ ap (tables_of settings) (sym (not_entered settings h m not)) ∙ sym done.tables
        | inr now ↦ now.1 ∙ sym done.tables
      ]
    ]

-- one more message before a run
ran_step : {K : Type 0} (content : K → Tables) (is_failed : K → Bool)
    (may_leave : K → Tables → Type 0) (settings : Settings) (zone : Zone) (h : History)
    (m : Asked) (r : List ℕ) (ms : List Asked) (rs : List (List ℕ)) (old mid new : K)
    → IsHistory settings h → content old ≡ tables_of settings h
    → Replies content is_failed may_leave settings zone h m r old mid → IsGoing r
    → ((k : History) → IsHistory settings k → content mid ≡ tables_of settings k
    → Ran content is_failed may_leave settings zone k ms rs mid new)
    → Ran content is_failed may_leave settings zone h (m ∷ ms) (r ∷ rs) old new
ran_step content is_failed may_leave settings zone h m r ms rs old mid new is e replied going rest =
    elim replied.outcome [
      | inl done ↦ (let ran = rest (next_of settings h m) (next_is settings h m is) done.tables in
          record {
            after = ran.after;
            run = inl (done.report, ran.run);
            history = ran.history;
            tables = ran.tables;
            same = ran.same ∙ done.same;
            settled = λ first. ran.settled
                (settled_next content is_failed may_leave settings zone h m r old mid e done
                replied.crash first);
          })
      | inr other ↦ elim other [
        | inl wanting ↦ (let ran = rest h is (wanting.tables ∙ e) in record {
          after = ran.after;
          run = inr (wanting.report, ran.run);
          history = ran.history;
          tables = ran.tables;
          same = ran.same ∙ wanting.same;
          settled = λ first. ran.settled (λ t may. first t (wanting.left t may)
              ∙ sym wanting.tables);
        })
        | inr failed ↦ absurd (not_both _ (store_reported m.closes) (rw failed.report at going))
      ]
    ]

-- where none reported a failure, the replies are a run of the history whose tables there were
pub ran_of : {K : Type 0} (content : K → Tables) (is_failed : K → Bool) (is_honest : K → Type 0)
    (may_leave : K → Tables → Type 0)
    (settings : Settings) (zone : Zone) (h : History) (ms : List Asked) (rs : List (List ℕ))
    (old new : K)
    → InTurn (IsStep content is_failed is_honest may_leave zone) ms rs old new → is_honest new
    → IsHistory settings h → content old ≡ tables_of settings h → AllByRecursion IsGoing rs
    → Ran content is_failed may_leave settings zone h ms rs old new
ran_of content is_failed is_honest may_leave settings zone h [] [] old new turn honest is e going =
    rw turn (record {
      after = h;
      run = refl;
      history = is;
      tables = e;
      same = refl;
      settled = λ first. first;
    })
ran_of content is_failed is_honest may_leave settings zone h [] (r ∷ rs) old new turn honest is e
    going = absurd turn
ran_of content is_failed is_honest may_leave settings zone h (m ∷ ms) [] old new turn honest is e
    going = absurd turn
ran_of content is_failed is_honest may_leave settings zone h (m ∷ ms) (r ∷ rs) old new
    (mid, step, turn) honest is e going =
    ran_step content is_failed may_leave settings zone h m r ms rs old mid new is e
    (step.replies (honest_before content is_failed is_honest may_leave zone ms rs mid new turn
    honest) settings h is e) going.0
    (λ k also same. ran_of content is_failed is_honest may_leave settings zone k ms rs mid new turn
    honest also same going.1)

-- a text asks for one thing
pub one_meaning : (text : List ℕ) (m n : Asked) → IsAsked text m → IsAsked text n → m ≡ n
one_meaning text m n (f, is, e) (g, also, d) = e ∙ ap asked_of (one_frame text f g is also) ∙ sym d

pub one_asked : (texts : List (List ℕ)) (ms ns : List Asked) → AllZip IsAsked texts ms
    → AllZip IsAsked texts ns → ms ≡ ns
one_asked [] [] [] a b = refl
one_asked [] [] (n ∷ ns) a b = absurd b
one_asked [] (m ∷ ms) ns a b = absurd a
one_asked (t ∷ texts) [] ns a b = absurd a
one_asked (t ∷ texts) (m ∷ ms) [] a b = absurd b
one_asked (t ∷ texts) (m ∷ ms) (n ∷ ns) a b =
    rw (one_meaning t m n a.0 b.0, one_asked texts ms ns a.1 b.1) refl

-- what was asked, with the replies in turn
abbrev pub Turns : {K : Type 0} → (Asked → List ℕ → K → K → Type 0) → List (List ℕ) → List (List ℕ)
    → K → K → Type 0
Turns Step texts replies old new = (asked : List Asked) × AllZip IsAsked texts asked
    × InTurn Step asked replies old new

pub turns_more : {K : Type 0} (Step : Asked → List ℕ → K → K → Type 0) (texts rs : List (List ℕ))
    (text r : List ℕ) (old mid new : K)
    → Turns Step texts rs old mid → (m : Asked) × IsAsked text m × Step m r mid new
    → Turns Step (texts ++ text ∷ []) (rs ++ r ∷ []) old new
turns_more Step texts rs text r old mid new (ms, are, turn) (m, is, step) = (
  ms ++ m ∷ [],
  zip_more IsAsked texts ms text m are is,
  turn_more Step ms rs m r old mid new
      turn step,
)

zip_length : {A B : Type 0} (R : A → B → Type 0) (xs : List A) (ys : List B) → AllZip R xs ys
    → length ys ≡ length xs
zip_length R [] [] h = refl
zip_length R [] (y ∷ ys) h = absurd h
zip_length R (x ∷ xs) [] h = absurd h
zip_length R (x ∷ xs) (y ∷ ys) h = ap suc (zip_length R xs ys h.1)

turn_length : {K : Type 0} (Step : Asked → List ℕ → K → K → Type 0) (ms : List Asked)
    (rs : List (List ℕ)) (old new : K)
    → InTurn Step ms rs old new → length rs ≡ length ms
turn_length Step [] [] old new turn = refl
turn_length Step [] (r ∷ rs) old new turn = absurd turn
turn_length Step (m ∷ ms) [] old new turn = absurd turn
turn_length Step (m ∷ ms) (r ∷ rs) old new (mid, step, turn) =
    ap suc (turn_length Step ms rs mid new turn)

-- there are as many replies as texts
pub as_many : {K : Type 0} (Step : Asked → List ℕ → K → K → Type 0) (texts rs : List (List ℕ))
    (old new : K)
    → Turns Step texts rs old new → length rs ≡ length texts
as_many Step texts rs old new (ms, are, turn) = turn_length Step ms rs old new turn
    ∙ zip_length IsAsked texts ms are

pub ran_texts : {K : Type 0} (content : K → Tables) (is_failed : K → Bool) (is_honest : K → Type 0)
    (may_leave : K → Tables → Type 0)
    (settings : Settings) (zone : Zone) (h : History) (texts rs : List (List ℕ)) (old new : K)
    → Turns (IsStep content is_failed is_honest may_leave zone) texts rs old new → is_honest new
    → IsHistory settings h → content old ≡ tables_of settings h → (asked : List Asked)
    → AllZip IsAsked texts asked
    → AllByRecursion IsGoing rs → Ran content is_failed may_leave settings zone h asked rs old new
ran_texts content is_failed is_honest may_leave settings zone h texts rs old new (ms, are, turn)
    honest is e asked also going =
    ran_of content is_failed is_honest may_leave settings zone h asked rs old new
    (rw (one_asked texts ms asked are also) at turn) honest is e going
