-- Serving, message by message.
use Rattle.std.proofs.Common.{◌≡◌, ◌≢◌, ℕ, ◌+◌, ◌-◌, ◌<◌, ◌≤◌, List, [], ◌∷◌, ◌++◌, Bool, true, false, length, take, map, refl, sym, ap, ◌∙◌, subst, arith, rules, append-nil, length-append, Option, Some, None, Ok, Err, ◌⊎◌, inl, inr}
use Rattle.std.specs.Prelude.{IfErr, IfOk, IfSome, OnOk, Result, is_err, nat_eq}
use Rattle.std.specs.List.{concat}
use Rattle.std.proofs.lemmas.List.{take_all}
use Rattle.std.specs.Io.KnownBytes.{Appends, Consumes, IsAtEnd, Keeps}
use Rattle.std.proofs.KnownBytes.{Appends-kept, Appends-nil, Appends-trans, Consumes-kept, Consumes-nil, Consumes-trans}
use Rattle.device.specs.Given.{AppendsBeginning}
use Rattle.wire.specs.Cut.{Cut, closed, limit, clean, broken}
use Rattle.wire.specs.Frame.{IsFront, IsMessageAt}
use Rattle.wire.specs.Front.{EndsInBody, EndsInHead}
use Rattle.wire.specs.Look.{IsFaultOf}
use Rattle.wire.specs.Message.{Message}
use Rattle.wire.specs.declared.fault.WireFault.{WireFault}
use Rattle.house_rows.specs.Tables.{Tables}
use Rattle.settle.specs.declared.zone.Zone.{Zone}
use Rattle.site.specs.Replies.{IsStep}
use Rattle.site.specs.Runs.{InTurn}
use Rattle.site_request.specs.declared.asked.Asked.{Asked}
use Rattle.wire.proofs.Fronts.{message_stays}
use Rattle.site_serve.specs.declared.server.Ending.TheVariants as ending
use Rattle.site_serve.specs.declared.server.Served.{Served}
use Rattle.site_serve.specs.Serving.{HasRead, HasServed, HasWritten, IsFlushed, fault_bytes, heard}
use Rattle.site_serve.proofs.Cuts.{TakenOff, by_end, concat_push, cut_closed, cut_last, cut_of, ends, last_of, off_more, off_push, turn_length, turn_push}

-- serving so far: what was read, of which the messages were taken off and the rest is held; their replies, which were written
pub record Serving {K : Type 0} (Step : Asked → List ℕ → K → K → Type 0) (left now before after : Option (List ℕ)) (old new : K)
    (held : List ℕ) (count : ℕ) : Type 0 where
  pub read : List ℕ
  pub took : Consumes left now read
  pub messages : List Message
  pub off : TakenOff read messages held
  pub counted : count ≡ length messages
  pub replies : List (List ℕ)
  pub answered : InTurn Step (map heard messages) replies old new
  pub written : Appends before after (concat replies)

pub serving_none : {K : Type 0} (Step : Asked → List ℕ → K → K → Type 0) (left before : Option (List ℕ)) (k : K) (held : List ℕ) → held ≡ []
    → Serving Step left left before before k k held 0
serving_none Step left before k held none = record {
  read = [];
  took = Consumes-nil left;
  messages = [];
  off = sym none;
  counted = refl;
  replies = [];
  answered = refl;
  written = Appends-nil before;
}

-- more of the stream was read, and the sink may have been flushed
pub serving_read : {K : Type 0} (Step : Asked → List ℕ → K → K → Type 0) (left now later before after flushed : Option (List ℕ))
    (old new : K) (held bytes more : List ℕ) (count : ℕ)
    → Serving Step left now before after old new held count → Consumes now later bytes → more ≡ held ++ bytes → Keeps after flushed
    → Serving Step left later before flushed old new more count
serving_read Step left now later before after flushed old new held bytes more count run took is kept = record {
  read = run.read ++ bytes;
  took = Consumes-trans left now later run.read bytes run.took took;
  messages = run.messages;
  off = subst (TakenOff (run.read ++ bytes) run.messages) (sym is) (off_more run.messages run.read held bytes run.off);
  counted = run.counted;
  replies = run.replies;
  answered = run.answered;
  written = Appends-kept before after flushed (concat run.replies) run.written kept;
}

pushed : {K : Type 0} (Step : Asked → List ℕ → K → K → Type 0) (left now before after last : Option (List ℕ)) (old new next : K)
    (held r : List ℕ) (count : ℕ)
    → (run : Serving Step left now before after old new held count) → Appends after last r → Appends before last
    (concat (run.replies ++ r ∷ []))
pushed Step left now before after last old new next held r count run wrote =
    subst (Appends before last) (sym (concat_push run.replies r)) (Appends-trans before after last (concat run.replies) r run.written wrote)

-- one more message was answered, after which the connection goes on
pub serving_more : {K : Type 0} (Step : Asked → List ℕ → K → K → Type 0) (left now before after last : Option (List ℕ)) (old new next : K)
    (held rest more r : List ℕ) (m : Message) (count : ℕ)
    → Serving Step left now before after old new held count → IsMessageAt held m rest → more ≡ rest → ends m ≡ false → Step
    (heard m) r new next → Appends after last r
    → Serving Step left now before last old next more (count + 1)
serving_more Step left now before after last old new next held rest more r m count run here is on step wrote = record {
  read = run.read;
  took = run.took;
  messages = run.messages ++ m ∷ [];
  off = subst (TakenOff run.read (run.messages ++ m ∷ [])) (sym is) (off_push run.messages run.read held rest m run.off here on);
  counted = ap (λ n. n + 1) run.counted ∙ sym (length-append run.messages (m ∷ []));
  replies = run.replies ++ r ∷ [];
  answered = turn_push Step run.messages run.replies m r old new next run.answered step;
  written = pushed Step left now before after last old new next held r count run wrote;
}

-- what was taken off what was read was taken off the stream, where that is known
of_stream : (left now : Option (List ℕ)) (read held : List ℕ) (messages : List Message) (P : List ℕ → Type 0) → Consumes left now read
    → TakenOff read messages held
    → ((stream tail : List ℕ) → now ≡ Some tail → TakenOff stream messages (held ++ tail) → P stream) → IfSome left P
of_stream None now read held messages P took off then = tt
of_stream (Some stream) None read held messages P took off then = absurd took
of_stream (Some stream) (Some tail) read held messages P took off then =
    then stream tail refl (subst (λ s. TakenOff s messages (held ++ tail)) (sym took) (off_more messages read held tail off))

at_end : (now : Option (List ℕ)) (tail : List ℕ) → now ≡ Some tail → IsAtEnd now → tail ≡ []
at_end None tail e end = cc
at_end (Some s) tail e end = let same : s ≡ tail = cc in sym same ∙ end

-- as many messages came as were asked for
pub served_limit : {K : Type 0} (Step : Asked → List ℕ → K → K → Type 0) (left now before after last : Option (List ℕ)) (old new : K)
    (held : List ℕ) (count most : ℕ) (served : Served)
    → Serving Step left now before after old new held count → count ≡ most → Keeps after last → served.messages ≡ count
    → served.ending ≡ ending.Limit
    → IfSome left (λ stream. HasServed Step stream most before last old new served)
served_limit Step left now before after last old new held count most served run all kept n e =
    of_stream left now run.read held run.messages _ run.took run.off (λ stream tail is off. record {
      messages = run.messages;
      rest = held ++ tail;
      stop = limit;
      cut = cut_of run.messages stream (held ++ tail) most limit off (omega (arith, all, run.counted)) (omega (arith, all, run.counted));
      replies = run.replies;
      answered = run.answered;
      written = rw (append-nil (concat run.replies)) (Appends-kept before after last (concat run.replies) run.written kept);
      counted = n ∙ run.counted;
      ending = e;
    })

-- the stream ended between messages
pub served_clean : {K : Type 0} (Step : Asked → List ℕ → K → K → Type 0) (left now before after last : Option (List ℕ)) (old new : K)
    (held : List ℕ) (count most : ℕ) (served : Served)
    → Serving Step left now before after old new held count → count < most → held ≡ [] → IsAtEnd now → Keeps after last
    → served.messages ≡ count → served.ending ≡ ending.Clean
    → IfSome left (λ stream. HasServed Step stream most before last old new served)
served_clean Step left now before after last old new held count most served run fewer none end kept n e =
    of_stream left now run.read held run.messages _ run.took run.off (λ stream tail is off. record {
      messages = run.messages;
      rest = held ++ tail;
      stop = clean;
      cut = cut_of run.messages stream (held ++ tail) most clean off (omega (arith, fewer, run.counted))
          (omega (arith, fewer, run.counted), ap (λ l. l ++ tail) none ∙ at_end now tail is end);
      replies = run.replies;
      answered = run.answered;
      written = rw (append-nil (concat run.replies)) (Appends-kept before after last (concat run.replies) run.written kept);
      counted = n ∙ run.counted;
      ending = e;
    })

-- a fault of what is held is one of what is left of the stream
broken_rest : (held : List ℕ) (ended : Bool) (f : WireFault) (now : Option (List ℕ)) (tail : List ℕ) → now ≡ Some tail →
    (ended ≡ true → IsAtEnd now)
    → IsFaultOf held ended f → IsFront (held ++ tail) (Err f)
broken_rest held true f now tail is end here =
    subst (λ l. IsFront l (Err f)) (sym (ap (λ l. held ++ l) (at_end now tail is (end refl)) ∙ append-nil held)) here
broken_rest held false f now tail is end here = here tail

some_rest : (held tail : List ℕ) → held ≢ [] → held ++ tail ≢ []
some_rest [] tail some = absurd (some refl)
some_rest (b ∷ held) tail some = λ e. cc

cut_broken : (messages : List Message) (stream held tail : List ℕ) (most : ℕ) (now : Option (List ℕ)) (ended : Bool) (f : WireFault)
    → TakenOff stream messages (held ++ tail) → length messages < most → now ≡ Some tail → (ended ≡ true → IsAtEnd now) → held ≢ []
    → IsFaultOf held ended f
    → Cut stream most messages (held ++ tail) (broken f)
cut_broken messages stream held tail most now ended f off fewer is end some here =
    cut_of messages stream (held ++ tail) most (broken f) off (omega (arith, fewer))
    (omega (arith, fewer), some_rest held tail some, broken_rest held ended f now tail is end here)

-- the stream goes on with what is no message
pub served_broken : {K : Type 0} (Step : Asked → List ℕ → K → K → Type 0) (left now before after report last : Option (List ℕ)) (old new : K)
    (held : List ℕ) (count most : ℕ) (served : Served) (ended : Bool) (f : WireFault)
    → Serving Step left now before after old new held count → count < most → (ended ≡ true → IsAtEnd now) → held ≢ []
    → IsFaultOf held ended f
    → Appends after report (fault_bytes f) → Keeps report last → served.messages ≡ count → served.ending ≡ ending.Broken
    → IfSome left (λ stream. HasServed Step stream most before last old new served)
served_broken Step left now before after report last old new held count most served ended f run fewer end some here wrote kept n e =
    of_stream left now run.read held run.messages _ run.took run.off (λ stream tail is off. record {
      messages = run.messages;
      rest = held ++ tail;
      stop = broken f;
      cut = cut_broken run.messages stream held tail most now ended f off (omega (arith, fewer, run.counted)) is end some here;
      replies = run.replies;
      answered = run.answered;
      written = Appends-kept before report last _ (Appends-trans before after report (concat run.replies) (fault_bytes f) run.written wrote) kept;
      counted = n ∙ run.counted;
      ending = e;
    })

-- the last message ended the connection
pub served_closed : {K : Type 0} (Step : Asked → List ℕ → K → K → Type 0) (left now before after report last : Option (List ℕ))
    (old new next : K) (held rest r : List ℕ) (m : Message) (count most : ℕ) (served : Served)
    → Serving Step left now before after old new held count → count < most → IsMessageAt held m rest → ends m ≡ true → Step
    (heard m) r new next → Appends after report r
    → Keeps report last → served.messages ≡ count + 1 → served.ending ≡ ending.Closed
    → IfSome left (λ stream. HasServed Step stream most before last old next served)
served_closed Step left now before after report last old new next held rest r m count most served run fewer here out step wrote kept n e =
    of_stream left now run.read held run.messages _ run.took run.off (λ stream tail is off. record {
      messages = run.messages ++ m ∷ [];
      rest = rest ++ tail;
      stop = closed;
      cut = cut_closed run.messages stream (held ++ tail) (rest ++ tail) most m off (message_stays held tail m rest here) out (omega (arith, fewer, run.counted));
      replies = run.replies ++ r ∷ [];
      answered = turn_push Step run.messages run.replies m r old new next run.answered step;
      written = rw (append-nil (concat (run.replies ++ r ∷ []))) (Appends-kept before report last _ (pushed Step left now before after report old new next held r count run wrote) kept);
      counted = n ∙ ap (λ n. n + 1) run.counted ∙ sym (length-append run.messages (m ∷ []));
      ending = e;
    })

-- the reader failed
pub read_failed : {K : Type 0} (Step : Asked → List ℕ → K → K → Type 0) (left now later before after last : Option (List ℕ)) (old new : K)
    (held : List ℕ) (count most : ℕ)
    → Serving Step left now before after old new held count → count < most → EndsInHead held ⊎ EndsInBody held → Keeps now later
    → Keeps after last
    → HasRead Step left later most before last old new
read_failed Step left now later before after last old new held count most run fewer unfinished kept flushed =
    let (stop, is, on, more) = by_end held (most - length run.messages) (omega (arith, fewer, run.counted)) unfinished in
    record {
      read = run.read;
      took = Consumes-kept left now later run.read run.took kept;
      messages = run.messages;
      rest = held;
      stop = stop;
      cut = cut_of run.messages run.read held most stop run.off (omega (arith, fewer, run.counted)) is;
      waiting = (on, more);
      unfinished = unfinished;
      replies = run.replies;
      answered = run.answered;
      written = Appends-kept before after last (concat run.replies) run.written flushed;
    }

-- a whole text is a beginning of itself
pub whole_begins : (before after last : Option (List ℕ)) (text : List ℕ) → Appends before after text → Keeps after last
    → AppendsBeginning before last text
whole_begins before after last text wrote kept =
    (length text, omega arith, rw (take_all (length text) text (omega arith)) (Appends-kept before after last text wrote kept))

-- the writer failed in a reply
pub failed_in_reply : {K : Type 0} (Step : Asked → List ℕ → K → K → Type 0) (left now before after last : Option (List ℕ))
    (old new next : K) (held rest r : List ℕ) (m : Message) (count most : ℕ)
    → Serving Step left now before after old new held count → count < most → IsMessageAt held m rest → Step (heard m) r new next
    → AppendsBeginning after last r
    → IfSome left (λ stream. HasWritten Step stream most before last old next)
failed_in_reply Step left now before after last old new next held rest r m count most run fewer here step (n, within, wrote) =
    of_stream left now run.read held run.messages _ run.took run.off (λ stream tail is off.
    let (stop, cut) = cut_last run.messages stream (held ++ tail) (rest ++ tail) m off (message_stays held tail m rest here) in
    let size = length-append run.messages (m ∷ []) in
    inl (record {
      messages = run.messages ++ m ∷ [];
      rest = rest ++ tail;
      stop = stop;
      cut = rw size cut;
      few = omega (arith, fewer, run.counted, size);
      whole = run.replies;
      last = r;
      answered = turn_push Step run.messages run.replies m r old new next run.answered step;
      part = n;
      within = within;
      written = Appends-trans before after last (concat run.replies) (take n r) run.written wrote;
    }))

-- the writer failed after a reply
pub failed_after : {K : Type 0} (Step : Asked → List ℕ → K → K → Type 0) (left now before after last : Option (List ℕ)) (old new : K)
    (held : List ℕ) (count most : ℕ)
    → Serving Step left now before after old new held count → 0 < count → count ≤ most → Keeps after last
    → IfSome left (λ stream. HasWritten Step stream most before last old new)
failed_after Step left now before after last old new held count most run some few kept =
    of_stream left now run.read held run.messages _ run.took run.off (λ stream tail is off.
    let same = turn_length Step run.messages run.replies old new run.answered in
    let (whole, final, e) = last_of run.replies (omega (arith, some, run.counted, same)) in
    let text : concat run.replies ≡ concat whole ++ take (length final) final = ap concat e ∙ concat_push whole final ∙ ap (λ l. concat whole ++ l) (sym (take_all (length final) final (omega arith))) in
    inl (record {
      messages = run.messages;
      rest = held ++ tail;
      stop = limit;
      cut = cut_of run.messages stream (held ++ tail) (length run.messages) limit off (omega arith) (omega arith);
      few = omega (arith, few, run.counted);
      whole = whole;
      last = final;
      answered = subst (λ replies. InTurn Step (map heard run.messages) replies old new) e run.answered;
      part = length final;
      within = omega arith;
      written = subst (Appends before last) text (Appends-kept before after last (concat run.replies) run.written kept);
    }))

-- the writer failed in the reply to a broken rest
pub failed_in_fault : {K : Type 0} (Step : Asked → List ℕ → K → K → Type 0) (left now before after last : Option (List ℕ)) (old new : K)
    (held : List ℕ) (count most : ℕ) (ended : Bool) (f : WireFault)
    → Serving Step left now before after old new held count → count < most → (ended ≡ true → IsAtEnd now) → held ≢ []
    → IsFaultOf held ended f
    → AppendsBeginning after last (fault_bytes f)
    → IfSome left (λ stream. HasWritten Step stream most before last old new)
failed_in_fault Step left now before after last old new held count most ended f run fewer end some here (n, within, wrote) =
    of_stream left now run.read held run.messages _ run.took run.off (λ stream tail is off.
    inr (record {
      messages = run.messages;
      rest = held ++ tail;
      fault = f;
      cut = cut_broken run.messages stream held tail most now ended f off (omega (arith, fewer, run.counted)) is end some here;
      whole = run.replies;
      answered = run.answered;
      part = n;
      within = within;
      written = Appends-trans before after last (concat run.replies) (take n (fault_bytes f)) run.written wrote;
    }))

-- a step is one by the zone that was there at first
pub in_zone : {K : Type 0} (content : K → Tables) (is_failed : K → Bool) (is_honest : K → Type 0) (may_leave : K → Tables → Type 0)
    (zone first : Zone) (asked : Asked) (reply : List ℕ) (old new : K)
    → zone ≡ first → IsStep content is_failed is_honest may_leave zone asked reply old new
    → IsStep content is_failed is_honest may_leave first asked reply old new
in_zone content is_failed is_honest may_leave zone first asked reply old new e step =
    subst (λ z. IsStep content is_failed is_honest may_leave z asked reply old new) e step

-- what a result says
pub if_ok : {T E : Type 0} {P Q : T → Type 0} (r : Result T E) → IfOk r P → ((x : T) → P x → Q x) → IfOk r Q
if_ok (Ok x) p goes = goes x p
if_ok (Err e) p goes = tt

pub at_err : {T E : Type 0} (P : E → Type 0) (r : Result T E) (f : E) → r ≡ Err f → IfErr r P → P f
at_err P (Ok x) f e p = absurd cc
at_err P (Err d) f e p = let same : d ≡ f = cc in subst P same p

pub on_ok : {T E P : Type 0} (r : Result T E) → is_err r ≡ false → OnOk r P → P
on_ok (Ok x) e p = p
on_ok (Err d) e p = absurd cc

-- what a flush, where anything was given, leaves of a sink that was flushed else
pub flushed_on : {W : Type 0} (handed_on taken : W → Option (List ℕ)) (first old new : W) (given : Bool) →
    (given ≡ false → IsFlushed handed_on taken first old)
    → ((given ≡ false) × (new ≡ old)) ⊎ (handed_on new ≡ taken new) → IsFlushed handed_on taken first new
flushed_on handed_on taken first old new given before (inl (idle, same)) = subst (IsFlushed handed_on taken first) (sym same) (before idle)
flushed_on handed_on taken first old new given before (inr all) = inr all

-- with nothing known of an outcome but that it went well
pub all_ok : {T E P Q : Type 0} (r : Result T E) → OnOk r P → (P → Q) → OnOk r Q
all_ok (Ok x) p goes = goes p
all_ok (Err e) p goes = tt

pub is_zero : (n : ℕ) → nat_eq n 0 ≡ true → n ≡ 0
is_zero n e = search (rules, e)
