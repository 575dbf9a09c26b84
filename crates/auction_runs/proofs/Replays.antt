-- What was written of a replay that ended before its end.
use Rattle.std.proofs.Common.{◌≡◌, ◌⊎◌, ℕ, ◌+◌, true, List, ◌++◌, length, take, Option, Some, None, Result, Ok, Err, arith, inl, inr, length-append, refl, subst, sym}
use Rattle.std.specs.Prelude.{IfSome, OnErr}
use Rattle.std.proofs.Math.Seq.{take-append-add, take-length}
use Rattle.std.proofs.lemmas.List.{take-append-le}
use Rattle.std.proofs.KnownBytes.{Appends-kept, Appends-trans, Keeps-refl}
use Rattle.std.specs.Io.KnownBytes.{Appends, Keeps}
use Rattle.auction_runs.specs.Faults.{fault_of_serving}
use Rattle.auction_runs.specs.Replayed.{HasRecordFault, HasServeFault, IsRecordedPart, IsReplayedPart, IsReplyFault, IsServeFault, IsUnrecorded, all_messages}
use Rattle.auction_runs.specs.Setup.{IsSetUp}
use Rattle.auction_runs.specs.declared.fault.TaskFault.{TaskFault}
use Rattle.auction_words.specs.declared.command_line.Replay.{Replay}
use Rattle.device.specs.Given.{AppendsBeginning}
use Rattle.house_rows.specs.declared.keep.Keep as keep
use Rattle.settle.specs.Zoned.{IsZoneOf}
use Rattle.settle.specs.declared.zone.Zone.{Zone}
use Rattle.site.specs.Replies.{IsStep}
use Rattle.site.specs.declared.engine.Site.{Site}
use Rattle.site_serve.specs.Serving.{HasRead, HasServed, HasWritten, keep_of}
use Rattle.site_serve.specs.declared.server.ServeFault.{ServeFault}
use Rattle.site_serve.specs.declared.server.ServeFault.TheVariants.{Memory, Read, Write}
use Rattle.site_serve.specs.declared.server.Served.{Served}

-- a beginning of a front is a beginning of the whole
pub front_begins : (a b : Option (List ℕ)) (s t : List ℕ) → AppendsBeginning a b s
    → AppendsBeginning a b (s ++ t)
front_begins a b s t (n, within, h) =
    (n, omega (arith, within, length-append s t), rw (take-append-le n s t within) h)

-- a front, and then a beginning of the rest
pub then_begins : (a b c : Option (List ℕ)) (s t : List ℕ) → Appends a b s → AppendsBeginning b c t
    → AppendsBeginning a c (s ++ t)
then_begins a b c s t h (n, within, k) = (
  length s + n,
  omega (arith, within, length-append s t),
  rw (take-append-add s t n) (Appends-trans a b c s (take n t) h k),
)

-- a whole text is a beginning of itself
pub all_begins : (a b c : Option (List ℕ)) (s : List ℕ) → Appends a b s → Keeps b c
    → AppendsBeginning a c s
all_begins a b c s h kept = (length s, omega arith, rw (take-length s) (Appends-kept a b c s h kept))

-- what is so where a run ended with a fault
pub on_err : {T E P : Type 0} (r : Result T E) → P → OnErr r P
on_err (Ok x) p = tt
on_err (Err e) p = p

on_err_then : {T E P Q : Type 0} (r : Result T E) → OnErr r P → (P → Q) → OnErr r Q
on_err_then (Ok x) p f = tt
on_err_then (Err e) p f = f p

if_some_then : {A : Type 0} {P Q : A → Type 0} (o : Option A) → IfSome o P → ((x : A) → P x → Q x)
    → IfSome o Q
if_some_then None p f = tt
if_some_then (Some x) p f = f x p

module _ {K : Type 0} (k : keep.Ghosts K) (asked : Replay) (zone first : Zone)
    (left now before : Option (List ℕ)) (given begun ended : K) (same : zone ≡ first)
    (kept_zone : k.is_honest given → IsZoneOf (k.content given).settings.zone first)
    (set_up : IsSetUp (IsStep k.content k.is_failed k.is_honest k.may_leave first) asked.preset given
    begun) where
  zone_is : k.is_honest given → IsZoneOf (k.content given).settings.zone zone
  zone_is honest = subst (IsZoneOf (k.content given).settings.zone) (sym same) (kept_zone honest)

  set_up_so : IsSetUp (IsStep k.content k.is_failed k.is_honest k.may_leave zone) asked.preset given
      begun
  set_up_so = subst (λ z. IsSetUp (IsStep k.content k.is_failed k.is_honest k.may_leave z)
      asked.preset given begun) (sym same) set_up

  -- serving ended with a fault
  pub of_serve : (after : Option (List ℕ)) (r : Result Served ServeFault) (fault : ServeFault)
      {P Q : Type 0} → r ≡ Err fault
      → (r ≡ Err Read → P × HasRead (IsStep k.content k.is_failed k.is_honest k.may_leave zone)
      left now all_messages before after begun ended)
      → (r ≡ Err Write → Q × IfSome left (λ stream. HasWritten
      (IsStep k.content k.is_failed k.is_honest k.may_leave zone) stream all_messages before after
      begun ended))
      → (r ≡ Err Memory → Keeps before after)
      → IsReplayedPart k asked left now before after given
  of_serve after r Read was read write memory = inr (record {
    zone = zone;
    kept_zone = zone_is;
    begun = begun;
    set_up = set_up_so;
    ended = ended;
    part = inl (read was).1;
  })
  of_serve after r Write was read write memory = inr (record {
    zone = zone;
    kept_zone = zone_is;
    begun = begun;
    set_up = set_up_so;
    ended = ended;
    part = inr (inl (write was).1);
  })
  of_serve after r Memory was read write memory = inl (memory was)

  -- the record wasn't written whole
  pub of_record : {T E : Type 0} (between after : Option (List ℕ)) (served : Served) (r : Result T E)
      → IfSome left (λ stream. HasServed (IsStep k.content k.is_failed k.is_honest k.may_leave zone)
      stream all_messages before between begun ended served)
      → OnErr r ((asked.record ≡ true) × IsRecordedPart k between after ended)
      → OnErr r (IsReplayedPart k asked left now before after given)
  of_record between after served r answered part = on_err_then r part (λ why. inr (record {
    zone = zone;
    kept_zone = zone_is;
    begun = begun;
    set_up = set_up_so;
    ended = ended;
    part = inr (inr (
      why.0,
      if_some_then left answered (λ stream so.
          let unrecorded : IsUnrecorded k zone stream before after begun = record {
            ended = ended;
            between = between;
            served = served;
            answered = so;
            recorded = why.1;
          } in
          unrecorded),
    ));
  }))

-- where both are as they were, nothing was written and the keep stays
pub unserved : {W K P : Type 0} (taken : W → Option (List ℕ)) (old new : W) (given left : Site K)
    → P × (new ≡ old) × (left ≡ given)
    → Keeps (taken old) (taken new) × (keep_of left ≡ keep_of given)
unserved taken old new given left (source, same, stays) = (
  subst (λ w. Keeps (taken old) (taken w)) (sym same) (Keeps-refl (taken old)),
  rw stays refl,
)

-- what stands for a fault of serving goes with what was written by then
pub serve_fault : {K P Q : Type 0} (k : keep.Ghosts K) (zone : Zone)
    (left now before after : Option (List ℕ)) (begun last : K) (r : Result Served ServeFault)
    (fault : ServeFault) → r ≡ Err fault
    → (r ≡ Err Read → P × HasRead (IsStep k.content k.is_failed k.is_honest k.may_leave zone)
    left now all_messages before after begun last)
    → (r ≡ Err Write → Q × IfSome left (λ stream. HasWritten
    (IsStep k.content k.is_failed k.is_honest k.may_leave zone) stream all_messages before after
    begun last))
    → (r ≡ Err Memory → Keeps before after × (last ≡ begun))
    → IsServeFault k zone left now before after begun last (fault_of_serving fault)
serve_fault k zone left now before after begun last r Read was read write memory =
    inl (refl, (read was).1)
serve_fault k zone left now before after begun last r Write was read write memory =
    inr (inl (refl, (write was).1))
serve_fault k zone left now before after begun last r Memory was read write memory =
    inr (inr (refl, (memory was).0, (memory was).1))

-- a fault after a keep was set up by one zone, which is another's
pub by_fault : {K : Type 0} (k : keep.Ghosts K) (asked : Replay) (zone first : Zone)
    (left now before after : Option (List ℕ)) (given begun last : K) (fault : TaskFault)
    → zone ≡ first
    → IsSetUp (IsStep k.content k.is_failed k.is_honest k.may_leave first) asked.preset given begun
    → IsServeFault k zone left now before after begun last fault
    ⊎ HasRecordFault k asked zone left before after begun last fault
    → IsReplyFault k asked first left now before after given last fault
by_fault k asked zone first left now before after given begun last fault same set_up why =
    let here : HasServeFault k asked zone left now before after given last fault = record {
      begun = begun;
      set_up = subst (λ z. IsSetUp (IsStep k.content k.is_failed k.is_honest k.may_leave z)
          asked.preset given begun) (sym same) set_up;
      cause = why;
    } in
    inr (subst (λ z. HasServeFault k asked z left now before after given last fault) same here)
