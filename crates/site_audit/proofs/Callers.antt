-- Whose a text is, and which texts may be at one place.
use Rattle.std.proofs.Common.{◌≡◌, ◌⊎◌, ◌∙◌, ℕ, List, Bool, true, false, refl, sym, ap, inl, inr, Option, None, Ok, Err}
use Rattle.std.specs.Prelude.{◌↔◌, not}
use Rattle.house_rows.specs.declared.message.Message.{Message}
use Rattle.house_rows.specs.declared.message.Message.TheVariants.{Write, Read, Broken}
use Rattle.house_rows.specs.Runs.{is_caller, is_of}
use Rattle.site.specs.Runs.{is_from}
use Rattle.site_request.specs.Asked.{IsAsked, asked_of, caller_of}
use Rattle.site_request.specs.Heads.{caller_in}
use Rattle.site_request.specs.declared.asked.Asked.{Asked}
use Rattle.site_request.specs.declared.fault.RequestFault.{RequestFault}
use Rattle.site_request.proofs.CallerLemmas.{message_is_of}
use Rattle.wire.specs.Frame.{IsFrame}
use Rattle.wire.specs.Message.{Message as Framed}
use Rattle.wire.specs.declared.fault.WireFault.{WireFault}
use Rattle.wire.proofs.OneFrame.{one_frame}
use Rattle.site_audit.specs.Places.{ArePaired, Heard, IsHeard}

of_whole : (m : Framed) → caller_of (asked_of (Ok m)).message ≡ caller_in m
unfolding asked_of
of_whole m = message_is_of m

of_broken : (f : WireFault) → caller_of (asked_of (Err f)).message ≡ None
unfolding asked_of
of_broken f = refl

-- a whole message is the caller's that its head names
pub whole_is_of : (text : List ℕ) (m : Framed) → IsFrame text (Ok m) → (asked : Asked)
    → IsAsked text asked → caller_in m ≡ caller_of asked.message
whole_is_of text m is asked (frame, also, same) =
    sym (ap (λ (a : Asked). caller_of a.message)
    (same ∙ ap asked_of (one_frame text frame (Ok m) also is)) ∙ of_whole m)

-- what is no message is nobody's
pub broken_is_of : (text : List ℕ) (f : WireFault) → IsFrame text (Err f) → (asked : Asked)
    → IsAsked text asked → None ≡ caller_of asked.message
broken_is_of text f is asked (frame, also, same) =
    sym (ap (λ (a : Asked). caller_of a.message)
    (same ∙ ap asked_of (one_frame text frame (Err f) also is)) ∙ of_broken f)

message_of_caller : (c : ℕ) (m : Message RequestFault) → is_caller (caller_of m) c ≡ is_of c m
message_of_caller c (Write moment caller command) = refl
message_of_caller c (Read caller query) = refl
message_of_caller c (Broken caller f) = refl

-- a message is from its caller
pub from_caller : (c : ℕ) (caller : Option ℕ) (asked : Asked) → caller ≡ caller_of asked.message
    → is_caller caller c ≡ is_from c asked
from_caller c caller asked e = ap (λ o. is_caller o c) e ∙ message_of_caller c asked.message

-- texts that are the same ask for the same
same_heard : (s t : List ℕ) (x y : Heard) → IsHeard s x → IsHeard t y → s ≡ t → x ≡ y
same_heard s t x y a b e =
    let (f, is, d) = a.asks in
    let (g, also, d') = b.asks in
    let text : x.text ≡ y.text = a.same ∙ e ∙ sym b.same in
    let asked : x.asked ≡ y.asked =
    d ∙ ap asked_of (one_frame s f g is (rw (← e) at also)) ∙ sym d' in
    alike x y text asked
  where
    alike : (x y : Heard) → x.text ≡ y.text → x.asked ≡ y.asked → x ≡ y
    alike x y p q = λ i. record { text = p i; asked = q i }

same_text : (s t : List ℕ) (x y : Heard) → IsHeard s x → IsHeard t y → x ≡ y → s ≡ t
same_text s t x y a b e = sym a.same ∙ ap (λ (z : Heard). z.text) e ∙ b.same

-- texts may be at one place where they are equal
pub paired_same : (c : ℕ) (s t : List ℕ) (x y : Heard) → IsHeard s x → IsHeard t y → s ≡ t
    → ArePaired c x y
paired_same c s t x y a b e = inl (same_heard s t x y a b e)

-- where they are not, and one is the caller's, they may not
pub unpaired : (c : ℕ) (s t : List ℕ) (x y : Heard) → IsHeard s x → IsHeard t y → ¬ (s ≡ t)
    → (is_from c x.asked ≡ true) ⊎ (is_from c y.asked ≡ true) → ¬ (ArePaired c x y)
unpaired c s t x y a b apart (inl mine) (inl e) = apart (same_text s t x y a b e)
unpaired c s t x y a b apart (inl mine) (inr (l, r)) = cc
unpaired c s t x y a b apart (inr mine) (inl e) = apart (same_text s t x y a b e)
unpaired c s t x y a b apart (inr mine) (inr (l, r)) = cc

-- where the left one isn't the caller's it depends on the right one
pub others_reported : (c : ℕ) (s t : List ℕ) (x y : Heard) → IsHeard s x → IsHeard t y → ¬ (s ≡ t)
    → is_from c x.asked ≡ false → (other : Bool) → other ≡ is_from c y.asked
    → (not other ≡ true) ↔ ArePaired c x y
others_reported c s t x y a b apart mine true e =
    (λ no. absurd cc, λ p. absurd (unpaired c s t x y a b apart (inr (sym e)) p))
others_reported c s t x y a b apart mine false e = (λ yes. inr (mine, sym e), λ p. refl)
