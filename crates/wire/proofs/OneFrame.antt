-- Bytes have one front, and a text has one frame.
use Rattle.std.proofs.Common.{◌≡◌, List, ℕ, Result, sym, ◌∙◌, inl, inr, ap}
use Rattle.httparse.proofs.GrammarLemmas.{request_unique}
use Rattle.wire.specs.Frame.{IsFrame, IsFront, alone, judged}
use Rattle.wire.specs.Message.{Message}
use Rattle.wire.specs.declared.fault.WireFault.{WireFault}

abbrev pub Front : Type 0
Front = Result (Message × List ℕ) WireFault

pub one_front : (bytes : List ℕ) (f g : Front) → IsFront bytes f → IsFront bytes g → f ≡ g
unfolding IsFront
one_front bytes f g (inl (h, r, x, e)) (inl (k, q, y, d)) =
    let same = request_unique bytes h k r q x.reads y.reads in
    e ∙ ap (λ l. judged h l) same.1 ∙ ap (λ z. judged z q) same.0 ∙ sym d
one_front bytes f g (inl (h, r, x, e)) (inr (none, d)) = absurd (none h r x)
one_front bytes f g (inr (none, e)) (inl (k, q, y, d)) = absurd (none k q y)
one_front bytes f g (inr (none, e)) (inr (non, d)) = e ∙ sym d

pub one_frame : (text : List ℕ) (f g : Result Message WireFault) → IsFrame text f → IsFrame text g → f ≡ g
one_frame text f g (front, is, e) (other, also, d) = e ∙ ap alone (one_front text front other is also) ∙ sym d
