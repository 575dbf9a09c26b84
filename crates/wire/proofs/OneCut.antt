-- A stream has one cut into messages.
use Rattle.std.proofs.Common.{◌≡◌, ℕ, ◌-◌, ◌<◌, List, [], ◌∷◌, Bool, true, false, Ok, Err, refl, sym, ap, ◌∙◌, subst, arith}
use Rattle.std.specs.Prelude.{MatchBool}
use Rattle.wire.specs.Cut.{Cut, IsRest, Stop, closed, limit, clean, broken}
use Rattle.wire.specs.Fields.{ends_connection}
use Rattle.wire.specs.Frame.{IsMessageAt}
use Rattle.wire.specs.Message.{Message}
use Rattle.wire.specs.declared.fault.WireFault.{WireFault}
use Rattle.wire.proofs.Fronts.{nothing_begins}
use Rattle.wire.proofs.OneFrame.{Front, one_front}

err_is : (f g : WireFault) → ◌≡◌ {A = Front} (Err f) (Err g) → f ≡ g
err_is f g e = cc

-- no stop is two
one_stop : (rest : List ℕ) (most : ℕ) (stop end : Stop) → IsRest rest most stop → IsRest rest most end → stop ≡ end
one_stop rest most closed end is also = absurd is
one_stop rest most stop closed is also = absurd also
one_stop rest most limit limit is also = refl
one_stop rest most limit clean is also = absurd (omega (arith, is, also.0))
one_stop rest most limit (broken g) is also = absurd (omega (arith, is, also.0))
one_stop rest most clean limit is also = absurd (omega (arith, also, is.0))
one_stop rest most clean clean is also = refl
one_stop rest most clean (broken g) is also = absurd (also.1 is.1)
one_stop rest most (broken f) limit is also = absurd (omega (arith, also, is.0))
one_stop rest most (broken f) clean is also = absurd (is.1 also.1)
one_stop rest most (broken f) (broken g) is also = ap broken (err_is f g (one_front rest (Err f) (Err g) is.2 also.2))

-- where a message is there and one more may come, nothing stops
goes_on : (stream : List ℕ) (most : ℕ) (m : Message) (after : List ℕ) (stop : Stop) → 0 < most → IsMessageAt stream m after
    → IsRest stream most stop → ⊥
goes_on stream most m after closed more here is = is
goes_on stream most m after limit more here is = omega (arith, is)
goes_on stream most m after clean more here is = nothing_begins m after (subst (λ s. IsMessageAt s m after) is.1 here)
goes_on stream most m after (broken f) more here is =
    let both : Front = Ok (m, after) in
    let same : Err f ≡ both = one_front stream (Err f) both is.2 here in
    cc

abbrev Same : List Message → List Message → List ℕ → List ℕ → Stop → Stop → Type 0
Same messages others rest other stop end = (messages ≡ others) × (rest ≡ other) × (stop ≡ end)

-- after one message
rest_after : (t : Bool) (most : ℕ) (after : List ℕ) (messages others : List Message) (rest other : List ℕ) (stop end : Stop)
    → (Cut after most messages rest stop → Cut after most others other end → Same messages others rest other stop end)
    → MatchBool t ((messages ≡ []) × (rest ≡ after) × (stop ≡ closed)) (Cut after most messages rest stop)
    → MatchBool t ((others ≡ []) × (other ≡ after) × (end ≡ closed)) (Cut after most others other end)
    → Same messages others rest other stop end
rest_after true most after messages others rest other stop end later (a, b, c) (d, e, f) = (a ∙ sym d, b ∙ sym e, c ∙ sym f)
rest_after false most after messages others rest other stop end later cut also = later cut also

same_cut : (messages others : List Message) (stream : List ℕ) (most : ℕ) (rest other : List ℕ) (stop end : Stop)
    → Cut stream most messages rest stop → Cut stream most others other end → Same messages others rest other stop end
same_cut [] [] stream most rest other stop end (e, is) (d, also) =
    let same : other ≡ rest = sym d ∙ e in
    (refl, sym same, one_stop rest most stop end is (subst (λ r. IsRest r most end) same also))
same_cut [] (n ∷ others) stream most rest other stop end (e, is) (more, after, here, tail) =
    absurd (goes_on stream most n after stop more here (subst (λ r. IsRest r most stop) (sym e) is))
same_cut (m ∷ messages) [] stream most rest other stop end (more, after, here, tail) (d, also) =
    absurd (goes_on stream most m after end more here (subst (λ r. IsRest r most end) (sym d) also))
same_cut (m ∷ messages) (n ∷ others) stream most rest other stop end (more, after, here, tail) (some, after_n, there, last) =
    let x : Message × List ℕ = (m, after) in
    let y : Message × List ℕ = (n, after_n) in
    let same : y ≡ x = ok_is y x (one_front stream (Ok y) (Ok x) there here) in
    let moved : MatchBool (ends_connection m.minor m.fields) ((others ≡ []) × (other ≡ after) × (end ≡ closed)) (Cut after
    (most - 1) others other end) =
    subst (λ (p : Message × List ℕ). MatchBool (ends_connection p.0.minor p.0.fields) ((others ≡ []) × (other ≡ p.1) × (end ≡ closed))
    (Cut p.1 (most - 1) others other end)) same last in
    let later = rest_after (ends_connection m.minor m.fields) (most - 1) after messages others rest other stop end
    (same_cut messages others after (most - 1) rest other stop end) tail moved in
    (cons_is (sym (ap (λ p. p.0) same)) later.0, later.1, later.2)
  where
    ok_is : (x y : Message × List ℕ) → ◌≡◌ {A = Front} (Ok x) (Ok y) → x ≡ y
    ok_is x y e = cc

    cons_is : {a b : Message} {xs ys : List Message} → a ≡ b → xs ≡ ys → a ∷ xs ≡ b ∷ ys
    cons_is p q = cc

pub one_cut : (stream : List ℕ) (most : ℕ) (messages others : List Message) (rest other : List ℕ) (stop end : Stop)
    → Cut stream most messages rest stop → Cut stream most others other end → (messages ≡ others) × (rest ≡ other) × (stop ≡ end)
one_cut stream most messages others rest other stop end cut also = same_cut messages others stream most rest other stop end cut also
