-- Messages, cut off the front of bytes.
use Rattle.std.proofs.Common.{if◌then◌else◌, nat_eq, nat_lt, zero, suc, ◌≡◌, ◌≢◌, ◌∙◌, ℕ, ◌+◌, ◌-◌, ◌<◌, ◌≤◌, List, [], ◌∷◌, ◌++◌, Bool, true, false, length, take, drop, refl, sym, ap, subst, arith, rules, inl, inr, append-nil, append_assoc, length-append, length-drop, Option, Some, None, Result, Ok, Err}
use Rattle.std.specs.Prelude.{IfSome, OnOk, is_err, slice_range}
use Rattle.std.specs.List.{AllByRecursion, concat}
use Rattle.std.specs.Io.KnownBytes.{Consumes, IsAtEnd}
use Rattle.std.proofs.KnownBytes.{Consumes-nil, Consumes-trans}
use Rattle.std.proofs.Math.ListN.{drop_of_length-le}
use Rattle.std.proofs.Math.Seq.{drop-drop, take-append-add}
use Rattle.std.proofs.lemmas.List.{drop-append-le, length-take-le, take-append-drop, take_all}
use Rattle.std.proofs.lemmas.List.Folds.{concat-append}
use Rattle.httparse.specs.Grammar.{RequestHead, print_request}
use Rattle.wire.specs.Frame.{IsFront, IsMessageAt, announced, fields_of, message_of, with_body}
use Rattle.wire.specs.Head.{BeginsHead}
use Rattle.wire.specs.Look.{IsFaultOf}
use Rattle.wire.specs.Message.{Message}
use Rattle.wire.specs.declared.fault.WireFault.{WireFault}
use Rattle.wire.specs.declared.fault.WireFault.TheVariants as fault
use Rattle.wire.proofs.Fronts.{message_here, nothing_begins}
use Rattle.site_audit.specs.declared.messages.MessagesFault.{MessagesFault}
use Rattle.site_audit.specs.declared.messages.MessagesFault.TheVariants.{Broken, Memory, Read}
use Rattle.site_audit.specs.Messages.{IsCutInto, IsNoList, IsStopped, IsWhole}

-- a message and what comes after it
abbrev found : Message → List ℕ → Message × List ℕ
found m rest = (m, rest)

ok_is : {X E : Type 0} (x y : X) → ◌≡◌ {A = Result X E} (Ok x) (Ok y) → x ≡ y
ok_is x y e = cc

found_is : (m k : Message) (r s : List ℕ)
    → ◌≡◌ {A = Result (Message × List ℕ) WireFault} (Ok (found m r)) (Ok (found k s)) → m ≡ k
found_is m k r s e = ap (λ p. p.0) (ok_is (found m r) (found k s) e)

not_less : (a b : ℕ) → nat_lt a b ≡ false → b ≤ a
not_less a b e = search (rules, e)

-- the length of the body of a message that is there
body_there : (h : RequestHead) (after : List ℕ) (m : Message) (rest : List ℕ)
    (size : Result ℕ WireFault) → Ok (found m rest) ≡ with_body h after size
    → (n : ℕ) × (Ok n ≡ size) × (n ≤ length after) × (m ≡ message_of h (take n after))
body_there h after m rest (Err f) e = cc
body_there h after m rest (Ok n) e = by_test (nat_lt (length after) n) refl e
  where
    by_test : (t : Bool) → nat_lt (length after) n ≡ t
        → Ok (found m rest) ≡ (if t then Err fault.End
        else Ok (found (message_of h (take n after)) (drop n after)))
        → (k : ℕ) × (◌≡◌ {A = Result ℕ WireFault} (Ok k) (Ok n)) × (k ≤ length after)
        × (m ≡ message_of h (take k after))
    by_test true test e = cc
    by_test false test e =
        (n, refl, not_less (length after) n test, found_is m (message_of h (take n after)) rest (drop n after) e)

take_twice : (n : ℕ) (xs : List ℕ) → n ≤ length xs → take n (take n xs) ≡ take n xs
take_twice n xs fits = take_all n (take n xs) (omega (arith, length-take-le n xs fits))

-- a message at the front of bytes is there by itself
front_alone : (bytes : List ℕ) (m : Message) (rest : List ℕ) → IsMessageAt bytes m rest
    → IsMessageAt (take m.length bytes) m []
unfolding IsFront
front_alone bytes m rest (inr (none, e)) = cc
front_alone bytes m rest (inl (h, after, b, e)) =
    let (n, size, fits, is) = body_there h after m rest (announced h.minor (fields_of h)) e in
    let body = take n after in
    let long : length body ≡ n = length-take-le n after fits in
    let length_is : m.length ≡ length (print_request h) + n =
    ap (λ (k : Message). k.length) is ∙ ap (λ k. length (print_request h) + k) long in
    let text : take m.length bytes ≡ print_request h ++ body =
    ap (λ k. take k bytes) length_is ∙ ap (take (length (print_request h) + n)) b.reads.1
    ∙ take-append-add (print_request h) after n in
    let head : BeginsHead (print_request h ++ body) h body =
    record { reads = (b.reads.0, refl); fields = b.fields; size = b.size } in
    let here = message_here (print_request h ++ body) h body n m head size (omega (arith, long))
    (is ∙ ap (message_of h) (sym (take_twice n after fits))) in
    let none : drop n body ≡ [] = drop_of_length-le body (omega (arith, long)) in
    subst (λ t. IsMessageAt t m []) (sym text)
    (subst (λ r. IsMessageAt (print_request h ++ body) m r) none here)

-- and so it is whole
message_alone : (bytes : List ℕ) (m : Message) (rest : List ℕ) → IsMessageAt bytes m rest
    → IsWhole (take m.length bytes)
message_alone bytes m rest here = (m, (Ok (found m []), front_alone bytes m rest here, refl))

-- a message has bytes
pub some_message : (bytes : List ℕ) (m : Message) (rest : List ℕ) → IsMessageAt bytes m rest
    → 0 < m.length
some_message bytes m rest here =
    positive m.length (λ none. nothing_begins m []
    (subst (λ n. IsMessageAt (take n bytes) m []) none (front_alone bytes m rest here)))
  where
    positive : (n : ℕ) → (n ≡ 0 → ⊥) → 0 < n
    positive zero none = absurd (none refl)
    positive (suc n) none = omega arith

push_whole : (P : List ℕ → Type 0) (texts : List (List ℕ)) (text : List ℕ)
    → AllByRecursion P texts → P text → AllByRecursion P (texts ++ text ∷ [])
push_whole P [] text all here = (here, tt)
push_whole P (t ∷ texts) text all here = (all.0, push_whole P texts text all.1 here)

push_text : (texts : List (List ℕ)) (text : List ℕ)
    → concat (texts ++ text ∷ []) ≡ concat texts ++ text
push_text texts text = concat-append texts (text ∷ []) ∙ ap (λ l. concat texts ++ l) (append-nil text)

-- one more message is cut off
cut_push : (bytes : List ℕ) (texts : List (List ℕ)) (held rest : List ℕ) (m : Message)
    → IsCutInto bytes texts held → IsMessageAt held m rest
    → IsCutInto bytes (texts ++ take m.length held ∷ []) (drop m.length held)
cut_push bytes texts held rest m cut here = record {
  parts = cut.parts ∙ ap (λ l. concat texts ++ l) (sym (take-append-drop m.length held))
      ∙ sym (append_assoc (concat texts) (take m.length held) (drop m.length held))
      ∙ ap (λ l. l ++ drop m.length held) (sym (push_text texts (take m.length held)));
  whole = push_whole IsWhole texts (take m.length held) cut.whole (message_alone held m rest here);
}

-- more bytes lengthen what is left
pub cut_grown : (bytes : List ℕ) (texts : List (List ℕ)) (held more : List ℕ)
    → IsCutInto bytes texts held → IsCutInto (bytes ++ more) texts (held ++ more)
cut_grown bytes texts held more cut = record {
  parts = ap (λ l. l ++ more) cut.parts ∙ append_assoc (concat texts) held more;
  whole = cut.whole;
}

-- reading so far: the text was read, of which the messages are cut off and the rest is held
pub record Reading (left now : Option (List ℕ)) (texts : List (List ℕ)) (text held : List ℕ)
    (cut : ℕ) : Type 0 where
  pub took : Consumes left now text
  pub into : IsCutInto text texts held
  pub rest_after : held ≡ drop cut text
  pub within : cut ≤ length text

pub reading_none : (left : Option (List ℕ)) (held : List ℕ) → held ≡ []
    → Reading left left [] [] held 0
reading_none left held none = record {
  took = Consumes-nil left;
  into = record { parts = sym none; whole = tt };
  rest_after = none;
  within = omega arith;
}

-- more was read
pub reading_grown : (left now later : Option (List ℕ)) (texts : List (List ℕ))
    (text held bytes text' held' : List ℕ) (cut : ℕ) → Reading left now texts text held cut
    → Consumes now later bytes → held' ≡ held ++ bytes → text' ≡ text ++ bytes
    → Reading left later texts text' held' cut
reading_grown left now later texts text held bytes text' held' cut so took e d = rw (e, d) (record {
  took = Consumes-trans left now later text bytes so.took took;
  into = cut_grown text texts held bytes so.into;
  rest_after = ap (λ l. l ++ bytes) so.rest_after ∙ sym (drop-append-le cut text bytes so.within);
  within = omega (arith, length-append text bytes, so.within);
})

-- what is held is that long
pub held_length : (left now : Option (List ℕ)) (texts : List (List ℕ)) (text held : List ℕ) (cut : ℕ)
    → Reading left now texts text held cut → cut + length held ≡ length text
held_length left now texts text held cut so =
    omega (arith, ap length so.rest_after, length-drop cut text, so.within)

-- a message was cut off
pub reading_more : (left now : Option (List ℕ)) (texts texts' : List (List ℕ))
    (text held held' one rest : List ℕ) (m : Message) (cut n : ℕ)
    → Reading left now texts text held cut → IsMessageAt held m rest → m.length ≤ length held
    → n ≡ m.length → held' ≡ drop n held → one ≡ take n held → texts' ≡ texts ++ one ∷ []
    → Reading left now texts' text held' (cut + n)
reading_more left now texts texts' text held held' one rest m cut n so here fits e d is all =
    rw (all, is, d, e) (record {
      took = so.took;
      into = cut_push text texts held rest m so.into here;
      rest_after = ap (drop m.length) so.rest_after ∙ drop_drop;
      within = omega (arith, held_length left now texts text held cut so, fits);
    })
  where
    drop_drop : drop m.length (drop cut text) ≡ drop (cut + m.length) text
    drop_drop = drop-drop m.length cut text

-- the bytes of a message are in the text where they are held
pub one_is : (left now : Option (List ℕ)) (texts : List (List ℕ)) (text held : List ℕ) (cut n : ℕ)
    → Reading left now texts text held cut → slice_range text cut (cut + n) ≡ take n held
one_is left now texts text held cut n so =
    let size : (cut + n) - cut ≡ n = omega arith in
    ap (λ k. take k (drop cut text)) size ∙ ap (take n) (sym so.rest_after)

-- what was read is a front of the stream, where that is known
of_stream : (left now : Option (List ℕ)) (text : List ℕ) (P : List ℕ → Type 0)
    → Consumes left now text
    → ((stream tail : List ℕ) → now ≡ Some tail → stream ≡ text ++ tail → P stream) → IfSome left P
of_stream None now text P took tells = tt
of_stream (Some stream) None text P took tells = absurd took
of_stream (Some stream) (Some tail) text P took tells = tells stream tail refl took

at_end : (now : Option (List ℕ)) (tail : List ℕ) → now ≡ Some tail → IsAtEnd now → tail ≡ []
at_end None tail e end = cc
at_end (Some s) tail e end = let same : s ≡ tail = cc in sym same ∙ end

-- the stream ended between messages
pub listed_clean : (left now : Option (List ℕ)) (texts : List (List ℕ)) (text held : List ℕ)
    (cut : ℕ) → Reading left now texts text held cut → held ≡ [] → IsAtEnd now
    → IfSome left (λ stream. IsCutInto stream texts [])
listed_clean left now texts text held cut so none end =
    of_stream left now text _ so.took (λ stream tail is e.
    subst (λ s. IsCutInto s texts [])
    (sym (e ∙ ap (λ l. text ++ l) (at_end now tail is end) ∙ append-nil text))
    (subst (IsCutInto text texts) none so.into))

-- a fault of what is held is one of what is left of the stream
broken_rest : (held : List ℕ) (ended : Bool) (f : WireFault) (now : Option (List ℕ))
    (tail : List ℕ) → now ≡ Some tail → (ended ≡ true → IsAtEnd now) → IsFaultOf held ended f
    → IsFront (held ++ tail) (Err f)
broken_rest held true f now tail is end here =
    subst (λ l. IsFront l (Err f))
    (sym (ap (λ l. held ++ l) (at_end now tail is (end refl)) ∙ append-nil held)) here
broken_rest held false f now tail is end here = here tail

some_rest : (held tail : List ℕ) → held ≢ [] → held ++ tail ≢ []
some_rest [] tail some = absurd (some refl)
some_rest (b ∷ held) tail some = λ e. cc

-- the stream goes on with what is no message
pub listed_broken : (left now : Option (List ℕ)) (texts : List (List ℕ)) (text held : List ℕ)
    (cut : ℕ) (failed ended : Bool) (f : WireFault)
    → Reading left now texts text held cut → held ≢ [] → (ended ≡ true → IsAtEnd now)
    → IsFaultOf held ended f → IfSome left (λ stream. IsNoList stream failed (Broken f))
listed_broken left now texts text held cut failed ended f so some end here =
    of_stream left now text _ so.took (λ stream tail is e. (
      texts,
      held ++ tail,
      subst (λ s. IsCutInto s texts (held ++ tail)) (sym e)
          (cut_grown text texts held tail so.into),
      some_rest held tail some,
      broken_rest held ended f now tail is end here,
    ))

-- reading stopped
pub listed_stopped : (left : Option (List ℕ)) (failed : Bool) (f : MessagesFault)
    → IsStopped failed f → IfSome left (λ stream. IsNoList stream failed f)
listed_stopped None failed f is = tt
listed_stopped (Some stream) failed Memory is = is
listed_stopped (Some stream) failed Read is = is
listed_stopped (Some stream) failed (Broken f) is = absurd is

pub on_ok : {A E P : Type 0} (r : Result A E) → is_err r ≡ false → OnOk r P → P
on_ok (Ok a) e p = p
on_ok (Err f) e p = absurd cc

pub is_zero : (n : ℕ) → nat_eq n 0 ≡ true → n ≡ 0
is_zero n e = search (rules, e)
