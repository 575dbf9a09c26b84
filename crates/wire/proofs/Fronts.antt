-- What a head at the front says of the bytes.
use Rattle.std.proofs.Common.{if◌then◌else◌, nat_lt, ◌≡◌, ℕ, ◌+◌, ◌<◌, ◌≤◌, List, [], ◌∷◌, ◌++◌, Bool, true, false, length, take, drop, Result, Ok, Err, refl, sym, ap, ◌∙◌, subst, arith, rules, inl, inr, append-nil, length-append, length-drop}
use Rattle.std.proofs.lemmas.List.{drop-append-le, length-take-le, take-append-le}
use Rattle.httparse.specs.Grammar.{HasNoRequest, IsRequestHead, RequestHead, print_blank, print_end, print_request, print_section, print_version}
use Rattle.httparse.proofs.GrammarLemmas.{ReadsRequest-append, print_request-append}
use Rattle.wire.specs.Fields.{Pair}
use Rattle.wire.specs.Frame.{IsFront, IsMessageAt, alone, announced, fields_of, message_of, with_body}
use Rattle.wire.specs.Front.{EndsInBody, EndsInHead, IsKnownFault}
use Rattle.wire.specs.Look.{IsFaultOf}
use Rattle.wire.specs.Head.{BeginsHead, NeverHead, NoHead}
use Rattle.wire.specs.Message.{Message}
use Rattle.wire.specs.declared.fault.WireFault.{WireFault}
use Rattle.wire.specs.declared.fault.WireFault.TheVariants as fault

-- a message and what comes after it
abbrev found : Message → List ℕ → Message × List ℕ
found m rest = (m, rest)

-- a head stays at the front, whatever follows
pub begins_more : (bytes : List ℕ) (h : RequestHead) (rest more : List ℕ) → BeginsHead bytes h rest → BeginsHead (bytes ++ more) h
    (rest ++ more)
begins_more bytes h rest more b = record { reads = ReadsRequest-append bytes h rest more b.reads; fields = b.fields; size = b.size }

pub never_head : (bytes : List ℕ) → NeverHead bytes → IsKnownFault bytes fault.Head
unfolding IsFront
never_head bytes never more = inr (never more, refl)

-- a fault of the head stays, whatever follows
pub known_fault : (bytes : List ℕ) (h : RequestHead) (after : List ℕ) (f : WireFault) → BeginsHead bytes h after
    → Err f ≡ announced h.minor (fields_of h) → IsKnownFault bytes f
unfolding IsFront
known_fault bytes h after f b e more = inl (h, after ++ more, begins_more bytes h after more b, ap (with_body h (after ++ more)) e)

length_split : (bytes : List ℕ) (h : RequestHead) (after : List ℕ) → BeginsHead bytes h after → length bytes ≡ length
    (print_request h) + length after
length_split bytes h after b = ap length b.reads.1 ∙ length-append (print_request h) after

whenever : {X : Type 0} (x y : X) (t : Bool) → t ≡ true → x ≡ (if t then x else y)
whenever x y t e = rw e refl

unless : {X : Type 0} (x y : X) (t : Bool) → t ≡ false → y ≡ (if t then x else y)
unless x y t e = rw e refl

pub ends_in_body : (bytes : List ℕ) (h : RequestHead) (after : List ℕ) (n : ℕ) → BeginsHead bytes h after
    → Ok n ≡ announced h.minor (fields_of h) → n ≤ 16384 → length after < n → EndsInBody bytes
unfolding IsFront
ends_in_body bytes h after n b e small short =
    let test : nat_lt (length after) n ≡ true = search (rules, short) in
    let whole : Message × List ℕ = (message_of h (take n after), drop n after) in
    let here : Err fault.End ≡ with_body h after (Ok n) = whenever (Err fault.End) (Ok whole) (nat_lt (length after) n) test in
    (inl (h, after, b, here ∙ ap (with_body h after) e), omega (arith, length_split bytes h after b, b.size))

-- a whole message
pub message_here : (bytes : List ℕ) (h : RequestHead) (after : List ℕ) (n : ℕ) (m : Message) → BeginsHead bytes h after
    → Ok n ≡ announced h.minor (fields_of h) → n ≤ length after → m ≡ message_of h (take n after)
    → IsMessageAt bytes m (drop n after)
unfolding IsFront
message_here bytes h after n m b e fits is =
    let test : nat_lt (length after) n ≡ false = search (rules, fits) in
    let whole : Message × List ℕ = (message_of h (take n after), drop n after) in
    let here : Ok whole ≡ with_body h after (Ok n) = unless (Err fault.End) (Ok whole) (nat_lt (length after) n) test in
    subst (λ x. IsMessageAt bytes x (drop n after)) (sym is) (inl (h, after, b, here ∙ ap (with_body h after) e))

-- the message of a head, part by part
pub same_message : (h : RequestHead) (after method target body : List ℕ) (minor size n : ℕ) (fields : List Pair) → method ≡ h.method
    → target ≡ h.target → minor ≡ h.minor
    → fields ≡ fields_of h → body ≡ take n after → n ≤ length after → size ≡ length (print_request h) + n
    → record { method = method; target = target; minor = minor; fields = fields; body = body; length = size } ≡ message_of h (take n after)
same_message h after method target body minor size n fields a b c d e fits long =
    let whole : size ≡ length (print_request h) + length (take n after) = long ∙ ap (λ k. length (print_request h) + k) (sym
    (length-take-le n after fits)) in
    λ i. record { method = a i; target = b i; minor = c i; fields = d i; body = e i; length = whole i }

-- a known fault is one of the bytes as they are
pub known_now : (bytes : List ℕ) (f : WireFault) → IsKnownFault bytes f → IsFront bytes (Err f)
known_now bytes f known = subst (λ b. IsFront b (Err f)) (append-nil bytes) (known [])

pub fault_of : (held : List ℕ) (ended : Bool) (f : WireFault) → IsKnownFault held f → IsFaultOf held ended f
fault_of held true f known = known_now held f known
fault_of held false f known = known

pub ends_in_head : (bytes : List ℕ) → EndsInHead bytes → IsFront bytes (Err fault.Head)
unfolding IsFront
ends_in_head bytes ends = inr ((λ h rest b. ends.none h rest b.reads), refl)

pub ended_in_head : (held : List ℕ) (ended : Bool) → ended ≡ true → EndsInHead held → IsFaultOf held ended fault.Head
ended_in_head held ended is ends = subst (λ e. IsFaultOf held e fault.Head) (sym is) (ends_in_head held ends)

-- bytes after the message of a text
pub excess : (text : List ℕ) (m : Message) → m.length ≤ length text → (m.length ≡ length text → ⊥)
    → Err fault.Excess ≡ alone (Ok (m, drop m.length text))
excess text m fits other = by_rest (drop m.length text) (omega (arith, length-drop m.length text))
  where
    by_rest : (rest : List ℕ) → 0 < length rest → Err fault.Excess ≡ alone (Ok (m, rest))
    by_rest [] some = absurd (omega arith)
    by_rest (b ∷ rest) some = refl

ok_is : {X E : Type 0} (x y : X) → ◌≡◌ {A = Result X E} (Ok x) (Ok y) → x ≡ y
ok_is x y e = cc

not_less : (a b : ℕ) → nat_lt a b ≡ false → b ≤ a
not_less a b e = search (rules, e)

-- a body that is there stays, whatever follows
body_stays : (h : RequestHead) (after more : List ℕ) (m : Message) (rest : List ℕ) (size : Result ℕ WireFault)
    → Ok (found m rest) ≡ with_body h after size → Ok (found m (rest ++ more)) ≡ with_body h (after ++ more) size
body_stays h after more m rest (Err f) e = cc
body_stays h after more m rest (Ok n) e = by_test (nat_lt (length after) n) refl e
  where
    by_test : (t : Bool) → nat_lt (length after) n ≡ t → Ok (found m rest) ≡ (if t then Err fault.End else Ok (found (message_of h
        (take n after)) (drop n after)))
        → Ok (found m (rest ++ more)) ≡ with_body h (after ++ more) (Ok n)
    by_test true test e = cc
    by_test false test e =
        let same = ok_is (found m rest) (found (message_of h (take n after)) (drop n after)) e in
        let fits : n ≤ length after = not_less (length after) n test in
        let within : n ≤ length (after ++ more) = omega (arith, length-append after more, fits) in
        let still : nat_lt (length (after ++ more)) n ≡ false = search (rules, within) in
        let message : m ≡ message_of h (take n (after ++ more)) = ap (λ p. p.0) same ∙ ap (message_of h) (sym
        (take-append-le n after more fits)) in
        let left : rest ++ more ≡ drop n (after ++ more) = ap (λ p. p.1 ++ more) same ∙ sym (drop-append-le n after more fits) in
        let both : found m (rest ++ more) ≡ found (message_of h (take n (after ++ more))) (drop n (after ++ more)) = λ i.
        (message i, left i) in
        ap Ok both ∙ unless (Err fault.End) (Ok (found (message_of h (take n (after ++ more))) (drop n (after ++ more)))) (nat_lt
        (length (after ++ more)) n) still

-- a message at the front stays there, whatever follows
pub message_stays : (stream more : List ℕ) (m : Message) (rest : List ℕ) → IsMessageAt stream m rest → IsMessageAt (stream ++ more) m
    (rest ++ more)
unfolding IsFront
message_stays stream more m rest (inl (h, after, b, e)) =
    inl (h, after ++ more, begins_more stream h after more b, body_stays h after more m rest (announced h.minor (fields_of h)) e)
message_stays stream more m rest (inr (none, e)) = cc

-- no head is without bytes
pub nothing_reads_request : HasNoRequest []
nothing_reads_request h after (is, e) =
    let split = ap length e ∙ length-append (print_request h) after in
    omega (arith, split, some_head h is)
  where
    some_head : (h : RequestHead) → IsRequestHead h → 0 < length (print_request h)
    some_head h is =
        let whole = ap length (append-nil (print_request h)) in
        let parts = ap length (print_request-append h []) in
        omega (
          arith,
          whole,
          parts,
          length-append (print_blank h.blank) (h.method ++ 32 ∷ (h.target ++ 32 ∷ (print_version h.minor ++
              (print_end h.line_end ++ (print_section h.fields h.last ++ []))))),
          length-append h.method (32 ∷ (h.target ++ 32 ∷
              (print_version h.minor ++ (print_end h.line_end ++ (print_section h.fields h.last ++ []))))),
          is.method.0,
        )

-- nor is one within the limits
nothing_begins_head : NoHead []
nothing_begins_head h after b = nothing_reads_request h after b.reads

-- nothing is at the front of nothing
pub nothing_begins : (m : Message) (rest : List ℕ) → IsMessageAt [] m rest → ⊥
unfolding IsFront
nothing_begins m rest (inl (h, after, b, e)) = nothing_begins_head h after b
nothing_begins m rest (inr (none, e)) = cc
