-- Heads are prefix-free, so a head within a length is decided by that many bytes.
use Rattle.std.specs.Prelude.{◌≡◌, ℕ, ◌<◌, ◌≤◌, List, ◌++◌, length, drop, take}
use Rattle.std.proofs.Common.{sym, ◌∙◌, ap, arith, refl}
use Rattle.std.proofs.lemmas.List.{take-append-drop, take-append-le, take_at}
use Rattle.httparse.specs.Grammar.{RequestHead, ReadsRequest, HasNoRequest, print_request}
use Rattle.httparse.proofs.GrammarLemmas.{request_prefix_free}
use Rattle.wire.specs.Head.{NeverHead, most_bytes}

-- what is at the front of a longer text is at the front of the text, if that is as long
pub front_within : (xs more ys rest : List ℕ) → length ys ≤ length xs → xs ++ more ≡ ys ++ rest → xs ≡ ys ++ drop (length ys) xs
front_within xs more ys rest fits e =
    let front : take (length ys) xs ≡ ys = sym (take-append-le (length ys) xs more fits) ∙ ap (take (length ys)) e ∙ take_at ys rest
    (length ys) refl in
    sym (take-append-drop (length ys) xs) ∙ ap (λ (t : List ℕ). t ++ drop (length ys) xs) front

-- with no head in so many bytes there is none later
pub full_never : (buf : List ℕ) → HasNoRequest buf → most_bytes ≤ length buf → NeverHead buf
full_never buf none full more h rest b =
    none h (drop (length (print_request h)) buf)
    (b.reads.0, front_within buf more (print_request h) rest (omega (arith, b.size)) b.reads.1)

-- a head that is too long stays so
pub long_never : (buf : List ℕ) (h : RequestHead) (rest : List ℕ) → ReadsRequest buf h rest → most_bytes < length (print_request h)
    → NeverHead buf
long_never buf h rest reads long more k after b =
    let same = (request_prefix_free buf more h k rest after reads b.reads).0 in
    let fits : length (print_request k) ≤ most_bytes = b.size in
    let e : length (print_request h) ≡ length (print_request k) = ap (λ (x : RequestHead). length (print_request x)) same in
    omega (arith, fits, e, long)
