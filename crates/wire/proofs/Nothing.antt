-- Where nothing is held yet, a message may come.
use Rattle.std.proofs.Common.{ℕ, zero, suc, ◌<◌, [], ◌∷◌, codes, refl, sym, arith, append-nil, inl}
use Rattle.std.specs.Prelude.{IsTrue, slice_index}
use Rattle.std.proofs.lemmas.List.Elements.{All-cons, All-nil}
use Rattle.std.proofs.lemmas.Str.{IsUtf8-from_ascii}
use Rattle.httparse.specs.Grammar.{IsField, IsRequestHead, RequestHead, is_token_byte, is_uri_byte, lf, print_request}
use Rattle.wire.specs.Front.{EndsInHead}
use Rattle.wire.proofs.Fronts.{nothing_reads_request}

-- one head: `G / HTTP/1.0`, and no field
abbrev least : RequestHead
least = record { blank = []; method = codes "G"; target = codes "/"; minor = 0; line_end = lf; fields = []; last = lf }

ascii : (i : ℕ) → slice_index (47 ∷ []) i < 128
ascii zero = omega arith
ascii (suc i) = omega arith

is_head : IsRequestHead least
unfolding is_token_byte
is_head = record {
  method = (omega arith, All-cons (λ b. IsTrue (is_token_byte b)) 71 [] refl (All-nil (λ b. IsTrue (is_token_byte b))));
  target = (omega arith, All-cons (λ b. IsTrue (is_uri_byte b)) 47 [] refl (All-nil (λ b. IsTrue (is_uri_byte b))));
  target_text = IsUtf8-from_ascii (47 ∷ []) ascii;
  minor = omega arith;
  fields = All-nil (λ f. IsField f);
}

-- no bytes are the beginning of a head
pub nothing_ends_in_head : EndsInHead []
nothing_ends_in_head = record {
  none = nothing_reads_request;
  few = omega arith;
  unfinished = inl (print_request least, least, (is_head, sym (append-nil (print_request least))));
}
