-- The head of an order, its fields, and the frame that it makes with a body.
use Rattle.std.proofs.Common.{◌≡◌, ℕ, ◌<◌, ◌≤◌, List, [], ◌∷◌, ◌++◌, length, true, All, refl, ap, ◌∙◌, arith, codes, append_assoc, append-nil, length-append}
use Rattle.std.specs.List.{list_all}
use Rattle.std.specs.Char.{is_ascii_digit}
use Rattle.std.specs.Str.{all_ascii_digits}
use Rattle.std.proofs.lemmas.Bool.{and_parts, and_from}
use Rattle.std.proofs.lemmas.List.Elements.{All-cons, All-nil}
use Rattle.std.proofs.lemmas.List.Sums.{AllPass-from_list_all}
use Rattle.httparse.specs.Grammar.{Field, IsField, IsRequestHead, IsToken, RequestHead, crlf, is_token_byte, is_uri_byte, is_value_byte, print_request}
use Rattle.json.proofs.Printed.Utf8.{IsUtf8-are_ascii}
use Rattle.wire.specs.Head.{BeginsHead}

-- a field with a space after its colon
abbrev field : List ℕ → List ℕ → Field
field name value = record { name = name; raw = 32 ∷ value; end = crlf }

-- the head, by the texts of its three numbers
abbrev pub order_head : List ℕ → List ℕ → List ℕ → RequestHead
order_head member moment size = record {
  blank = [];
  method = codes "POST";
  target = codes "/items";
  minor = 1;
  line_end = crlf;
  fields = field (codes "host") (codes "h")
      ∷ field (codes "x-member") member
      ∷ field (codes "x-moment") moment
      ∷ field (codes "content-length") size ∷ [];
  last = crlf;
}

-- the text of an order, by the texts of its numbers
abbrev pub order_bytes : List ℕ → List ℕ → List ℕ → List ℕ → List ℕ
order_bytes member moment size body =
    codes "POST /items HTTP/1.1\r\nhost: h\r\nx-member: " ++ member
    ++ codes "\r\nx-moment: " ++ moment
    ++ codes "\r\ncontent-length: " ++ size
    ++ codes "\r\n\r\n" ++ body

to_the_right : (p a q b r c s body : List ℕ)
    → ((((((p ++ a) ++ q) ++ b) ++ r) ++ c) ++ s) ++ body ≡ p ++ (a ++ (q ++ (b ++ (r ++ (c ++ (s ++ body))))))
to_the_right p a q b r c s body = simp append_assoc

regroup : (a b c q r e body : List ℕ)
    → a ++ (e ++ (q ++ (b ++ (e ++ (r ++ (c ++ (e ++ (e ++ body))))))))
    ≡ (((a ++ e) ++ (q ++ ((b ++ e) ++ (r ++ ((c ++ e) ++ []))))) ++ e) ++ body
regroup a b c q r e body = simp (append_assoc, append-nil)

abbrev first_bytes : List ℕ
first_bytes = codes "POST /items HTTP/1.1\r\nhost: h\r\nx-member: "

begins_with_head : (a b c body : List ℕ) → order_bytes a b c body ≡ print_request (order_head a b c) ++ body
unfolding print_request
begins_with_head a b c body =
    to_the_right first_bytes a (codes "\r\nx-moment: ") b (codes "\r\ncontent-length: ") c (codes "\r\n\r\n") body
    ∙ ap (λ l. first_bytes ++ l) (regroup a b c (codes "x-moment: ") (codes "content-length: ") (codes "\r\n") body)

-- digits are bytes of a field's value
digit_is_value : (s : List ℕ) → all_ascii_digits s ≡ true → list_all is_value_byte s ≡ true
digit_is_value [] all = refl
digit_is_value (b ∷ bs) all =
    let parts = and_parts (is_ascii_digit b) (all_ascii_digits bs) all in
    let digit : is_ascii_digit b ≡ true = parts.0 in
    and_from (is_value_byte b) (list_all is_value_byte bs) (grind (arith, digit)) (digit_is_value bs parts.1)

plain_field : (name value : List ℕ) → IsToken name → list_all is_value_byte value ≡ true → IsField (field name value)
plain_field name value token is = record {
  name = token;
  raw = AllPass-from_list_all is_value_byte (32 ∷ value) is;
}

token_is : (bytes : List ℕ) → 0 < length bytes → list_all is_token_byte bytes ≡ true → IsToken bytes
token_is bytes some is = (some, AllPass-from_list_all is_token_byte bytes is)

all_four : {w x y z : Field} → IsField w → IsField x → IsField y → IsField z
    → All IsField (w ∷ x ∷ y ∷ z ∷ [])
all_four {w} {x} {y} {z} fw fx fy fz =
    All-cons IsField w (x ∷ y ∷ z ∷ []) fw (All-cons IsField x (y ∷ z ∷ []) fx
    (All-cons IsField y (z ∷ []) fy (All-cons IsField z [] fz (All-nil IsField))))

head_is : (a b c : List ℕ) → all_ascii_digits a ≡ true → all_ascii_digits b ≡ true → all_ascii_digits c ≡ true
    → IsRequestHead (order_head a b c)
unfolding is_token_byte
head_is a b c da db dc = record {
  method = token_is (codes "POST") (omega arith) refl;
  target = (omega arith, AllPass-from_list_all is_uri_byte (codes "/items") refl);
  target_text = IsUtf8-are_ascii (codes "/items") refl;
  minor = omega arith;
  fields = all_four
      (plain_field (codes "host") (codes "h") (token_is (codes "host") (omega arith) refl) refl)
      (plain_field (codes "x-member") a (token_is (codes "x-member") (omega arith) refl) (digit_is_value a da))
      (plain_field (codes "x-moment") b (token_is (codes "x-moment") (omega arith) refl) (digit_is_value b db))
      (plain_field (codes "content-length") c (token_is (codes "content-length") (omega arith) refl) (digit_is_value c dc));
}

head_is_short : (a b c : List ℕ) → length a ≤ 20 → length b ≤ 20 → length c ≤ 20
    → length (print_request (order_head a b c)) ≤ 8192
unfolding print_request
head_is_short a b c fa fb fc = simp length-append (omega arith)

pub begins : (a b c body : List ℕ) → all_ascii_digits a ≡ true → all_ascii_digits b ≡ true → all_ascii_digits c ≡ true
    → length a ≤ 20 → length b ≤ 20 → length c ≤ 20 → BeginsHead (order_bytes a b c body) (order_head a b c) body
begins a b c body da db dc fa fb fc = record {
  reads = (head_is a b c da db dc, begins_with_head a b c body);
  fields = omega arith;
  size = head_is_short a b c fa fb fc;
}
