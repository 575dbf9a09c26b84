-- The text of a bid asks for it.
use Rattle.std.proofs.Common.{◌≡◌, ℕ, ◌+◌, ◌^◌, ◌<◌, ◌≤◌, List, [], ◌∷◌, ◌++◌, length, length-append, take, drop, All, Bool, true, false, refl, ◌∙◌, ap, sym, arith, inl, decimal, codes, Some, Ok}
use Rattle.std.specs.Prelude.{◌&&◌, nat_le, nat_lt}
use Rattle.std.specs.Borrow.{Bor}
use Rattle.std.specs.List.{list_all}
use Rattle.std.specs.Char.{is_ascii_digit}
use Rattle.std.specs.Str.{IsAscii, all_ascii_digits}
use Rattle.std.proofs.lemmas.Bool.Decides.{nat_tests}
use Rattle.std.proofs.lemmas.Fmt.{IsAscii-decimal, decimal_nonempty, length-decimal-le}
use Rattle.std.proofs.lemmas.List.{append-nil, append_assoc, drop_all, take_all}
use Rattle.std.proofs.lemmas.List.Elements.{All-cons, All-nil}
use Rattle.std.proofs.lemmas.List.Folds.{list_all-append}
use Rattle.std.proofs.lemmas.List.Sums.{AllPass-from_list_all}
use Rattle.std.proofs.lemmas.Str.{IsAscii-append, IsUtf8-from_ascii, is_utf8-from_IsUtf8}
use Rattle.std.proofs.lemmas.Str.Ascii.{IsAscii-from_all}
use Rattle.httparse.specs.Grammar.{Field, IsField, IsRequestHead, RequestHead, crlf, is_token_byte, is_uri_byte, is_value_byte, print_request, trim_ows}
use Rattle.json.specs.Print.{escape_byte}
use Rattle.house_laws.specs.Covered.{Sealed, bid_message}
use Rattle.house_rows.specs.declared.command.Command.TheVariants as bidding
use Rattle.house_rows.specs.Limits.{last_moment}
use Rattle.site_request.specs.Asked.{IsAsked, asked_of, asks_of, called, message_of, ordered}
use Rattle.site_request.specs.declared.asked.Asked.{Asked}
use Rattle.site_request.specs.Heads.{caller_in, moment_in, numbered}
use Rattle.site_digits.specs.Digits.{number_in}
use Rattle.site_bodies.specs.LoneNumber.{IsLone}
use Rattle.site_bodies.proofs.Alone.{whole_alone, whole_lone}
use Rattle.site_bodies.proofs.Walked.{nothing_passed}
use Rattle.site_request.specs.Commands.{bid_in, command_of, fields_in, object_at}
use Rattle.site_request.specs.Fields.{number_at}
use Rattle.site_request.specs.declared.command_path.CommandPath.TheVariants as command_path
use Rattle.site_request.specs.Routes.{route_of}
use Rattle.site_request.specs.declared.route.Route.TheVariants as route
use Rattle.wire.specs.Fields.{has_host, has_transfer, values_of}
use Rattle.wire.specs.Frame as frame
use Rattle.wire.specs.Frame.{IsFrame, IsFront, announced, fields_of, judged}
use Rattle.wire.specs.Message.{Message}
use Rattle.wire.proofs.OneFrame.{one_frame}
use Rattle.site_bids.specs.Spelt.{IsSent, bid_body, bid_text}
use Rattle.site_bids.proofs.BidRoutes.{bid_target, target_route}
use Rattle.site_bids.proofs.Decimals.{are_digits, count_back, digit_no_token, length_back, no_slashes, number_back, trim_digits, uri_digits, value_digits}

-- the head of a bid, by the digits of its numbers
abbrev field_of : List ℕ → List ℕ → Field
field_of name raw = record { name = name; raw = 32 ∷ raw; end = crlf }

abbrev head_of : List ℕ → List ℕ → List ℕ → List ℕ → RequestHead
head_of item member moment long = record {
  blank = [];
  method = codes "POST";
  target = bid_target item;
  minor = 1;
  line_end = crlf;
  fields = field_of (codes "host") (codes "h") ∷ field_of (codes "x-member") member ∷ field_of (codes "x-moment") moment ∷ field_of (codes "content-length") long ∷ [];
  last = crlf;
}

-- it is printed so
left_nested : (a item b member c moment d long e body : List ℕ) → a ++ item ++ b ++ member ++ c ++ moment ++ d ++ long ++ e ++ body
    ≡ a ++ (item ++ (b ++ (member ++ (c ++ (moment ++ (d ++ (long ++ (e ++ body))))))))
left_nested a item b member c moment d long e body = simp append_assoc refl

as_printed : (method sp path item end version line host colon m member n moment k long body : List ℕ) →
    (((([] ++ method ++ (sp ++ ((path ++ item) ++ end))) ++ (sp ++ version)) ++ line)
    ++ ((host ++ (((m ++ (colon ++ member)) ++ line) ++ (((n ++ (colon ++ moment)) ++ line) ++ (((k ++ (colon ++ long)) ++ line) ++ [])))) ++ line)) ++ body
    ≡ method ++ (sp ++ (path ++ (item ++ (end ++ (sp ++ (version ++ (line ++ (host ++ (m ++ (colon ++ (member ++ (line ++ (n ++ (colon ++ (moment ++ (line ++ (k ++ (colon ++ (long ++ (line
    ++ (line ++ body)))))))))))))))))))))
as_printed method sp path item end version line host colon m member n moment k long body = simp (append_assoc, append-nil) refl

printed : (item member moment long body : List ℕ) →
    codes "POST /items/" ++ item ++ codes "/bids HTTP/1.1\r\nhost: h\r\nx-member: " ++ member ++ codes "\r\nx-moment: " ++ moment
    ++ codes "\r\ncontent-length: " ++ long ++ codes "\r\n\r\n" ++ body
    ≡ print_request (head_of item member moment long) ++ body
unfolding print_request
printed item member moment long body =
    left_nested (codes "POST /items/") item (codes "/bids HTTP/1.1\r\nhost: h\r\nx-member: ") member (codes "\r\nx-moment: ") moment (codes "\r\ncontent-length: ") long (codes "\r\n\r\n") body
    ∙ sym (as_printed (codes "POST") (32 ∷ []) (codes "/items/") item (codes "/bids") (codes "HTTP/1.1") (codes "\r\n") (codes "host: h\r\n") (58 ∷ 32 ∷ []) (codes "x-member") member (codes "x-moment") moment
    (codes "content-length") long body)

-- its parts are of their classes
target_fits : (item : List ℕ) → all_ascii_digits item ≡ true → list_all is_uri_byte (bid_target item) ≡ true
target_fits item all = rw (list_all-append is_uri_byte item (codes "/bids"), uri_digits item all) refl

field_fits : (name raw : List ℕ) → 0 < length name → list_all is_token_byte name ≡ true → list_all is_value_byte raw ≡ true → IsField (field_of name raw)
field_fits name raw some token value = record {
  name = (some, AllPass-from_list_all is_token_byte name token);
  raw = AllPass-from_list_all is_value_byte (32 ∷ raw) (rw value refl);
}

both : (a b : Bool) → (a && b) ≡ true → (a ≡ true) × (b ≡ true)
both true b e = (refl, e)
both false b e = cc

all_below : (bs : List ℕ) → list_all (λ b. nat_lt b 128) bs ≡ true → All (λ b. b < 128) bs
all_below [] all = All-nil (λ b. b < 128)
all_below (b ∷ bs) all =
    let parts = both (nat_lt b 128) (list_all (λ b. nat_lt b 128) bs) all in
    let here : b < 128 = (let h = parts.0 in grind (arith, nat_tests, h)) in
    All-cons (λ b. b < 128) b bs here (all_below bs parts.1)

ascii_of : (bs : List ℕ) → list_all (λ b. nat_lt b 128) bs ≡ true → IsAscii bs
ascii_of bs all = IsAscii-from_all bs (all_below bs all)

ascii_target : (item : List ℕ) → IsAscii item → IsAscii (bid_target item)
ascii_target item ascii = IsAscii-append (codes "/items/" ++ item) (codes "/bids") (IsAscii-append (codes "/items/") item (ascii_of (codes "/items/") refl) ascii) (ascii_of (codes "/bids") refl)

head_fits : (item member moment long : List ℕ) → IsAscii item → all_ascii_digits item ≡ true → all_ascii_digits member ≡ true → all_ascii_digits moment ≡ true → all_ascii_digits long ≡ true
    → IsRequestHead (head_of item member moment long)
unfolding is_token_byte
head_fits item member moment long ascii items members moments longs = record {
  method = (omega arith, AllPass-from_list_all is_token_byte (codes "POST") refl);
  target = (omega arith, AllPass-from_list_all is_uri_byte (bid_target item) (target_fits item items));
  target_text = IsUtf8-from_ascii (bid_target item) (ascii_target item ascii);
  minor = omega arith;
  fields =
      let host = field_of (codes "host") (codes "h") in
      let who = field_of (codes "x-member") member in
      let when = field_of (codes "x-moment") moment in
      let size = field_of (codes "content-length") long in
      All-cons IsField host (who ∷ when ∷ size ∷ []) (field_fits (codes "host") (codes "h") (omega arith) refl refl)
      (All-cons IsField who (when ∷ size ∷ []) (field_fits (codes "x-member") member (omega arith) refl (value_digits member members))
      (All-cons IsField when (size ∷ []) (field_fits (codes "x-moment") moment (omega arith) refl (value_digits moment moments))
      (All-cons IsField size [] (field_fits (codes "content-length") long (omega arith) refl (value_digits long longs)) (All-nil IsField))));
}

-- what it announces
host_is_consistent : (item member moment long : List ℕ) → has_host 1 (fields_of (head_of item member moment long)) ≡ true
unfolding has_host values_of
host_is_consistent item member moment long = refl

no_transfer : (item member moment long : List ℕ) → has_transfer (fields_of (head_of item member moment long)) ≡ false
unfolding has_transfer
no_transfer item member moment long = refl

lengths : (item member moment long : List ℕ) → values_of (codes "content-length") (fields_of (head_of item member moment long)) ≡ trim_ows (32 ∷ long) ∷ []
unfolding values_of
lengths item member moment long = refl

members : (item member moment long : List ℕ) → values_of (codes "x-member") (fields_of (head_of item member moment long)) ≡ trim_ows (32 ∷ member) ∷ []
unfolding values_of
members item member moment long = refl

moments : (item member moment long : List ℕ) → values_of (codes "x-moment") (fields_of (head_of item member moment long)) ≡ trim_ows (32 ∷ moment) ∷ []
unfolding values_of
moments item member moment long = refl

announces : (item member moment : List ℕ) (n : ℕ) → n ≤ 16384 → announced 1 (fields_of (head_of item member moment (decimal n))) ≡ Ok n
unfolding announced
announces item member moment n few =
    let small : n < 2 ^ 64 = omega arith in
    rw (host_is_consistent item member moment (decimal n), no_transfer item member moment (decimal n), lengths item member moment (decimal n), trim_digits (decimal n) (are_digits n small))
    (length_back n few)

-- a body after a head that announces it
judges : (h : RequestHead) (body : List ℕ) → announced h.minor (fields_of h) ≡ Ok (length body) → judged h body ≡ Ok (frame.message_of h body, [])
judges h body e =
    let within : nat_lt (length body) (length body) ≡ false = grind (arith, nat_tests) in
    let all : take (length body) body ≡ body = take_all (length body) body (omega arith) in
    let none : drop (length body) body ≡ [] = drop_all (length body) body (omega arith) in
    rw (e, within, all, none) refl

-- the message that a bid's text is
abbrev message : Sealed → Message
message b = frame.message_of (head_of (decimal b.item) (decimal b.member) (decimal b.moment) (decimal (length (bid_body b.maximum)))) (bid_body b.maximum)

-- a bid's body
body_long : (y : ℕ) → y < 10 ^ 10 → length (bid_body y) ≤ 22
unfolding bid_body
body_long y few =
    let most : length (decimal y) ≤ 10 = length-decimal-le 10 y (omega arith) few (omega arith) in
    let e : length (codes "{\"maximum\":" ++ decimal y ++ codes "}") ≡ length (codes "{\"maximum\":" ++ decimal y) + 1 = length-append (codes "{\"maximum\":" ++ decimal y) (codes "}") in
    omega (arith, e, most)

abbrev name : Bor (List ℕ)
name = record { ref_ptr = (0, 0); now = codes "maximum" }

body_lone : (y : ℕ) → 1 ≤ y → y < 10 ^ 10 → IsLone (bid_body y) (codes "maximum") y
unfolding bid_body escape_byte
body_lone y some few =
    whole_alone name (decimal y) (Some y) refl (ascii_of (codes "maximum") refl) refl refl refl (nothing_passed (decimal y ++ 125 ∷ [])) refl (sym (number_back y some few))

commands : (i y : ℕ) → 1 ≤ y → y < 10 ^ 10 → command_of (command_path.Bid i) (bid_body y) ≡ Ok (bidding.Bid i y)
unfolding command_of object_at fields_in bid_in number_at
commands i y some few =
    rw (body_lone y some few, whole_lone (codes "maximum") y) refl

-- its route, by the digits of the item
routes : (item : List ℕ) (i : ℕ) → all_ascii_digits item ≡ true → 0 < length item → IsAscii item → number_in item ≡ Some i → route_of (codes "POST") (bid_target item) ≡ Ok (route.Post (command_path.Bid i))
routes [] i all some ascii report = absurd (omega (arith, some))
routes (d ∷ ds) i all some ascii report =
    let first = both (is_ascii_digit d) (all_ascii_digits ds) all in
    target_route d ds i (no_slashes (d ∷ ds) all) (digit_no_token d first.0) (is_utf8-from_IsUtf8 _ (IsUtf8-from_ascii _ (ascii_target (d ∷ ds) ascii))) report

-- whose it is, and when
callers : (b : Sealed) → b.member < 10 ^ 10 → caller_in (message b) ≡ Some b.member
unfolding caller_in numbered
callers b few =
    let small : b.member < 2 ^ 64 = omega arith in
    rw (members (decimal b.item) (decimal b.member) (decimal b.moment) (decimal (length (bid_body b.maximum))), trim_digits (decimal b.member) (are_digits b.member small))
    (count_back b.member few)

times : (b : Sealed) → b.moment ≤ last_moment → moment_in (message b) ≡ Some b.moment
unfolding moment_in numbered
times b last =
    let few : b.moment < 10 ^ 10 = omega arith in
    let small : b.moment < 2 ^ 64 = omega arith in
    let within : nat_le b.moment last_moment ≡ true = grind (arith, nat_tests, last) in
    rw (
      moments (decimal b.item) (decimal b.member) (decimal b.moment) (decimal (length (bid_body b.maximum))),
      trim_digits (decimal b.moment) (are_digits b.moment small),
      count_back b.moment few,
      within,
    ) refl

-- what the message means
means : (b : Sealed) → IsSent b → message_of (message b) ≡ bid_message b
unfolding message_of asks_of called ordered
means b sent =
    let i = b.item in
    let small : i < 2 ^ 64 = (let few = sent.item.1 in omega arith) in
    let route : route_of (codes "POST") (bid_target (decimal i)) ≡ Ok (route.Post (command_path.Bid i)) =
    routes (decimal i) i (are_digits i small) (decimal_nonempty i small) (IsAscii-decimal i small) (number_back i sent.item.0 sent.item.1) in
    rw (callers b sent.member, route, times b sent.moment, commands i b.maximum sent.maximum.0 sent.maximum.1) refl

-- the text is that one message
is_front : (text : List ℕ) (h : RequestHead) (body : List ℕ) → text ≡ print_request h ++ body → IsRequestHead h → length h.fields ≤ 64 → length (print_request h) ≤ 8192
    → announced h.minor (fields_of h) ≡ Ok (length body) → IsFrame text (Ok (frame.message_of h body))
unfolding IsFront
is_front text h body parts fits few size announces =
    (Ok (frame.message_of h body, []), inl (h, body, record { reads = (fits, parts); fields = few; size = size }, sym (judges h body announces)), refl)

head_size : (item member moment long : List ℕ) → length item ≤ 10 → length member ≤ 10 → length moment ≤ 10 → length long ≤ 10 → length (print_request (head_of item member moment long)) ≤ 8192
unfolding print_request
head_size item member moment long a b c d = simp length-append (omega (arith, a, b, c, d))

framed : (b : Sealed) → IsSent b → IsFrame (bid_text b) (Ok (message b))
unfolding bid_text
framed b sent =
    let long = length (bid_body b.maximum) in
    let short : long ≤ 22 = body_long b.maximum sent.maximum.1 in
    let few : b.item < 10 ^ 10 = sent.item.1 in
    let who : b.member < 10 ^ 10 = sent.member in
    let last = sent.moment in
    let soon : b.moment < 10 ^ 10 = omega arith in
    let head = head_of (decimal b.item) (decimal b.member) (decimal b.moment) (decimal long) in
    let fits : IsRequestHead head = head_fits (decimal b.item) (decimal b.member) (decimal b.moment) (decimal long) (IsAscii-decimal b.item (omega arith)) (are_digits b.item (omega arith))
    (are_digits b.member (omega arith)) (are_digits b.moment (omega arith)) (are_digits long (omega arith)) in
    let size : length (print_request head) ≤ 8192 = head_size (decimal b.item) (decimal b.member) (decimal b.moment) (decimal long)
    (length-decimal-le 10 b.item (omega arith) few (omega arith)) (length-decimal-le 10 b.member (omega arith) who (omega arith))
    (length-decimal-le 10 b.moment (omega arith) soon (omega arith)) (length-decimal-le 10 long (omega arith) (omega arith) (omega arith)) in
    is_front _ head (bid_body b.maximum) (printed (decimal b.item) (decimal b.member) (decimal b.moment) (decimal long) (bid_body b.maximum)) fits (omega arith) size
    (announces (decimal b.item) (decimal b.member) (decimal b.moment) long (omega arith))

asks : (b : Sealed) → IsSent b → (asked_of (Ok (message b))).message ≡ bid_message b
unfolding asked_of
asks b sent = means b sent

-- so it asks for the bid, and for nothing else
pub text_asks : (b : Sealed) (asked : Asked) → IsSent b → IsAsked (bid_text b) asked → asked.message ≡ bid_message b
text_asks b asked sent (f, is, e) =
    let same : f ≡ Ok (message b) = one_frame (bid_text b) f (Ok (message b)) is (framed b sent) in
    ap (λ (a : Asked). a.message) (e ∙ ap asked_of same) ∙ asks b sent
