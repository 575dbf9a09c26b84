-- The head that is found, and what its fields announce.
use Rattle.std.proofs.Common.{◌≡◌, ◌<◌, ◌≤◌, ◌-◌, ◌+◌, ℕ, List, length, take, drop, Err, Ok, arith, ap, sym, ◌∙◌, subst}
use Rattle.std.proofs.lemmas.List.{drop-drop, length-drop, take_at, take_rest}
use Rattle.httparse.specs.Grammar.{RequestHead, print_request}
use Rattle.wire.specs.Frame.{IsMessageAt, announced, fields_of, message_of}
use Rattle.wire.specs.Front.{ArePartsOf, IsFound}
use Rattle.wire.specs.Head.{NeverHead}
use Rattle.wire.specs.Lines.{fields_in, request_line}
use Rattle.wire.specs.Message.{Message}
use Rattle.wire.specs.declared.head.Head.TheVariants.{Found}
use Rattle.wire.specs.declared.head.Parts.{Parts}
use Rattle.wire.proofs.Fronts.{ends_in_body, known_fault, message_here, never_head, same_message}
use Rattle.wire.proofs.LineLemmas.{request_line_long}
use Rattle.wire.proofs.front.message_at.Goals as goal

pub returns-in-Never : goal.returns-in-Never
returns-in-Never c =
    let never : NeverHead c.args.bytes.now = rw c.in-Never.is at c.requires in
    never_head c.args.bytes.now never

pub returns-in-Err : goal.returns-in-Err
returns-in-Err c =
    let found : IsFound c.args.bytes.now (Found c.in-Found.head) = rw c.in-Found.is at c.requires in
    let (h, parts, begins, fits) = found in
    let e : Err c.in-Err.fault ≡ announced h.minor (fields_of h) = c.in-Err.ensures.value (fields_of h) parts.known ∙ ap (λ v. announced v
    (fields_of h)) parts.minor in
    known_fault c.args.bytes.now h _ c.in-Err.fault begins e

pub returns-then-after-size : goal.returns-then-after-size
returns-then-after-size c =
    let found : IsFound c.args.bytes.now (Found c.in-Found.head) = rw c.in-Found.is at c.requires in
    let (h, parts, begins, fits) = found in
    let bytes = c.args.bytes.now in
    let after = drop c.in-Found.head.len bytes in
    let e : Ok c.in-Ok.size ≡ announced h.minor (fields_of h) = c.in-Ok.ensures.value (fields_of h) parts.known ∙ ap (λ v. announced v
    (fields_of h)) parts.minor in
    let short : length after < c.in-Ok.size = omega (
      arith,
      ap (λ (x : List ℕ). length x)
          (take_rest bytes c.in-Found.head.len),
      c.if-after-size.true,
    ) in
    ends_in_body bytes h after c.in-Ok.size begins e c.in-Ok.ensures.small short

-- the line of the request is as long as its parts say
line_is : (h : RequestHead) (parts : Parts) → ArePartsOf h parts
    → length parts.method.now + length parts.target.now + 10 ≡ length (request_line h)
line_is h parts are = omega (
  arith,
  (request_line_long h).0,
  ap (λ (x : List ℕ). length x) are.method,
  ap (λ (x : List ℕ). length x) are.target,
)

pub overflow_add-head-2 : goal.overflow_add-head-2
overflow_add-head-2 c =
    let found : IsFound c.args.bytes.now (Found c.in-Found.head) = rw c.in-Found.is at c.requires in
    let (h, parts, begins, fits) = found in
    omega (arith, line_is h c.in-Found.head parts, (request_line_long h).1, begins.size)

pub returns : goal.returns
returns c =
    let found : IsFound c.args.bytes.now (Found c.in-Found.head) = rw c.in-Found.is at c.requires in
    let (h, parts, begins, inside) = found in
    let bytes = c.args.bytes.now in
    let head = c.in-Found.head in
    let len = head.len in
    let size = c.in-Ok.size in
    let after = drop len bytes in
    let rest = take_rest bytes len in
    let e : Ok size ≡ announced h.minor (fields_of h) = c.in-Ok.ensures.value (fields_of h) parts.known ∙ ap (λ v. announced v
    (fields_of h)) parts.minor in
    let fits : size ≤ length after = omega (arith, ap (λ (x : List ℕ). length x) rest, c.if-after-size.false) in
    let text : take len bytes ≡ print_request h = ap (take len) begins.reads.1 ∙ take_at (print_request h) after len (sym parts.len) in
    let fields = fields_in c.field_lines.result.now in
    let same : fields ≡ fields_of h = c.field_lines.ensures h begins.reads.0 text (line_is h head parts) in
    let message : Message = record {
      method = head.method.now;
      target = head.target.now;
      minor = head.minor;
      fields = fields;
      body = take size (take (length bytes - len) after);
      length = len + size;
    } in
    let m : message ≡ message_of h (take size after) = same_message h after head.method.now head.target.now (take size (take
    (length bytes - len) after)) head.minor (len + size) size fields
    parts.method parts.target parts.minor same (ap (take size) rest) fits (ap (λ k. k + size) parts.len) in (
      subst (λ r. IsMessageAt bytes message r) (drop-drop size len bytes) (message_here bytes h after size message begins e fits m),
      omega (arith, fits, length-drop len bytes, inside),
    )
