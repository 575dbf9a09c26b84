use Rattle.std.proofs.Common.{◌≡◌, ◌≤◌, ◌<◌, length, drop, map, take, subst, ap, ◌∙◌, arith, ℕ, List}
use Rattle.std.proofs.lemmas.List.{length-map, length-take-le}
use Rattle.httparse.specs.declared.spans.HeaderSpan.{HeaderSpan}
use Rattle.wire.specs.Fields.{Pair}
use Rattle.httparse.specs.Grammar.{RequestHead, print_request, HasNoRequest}
use Rattle.httparse.specs.Spans.{IsRequestOf, header_bytes, name_and_value}
use Rattle.wire.specs.Known.{IsKnown}
use Rattle.wire.specs.Head.{BeginsHead, most_bytes}
use Rattle.wire.proofs.HeadLemmas.{full_never, long_never}
use Rattle.wire.proofs.head.head_in.Goals as goal

-- as many fields as spans
few_fields : (bytes : List ℕ) (spans : List HeaderSpan) (count : ℕ) (h : RequestHead) → map (header_bytes bytes) (take count spans) ≡ map name_and_value h.fields
    → count ≤ length spans → length spans ≤ 64 → length h.fields ≤ 64
few_fields bytes spans count h same fits few =
    omega (arith, ap (λ (x : List Pair). length x) same, length-map (take count spans) (header_bytes bytes), length-map h.fields name_and_value, length-take-le count spans fits)

pub returns-else-spans-le-MOST_BYTES-clause-found : goal.returns-else-spans-le-MOST_BYTES-clause-found
returns-else-spans-le-MOST_BYTES-clause-found c =
    let found : IsRequestOf c.args.bytes.now c.parse_request.new.headers c.in-Ok-Complete.spans
    = rw c.in-Ok-Complete.field-0-is at c.in-Ok-Complete.ensures.complete in
    let (h, is) = found in
    let long : most_bytes < length (print_request h) = omega (arith, is.len, c.if-spans-le-MOST_BYTES.false) in
    long_never c.args.bytes.now h _ is.reads long

pub returns-else-bytes-lt-MOST_BYTES-clause-found : goal.returns-else-bytes-lt-MOST_BYTES-clause-found
returns-else-bytes-lt-MOST_BYTES-clause-found c =
    let none : HasNoRequest c.args.bytes.now = rw c.in-Ok-Partial.field-0-is at c.in-Ok-Partial.ensures.partial in
    full_never c.args.bytes.now none (omega arith)

pub returns-then-spans-le-MOST_BYTES-clause-found : goal.returns-then-spans-le-MOST_BYTES-clause-found
returns-then-spans-le-MOST_BYTES-clause-found c =
    let found : IsRequestOf c.args.bytes.now c.parse_request.new.headers c.in-Ok-Complete.spans
    = rw c.in-Ok-Complete.field-0-is at c.in-Ok-Complete.ensures.complete in
    let (h, is) = found in
    let fields = is.fields in
    let within = rw c.in-Ok-Complete.field-0-is at c.in-Ok-Complete.ensures.within in
    let begins : BeginsHead c.args.bytes.now h (drop c.in-Ok-Complete.spans.len c.args.bytes.now) = record {
      reads = is.reads;
      fields = few_fields c.args.bytes.now c.parse_request.new.headers c.in-Ok-Complete.spans.headers h is.fields within.section.count_fits (omega (arith, c.requires, c.parse_request.auto.headers));
      size = omega (arith, is.len, c.if-spans-le-MOST_BYTES.true);
    } in (
      h,
      record {
        method = c.of.ensures ∙ is.method;
        target = c.of-then-spans-le-MOST_BYTES.ensures ∙ is.path;
        minor = is.version;
        known = subst (λ fs. IsKnown fs c.known_of.result) fields c.known_of.ensures;
        len = is.len;
      },
      begins,
      within.section.len_fits,
    )
