use Rattle.std.proofs.Common.{sym, subst, ap, map, take}
use Rattle.httparse.specs.Spans.{header_bytes}
use Rattle.httparse.specs.declared.spans.HeaderSpan.{HeaderSpan}
use Rattle.std.specs.List.{list_any}
use Rattle.wire.specs.Fields.{names_close}
use Rattle.wire.specs.Known.{IsKnown}
use Rattle.wire.proofs.FieldLemmas.{fields_next, transfer_none, values_of-none}
use Rattle.wire.proofs.known.known_of.Goals as goal

pub loop-span-init : goal.loop-span-init
loop-span-init c = record {
  hosts = values_of-none _;
  transfer = transfer_none;
  lengths = values_of-none _;
  closes = sym (ap (list_any names_close) (values_of-none _));
  member = values_of-none _;
  moment = values_of-none _;
}

pub loop-span-preserved : goal.loop-span-preserved
loop-span-preserved c =
    let bytes = c.args.bytes.now in
    let d : HeaderSpan = record { name = record { start = 0; end = 0 }; value = record { start = 0; end = 0 } } in
    let before = map (header_bytes bytes) (take c.loop-span.span-index c.args.spans.now) in
    let next = fields_next bytes c.args.spans.now c.loop-span.span-index d c.of.result.now c.of-in-loop-span.result.now
    c.loop-span-test.true c.of.ensures c.of-in-loop-span.ensures in
    subst (λ fields. IsKnown fields c.add.new.self) next (c.add.ensures before c.loop-span.invariant)
