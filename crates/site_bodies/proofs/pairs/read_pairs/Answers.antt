use Rattle.std.proofs.Common.{None, ap}
use Rattle.std.specs.Prelude.{option_and_then}
use Rattle.serde_json.specs.View.{view}
use Rattle.site_bodies.specs.Pairs.{pairs_in}
use Rattle.site_bodies.proofs.Paired.{array_pairs, no_body, report_at}
use Rattle.site_bodies.proofs.Readable.{body_refused}
use Rattle.site_bodies.proofs.pairs.read_pairs.Goals as goal

pub returns-in-Err-clause-no_object : goal.returns-in-Err-clause-no_object
returns-in-Err-clause-no_object c =
    λ _. body_refused c.args.bytes.now (c.in-Err.ensures.err (λ m. let t = c.is_memory.ensures.1 m in cc))

pub returns-then-not-is_object-clause-no_object : goal.returns-then-not-is_object-clause-no_object
returns-then-not-is_object-clause-no_object c =
    let read = c.in-Ok.ensures.ok in
    λ _. no_body c.args.bytes.now (view c.in-Ok.value) c.is_object.result read.0 read.1
    c.if-not-is_object.true c.is_object.ensures

pub returns-in_default-clause-pairs : goal.returns-in_default-clause-pairs
returns-in_default-clause-pairs c =
    let read = c.in-Ok.ensures.ok in
    report_at c.args.bytes.now c.args.first.now c.args.second.now c.args.name.now (view c.in-Ok.value)
    c.is_object.result None read.0 read.1 c.if-not-is_object.false c.is_object.ensures
    (ap (option_and_then (pairs_in c.args.first.now c.args.second.now)) c.in_default.ensures)

pub returns-in-Ok-pairs_of-clause-pairs : goal.returns-in-Ok-pairs_of-clause-pairs
returns-in-Ok-pairs_of-clause-pairs c =
    let read = c.in-Ok.ensures.ok in
    report_at c.args.bytes.now c.args.first.now c.args.second.now c.args.name.now (view c.in-Ok.value)
    c.is_object.result _ read.0 read.1 c.if-not-is_object.false c.is_object.ensures
    (array_pairs c.args.first.now c.args.second.now c.args.name.now (view c.in-Ok.value)
    c.deref.result.now c.in-Some.values.now.items _ c.in-Ok-pairs_of.ensures c.deref.ensures.value
    c.in-Some.ensures)
