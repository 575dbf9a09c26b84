use Rattle.std.proofs.Common.{◌∙◌, [], ◌∷◌, rules, subst, sym}
use Rattle.std.proofs.KnownBytes.{Appends-trans}
use Rattle.std.specs.Io.KnownBytes.{Appends}
use Rattle.device.specs.Given.{AppendsBeginning}
use Rattle.auction_runs.proofs.FaultLines.{begins_by_name, front, rest, with_row, without_row}
use Rattle.auction_runs.proofs.Outcomes.{on_ok_then}
use Rattle.auction_runs.proofs.Replays.{front_begins, then_begins}
use Rattle.auction_runs.proofs.line.give_bands.Goals as goal

pub returns-in_err-give_parts-clause-part : goal.returns-in_err-give_parts-clause-part
returns-in_err-give_parts-clause-part g c =
    let name = c.as_bytes.result.now in
    let line = begins_by_name c.args.fault name (search rules) (c.as_bytes.ensures.value ∙ c.name.ensures) in
    subst (AppendsBeginning (g.E.Sink.taken c.args.errors.now) (g.E.Sink.taken c.give_parts.new.errors))
    line.1 (front_begins _ _ (front name) line.0 c.give_parts.ensures.part)

pub returns-in-None-clause-part : goal.returns-in-None-clause-part
returns-in-None-clause-part g c =
    let name = c.as_bytes.result.now in
    subst (AppendsBeginning (g.E.Sink.taken c.args.errors.now) (g.E.Sink.taken c.give_all-in-None.new.sink))
    (without_row c.args.fault name (search rules) (sym c.row.ensures ∙ c.in-None.is)
    (c.as_bytes.ensures.value ∙ c.name.ensures))
    (then_begins _ _ _ (front name) (10 ∷ []) c.in_ok-give_parts.ensures.whole
    c.give_all-in-None.ensures.part)

pub returns-in-Some-clause-whole : goal.returns-in-Some-clause-whole
returns-in-Some-clause-whole g c =
    let name = c.as_bytes.result.now in
    on_ok_then c.give_parts-in-Some.result c.give_parts-in-Some.ensures.whole (λ last.
    subst (Appends (g.E.Sink.taken c.args.errors.now) (g.E.Sink.taken c.give_parts-in-Some.new.errors))
    (with_row c.args.fault c.in-Some.row name c.as_bytes-in-Some.result.now
    (sym c.row.ensures ∙ c.in-Some.is) (c.as_bytes.ensures.value ∙ c.name.ensures)
    (c.as_bytes-in-Some.ensures.value ∙ c.format.ensures.text))
    (Appends-trans _ _ _ (front name) (rest c.as_bytes-in-Some.result.now)
    c.in_ok-give_parts.ensures.whole last))

pub returns-in-Some-clause-part : goal.returns-in-Some-clause-part
returns-in-Some-clause-part g c =
    let name = c.as_bytes.result.now in
    subst (AppendsBeginning (g.E.Sink.taken c.args.errors.now)
    (g.E.Sink.taken c.give_parts-in-Some.new.errors))
    (with_row c.args.fault c.in-Some.row name c.as_bytes-in-Some.result.now
    (sym c.row.ensures ∙ c.in-Some.is) (c.as_bytes.ensures.value ∙ c.name.ensures)
    (c.as_bytes-in-Some.ensures.value ∙ c.format.ensures.text))
    (then_begins _ _ _ (front name) (rest c.as_bytes-in-Some.result.now)
    c.in_ok-give_parts.ensures.whole c.give_parts-in-Some.ensures.part)
