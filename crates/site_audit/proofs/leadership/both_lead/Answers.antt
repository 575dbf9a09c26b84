use Rattle.std.proofs.Common.{◌∙◌, ap, refl}
use Rattle.house_laws.specs.Covered.{LeadsBy}
use Rattle.site_audit.specs.Places.{keep_of}
use Rattle.site_audit.proofs.Pairs.{keep_gave, left_err, right_err, seen_from, seen_gave, sound_if}
use Rattle.site_audit.proofs.leadership.both_lead.Goals as goal

pub returns-in_err-leads_by-clause-lead : goal.returns-in_err-leads_by-clause-lead
returns-in_err-leads_by-clause-lead g c = λ honest honest' settings h k is is' e d.
    let n = g.K.Keep in
    let b = c.args.bid in
    let P : Type 0 = LeadsBy settings h b.item b.member b.maximum × LeadsBy settings k b.item b.member c.args.maximum in
    let same = ap n.content c.keep_mut.ensures.keep in
    let a = c.keep_mut.result.now in
    let right = keep_of c.args.right.now in
    let f = c.in_err-leads_by.field-0.0 in
    seen_from n.content n.is_failed P a right (keep_of c.args.left.now) right c.leads_by.new.keep right c.from_residual.result same refl
    (seen_gave n.content n.is_failed P a right c.leads_by.new.keep right f c.from_residual.result c.from_residual.ensures
    (left_err n.content n.is_failed P _ a right c.leads_by.new.keep f c.in_err-leads_by.ensures.faults honest
    (sound_if settings h (n.content a) is (same ∙ e))))

pub returns-in_err-leads_by-2-clause-lead : goal.returns-in_err-leads_by-2-clause-lead
returns-in_err-leads_by-2-clause-lead g c = λ honest honest' settings h k is is' e d.
    let n = g.K.Keep in
    let b = c.args.bid in
    let P : Type 0 = LeadsBy settings h b.item b.member b.maximum × LeadsBy settings k b.item b.member c.args.maximum in
    let same = ap n.content c.keep_mut-2.ensures.keep in
    let left = keep_of c.args.left.now in
    let a = c.keep_mut-2.result.now in
    let f = c.in_err-leads_by-2.field-0.0 in
    let report = c.from_residual-in_err-leads_by-2.result in
    seen_from n.content n.is_failed P left a left (keep_of c.args.right.now) c.leads_by.new.keep c.leads_by-2.new.keep report refl same
    (seen_gave n.content n.is_failed P left a c.leads_by.new.keep c.leads_by-2.new.keep f report c.from_residual-in_err-leads_by-2.ensures
    (right_err n.content n.is_failed P _ left a c.leads_by.new.keep c.leads_by-2.new.keep f c.in_err-leads_by-2.ensures.faults honest'
    (sound_if settings k (n.content a) is' (same ∙ d))))

pub returns-in_err-leads_by-clause-never : goal.returns-in_err-leads_by-clause-never
returns-in_err-leads_by-clause-never g c =
    keep_gave c.in_err-leads_by.field-0.0 c.from_residual.result c.from_residual.ensures

pub returns-in_err-leads_by-2-clause-never : goal.returns-in_err-leads_by-2-clause-never
returns-in_err-leads_by-2-clause-never g c =
    keep_gave c.in_err-leads_by-2.field-0.0 c.from_residual-in_err-leads_by-2.result
    c.from_residual-in_err-leads_by-2.ensures
