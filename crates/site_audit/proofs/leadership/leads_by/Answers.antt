use Rattle.std.proofs.Common.{◌≡◌, ◌↔◌, ◌∙◌, ap, subst, sym, false, true}
use Rattle.house.proofs.Unchanged.{still_there}
use Rattle.house_laws.specs.Covered.{LeadsBy, Sealed}
use Rattle.house_rows.specs.Editions.{BandTables, bands_in}
use Rattle.house_rows.specs.Tables.{Tables, bands_for}
use Rattle.site_audit.proofs.Leaders.{none_leads, standing_leads}
use Rattle.site_audit.proofs.leadership.leads_by.Goals as goal

pub returns-in_default-clause-leads : goal.returns-in_default-clause-leads
returns-in_default-clause-leads g c = λ honest settings h is e.
    subst (λ (b : Sealed). (false ≡ true) ↔ LeadsBy settings h b.item b.member c.args.maximum) c.bid.view_is
    (none_leads settings h (g.K.Keep.content c.args.keep.now) c.bid.inside.item c.bid.inside.member c.args.maximum is e
    (sym (c.in_ok-standing.ensures.answers.value honest) ∙ c.in_default.is))

pub returns-clause-leads : goal.returns-clause-leads
returns-clause-leads g c = λ honest settings h is e.
    let n = g.K.Keep in
    let same = still_there c.in_ok-standing.field-0 n.content n.is_failed n.is_honest n.may_leave c.args.keep.now c.standing.new.self
    c.in_ok-standing.ensures.answers.faults c.in_ok-standing.ensures.answers.read honest in
    let i = c.bid.inside.item in
    let bands = c.bands_for-bands.ensures ∙ ap (λ (b : BandTables). bands_in b i) (c.in_ok-editions.ensures.value honest) ∙ ap (λ (t : Tables). bands_for t i) same in
    subst (λ (b : Sealed). (c.is_led_by.result ≡ true) ↔ LeadsBy settings h b.item b.member c.args.maximum) c.bid.view_is
    (standing_leads settings h (n.content c.args.keep.now) c.bands_for-bands.result.now c.bid.inside.item c.bid.inside.member c.args.maximum c.in-Some.standing c.is_led_by.result e bands
    (sym (c.in_ok-standing.ensures.answers.value honest) ∙ c.in-Some.is) c.is_led_by.ensures)
