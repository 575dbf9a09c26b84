use Rattle.std.proofs.Common.{◌≡◌, ◌∙◌, ap, subst}
use Rattle.steps.specs.Table.{IsBandTable}
use Rattle.house_rows.specs.Tables.{Tables}
use Rattle.site_audit.specs.Places.{keep_of}
use Rattle.site_audit.proofs.Pairs.{alike_reported, read_same, seen_err, seen_from, seen_gave, sound_if}
use Rattle.site_audit.proofs.pair.are_alike.Goals as goal

pub returns-in_err-have_same_settings-clause-report :
    goal.returns-in_err-have_same_settings-clause-report
returns-in_err-have_same_settings-clause-report g c = λ honest honest' settings others h k is is' e d.
    let n = g.K.Keep in
    let same = ap n.content c.keep_mut.ensures.keep in
    let same' = ap n.content c.keep_mut-2.ensures.keep in
    let a = c.keep_mut.result.now in
    let b = c.keep_mut-2.result.now in
    let f = c.in_err-have_same_settings.field-0.0 in
    seen_from n.content n.is_failed (settings ≡ others) a b (keep_of c.args.left.now)
    (keep_of c.args.right.now) a b c.from_residual.result same same'
    (seen_gave n.content n.is_failed (settings ≡ others) a b a b f c.from_residual.result
    c.from_residual.ensures
    (seen_err n.content n.is_failed (settings ≡ others) _ a b a b f
    c.in_err-have_same_settings.ensures.faults (honest, honest')
    (sound_if settings h (n.content a) is (same ∙ e))
    (sound_if others k (n.content b) is' (same' ∙ d))))

pub returns-clause-report : goal.returns-clause-report
returns-clause-report g c = λ honest honest' settings others h k is is' e d.
    let n = g.K.Keep in
    let same = ap n.content c.keep_mut.ensures.keep in
    let same' = ap n.content c.keep_mut-2.ensures.keep in (
      alike_reported settings others h k (n.content c.keep_mut.result.now)
          (n.content c.keep_mut-2.result.now) c.in_ok-have_same_settings.field-0 (same ∙ e)
          (same' ∙ d) (c.in_ok-have_same_settings.ensures.report honest honest'),
      same,
      same',
    )

pub returns-clause-valid : goal.returns-clause-valid
returns-clause-valid g c = λ honest.
    subst (λ (t : Tables). IsBandTable t.settings.bands)
    (ap g.K.Keep.content c.keep_mut.ensures.keep) (c.in_ok-have_same_settings.ensures.valid honest)

-- both keeps are as they were
pub returns-in_err-have_same_settings-clause-left_read :
    goal.returns-in_err-have_same_settings-clause-left_read
returns-in_err-have_same_settings-clause-left_read g c =
    let n = g.K.Keep in
    read_same n.content n.is_failed n.is_honest n.may_leave (keep_of c.args.left.now)
    c.keep_mut.result.now c.keep_mut.ensures.keep

pub returns-in_err-have_same_settings-clause-right_read :
    goal.returns-in_err-have_same_settings-clause-right_read
returns-in_err-have_same_settings-clause-right_read g c =
    let n = g.K.Keep in
    read_same n.content n.is_failed n.is_honest n.may_leave (keep_of c.args.right.now)
    c.keep_mut-2.result.now c.keep_mut-2.ensures.keep

pub returns-clause-left_read : goal.returns-clause-left_read
returns-clause-left_read g c =
    let n = g.K.Keep in
    read_same n.content n.is_failed n.is_honest n.may_leave (keep_of c.args.left.now)
    c.keep_mut.result.now c.keep_mut.ensures.keep

pub returns-clause-right_read : goal.returns-clause-right_read
returns-clause-right_read g c =
    let n = g.K.Keep in
    read_same n.content n.is_failed n.is_honest n.may_leave (keep_of c.args.right.now)
    c.keep_mut-2.result.now c.keep_mut-2.ensures.keep
