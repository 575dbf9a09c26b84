use Rattle.std.proofs.Common.{◌≡◌, ◌∙◌, false, map, sym, true}
use Rattle.std.specs.Cow.{cow_slice_items}
use Rattle.house_laws.specs.Covered.{raised}
use Rattle.site_audit.specs.AuditsFrom.{AreEqualFrom, ArePartFrom, heard_history}
use Rattle.site_audit.specs.Places.{keep_of}
use Rattle.site_audit.proofs.Pairs.{never_other}
use Rattle.site_audit.proofs.RaisedRuns.{BothLead, apart_tells, equal_tells, is_history, not_led, seen_gives}
use Rattle.site_audit.proofs.raised_bid.judge.Goals as goal

pub returns-in-Apart-clause-found : goal.returns-in-Apart-clause-found
returns-in-Apart-clause-found g c =
    λ honest honest' settings valid h is zone other place heards text there may raise found.
    let apart : ArePartFrom settings other h h heards (raised place text heards) c.in-Apart.step =
    rw c.in-Apart.is at found in
    apart_tells settings h other place c.args.maximum c.args.bid heards text valid is there raise
    apart.whole

pub returns-in-Ok-true-clause-found : goal.returns-in-Ok-true-clause-found
returns-in-Ok-true-clause-found g c =
    λ honest honest' settings valid h is zone other place heards text there may raise found.
    let n = g.K.Keep in
    let left = keep_of c.args.left.now in
    let right = keep_of c.args.right.now in
    let rights = raised place text heards in
    let equal : AreEqualFrom n.content settings zone other h h heards rights
    (map cow_slice_items c.in-Equal.replies.items) left right = rw c.in-Equal.is at found in
    let seen = c.in-Ok-true.ensures.lead honest honest' settings
    (heard_history settings h heards) (heard_history settings h rights)
    (is_history settings h heards is) (is_history settings h rights is)
    equal.left_tables equal.right_tables in
    equal_tells n.content settings zone h other place c.args.maximum c.args.bid heards text
    (map cow_slice_items c.in-Equal.replies.items) left right (keep_of c.both_lead.new.left)
    (keep_of c.both_lead.new.right) valid is there may raise equal seen.1 seen.2
    (seen.0.0 c.in-Ok-true.field-0-test)

pub returns-in-Ok-false-clause-found : goal.returns-in-Ok-false-clause-found
returns-in-Ok-false-clause-found g c =
    λ honest honest' settings valid h is zone other place heards text there may raise found.
    let n = g.K.Keep in
    let rights = raised place text heards in
    let equal : AreEqualFrom n.content settings zone other h h heards rights
    (map cow_slice_items c.in-Equal.replies.items) (keep_of c.args.left.now)
    (keep_of c.args.right.now) = rw c.in-Equal.is at found in
    let seen = c.in-Ok-false.ensures.lead honest honest' settings
    (heard_history settings h heards) (heard_history settings h rights)
    (is_history settings h heards is) (is_history settings h rights is)
    equal.left_tables equal.right_tables in
    not_led settings h other place c.args.maximum c.args.bid heards text valid is there raise
    (λ both. let wrong : true ≡ false = sym (seen.0.1 both) ∙ c.in-Ok-false.field-0-test in absurd cc)

pub returns-in-Err-clause-found : goal.returns-in-Err-clause-found
returns-in-Err-clause-found g c =
    λ honest honest' settings valid h is zone other place heards text there may raise found.
    let n = g.K.Keep in
    let left = keep_of c.args.left.now in
    let right = keep_of c.args.right.now in
    let rights = raised place text heards in
    let equal : AreEqualFrom n.content settings zone other h h heards rights
    (map cow_slice_items c.in-Equal.replies.items) left right = rw c.in-Equal.is at found in
    let seen = c.in-Err.ensures.lead honest honest' settings
    (heard_history settings h heards) (heard_history settings h rights)
    (is_history settings h heards is) (is_history settings h rights is)
    equal.left_tables equal.right_tables in
    seen_gives n.content n.is_failed
    (BothLead settings h place c.args.maximum c.args.bid heards text) settings zone h other place
    c.args.maximum heards left right (keep_of c.both_lead.new.left)
    (keep_of c.both_lead.new.right) c.in-Err.fault seen

pub returns-in-Err-clause-never : goal.returns-in-Err-clause-never
returns-in-Err-clause-never g c = never_other c.in-Err.fault c.in-Err.ensures.never
