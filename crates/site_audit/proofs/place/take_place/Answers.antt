use Rattle.std.proofs.Common.{ℕ, Global, map, refl}
use Rattle.std.specs.Cow.{cow_slice_items}
use Rattle.site.specs.Replies.{next_of, zone_of}
use Rattle.site_audit.specs.Places.{keep_of}
use Rattle.site_audit.proofs.Places.{next_is, not_both, place_gave, place_left, place_right, place_seen, reply_kept}
use Rattle.site_audit.proofs.Pairs.{memory_gave, never_gave}
use Rattle.site_audit.proofs.place.take_place.Goals as goal

pub returns-then-not-may_pair-clause-report : goal.returns-then-not-may_pair-clause-report
returns-then-not-may_pair-clause-report g c = λ honest honest' settings h k is is' e d x y a b place.
    not_both c.may_pair.result ((c.may_pair.ensures x y a b).1 place.paired) c.if-not-may_pair.true

pub returns-in_err-left_reply-clause-report : goal.returns-in_err-left_reply-clause-report
returns-in_err-left_reply-clause-report g c = λ honest honest' settings h k is is' e d x y a b.
    let n = g.K.Keep in
    let kept = map cow_slice_items c.args.replies.now.items in
    let fault = c.in_err-left_reply.field-0.0 in
    place_gave n.content n.is_failed settings (zone_of c.args.left.now) c.args.caller h k x y kept
    kept (keep_of c.reply.new.site) (keep_of c.args.right.now) fault c.from_residual.result
    c.from_residual.ensures
    (place_left n.content n.is_failed (cow_slice_items {X = ℕ} {Z = Global}) settings (zone_of c.args.left.now)
    c.args.caller h k x y kept kept (keep_of c.reply.new.site) (keep_of c.args.right.now) fault
    (c.in_err-left_reply.ensures.report honest settings h is e x.asked a.asks))

pub returns-in_err-reply-clause-report : goal.returns-in_err-reply-clause-report
returns-in_err-reply-clause-report g c = λ honest honest' settings h k is is' e d x y a b.
    let n = g.K.Keep in
    let kept = map cow_slice_items c.args.replies.now.items in
    let fault = c.in_err-reply.field-0.0 in
    place_gave n.content n.is_failed settings (zone_of c.args.left.now) c.args.caller h k x y kept
    kept (keep_of c.reply.new.site) (keep_of c.reply-2.new.site) fault
    c.from_residual-in_err-reply.result c.from_residual-in_err-reply.ensures
    (place_right n.content n.is_failed (cow_slice_items {X = ℕ} {Z = Global}) settings (zone_of c.args.left.now)
    (zone_of c.args.right.now) c.args.caller h k x y kept kept (keep_of c.reply.new.site)
    (keep_of c.reply-2.new.site) fault
    (c.in_err-reply.ensures.report honest' settings k is' d y.asked b.asks))

pub returns-clause-report : goal.returns-clause-report
returns-clause-report g c = λ honest honest' settings h k is is' e d x y a b.
    let n = g.K.Keep in
    let before = c.sites_agree.ensures.left.honest honest in
    let before' = c.sites_agree.ensures.right.honest honest' in
    let left = c.in_ok-left_reply.ensures.report before settings h is e x.asked a.asks in
    let right = c.in_ok-reply.ensures.report before' settings k is' d y.asked b.asks in
    place_seen n.content n.is_failed settings (zone_of c.args.left.now) c.args.caller h k x y
    (map cow_slice_items c.args.replies.now.items)
    (map cow_slice_items c.keep_reply.new.replies.items) (keep_of c.reply.new.site)
    (keep_of c.reply-2.new.site) (keep_of c.sites_agree.new.left)
    (keep_of c.sites_agree.new.right) c.sites_agree.result
    ((c.may_pair.ensures x y a b).0 c.if-not-may_pair.false) left.1 right.1
    (reply_kept cow_slice_items settings (zone_of c.args.left.now) c.args.caller h x.asked
    c.in_ok-left_reply.left_reply c.is_callers.result _ _ (c.is_callers.ensures x.asked a.asks) left.0
    c.in_ok-keep_reply.ensures.ok)
    (c.sites_agree.ensures.report honest honest' settings (next_of settings h x.asked)
    (next_of settings k y.asked) (next_is settings h x.asked is) (next_is settings k y.asked is')
    left.1 right.1)

pub returns-then-not-may_pair-clause-unpaired : goal.returns-then-not-may_pair-clause-unpaired
returns-then-not-may_pair-clause-unpaired g c = λ x y a b no. (refl, refl, refl, refl)

pub returns-in_err-left_reply-clause-unpaired : goal.returns-in_err-left_reply-clause-unpaired
returns-in_err-left_reply-clause-unpaired g c = λ x y a b no.
    absurd (no ((c.may_pair.ensures x y a b).0 c.if-not-may_pair.false))

pub returns-in_err-reply-clause-unpaired : goal.returns-in_err-reply-clause-unpaired
returns-in_err-reply-clause-unpaired g c = λ x y a b no.
    absurd (no ((c.may_pair.ensures x y a b).0 c.if-not-may_pair.false))

pub returns-in_err-keep_reply-clause-unpaired : goal.returns-in_err-keep_reply-clause-unpaired
returns-in_err-keep_reply-clause-unpaired g c = λ x y a b no.
    absurd (no ((c.may_pair.ensures x y a b).0 c.if-not-may_pair.false))

pub returns-clause-unpaired : goal.returns-clause-unpaired
returns-clause-unpaired g c = λ x y a b no.
    absurd (no ((c.may_pair.ensures x y a b).0 c.if-not-may_pair.false))

-- neither a reply nor a look at two keeps tells that a house isn't new
pub returns-in_err-left_reply-clause-never : goal.returns-in_err-left_reply-clause-never
returns-in_err-left_reply-clause-never g c =
    never_gave c.in_err-left_reply.field-0.0 c.from_residual.result c.from_residual.ensures
    c.in_err-left_reply.ensures.never

pub returns-in_err-reply-clause-never : goal.returns-in_err-reply-clause-never
returns-in_err-reply-clause-never g c =
    never_gave c.in_err-reply.field-0.0 c.from_residual-in_err-reply.result
    c.from_residual-in_err-reply.ensures c.in_err-reply.ensures.never

pub returns-in_err-keep_reply-clause-never : goal.returns-in_err-keep_reply-clause-never
returns-in_err-keep_reply-clause-never g c =
    memory_gave c.in_err-keep_reply.field-0.0 c.from_residual-in_err-keep_reply.result
    c.from_residual-in_err-keep_reply.ensures c.in_err-keep_reply.ensures.err
