use Rattle.std.proofs.Common.{◌≡◌, ◌≤◌, ℕ, Global, Err, Ok, ap, arith, false, length, map, refl, sym, true}
use Rattle.std.specs.Cow.{cow_slice_items}
use Rattle.std.proofs.lemmas.List.{length-map}
use Rattle.site.specs.Replies.{zone_of}
use Rattle.site_audit.specs.AuditsFrom.{StopsUnanswered}
use Rattle.site_audit.specs.Places.{ArePaired, Heard, IsHeard, keep_of}
use Rattle.site_audit.proofs.Lists.{ends_apart, next_read}
use Rattle.site_audit.proofs.Runs.{compared_more, found_apart, found_end, found_equal, found_fault, found_gave, report_by, used_twice}
use Rattle.site_audit.proofs.Pairs.{never_gave}
use Rattle.site_audit.proofs.RaisedRuns.{fault_gave}
use Rattle.site_audit.proofs.Unanswered.{ended, unanswered}
use Rattle.site_audit.proofs.verdict.audit_from.Goals as goal

pub returns-in_default-clause-found : goal.returns-in_default-clause-found
returns-in_default-clause-found g c = λ honest honest' settings h k is is' alike e d lefts rights are others_are.
    let n = g.K.Keep in
    rw c.apart_at.ensures
    (found_end n.content n.is_honest (zone_of c.args.left.now) c.args.caller
    (keep_of c.args.left.now) (keep_of c.args.right.now) _ _ c.loop-place.place _
    (keep_of c.loop-place.left) (keep_of c.loop-place.right) c.loop-place.invariant.so
    (ends_apart (λ m. m.items) c.loop-place.place c.args.left_messages.now
    c.args.right_messages.now c.loop-place-test.true c.in_default.ensures.lookup.3)
    honest honest' settings h k (is, is', e, d) lefts rights are others_are)

pub returns-in_err-take_place-clause-found : goal.returns-in_err-take_place-clause-found
returns-in_err-take_place-clause-found g c =
    λ honest honest' settings h k is is' alike e d lefts rights are others_are.
    let n = g.K.Keep in
    let place = c.loop-place.place in
    let kept = map (cow_slice_items {X = ℕ} {Z = Global}) c.loop-place.replies.items in
    let now = map (cow_slice_items {X = ℕ} {Z = Global}) c.take_place.new.replies.items in
    let fault = c.in_err-take_place.field-0.0 in
    let t = c.deref.result.now in
    let o = c.deref-in-loop-place.result.now in
    let more = next_read (λ m. m.items) place c.args.left_messages.now
    c.index-left_messages-place.result t c.loop-place-test.true c.index-left_messages-place.is
    c.deref.ensures.value in
    let more' = next_read (λ m. m.items) place c.args.right_messages.now c.in-Some.other.now o
    c.in-Some.ensures.lookup.3.0 c.in-Some.ensures.lookup.1
    c.deref-in-loop-place.ensures.value in
    found_gave n.content n.is_failed settings (zone_of c.args.left.now) c.args.caller h k lefts rights
    (keep_of c.take_place.new.left) (keep_of c.take_place.new.right) fault c.from_residual.result
    c.from_residual.ensures
    (found_fault n.content n.is_failed n.is_honest (zone_of c.args.left.now) c.args.caller
    (keep_of c.args.left.now) (keep_of c.args.right.now) _ _ place t o kept now
    (keep_of c.loop-place.left) (keep_of c.loop-place.right) (keep_of c.take_place.new.left)
    (keep_of c.take_place.new.right) fault c.loop-place.invariant.so
    c.in_err-take_place.ensures.left.honest c.in_err-take_place.ensures.right.honest more more'
    (report_by n.content n.is_failed n.is_honest (zone_of c.loop-place.left)
    (zone_of c.args.left.now) c.args.caller t o kept now (keep_of c.loop-place.left)
    (keep_of c.loop-place.right) (keep_of c.take_place.new.left) (keep_of c.take_place.new.right)
    (Err fault) (Err fault) c.loop-place.invariant.left.zone refl
    c.in_err-take_place.ensures.report)
    honest honest' settings h k (is, is', e, d) lefts rights are others_are)

pub returns-then-not-branch-clause-found : goal.returns-then-not-branch-clause-found
returns-then-not-branch-clause-found g c =
    λ honest honest' settings h k is is' alike e d lefts rights are others_are.
    let n = g.K.Keep in
    let place = c.loop-place.place in
    let kept = map (cow_slice_items {X = ℕ} {Z = Global}) c.loop-place.replies.items in
    let now = map (cow_slice_items {X = ℕ} {Z = Global}) c.take_place.new.replies.items in
    let t = c.deref.result.now in
    let o = c.deref-in-loop-place.result.now in
    let more = next_read (λ m. m.items) place c.args.left_messages.now
    c.index-left_messages-place.result t c.loop-place-test.true c.index-left_messages-place.is
    c.deref.ensures.value in
    let more' = next_read (λ m. m.items) place c.args.right_messages.now c.in-Some.other.now o
    c.in-Some.ensures.lookup.3.0 c.in-Some.ensures.lookup.1
    c.deref-in-loop-place.ensures.value in
    rw c.apart_at-then-not-branch.ensures
    (found_apart n.content n.is_failed n.is_honest (zone_of c.args.left.now) c.args.caller
    (keep_of c.args.left.now) (keep_of c.args.right.now) _ _ place t o kept now
    (keep_of c.loop-place.left) (keep_of c.loop-place.right) (keep_of c.take_place.new.left)
    (keep_of c.take_place.new.right) c.loop-place.invariant.so
    c.in_ok-take_place.ensures.left.honest c.in_ok-take_place.ensures.right.honest more more'
    (report_by n.content n.is_failed n.is_honest (zone_of c.loop-place.left)
    (zone_of c.args.left.now) c.args.caller t o kept now (keep_of c.loop-place.left)
    (keep_of c.loop-place.right) (keep_of c.take_place.new.left)
    (keep_of c.take_place.new.right) (Ok c.in_ok-take_place.field-0) (Ok false)
    c.loop-place.invariant.left.zone (ap Ok c.if-not-branch.true)
    c.in_ok-take_place.ensures.report)
    honest honest' settings h k (is, is', e, d) lefts rights are others_are)

pub loop-place-preserved : goal.loop-place-preserved
loop-place-preserved g c =
    let n = g.K.Keep in
    let place = c.loop-place.place in
    let kept = map (cow_slice_items {X = ℕ} {Z = Global}) c.loop-place.replies.items in
    let now = map (cow_slice_items {X = ℕ} {Z = Global}) c.take_place.new.replies.items in
    let t = c.deref.result.now in
    let o = c.deref-in-loop-place.result.now in
    let more = next_read (λ m. m.items) place c.args.left_messages.now
    c.index-left_messages-place.result t c.loop-place-test.true c.index-left_messages-place.is
    c.deref.ensures.value in
    let more' = next_read (λ m. m.items) place c.args.right_messages.now c.in-Some.other.now o
    c.in-Some.ensures.lookup.3.0 c.in-Some.ensures.lookup.1
    c.deref-in-loop-place.ensures.value in
    record {
      so = compared_more n.content n.is_failed n.is_honest (zone_of c.args.left.now) c.args.caller
          (keep_of c.args.left.now) (keep_of c.args.right.now) _ _ place t o kept now
          (keep_of c.loop-place.left) (keep_of c.loop-place.right) (keep_of c.take_place.new.left)
          (keep_of c.take_place.new.right) c.loop-place.invariant.so
          c.in_ok-take_place.ensures.left.honest c.in_ok-take_place.ensures.right.honest more more'
          (report_by n.content n.is_failed n.is_honest (zone_of c.loop-place.left)
          (zone_of c.args.left.now) c.args.caller t o kept now (keep_of c.loop-place.left)
          (keep_of c.loop-place.right) (keep_of c.take_place.new.left)
          (keep_of c.take_place.new.right) (Ok c.in_ok-take_place.field-0) (Ok true)
          c.loop-place.invariant.left.zone (ap Ok c.if-not-branch.false)
          c.in_ok-take_place.ensures.report);
      left = used_twice n.is_failed n.is_honest c.args.left.now c.loop-place.left
          c.take_place.new.left c.loop-place.invariant.left c.in_ok-take_place.ensures.left;
      right = used_twice n.is_failed n.is_honest c.args.right.now c.loop-place.right
          c.take_place.new.right c.loop-place.invariant.right c.in_ok-take_place.ensures.right;
    }

pub returns-then-left_messages-right_messages-clause-found :
    goal.returns-then-left_messages-right_messages-clause-found
returns-then-left_messages-right_messages-clause-found g c =
    λ honest honest' settings h k is is' alike e d lefts rights are others_are.
    let n = g.K.Keep in
    let all : c.loop-place.place ≡ length c.args.left_messages.now =
    omega (arith, c.loop-place-test.false, c.loop-place.auto.place-end) in
    let few : length c.args.left_messages.now ≤ c.loop-place.place = omega (arith, all) in
    rw (c.apart_at-then-left_messages-right_messages.ensures, ← all)
    (found_end n.content n.is_honest (zone_of c.args.left.now) c.args.caller
    (keep_of c.args.left.now) (keep_of c.args.right.now) _ _ c.loop-place.place _
    (keep_of c.loop-place.left) (keep_of c.loop-place.right) c.loop-place.invariant.so
    (λ same. ends_apart (λ m. m.items) c.loop-place.place c.args.right_messages.now
    c.args.left_messages.now (omega (arith, all, c.if-left_messages-right_messages.true)) few
    (sym same))
    honest honest' settings h k (is, is', e, d) lefts rights are others_are)

pub returns-clause-found : goal.returns-clause-found
returns-clause-found g c = λ honest honest' settings h k is is' alike e d lefts rights are others_are.
    let n = g.K.Keep in
    let left = c.args.left_messages.now in
    let right = c.args.right_messages.now in
    found_equal n.content n.is_honest (zone_of c.args.left.now) c.args.caller
    (keep_of c.args.left.now) (keep_of c.args.right.now) (map (λ m. m.items) left)
    (map (λ m. m.items) right) c.loop-place.place _ (keep_of c.loop-place.left)
    (keep_of c.loop-place.right) c.loop-place.invariant.so
    (omega (arith, length-map left (λ m. m.items), c.loop-place-test.false))
    (omega (
      arith,
      length-map right (λ m. m.items),
      c.loop-place-test.false,
      c.if-left_messages-right_messages.false,
    )) honest honest' settings h k (is, is', e, d) alike lefts rights are
    others_are

pub returns-in_err-take_place-clause-never : goal.returns-in_err-take_place-clause-never
returns-in_err-take_place-clause-never g c =
    never_gave c.in_err-take_place.field-0.0 c.from_residual.result c.from_residual.ensures
    c.in_err-take_place.ensures.never

-- texts that may not be at a place are not answered, nor are those after the end of a list
pub returns-in_default-clause-unanswered : goal.returns-in_default-clause-unanswered
returns-in_default-clause-unanswered g c =
    λ honest honest' settings h k is is' e d lefts rights are others_are.
    let n = g.K.Keep in
    rw c.apart_at.ensures
    (ended n.content n.is_honest (zone_of c.args.left.now) c.args.caller (keep_of c.args.left.now)
    (keep_of c.args.right.now) _ _ c.loop-place.place _ (keep_of c.loop-place.left)
    (keep_of c.loop-place.right) c.loop-place.invariant.so honest honest' settings h k
    (is, is', e, d) lefts rights are others_are)

pub returns-in_err-take_place-clause-unanswered : goal.returns-in_err-take_place-clause-unanswered
returns-in_err-take_place-clause-unanswered g c =
    λ honest honest' settings h k is is' e d lefts rights are others_are.
    let n = g.K.Keep in
    fault_gave (λ r. StopsUnanswered n.content settings c.args.caller h k lefts rights
    (keep_of c.take_place.new.left) (keep_of c.take_place.new.right) r)
    c.in_err-take_place.field-0.0 c.from_residual.result c.from_residual.ensures tt

pub returns-then-not-branch-clause-unanswered : goal.returns-then-not-branch-clause-unanswered
returns-then-not-branch-clause-unanswered g c =
    λ honest honest' settings h k is is' e d lefts rights are others_are.
    let n = g.K.Keep in
    let place = c.loop-place.place in
    let t = c.deref.result.now in
    let o = c.deref-in-loop-place.result.now in
    let more = next_read (λ m. m.items) place c.args.left_messages.now
    c.index-left_messages-place.result t c.loop-place-test.true c.index-left_messages-place.is
    c.deref.ensures.value in
    let more' = next_read (λ m. m.items) place c.args.right_messages.now c.in-Some.other.now o
    c.in-Some.ensures.lookup.3.0 c.in-Some.ensures.lookup.1
    c.deref-in-loop-place.ensures.value in
    let stays : (x y : Heard) → IsHeard t x → IsHeard o y → ¬ (ArePaired c.args.caller x y)
    → (keep_of c.take_place.new.left ≡ keep_of c.loop-place.left)
    × (keep_of c.take_place.new.right ≡ keep_of c.loop-place.right) = λ x y a b no. (
      ap (λ s. keep_of s) (c.in_ok-take_place.ensures.unpaired x y a b no).1,
      ap (λ s. keep_of s) (c.in_ok-take_place.ensures.unpaired x y a b no).2,
    ) in
    rw c.apart_at-then-not-branch.ensures
    (unanswered n.content n.is_honest (zone_of c.args.left.now) c.args.caller
    (keep_of c.args.left.now) (keep_of c.args.right.now) _ _ place t o _
    (keep_of c.loop-place.left) (keep_of c.loop-place.right) (keep_of c.take_place.new.left)
    (keep_of c.take_place.new.right) c.loop-place.invariant.so
    c.in_ok-take_place.ensures.left.honest c.in_ok-take_place.ensures.right.honest more more' stays
    honest honest' settings h k (is, is', e, d) lefts rights are others_are)

pub returns-then-left_messages-right_messages-clause-unanswered :
    goal.returns-then-left_messages-right_messages-clause-unanswered
returns-then-left_messages-right_messages-clause-unanswered g c =
    λ honest honest' settings h k is is' e d lefts rights are others_are.
    let n = g.K.Keep in
    let all : c.loop-place.place ≡ length c.args.left_messages.now =
    omega (arith, c.loop-place-test.false, c.loop-place.auto.place-end) in
    rw (c.apart_at-then-left_messages-right_messages.ensures, ← all)
    (ended n.content n.is_honest (zone_of c.args.left.now) c.args.caller (keep_of c.args.left.now)
    (keep_of c.args.right.now) _ _ c.loop-place.place _ (keep_of c.loop-place.left)
    (keep_of c.loop-place.right) c.loop-place.invariant.so honest honest' settings h k
    (is, is', e, d) lefts rights are others_are)
