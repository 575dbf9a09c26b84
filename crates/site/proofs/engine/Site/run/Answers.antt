use Rattle.std.proofs.Common.{◌≡◌, ◌∙◌, ◌++◌, ◌∷◌, [], ◌+◌, ◌<◌, ◌≤◌, map, take, length, ap, refl, arith}
use Rattle.std.proofs.lemmas.List.{map-append, take_all, take_more, get_or_read}
use Rattle.std.specs.Cow.{cow_slice_items}
use Rattle.site.proofs.Isolated.{run_isolated, run_lives_on}
use Rattle.site.proofs.Left.{run_leaves}
use Rattle.site.proofs.Raised.{run_hides}
use Rattle.site.proofs.Stops.{down_texts, stays_texts, stopped_texts}
use Rattle.site.proofs.Turns.{ran_texts, turns_more, zip_more}
use Rattle.site.specs.Runs.{TellsFault}
use Rattle.site.proofs.engine.Site.run.Goals as goal

pub loop-message-init : goal.loop-message-init
loop-message-init g c = record {
  steps = rw c.in-Ok.ensures.items ([], tt, refl);
  broken = rw c.in-Ok.ensures.items tt;
  zone = refl;
  placed = c.in-Ok.ensures.len;
  room = c.in-Ok.ensures.capacity;
}

pub loop-message-preserved : goal.loop-message-preserved
loop-message-preserved g c =
    let k = g.K.Keep in
    let i = c.loop-message.message-index in
    let lt : i < length c.args.messages.now = omega arith in
    let item = get_or_read c.args.messages.now i c.message-item.result lt c.message-item.is in
    let texts : map (λ m. m.items) (take (i + 1) c.args.messages.now)
    ≡ map (λ m. m.items) (take i c.args.messages.now) ++ c.message-item.result.items ∷ [] =
    ap (map (λ m. m.items)) (take_more c.args.messages.now i c.message-item.result lt)
    ∙ map-append (λ m. m.items) (take i c.args.messages.now) _
    ∙ rw (← item c.message-item.result) refl in
    let replies : map cow_slice_items c.push_reserved.new.self.items
    ≡ map cow_slice_items c.loop-message.replies.items ++ cow_slice_items c.reply-reply.result
    ∷ [] =
    ap (map cow_slice_items) c.push_reserved.ensures.items
    ∙ map-append cow_slice_items c.loop-message.replies.items (c.reply-reply.result ∷ []) in
    let (asked, is, step) = c.reply-reply.ensures.step in
    record {
      steps = rw (texts, replies)
          (turns_more _ _ _ c.message-item.result.items (cow_slice_items c.reply-reply.result)
          c.args.self.now.keep c.loop-message.self.keep c.reply-reply.new.self.keep
          c.loop-message.invariant.steps
          (asked, rw c.deref.ensures.value at is, rw c.loop-message.invariant.zone at step));
      broken = rw (texts, replies)
          (zip_more TellsFault (map (λ m. m.items) (take i c.args.messages.now))
          (map cow_slice_items c.loop-message.replies.items) c.message-item.result.items
          (cow_slice_items c.reply-reply.result) c.loop-message.invariant.broken
          (λ fault is. (c.reply-reply.ensures.broken fault (rw (← c.deref.ensures.value) at is)).0));
      zone = c.reply-reply.ensures.zone ∙ c.loop-message.invariant.zone;
      placed = omega arith;
      room = omega arith;
    }

pub push_reserved-requires : goal.push_reserved-requires
push_reserved-requires g c =
    let i = c.loop-message.invariant in
    omega (arith, i.placed, i.room)

pub returns-clause-ran : goal.returns-clause-ran
returns-clause-ran g c = λ honest settings h is e asked are.
    let k = g.K.Keep in
    let done : length c.args.messages.now ≤ c.loop-message.message-index =
    omega (arith, c.loop-message-test.false) in
    let turns = rw (take_all c.loop-message.message-index c.args.messages.now
    done) at c.loop-message.invariant.steps in
    ran_texts k.content k.is_failed k.is_honest k.may_leave settings c.args.self.now.writer.zone h
    (map (λ m. m.items) c.args.messages.now) (map cow_slice_items c.loop-message.replies.items)
    c.args.self.now.keep c.loop-message.self.keep turns honest is e asked are

pub returns-clause-stopped : goal.returns-clause-stopped
returns-clause-stopped g c = λ honest settings h is e asked are.
    let k = g.K.Keep in
    let done : length c.args.messages.now ≤ c.loop-message.message-index =
    omega (arith, c.loop-message-test.false) in
    let turns = rw (take_all c.loop-message.message-index c.args.messages.now
    done) at c.loop-message.invariant.steps in
    stopped_texts k.content k.is_failed k.is_honest k.may_leave settings c.args.self.now.writer.zone
    h
    (map (λ m. m.items) c.args.messages.now) (map cow_slice_items c.loop-message.replies.items)
    c.args.self.now.keep c.loop-message.self.keep turns honest is e asked are

pub returns-clause-down : goal.returns-clause-down
returns-clause-down g c = λ failed asked are.
    let k = g.K.Keep in
    let done : length c.args.messages.now ≤ c.loop-message.message-index =
    omega (arith, c.loop-message-test.false) in
    let turns = rw (take_all c.loop-message.message-index c.args.messages.now
    done) at c.loop-message.invariant.steps in
    down_texts k.content k.is_failed k.is_honest k.may_leave c.args.self.now.writer.zone
    (map (λ m. m.items) c.args.messages.now) (map cow_slice_items c.loop-message.replies.items)
    c.args.self.now.keep c.loop-message.self.keep turns failed asked are

pub returns-clause-stays_down : goal.returns-clause-stays_down
returns-clause-stays_down g c = λ asked are.
    let k = g.K.Keep in
    let done : length c.args.messages.now ≤ c.loop-message.message-index =
    omega (arith, c.loop-message-test.false) in
    let turns = rw (take_all c.loop-message.message-index c.args.messages.now
    done) at c.loop-message.invariant.steps in
    stays_texts k.content k.is_failed k.is_honest k.may_leave c.args.self.now.writer.zone
    (map (λ m. m.items) c.args.messages.now) (map cow_slice_items c.loop-message.replies.items)
    c.args.self.now.keep c.loop-message.self.keep turns asked are

pub returns-clause-broken : goal.returns-clause-broken
returns-clause-broken g c =
    let done : length c.args.messages.now ≤ c.loop-message.message-index =
    omega (arith, c.loop-message-test.false) in
    rw (take_all c.loop-message.message-index c.args.messages.now done)
    at c.loop-message.invariant.broken

pub returns-clause-isolation : goal.returns-clause-isolation
returns-clause-isolation g c = λ honest settings e served n second firsts seconds are others twin.
    let k = g.K.Keep in
    let done : length c.args.messages.now ≤ c.loop-message.message-index =
    omega (arith, c.loop-message-test.false) in
    let turns = rw (take_all c.loop-message.message-index c.args.messages.now
    done) at c.loop-message.invariant.steps in
    run_isolated k.content k.is_failed k.is_honest k.may_leave settings c.args.self.now.writer.zone
    (map (λ m. m.items) c.args.messages.now) (map cow_slice_items c.loop-message.replies.items)
    c.args.self.now.keep c.loop-message.self.keep turns honest e served n firsts seconds are
    twin

pub returns-clause-isolation_from : goal.returns-clause-isolation_from
returns-clause-isolation_from g c = λ honest settings h is e asked are served.
    let k = g.K.Keep in
    let done : length c.args.messages.now ≤ c.loop-message.message-index =
    omega (arith, c.loop-message-test.false) in
    let turns = rw (take_all c.loop-message.message-index c.args.messages.now
    done) at c.loop-message.invariant.steps in
    run_lives_on k.content k.is_failed k.is_honest k.may_leave settings
    c.args.self.now.writer.zone h
    (map (λ m. m.items) c.args.messages.now) (map cow_slice_items c.loop-message.replies.items)
    c.args.self.now.keep c.loop-message.self.keep turns honest is e asked are served

pub returns-clause-life : goal.returns-clause-life
returns-clause-life g c = λ honest settings h is e asked are.
    let k = g.K.Keep in
    let done : length c.args.messages.now ≤ c.loop-message.message-index =
    omega (arith, c.loop-message-test.false) in
    let turns = rw (take_all c.loop-message.message-index c.args.messages.now
    done) at c.loop-message.invariant.steps in
    run_leaves k.content k.is_failed k.is_honest k.may_leave settings c.args.self.now.writer.zone h
    (map (λ m. m.items) c.args.messages.now) (map cow_slice_items c.loop-message.replies.items)
    c.args.self.now.keep c.loop-message.self.keep turns honest is e asked are

pub returns-clause-surplus : goal.returns-clause-surplus
returns-clause-surplus g c =
    λ honest settings valid e served n place y b asked text other are covered is raises.
    let k = g.K.Keep in
    let done : length c.args.messages.now ≤ c.loop-message.message-index =
    omega (arith, c.loop-message-test.false) in
    let turns = rw (take_all c.loop-message.message-index c.args.messages.now
    done) at c.loop-message.invariant.steps in
    run_hides k.content k.is_failed k.is_honest k.may_leave settings c.args.self.now.writer.zone
    (map (λ m. m.items) c.args.messages.now) (map cow_slice_items c.loop-message.replies.items)
    c.args.self.now.keep c.loop-message.self.keep turns honest valid e served n place y b asked
    text other are covered is raises
