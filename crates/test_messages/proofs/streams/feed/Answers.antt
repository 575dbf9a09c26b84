-- The room is what the reader left in it.
use Rattle.std.proofs.Common.{◌++◌, ◌∙◌, ap, take}
use Rattle.wire.proofs.Rooms.{refill_whole}
use Rattle.test_messages.proofs.streams.feed.Goals as goal

pub returns-clause-held : goal.returns-clause-held
returns-clause-held c =
    let before = c.args.inbox.now.held in
    let whole = refill_whole c.space.result.now c.give-count.new.room c.give-count.auto.room in
    c.took.ensures.held ∙ ap (λ r. before ++ take c.give-count.result r) whole ∙ ap (λ l. before ++ l) c.give-count.ensures.front
