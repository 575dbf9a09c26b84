use Rattle.std.proofs.Common.{◌≡◌, ◌≤◌, length, map, take, vec_capacity, vec_len}
use Rattle.std.specs.Cow.{cow_slice_items}
use Rattle.std.specs.List.{AllZip}
use Rattle.site.specs.Replies.{IsStep, zone_of}
use Rattle.site.specs.Runs.{TellsFault}
use Rattle.site.proofs.Turns.{Turns}
use Rattle.site.proofs.engine.Site.run.Given as goal

-- the replies so far are those to the messages so far, and there is room for the others
abbrev pub invariant-loop-message : goal.invariant-loop-message
invariant-loop-message g l =
    let k = g.K.Keep in
    record {
      steps : Turns (IsStep k.content k.is_failed k.is_honest k.may_leave (zone_of l.fn.self))
          (map (λ m. m.items) (take l.message-index l.messages))
          (map cow_slice_items l.replies.items) l.fn.self.keep l.self.keep;
      broken : AllZip TellsFault (map (λ m. m.items) (take l.message-index l.messages))
          (map cow_slice_items l.replies.items);
      zone : zone_of l.self ≡ zone_of l.fn.self;
      placed : vec_len l.replies ≡ l.message-index;
      room : length l.messages ≤ vec_capacity l.replies;
    }
