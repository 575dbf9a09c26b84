use Rattle.std.proofs.Common.{map}
use Rattle.std.specs.Cow.{cow_slice_items}
use Rattle.site.specs.Replies.{zone_of}
use Rattle.site_audit.specs.Places.{IsUsed, keep_of}
use Rattle.site_audit.proofs.Runs.{Compared}
use Rattle.site_audit.proofs.verdict.audit_from.Given as goal

-- the places so far were those of twin runs, and the replies to the caller are kept
abbrev pub invariant-loop-place : goal.invariant-loop-place
invariant-loop-place g l =
    let k = g.K.Keep in
    record {
      so : Compared k.content k.is_honest (zone_of l.fn.left) l.caller (keep_of l.fn.left)
          (keep_of l.fn.right) (map (λ m. m.items) l.left_messages)
          (map (λ m. m.items) l.right_messages) l.place (map cow_slice_items l.replies.items)
          (keep_of l.left) (keep_of l.right);
      left : IsUsed k.is_failed k.is_honest l.fn.left l.left;
      right : IsUsed k.is_failed k.is_honest l.fn.right l.right;
    }
