use Rattle.std.proofs.Common.{[], ◌∷◌}
use Rattle.settle.proofs.TextLemmas.{padded_is}
use Rattle.settle.specs.Text.{left, padded, right}
use Rattle.settle.proofs.columns.Columns.padded_text.Goals as goal

pub returns : goal.returns
unfolding padded
returns c =
    let s = c.args.self.now in
    rw (c.in_ok-push-2.ensures.items, c.in_ok-put_right-5.ensures, c.in_ok-put_right-4.ensures, c.in_ok-put_right-3.ensures, c.in_ok-put_right-2.ensures, c.in_ok-put_left-2.ensures, c.in_ok-push.ensures.items, c.in_ok-put_right.ensures, c.in_ok-put_left.ensures, c.new-text.ensures.items)
    (padded_is (left 10 s.day.now) (right 8 s.item.now) (left 4 s.role.now) (right 8 s.other.now) (right 14 s.price.now) (right 14 s.fee.now) (right 14 s.net.now) (32 ∷ []) (10 ∷ []))
