use Rattle.std.proofs.Common.{◌≡◌, ◌∙◌, false, sym, refl}
use Rattle.std.specs.Prelude.{◌==◌, ◌&&◌}
use Rattle.std.specs.List.{list_any}
use Rattle.list_rows.proofs.Making.{makes_memory}
use Rattle.list_talk.proofs.Rates.{makes_free}
use Rattle.list_talk.proofs.feedback.FeedbackTable.give.Goals as goal

pub returns-in_default : goal.returns-in_default
returns-in_default c =
    let free : list_any (λ f. (f.item == c.args.item) && (f.from == c.args.from)) c.args.self.now ≡ false = rw (c.from.ensures, c.from-2.ensures) at (sym c.is_given.ensures ∙ c.if-is_given.false) in
    makes_memory c.args.self.now c.args.self.now _ _ free refl

pub returns : goal.returns
returns c =
    let free : list_any (λ f. (f.item == c.args.item) && (f.from == c.args.from)) c.args.self.now ≡ false = rw (c.from.ensures, c.from-2.ensures) at (sym c.is_given.ensures ∙ c.if-is_given.false) in
    makes_free c.add.result c.args.self.now c.add.new.self _ _ free (rw c.in-Ok.ensures.value at c.add.ensures.ok) c.add.ensures.err c.add.ensures.memory
