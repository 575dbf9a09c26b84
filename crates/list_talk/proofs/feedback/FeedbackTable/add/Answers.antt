use Rattle.std.proofs.Common.{◌∙◌, ap, refl, rules}
use Rattle.house_rows.specs.Ratings.{feedback_key}
use Rattle.house_rows.proofs.Every.{every_as, every_put}
use Rattle.list_rows.specs.Blocks.{rows_of}
use Rattle.list_talk.specs.Index.{IsNoted}
use Rattle.list_talk.specs.Rated.{with_rating}
use Rattle.list_talk.proofs.Rates.{counted_more}
use Rattle.list_talk.proofs.feedback.FeedbackTable.add.Goals as goal

pub invariant_of-self-2 : goal.invariant_of-self-2
invariant_of-self-2 c = record {
  blocked = c.in-Ok.ensures.blocked;
  noted = rw c.in-Ok.ensures.made.ok (every_put feedback_key (λ f. IsNoted c.note.new.self f.to f.item) _ (rows_of c.self.inside.blocks.items)
      (every_as (λ f. IsNoted c.self.inside.rated f.to f.item) (λ f. IsNoted c.note.new.self f.to f.item) (rows_of c.self.inside.blocks.items) (λ f noted. c.in_ok-note.ensures.stays f.to f.item noted) c.self.invariant.noted)
      c.in_ok-note.ensures.noted);
  counted = rw c.in-Ok.ensures.made.ok (counted_more c.args.row.item c.args.row.from c.args.row.to c.args.row.rating c.args.row.text (rows_of c.self.inside.blocks.items) c.reach.new.counts.items _ c.in_ok-count.count
      (λ m. c.in_ok-reach.ensures.same m ∙ c.self.invariant.counted m) (search rules)
      (c.in_ok-count.ensures.value ∙ ap (with_rating c.args.row.rating) (c.count_of.ensures ∙ rw (c.deref.ensures.value, c.from.ensures) (c.in_ok-reach.ensures.same c.args.row.to ∙ c.self.invariant.counted c.args.row.to))) refl);
}
