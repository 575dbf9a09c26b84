use Rattle.std.proofs.Common.{◌≡◌, rules, refl, arith}
use mir.Val.{to_z, of_z}
use mir.Syntax.{w64}
use Rattle.house_rows.specs.declared.rating.Rating.{Rating}
use Rattle.house_rows.specs.declared.rating.Rating.TheVariants.{Minus, Zero, Plus}
use Rattle.store_rows.specs.Rows.{stored_rating}
use Rattle.store_rows.proofs.StateLemmas.{ok_then}
use Rattle.store_talk.proofs.TalkLemmas.{adds_feedback}
use Rattle.store_talk.proofs.feedback.put_feedback.Goals as goal

-- a stored rating fits the parameter
kept : (r : Rating) → to_z w64 (of_z w64 (stored_rating r)) ≡ stored_rating r
kept Minus = refl
kept Zero = refl
kept Plus = refl

pub returns-clause-ok : goal.returns-clause-ok
returns-clause-ok g c clean =
    let house = c.run.ensures.house clean in
    let rating : c.rating_number-number.result ≡ stored_rating c.args.rating = search rules in
    ok_then c.run.result (rw (c.params-to_sql.ensures, c.params-to_sql-2.ensures, c.params-to_sql-3.ensures, c.params-to_sql-4.ensures, c.params-to_sql-5.ensures, rating, kept c.args.rating) at (c.run.ensures.ran clean))
    (λ _ ran. adds_feedback _ _ (record { item = c.args.item; from = c.args.from; to = c.args.to; rating = c.args.rating; text = c.args.text.now }) ran.0 (omega (arith, c.ranges.item)) (omega (arith, c.ranges.from)) (omega (arith, c.ranges.to)) c.utf8.text house ran.1)
