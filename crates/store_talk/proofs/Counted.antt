-- Ratings that are counted in rows of the database are counted in its tables.
use Rattle.std.proofs.Common.{◌≡◌, ℕ, Bool, List, filter, length, ap, sym, ◌∙◌}
use Rattle.std.specs.Prelude.{◌==◌, ◌&&◌}
use Rattle.sqlite_trees.specs.Tree.{Trees}
use Rattle.house_rows.specs.History.{counted}
use Rattle.house_rows.specs.Pages.{ratings_of}
use Rattle.house_rows.specs.Ratings.{feedback_key, is_minus, is_plus, is_zero}
use Rattle.house_rows.specs.declared.people.Ratings.{Ratings}
use Rattle.house_rows.specs.declared.talk.Feedback.{Feedback}
use Rattle.store_rows.specs.Rows.{feedback_in}
use Rattle.store_rows.specs.Tables.{tables_in}
use Rattle.store_rows.proofs.Sorting.{count-sorted}
use Rattle.store_rows.proofs.Tested.{filter_both}

pub ratings_are : (db : Trees) (member : ℕ) (given : List Feedback) → given ≡ filter (λ f. f.to == member) (feedback_in db)
    → (counts : Ratings) → counts.plus ≡ counted (λ f. is_plus f.rating) given → counts.zero ≡ counted (λ f. is_zero f.rating) given → counts.minus ≡ counted (λ f. is_minus f.rating) given
    → counts ≡ ratings_of (tables_in db).feedback member
unfolding tables_in
ratings_are db member given is counts plus zero minus =
    let ours : Feedback → Bool = λ f. f.to == member in
    let rows : List Feedback = feedback_in db in
    let one = λ (p : Feedback → Bool). ap (counted p) is ∙ ap length (filter_both ours p rows) ∙ sym (count-sorted feedback_key (λ f. ours f && p f) rows) in
    let p = plus ∙ one (λ f. is_plus f.rating) in
    let z = zero ∙ one (λ f. is_zero f.rating) in
    let m = minus ∙ one (λ f. is_minus f.rating) in
    λ i. record { plus = p i; zero = z i; minus = m i }
