use Rattle.std.proofs.Common.{rules, tests}
use Rattle.std.specs.Prelude.{◌==◌, ◌&&◌, nat_le}
use Rattle.list_items.specs.Groups.{numbers_at}
use Rattle.list_items.proofs.Fronts.{page_has, rising_filter}
use Rattle.list_items.proofs.items.Items.in_category.Goals as goal

pub first_passing-requires-clause-rising : goal.first_passing-requires-clause-rising
first_passing-requires-clause-rising c =
    rw (c.numbers_from-numbers.ensures, c.numbers_of.ensures) (rising_filter (nat_le c.args.from) 0 (numbers_at c.self.inside.categories c.args.category) (c.self.invariant.categories.rising c.args.category))

pub returns-clause-value : goal.returns-clause-value
returns-clause-value c =
    c.first_passing.ensures.value (λ it. (it.terms.category == c.args.category) && nat_le c.args.from it.terms.item) (λ item answer given. search (rules, tests))
    (rw (c.numbers_from-numbers.ensures, c.numbers_of.ensures, ← c.self.view_is) (page_has c.self.inside.rows.items (numbers_at c.self.inside.categories) c.args.category c.args.from c.self.invariant.categories.complete))
