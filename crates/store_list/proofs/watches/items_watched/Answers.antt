use Rattle.std.proofs.Common.{rules, ◌≡◌, ◌∙◌, ap, filter, refl}
use Rattle.std.specs.Prelude.{◌==◌}
use Rattle.std.specs.List.{list_any}
use Rattle.house_rows.specs.Watches.{WatchRow, is_watch}
use Rattle.store_list.proofs.Fitting.{ok_same}
use Rattle.store_list.proofs.WatchedItems.{items_of, numbers_have, numbers_rise, shown_all}
use Rattle.store_list.proofs.watches.items_watched.Goals as goal

pub first_passing-requires-clause-rising : goal.first_passing-requires-clause-rising
first_passing-requires-clause-rising c =
    let numbers : c.deref.result.now ≡ items_of c.of.result.now = c.deref.ensures.value ∙ c.in_ok-numbers.ensures.value in
    rw numbers (numbers_rise c.args.member c.args.watches.now c.of.result.now c.of.ensures.rows c.of.ensures.rising)

pub returns-clause-value : goal.returns-clause-value
returns-clause-value c =
    let numbers : c.deref.result.now ≡ items_of (filter (λ (w : WatchRow). w.member == c.args.member) c.args.watches.now) = c.deref.ensures.value ∙ c.in_ok-numbers.ensures.value ∙ ap items_of c.of.ensures.rows in
    ok_same c.first_passing.result _ _
    (c.first_passing.ensures.value (λ it. list_any (is_watch c.args.member it.terms.item) c.args.watches.now) (λ item answer given. search rules) (rw numbers (numbers_have c.args.member c.args.watches.now c.args.items.now)))
    (shown_all c.args.member c.args.watches.now c.args.items.now c.rows-most.result.now _ refl c.rows-most.ensures)
