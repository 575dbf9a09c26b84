use Rattle.std.proofs.Common.{◌≡◌, ◌-◌, get_or, length, sym, true}
use Rattle.std.specs.List.{AllByRecursion}
use Rattle.house_rows.specs.History.{is_less}
use Rattle.list_rows.specs.Blocks.{same_key}
use Rattle.list_rows.proofs.Order.{order_less}
use Rattle.list_rows.proofs.Placed.{all_before, before_apart, before_place, no_place}
use Rattle.list_rows.proofs.places.is_after.Goals as goal

pub returns-in-Less-clause-absent : goal.returns-in-Less-clause-absent
returns-in-Less-clause-absent g c = λ is.
    let there : c.in-Some.last.now ≡ get_or c.args.rows.now (length c.args.rows.now - 1) c.in-Some.last.now = c.in-Some.ensures.item.1 in
    let less : is_less (g.R.Keyed.key c.in-Some.last.now) c.args.wanted ≡ true = order_less (g.R.Keyed.key c.in-Some.last.now) c.args.wanted (sym (rw c.row_key.ensures at c.in-Less.ensures)) in
    let all : AllByRecursion (λ row. is_less (g.R.Keyed.key row) c.args.wanted ≡ true) c.args.rows.now = all_before g.R.Keyed.key c.args.wanted c.args.rows.now c.in-Some.last.now c.requires.rising c.in-Some.ensures.item.3.0 (rw (← there) less) in
    no_place (λ row. same_key (g.R.Keyed.key row) c.args.wanted) c.args.rows.now (before_apart g.R.Keyed.key c.args.wanted c.args.rows.now all)

pub returns-in-Less-clause-place : goal.returns-in-Less-clause-place
returns-in-Less-clause-place g c = λ is.
    let there : c.in-Some.last.now ≡ get_or c.args.rows.now (length c.args.rows.now - 1) c.in-Some.last.now = c.in-Some.ensures.item.1 in
    let less : is_less (g.R.Keyed.key c.in-Some.last.now) c.args.wanted ≡ true = order_less (g.R.Keyed.key c.in-Some.last.now) c.args.wanted (sym (rw c.row_key.ensures at c.in-Less.ensures)) in
    let all : AllByRecursion (λ row. is_less (g.R.Keyed.key row) c.args.wanted ≡ true) c.args.rows.now = all_before g.R.Keyed.key c.args.wanted c.args.rows.now c.in-Some.last.now c.requires.rising c.in-Some.ensures.item.3.0 (rw (← there) less) in
    sym (before_place g.R.Keyed.key c.args.wanted c.args.rows.now all)
