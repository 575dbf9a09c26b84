use Rattle.std.proofs.Common.{rules, of_calls}
use Rattle.std.proofs.lemmas.Fn.{always_returns_same}
use Rattle.list_rows.specs.Blocks.{order_of}
use Rattle.list_rows.proofs.Placed.{searched_absent, searched_found, searched_place}
use Rattle.list_rows.proofs.places.search.Goals as goal

pub returns-clause-found : goal.returns-clause-found
returns-clause-found g c = searched_found g.R.Keyed.key c.args.wanted c.args.rows.now c.binary_search_by.result c.requires.rising c.binary_search_by.ensures.bound
    (c.binary_search_by.ensures.position (λ row. order_of (g.R.Keyed.key row) c.args.wanted) (always_returns_same _ _ _ (λ a r f k. search (rules, of_calls))))

pub returns-clause-absent : goal.returns-clause-absent
returns-clause-absent g c = searched_absent g.R.Keyed.key c.args.wanted c.args.rows.now c.binary_search_by.result c.requires.rising c.binary_search_by.ensures.bound
    (c.binary_search_by.ensures.position (λ row. order_of (g.R.Keyed.key row) c.args.wanted) (always_returns_same _ _ _ (λ a r f k. search (rules, of_calls))))

pub returns-clause-place : goal.returns-clause-place
returns-clause-place g c = searched_place g.R.Keyed.key c.args.wanted c.args.rows.now c.binary_search_by.result c.requires.rising c.binary_search_by.ensures.bound
    (c.binary_search_by.ensures.position (λ row. order_of (g.R.Keyed.key row) c.args.wanted) (always_returns_same _ _ _ (λ a r f k. search (rules, of_calls))))
