use Rattle.std.proofs.Common.{◌≡◌, ◌∙◌, ℕ, List, ap₂, subst}
use Rattle.std.specs.Prelude.{MatchOption}
use Rattle.sqlite_trees.specs.Objects.{catalog_tree}
use Rattle.store_house.proofs.NamedLemmas.{fronts_named}
use Rattle.store_house.specs.Named.{house_names, house_trees}
use Rattle.store_house.specs.Places.{trees_named}
use Rattle.tree_order.specs.Numbers.{AreInverse}
use Rattle.tree_order.specs.declared.numbers.Numbers.{Numbers}
use Rattle.store_house.proofs.by_names.house_numbers.Goals as goal

pub returns-in-Ok-new-clause-value : goal.returns-in-Ok-new-clause-value
returns-in-Ok-new-clause-value g c clean =
    let trees = (g.S.Store.view c.args.store.now).trees in
    let same : c.in-Ok-trees_named.trees.items ≡ house_trees trees =
    c.in-Ok-trees_named.ensures
    ∙ ap₂ (λ names rows. trees_named names 0 rows) c.house_names.ensures (c.deref.ensures.value ∙ c.in-Ok.ensures clean)
    ∙ fronts_named house_names 0 (trees catalog_tree) in
    subst (λ (l : List ℕ). MatchOption c.in-Ok-new.found ((outer : List ℕ) → ¬ AreInverse l outer) (λ (n : Numbers). n.inner.items ≡ l)) same c.in-Ok-new.ensures
