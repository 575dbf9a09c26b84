use Rattle.std.proofs.Common.{◌≡◌, ap, sym, ◌∙◌, map, take}
use Rattle.std.proofs.lemmas.Result.{IfOk-weaker}
use Rattle.sqlite_trees.specs.View.{IsClean}
use Rattle.sqlite_trees.specs.Objects.{catalog_tree}
use Rattle.tree_order.specs.Rows.{renumbered_rows}
use Rattle.tree_order.specs.RowLaws.{fronts-renumbered_rows}
use Rattle.tree_order.proofs.alter.RenumberedAlter.objects.Goals as goal

pub returns : goal.returns
returns g c =
    let s = c.args.self.now in
    let below = g.S.Store.view s.inner in
    let outer = s.numbers.outer.items in
    IfOk-weaker c.renumbered_rows.result
    (λ all. all.items ≡ renumbered_rows outer c.in_ok-rows.rows.items)
    (λ all. IsClean below → all.items ≡ map (take 5) (renumbered_rows outer (below.trees catalog_tree)))
    (λ all is clean. is ∙ ap (renumbered_rows outer) (c.in_ok-rows.ensures clean) ∙ sym (fronts-renumbered_rows 4 outer (below.trees catalog_tree)))
    c.renumbered_rows.ensures
