use Rattle.std.proofs.Common.{◌≡◌, ◌++◌, drop, map}
use Rattle.serde_json.specs.View.{view}
use Rattle.pages_json.proofs.tree.grow_array.Given as goal

-- the trees that were made and those that are left are all
abbrev pub invariant-loop-entry : goal.invariant-loop-entry
invariant-loop-entry g l = map view l.trees.items ++ map (g.F.Shows.tree l.form) (drop l.entry-index l.entries) ≡ map (g.F.Shows.tree l.form) l.entries
