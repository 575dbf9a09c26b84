-- the rows after the index, put into what is there, are the whole table put into what was there
use Rattle.std.proofs.Common.{◌≡◌, drop, map}
use Rattle.site_request.specs.Table.{added}
use Rattle.site_request.proofs.table.add_all.Given as goal

abbrev pub invariant-loop-pattern : goal.invariant-loop-pattern
invariant-loop-pattern l =
    added (map (λ p. (p.0.now, p.1)) (drop l.pattern-index l.table)) l.router ≡ added (map (λ p. (p.0.now, p.1)) l.table) l.fn.router
