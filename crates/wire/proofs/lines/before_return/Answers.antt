use Rattle.std.proofs.Common.{arith, ap, sym, ◌∙◌, take, length}
use Rattle.std.proofs.lemmas.List.{take_all}
use Rattle.wire.proofs.LineLemmas.{found_at, lacks_found, lacks_place}
use Rattle.wire.proofs.lines.before_return.Goals as goal

pub returns-in-Some : goal.returns-in-Some
returns-in-Some c = ap (λ n. take n c.args.raw.now) (sym (found_at 13 c.args.raw.now c.in-Some.end c.in-Some.ensures))

pub returns-in-None : goal.returns-in-None
returns-in-None c =
    let raw = c.args.raw.now in
    let whole = lacks_place 13 raw (lacks_found 13 raw c.in-None.ensures) in
    sym (ap (λ n. take n raw) whole ∙ take_all (length raw) raw (omega arith))
