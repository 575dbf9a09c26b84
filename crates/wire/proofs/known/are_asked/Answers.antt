-- A name that begins with all of another, and is as long, is that name.
use Rattle.std.proofs.Common.{◌≡◌, List, ℕ, codes, take, arith, ap, sym, ◌∙◌}
use Rattle.std.specs.Str.{str_eq_ignore_ascii_case}
use Rattle.std.proofs.lemmas.List.{take_all}
use Rattle.std.proofs.lemmas.Slice.Eq.{bytes_eq-Decides}
use Rattle.wire.proofs.known.are_asked.Goals as goal

pub returns-then-starts_with-2-clause-moment : goal.returns-then-starts_with-2-clause-moment
returns-then-starts_with-2-clause-moment c =
    let name = c.args.name.now in
    let wanted : List ℕ = codes "x-moment" in
    let front : wanted ≡ take 8 name = (bytes_eq-Decides wanted (take 8 name)).0 (sym c.starts_with-then-name-eq116.ensures.value ∙ c.if-starts_with-2.true) in
    let same : wanted ≡ name = front ∙ take_all 8 name (omega (arith, c.if-name-ne8.false)) in
    ap (λ n. str_eq_ignore_ascii_case n wanted) same
