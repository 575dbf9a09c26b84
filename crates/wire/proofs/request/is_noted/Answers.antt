use Rattle.std.proofs.Common.{◌≡◌, length, take, arith, sym, ◌∙◌}
use Rattle.std.proofs.lemmas.List.{take_all}
use Rattle.std.proofs.lemmas.Slice.Eq.{bytes_eq-Decides}
use Rattle.wire.proofs.request.is_noted.Goals as goal

pub returns-then-name-noted : goal.returns-then-name-noted
returns-then-name-noted c is =
    let name = c.args.name.now in
    let noted = c.args.noted.now in
    let front : noted ≡ take (length noted) name = (bytes_eq-Decides noted (take (length noted) name)).0 (sym
    c.starts_with.ensures.value ∙ is) in
    sym (front ∙ take_all (length noted) name (omega (arith, c.if-name-noted.true)))
