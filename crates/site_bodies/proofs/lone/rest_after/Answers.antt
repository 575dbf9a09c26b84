use Rattle.std.proofs.Common.{◌≡◌, ◌-◌, ◌++◌, ◌∙◌, sym, ap, drop, length, take, arith, length-drop}
use Rattle.std.proofs.lemmas.Bool.Decides.{Decides-eqb}
use Rattle.std.proofs.lemmas.List.{take_all}
use Rattle.std.proofs.lemmas.Slice.Eq.{starts_is}
use Rattle.site_bodies.proofs.lone.rest_after.Goals as goal

pub returns-then-starts_with : goal.returns-then-starts_with
returns-then-starts_with c =
    let bytes = c.args.bytes.now in
    let n = length c.args.front.now in
    let all : take (length bytes - n) (drop n bytes) ≡ drop n bytes =
    take_all _ (drop n bytes) (omega (arith, length-drop n bytes)) in
    (starts_is Decides-eqb bytes c.args.front.now c.starts_with.result c.starts_with.ensures.value).0
    c.if-starts_with.true
    ∙ ap (λ l. c.args.front.now ++ l) (sym all)
