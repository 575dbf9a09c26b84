use Rattle.std.proofs.Common.{◌≡◌, ◌++◌, ◌∙◌, ap, refl}
use Rattle.list_items.specs.Rising.{is_among}
use Rattle.list_items.proofs.Among.{among_three}
use Rattle.list_items.proofs.numbers.merge.Goals as goal

pub returns-clause-same : goal.returns-clause-same
returns-clause-same c = λ n.
    let whole : c.extend-3.new.numbers.items ≡ (c.args.first.now ++ c.args.second.now) ++ c.args.third.now =
    rw (c.in_ok-extend-3.ensures.ok, c.in_ok-extend-2.ensures.ok, c.in_ok-extend.ensures.ok, c.new-numbers.ensures.items) refl in
    c.make_rising.ensures.same n ∙ ap (λ ks. is_among ks n) whole ∙ among_three c.args.first.now c.args.second.now c.args.third.now n
