use Rattle.std.proofs.Common.{ap, ◌++◌, ◌∙◌}
use Rattle.site_bodies.proofs.Alone.{whole_alone}
use Rattle.site_bodies.proofs.lone.lone_whole.Goals as goal

pub returns : goal.returns
returns c =
    let named = c.in_ok-named.ensures ∙ ap (λ l. l ++ c.in_ok-named.named.now) c.as_bytes.ensures.value in
    whole_alone c.args.name c.in_ok-before_brace.field-0.now c.number.result c.requires.plain c.requires.ascii c.in_ok-rest_after.ensures named
    c.in_ok-rest_after-2.ensures c.after_space-value.ensures c.in_ok-before_brace.ensures c.number.ensures
