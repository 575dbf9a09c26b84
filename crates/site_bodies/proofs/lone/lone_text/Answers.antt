use Rattle.std.proofs.Common.{ap, ◌++◌, ◌∙◌}
use Rattle.site_bodies.proofs.Alone.{text_alone}
use Rattle.site_bodies.proofs.lone.lone_text.Goals as goal

pub returns : goal.returns
returns c =
    let named = c.in_ok-named.ensures ∙ ap (λ l. l ++ c.in_ok-named.named.now) c.as_bytes.ensures.value in
    text_alone c.args.name c.in_ok-before_quote.field-0.now c.plain_text.result c.requires.plain c.requires.ascii c.in_ok-rest_after.ensures named
    c.in_ok-rest_after-2.ensures c.after_space.ensures c.in_ok-value.ensures c.in_ok-before_quote.ensures c.plain_text.ensures
