use Rattle.std.proofs.Common.{ap, sym, ◌∙◌}
use Rattle.site_bodies.specs.Body.{fields_of, form_fields}
use Rattle.site_bodies.specs.Fields.{maybe_whole_at}
use Rattle.site_bodies.proofs.body.Body.maybe_whole.Goals as goal

pub returns-in-Flat : goal.returns-in-Flat
unfolding fields_of
returns-in-Flat c =
    c.maybe_whole.ensures ∙ ap (λ form. maybe_whole_at c.args.name.now (form_fields form)) (sym c.in-Flat.is)

pub returns-in-Tree : goal.returns-in-Tree
unfolding fields_of
returns-in-Tree c =
    c.maybe_whole-in-Tree.ensures ∙ ap (λ form. maybe_whole_at c.args.name.now (form_fields form)) (sym c.in-Tree.is)
