use Rattle.std.proofs.Common.{[], ◌∷◌, ◌∙◌, arith}
use Rattle.pages_json.specs.Words.{array_of, name_in}
use Rattle.pages_json.proofs.Texts.{object_enclosed}
use Rattle.pages_json.proofs.object.put_list.Goals as goal

pub returns-clause-text : goal.returns-clause-text
returns-clause-text g c =
    c.in_ok-end_object.ensures.text
    ∙ object_enclosed ((name_in c.args.key.now, array_of (g.F.Shows.tree c.args.form.now) c.args.entries.now) ∷ []) c.args.out.now.items c.put_member_list.new.out.items c.len-start.result
    (omega arith) c.in_ok-put_member_list.ensures.text
