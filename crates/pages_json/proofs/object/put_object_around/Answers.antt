use Rattle.std.proofs.Common.{[], ◌∷◌, ◌++◌, ◌∙◌, ap, arith, map}
use Rattle.pages_json.specs.Fields.{member_of}
use Rattle.pages_json.specs.Words.{array_of, members_text, name_in}
use Rattle.pages_json.proofs.Texts.{three_parts}
use Rattle.pages_json.proofs.object.put_object_around.Goals as goal

pub returns-clause-text : goal.returns-clause-text
returns-clause-text g c =
    let list = (name_in c.args.key.now, array_of (g.F.Shows.tree c.args.form.now) c.args.entries.now) ∷ [] in
    c.in_ok-end_object.ensures.text
    ∙ three_parts (map member_of c.args.front.now) list (map member_of c.args.back.now) c.args.out.now.items c.put_members-2.new.out.items c.len-start.result (omega arith)
    (c.in_ok-put_members-2.ensures.text ∙ ap (λ s. s ++ members_text (map member_of c.args.back.now))
    (c.in_ok-put_member_list.ensures.text ∙ ap (λ s. s ++ members_text list) c.in_ok-put_members.ensures.text))
