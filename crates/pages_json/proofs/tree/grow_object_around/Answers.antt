use Rattle.std.proofs.Common.{◌∷◌, [], ◌∙◌, ap, map}
use Rattle.serde_json.proofs.Views.{view-Object}
use Rattle.serde_json.specs.View.{members_view}
use Rattle.pages_json.specs.Fields.{member_of}
use Rattle.pages_json.specs.Words.{array_of}
use Rattle.pages_json.proofs.Trees.{parts_grown}
use Rattle.pages_json.proofs.tree.grow_object_around.Goals as goal

pub returns : goal.returns
returns g c =
    view-Object c.grow_members-2.new.members
    ∙ parts_grown (map member_of c.args.front.now) ((c.args.name.now, array_of (g.F.Shows.tree c.args.form.now) c.args.entries.now) ∷ []) (map member_of c.args.back.now) _ _ _ _
    (ap members_view c.new-members.ensures.empty) c.in_ok-grow_members.ensures.ok c.in_ok-grow_member_list.ensures.ok c.in_ok-grow_members-2.ensures.ok c.requires.order
