use Rattle.std.proofs.Common.{◌≡◌, ◌∙◌, Err}
use Rattle.std.specs.Prelude.{List, ℕ}
use Rattle.std.specs.declared.alloc.Global.{Global}
use Rattle.json.specs.Value.{value_view}
use Rattle.site_bodies.specs.declared.fault.BodyFault.{BodyFault}
use Rattle.site_bodies.specs.declared.fault.BodyFault.TheVariants as fault
use Rattle.site_bodies.specs.Tree.{IsTreeOf}
use Rattle.site_bodies.specs.Members.{IsTree, Reads}
use Rattle.site_bodies.proofs.Readable.{body_refused, deep_readable, members_are, none_means, tree_means}
use Rattle.site_bodies.proofs.tree.Tree.read.Goals as goal

no_tree : (bytes text : List ℕ) (e : BodyFault) → text ≡ bytes → IsTree {A = Global} text (Err e) → IsTreeOf bytes (Err e)
no_tree bytes text fault.NoObject same is = none_means bytes text same is
no_tree bytes text fault.Memory same is = tt

not_read : (bytes : List ℕ) (e : BodyFault) → Reads bytes (Err e) → IsTreeOf bytes (Err e)
not_read bytes fault.NoObject is = is
not_read bytes fault.Memory is = tt

pub returns-in_default : goal.returns-in_default
returns-in_default c = body_refused c.args.bytes.now (λ utf8. absurd (c.in_default.ensures.cases.0 utf8))

pub returns-in-Err : goal.returns-in-Err
returns-in-Err c = no_tree c.args.bytes.now c.in-Ok.text.now c.in-Err.fault c.in-Ok.ensures.cases.0 c.in-Err.ensures

pub returns-in-Readable : goal.returns-in-Readable
returns-in-Readable c =
    let j = value_view c.in-Ok-tree_of.tree in
    tree_means c.args.bytes.now c.in-Ok.text.now j c.in-Ok.ensures.cases.0 c.in-Ok.ensures.cases.1
    c.in-Ok-tree_of.ensures ∙ members_are j c.in-Readable.ensures

pub returns-in-Refused : goal.returns-in-Refused
returns-in-Refused c = tree_means c.args.bytes.now c.in-Ok.text.now
    (value_view c.in-Ok-tree_of.tree) c.in-Ok.ensures.cases.0 c.in-Ok.ensures.cases.1 c.in-Ok-tree_of.ensures
    ∙ c.in-Refused.ensures

pub returns-in-Err-reads : goal.returns-in-Err-reads
returns-in-Err-reads c = not_read c.args.bytes.now c.in-Err-reads.fault c.in-Err-reads.ensures

pub returns-in-Ok-reads : goal.returns-in-Ok-reads
returns-in-Ok-reads c =
    let j = value_view c.in-Ok-tree_of.tree in
    let deep = c.in-Deep.ensures in
    let read = c.in-Ok-reads.ensures in
    tree_means c.args.bytes.now c.in-Ok.text.now j c.in-Ok.ensures.cases.0 c.in-Ok.ensures.cases.1
    c.in-Ok-tree_of.ensures
    ∙ members_are j (deep_readable c.in-Ok.text.now c.args.bytes.now j deep.0 read.0 c.in-Ok.ensures.cases.0
    c.in-Ok-tree_of.ensures deep.1 read.2)
