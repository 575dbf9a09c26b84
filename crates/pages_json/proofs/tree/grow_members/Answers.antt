use Rattle.std.proofs.Common.{[], ℕ, List, ◌∙◌, ap₂, arith}
use Rattle.std.proofs.lemmas.Result.{err_from_is_err_and}
use Rattle.serde_json.specs.Data.{Data, put}
use Rattle.serde_json.specs.View.{members_view}
use Rattle.pages_json.specs.declared.field.Field.TheVariants.{Number}
use Rattle.pages_json.specs.Fields.{member_of}
use Rattle.pages_json.proofs.Trees.{all_put, more_put}
use Rattle.pages_json.proofs.tree.grow_members.Goals as goal

pub returns-in_err-value-clause-err : goal.returns-in_err-value-clause-err
returns-in_err-value-clause-err c =
    let exit = err_from_is_err_and c.from_residual.result c.from_residual.ensures.1 in
    rw exit.1 (c.loop-field.field-index, c.loop-field.invariant)

pub returns-in_err-put-clause-err : goal.returns-in_err-put-clause-err
returns-in_err-put-clause-err c =
    let exit = err_from_is_err_and c.from_residual-in_err-put.result c.from_residual-in_err-put.ensures.1 in
    rw exit.1 (c.loop-field.field-index, rw c.in_err-put.ensures.err c.loop-field.invariant)

pub loop-field-preserved : goal.loop-field-preserved
loop-field-preserved c =
    more_put member_of _ _ _ c.args.fields.now c.loop-field.field-index (record { ref_ptr = (0, 0); now = [] }, Number 0) (omega arith) c.loop-field.invariant
    (c.in_ok-put.ensures.ok ∙ ap₂ (λ (name : List ℕ) (tree : Data). put name tree (members_view c.loop-field.members.entries)) c.name_in.ensures c.in_ok-value.ensures)

pub returns-clause-ok : goal.returns-clause-ok
returns-clause-ok c = all_put member_of _ _ c.args.fields.now c.loop-field.field-index (omega arith) c.loop-field.invariant
