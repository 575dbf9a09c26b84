use Rattle.std.proofs.Common.{[], ◌++◌, ◌∙◌, ap, arith, get_or, rules}
use Rattle.pages_json.specs.declared.field.Field.TheVariants.{Number}
use Rattle.pages_json.specs.Fields.{member_of}
use Rattle.pages_json.specs.Words.{is_key}
use Rattle.pages_json.proofs.Texts.{all_at, front_kept, front_then, key_is, members_done, members_step}
use Rattle.pages_json.proofs.object.put_members.Goals as goal

pub returns-in_err-put_value-clause-front : goal.returns-in_err-put_value-clause-front
returns-in_err-put_value-clause-front c =
    front_then _ c.extend_from_slice.new.self.items _ (front_then _ c.loop-field.out.items _ c.loop-field.invariant.front (search (rules, front_kept))) (search rules)

pub loop-field-preserved : goal.loop-field-preserved
loop-field-preserved c =
    let field = get_or c.args.fields.now c.loop-field.field-index (record { ref_ptr = (0, 0); now = [] }, Number 0) in
    let key = key_is field.0.now (all_at (λ m. is_key m.0.now) c.args.fields.now c.loop-field.field-index (record { ref_ptr = (0, 0); now = [] }, Number 0) c.requires (omega arith)) in
    record {
      text = members_step member_of _ c.loop-field.out.items c.extend_from_slice.new.self.items c.put_value.new.out.items c.args.fields.now c.loop-field.field-index
          (record { ref_ptr = (0, 0); now = [] }, Number 0) (omega arith) c.loop-field.invariant.text
          (c.in_ok-extend_from_slice.ensures.items ∙ ap (λ s. c.loop-field.out.items ++ s) (c.as_bytes.ensures.value ∙ key)) c.in_ok-put_value.ensures.text;
      front = front_then _ c.extend_from_slice.new.self.items _ (front_then _ c.loop-field.out.items _ c.loop-field.invariant.front (front_kept _ _ _ c.in_ok-extend_from_slice.ensures.items)) (search rules);
    }

pub returns-clause-text : goal.returns-clause-text
returns-clause-text c = members_done member_of _ c.loop-field.out.items c.args.fields.now c.loop-field.field-index (omega arith) c.loop-field.invariant.text
