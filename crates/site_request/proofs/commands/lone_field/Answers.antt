use Rattle.std.proofs.Common.{refl, subst, sym}
use Rattle.std.specs.Prelude.{IfSome}
use Rattle.json.specs.Print.{escape_byte}
use Rattle.site_request.specs.declared.command_path.CommandPath.{CommandPath}
use Rattle.site_request.proofs.LoneFields.{IsText, answer_reported, category_reported, question_reported, register_reported}
use Rattle.site_request.proofs.commands.lone_field.Goals as goal

pub lone_text-requires-clause-plain : goal.lone_text-requires-clause-plain
unfolding escape_byte
lone_text-requires-clause-plain c = refl

pub lone_text-requires-in-AddCategory-clause-plain : goal.lone_text-requires-in-AddCategory-clause-plain
unfolding escape_byte
lone_text-requires-in-AddCategory-clause-plain c = refl

pub lone_text-requires-in-Ask-clause-plain : goal.lone_text-requires-in-Ask-clause-plain
unfolding escape_byte
lone_text-requires-in-Ask-clause-plain c = refl

pub lone_text-requires-in-Answer-clause-plain : goal.lone_text-requires-in-Answer-clause-plain
unfolding escape_byte
lone_text-requires-in-Answer-clause-plain c = refl

pub returns-in-Register : goal.returns-in-Register
returns-in-Register c =
    let bytes = c.args.bytes.now in
    subst (λ (o : CommandPath). IfSome c.lone_text.result (λ text. IsText o bytes text.now)) (sym c.in-Register.is)
    (register_reported bytes c.lone_text.result c.lone_text.ensures)

pub returns-in-AddCategory : goal.returns-in-AddCategory
returns-in-AddCategory c =
    let bytes = c.args.bytes.now in
    subst (λ (o : CommandPath). IfSome c.lone_text-in-AddCategory.result (λ text. IsText o bytes text.now))
    (sym c.in-AddCategory.is)
    (category_reported bytes c.lone_text-in-AddCategory.result c.lone_text-in-AddCategory.ensures)

pub returns-in-Ask : goal.returns-in-Ask
returns-in-Ask c =
    let bytes = c.args.bytes.now in
    subst (λ (o : CommandPath). IfSome c.lone_text-in-Ask.result (λ text. IsText o bytes text.now)) (sym c.in-Ask.is)
    (question_reported c.in-Ask.item bytes c.lone_text-in-Ask.result c.lone_text-in-Ask.ensures)

pub returns-in-Answer : goal.returns-in-Answer
returns-in-Answer c =
    let bytes = c.args.bytes.now in
    subst (λ (o : CommandPath). IfSome c.lone_text-in-Answer.result (λ text. IsText o bytes text.now)) (sym c.in-Answer.is)
    (answer_reported c.in-Answer.item c.in-Answer.asker c.in-Answer.number bytes c.lone_text-in-Answer.result
    c.lone_text-in-Answer.ensures)
