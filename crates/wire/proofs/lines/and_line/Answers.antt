-- What was counted is of one line more.
use Rattle.std.proofs.Common.{◌++◌, sym, ap, ◌∙◌, subst, append-nil}
use Rattle.wire.specs.Fields.{values_of}
use Rattle.wire.specs.Known.{IsCount}
use Rattle.wire.specs.Lines.{field_in}
use Rattle.wire.proofs.LineLemmas.{values_of-append}
use Rattle.wire.proofs.lines.and_line.Goals as goal

pub returns-in-Some : goal.returns-in-Some
returns-in-Some c = λ fields count.
    let name = c.args.name.now in
    let field = field_in c.args.line.now in
    let more = values_of-append name fields field ∙ ap (λ vs. values_of name fields ++ vs) c.in-Some.ensures in
    subst (λ vs. IsCount vs c.and.result) (sym more) (c.and.ensures (values_of name fields) count)

pub returns-in-None : goal.returns-in-None
returns-in-None c = λ fields count.
    let name = c.args.name.now in
    let field = field_in c.args.line.now in
    let same = values_of-append name fields field ∙ ap (λ vs. values_of name fields ++ vs) c.in-None.ensures
    ∙ append-nil (values_of name fields) in
    subst (λ vs. IsCount vs c.args.values) (sym same) count
