use Rattle.std.proofs.Common.{refl, sym, ◌∙◌}
use Rattle.std.proofs.lemmas.Bool.{false≢true}
use Rattle.csv.specs.Records.{fields_of}
use Rattle.office.proofs.Fields.{named, seven}
use Rattle.office.proofs.records.is_head.Goals as goal

pub returns : goal.returns
returns c = (
  λ _. seven (fields_of c.args.row.now) _ _ _ _ _ _ _ (sym c.len.ensures ∙ c.if-len-ne-COLUMNS.false)
      (c.is_name.ensures.0 c.if-not-is_name.false) (c.is_name-2.ensures.0 c.if-not-is_name-2.false)
      (c.is_name-3.ensures.0 c.if-not-is_name-3.false) (c.is_name-4.ensures.0 c.if-not-is_name-4.false)
      (c.is_name-5.ensures.0 c.if-not-is_name-5.false) (c.is_name-6.ensures.0 c.if-not-is_name-6.false)
      (c.is_name-7.ensures.0 c.if-not-is_name-7.false),
  λ _. refl,
)

pub returns-then-not-is_name : goal.returns-then-not-is_name
returns-then-not-is_name c = (
  λ t. absurd (false≢true t),
  λ is. sym c.if-not-is_name.true ∙ c.is_name.ensures.1 (named (fields_of c.args.row.now) is).0,
)

pub returns-then-not-is_name-2 : goal.returns-then-not-is_name-2
returns-then-not-is_name-2 c = (
  λ t. absurd (false≢true t),
  λ is. sym c.if-not-is_name-2.true ∙ c.is_name-2.ensures.1 (named (fields_of c.args.row.now) is).1,
)

pub returns-then-not-is_name-3 : goal.returns-then-not-is_name-3
returns-then-not-is_name-3 c = (
  λ t. absurd (false≢true t),
  λ is. sym c.if-not-is_name-3.true ∙ c.is_name-3.ensures.1 (named (fields_of c.args.row.now) is).2,
)

pub returns-then-not-is_name-4 : goal.returns-then-not-is_name-4
returns-then-not-is_name-4 c = (
  λ t. absurd (false≢true t),
  λ is. sym c.if-not-is_name-4.true ∙ c.is_name-4.ensures.1 (named (fields_of c.args.row.now) is).3,
)

pub returns-then-not-is_name-5 : goal.returns-then-not-is_name-5
returns-then-not-is_name-5 c = (
  λ t. absurd (false≢true t),
  λ is. sym c.if-not-is_name-5.true ∙ c.is_name-5.ensures.1 (named (fields_of c.args.row.now) is).4,
)

pub returns-then-not-is_name-6 : goal.returns-then-not-is_name-6
returns-then-not-is_name-6 c = (
  λ t. absurd (false≢true t),
  λ is. sym c.if-not-is_name-6.true ∙ c.is_name-6.ensures.1 (named (fields_of c.args.row.now) is).5,
)

pub returns-then-not-is_name-7 : goal.returns-then-not-is_name-7
returns-then-not-is_name-7 c = (
  λ t. absurd (false≢true t),
  λ is. sym c.if-not-is_name-7.true ∙ c.is_name-7.ensures.1 (named (fields_of c.args.row.now) is).6,
)
