use Rattle.std.proofs.Common.{◌-◌, length, arith}
use Rattle.std.proofs.lemmas.Str.{IsCharBoundary-before_ascii, IsCharBoundary-after_ascii}
use Rattle.pages_json.proofs.Texts.{key_closes, key_long, key_opens}
use Rattle.pages_json.proofs.tree.name_in.Goals as goal

pub range-requires-clause-start_boundary : goal.range-requires-clause-start_boundary
range-requires-clause-start_boundary c = λ _.
    IsCharBoundary-after_ascii c.args.key.now 1 c.utf8.key (omega (arith, key_long c.args.key.now c.requires)) (omega (arith, key_opens c.args.key.now c.requires))

pub range-requires-clause-end_boundary : goal.range-requires-clause-end_boundary
range-requires-clause-end_boundary c =
    IsCharBoundary-before_ascii c.args.key.now (length c.args.key.now - 2) (omega (arith, key_long c.args.key.now c.requires)) (omega (arith, key_closes c.args.key.now c.requires))
