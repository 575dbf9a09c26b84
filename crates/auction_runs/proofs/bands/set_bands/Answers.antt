use Rattle.std.proofs.Common.{◌≡◌, Ok}
use Rattle.auction_runs.proofs.Tabled.{handed_on, made_undamaged, own_or_none}
use Rattle.auction_runs.proofs.bands.set_bands.Goals as goal

pub returns-in_err-apply-in-Ok-Ok-clause-fault : goal.returns-in_err-apply-in-Ok-Ok-clause-fault
returns-in_err-apply-in-Ok-Ok-clause-fault g c =
    let k = g.K.Keep in
    let is : c.decide.result ≡ Ok (Ok c.in-Ok-Ok.change) = cc in
    handed_on k.content k.is_failed k.is_honest c.args.moment c.args.command.now c.args.keep.now
    c.apply.new.self c.apply.result c.in_err-apply-in-Ok-Ok.field-0.0 c.from_residual.result
    c.from_residual.ensures c.in_err-apply-in-Ok-Ok.was c.apply.ensures.faults.store
    (made_undamaged k c.args.moment 0 c.args.command.now c.args.keep.now c.decide.new.keep
    c.apply.new.self c.decide.result c.in-Ok-Ok.change c.apply.result c.requires.table
    c.decide.ensures is c.apply.ensures)
    (own_or_none k c.args.moment c.args.command.now c.args.keep.now c.decide.new.keep
    c.apply.new.self c.decide.result c.in-Ok-Ok.change c.apply.result c.decide.ensures is
    c.apply.ensures)

pub returns-in_err-editions-in-Ok-Ok-clause-fault :
    goal.returns-in_err-editions-in-Ok-Ok-clause-fault
returns-in_err-editions-in-Ok-Ok-clause-fault g c =
    let k = g.K.Keep in
    let is : c.decide.result ≡ Ok (Ok c.in-Ok-Ok.change) = cc in
    handed_on k.content k.is_failed k.is_honest c.args.moment c.args.command.now c.args.keep.now
    c.apply.new.self c.editions.result c.in_err-editions-in-Ok-Ok.field-0.0
    c.from_residual-in_err-editions-in-Ok-Ok.result c.from_residual-in_err-editions-in-Ok-Ok.ensures
    c.in_err-editions-in-Ok-Ok.was c.editions.ensures.faults.store
    (λ honest few. c.editions.ensures.damaged honest tt)
    (own_or_none k c.args.moment c.args.command.now c.args.keep.now c.decide.new.keep
    c.apply.new.self c.decide.result c.in-Ok-Ok.change c.apply.result c.decide.ensures is
    c.apply.ensures)
