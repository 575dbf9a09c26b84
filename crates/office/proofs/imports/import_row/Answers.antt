use Rattle.std.proofs.Common.{sym, ◌∙◌}
use Rattle.std.specs.Io.KnownBytes.{Appends}
use Rattle.csv.specs.Records.{fields_of}
use Rattle.site.specs.Replies.{IsStep, zone_of}
use Rattle.office.specs.Imports.{keep_of}
use Rattle.office.proofs.Listed.{spelled_listable}
use Rattle.office.proofs.Rows.{done_row, ended_row, unprinted_row, unread_row, write_is_consistent}
use Rattle.office.proofs.imports.import_row.Goals as goal

pub list-requires : goal.list-requires
list-requires g c = spelled_listable (fields_of c.args.row.now) c.in-Ok.lot c.in-Ok.ensures.lot

pub returns-in-Ok-clause-row : goal.returns-in-Ok-clause-row
returns-in-Ok-clause-row g c =
    let k = g.K.Keep in
    let step =
    IsStep k.content k.is_failed k.is_honest k.may_leave (zone_of c.args.site.now) in
    done_row step (Appends (g.W.Write.contents c.args.output.now) (g.W.Write.contents c.list.new.output))
    c.args.by c.args.number (fields_of c.args.row.now) c.in-Ok.lot c.list.result
    (keep_of c.args.site.now) (keep_of c.list.new.site)
    (sym c.len.ensures ∙ c.if-len-ne-COLUMNS.false) c.in-Ok.ensures.lot c.list.ensures.done

pub returns-in-Ok-clause-ended : goal.returns-in-Ok-clause-ended
returns-in-Ok-clause-ended g c =
    let k = g.K.Keep in
    let step =
    IsStep k.content k.is_failed k.is_honest k.may_leave (zone_of c.args.site.now) in
    ended_row step c.args.by c.args.number (fields_of c.args.row.now) c.in-Ok.lot c.list.result
    (keep_of c.args.site.now) (keep_of c.list.new.site)
    (sym c.len.ensures ∙ c.if-len-ne-COLUMNS.false) c.in-Ok.ensures.lot c.list.ensures.ended

pub returns-in-Err-clause-row : goal.returns-in-Err-clause-row
returns-in-Err-clause-row g c =
    let k = g.K.Keep in
    let step =
    IsStep k.content k.is_failed k.is_honest k.may_leave (zone_of c.args.site.now) in
    unread_row step
    (Appends (g.W.Write.contents c.args.output.now) (g.W.Write.contents c.refuse_field.new.output))
    c.args.by c.args.number (fields_of c.args.row.now) c.in-Err.column c.refuse_field.result
    (keep_of c.args.site.now) (sym c.len.ensures ∙ c.if-len-ne-COLUMNS.false)
    c.in-Err.ensures.fault c.refuse_field.ensures.refused c.refuse_field.ensures.line

pub returns-in-Err-clause-ended : goal.returns-in-Err-clause-ended
returns-in-Err-clause-ended g c =
    let k = g.K.Keep in
    let step =
    IsStep k.content k.is_failed k.is_honest k.may_leave (zone_of c.args.site.now) in
    unprinted_row step c.args.by c.args.number (fields_of c.args.row.now) c.in-Err.column
    c.refuse_field.result (keep_of c.args.site.now)
    (sym c.len.ensures ∙ c.if-len-ne-COLUMNS.false) c.in-Err.ensures.fault
    c.refuse_field.ensures.fault

pub returns-in-Err-clause-quiet : goal.returns-in-Err-clause-quiet
returns-in-Err-clause-quiet g c =
    write_is_consistent c.refuse_field.result _ c.refuse_field.ensures.fault
