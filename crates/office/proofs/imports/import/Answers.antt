use Rattle.std.proofs.Common.{◌≡◌, ◌∷◌, length, ap, inl, inr, refl, arith}
use Rattle.std.specs.Io.KnownBytes.{Appends}
use Rattle.std.proofs.KnownBytes.{Appends-nil, Appends-trans}
use Rattle.std.proofs.lemmas.Result.{err_from_is_err_and}
use Rattle.site.specs.Replies.{IsStep, zone_of}
use Rattle.steps.specs.Reading.{records_of}
use Rattle.office.specs.Imports.{keep_of}
use Rattle.office.specs.Lines.{totals_line}
use Rattle.office.specs.Lots.{head}
use Rattle.office.proofs.Chains.{all_counted}
use Rattle.office.proofs.Ends.{cut_at_totals}
use Rattle.office.proofs.imports.import.Goals as goal

pub returns-clause-imported : goal.returns-clause-imported
returns-clause-imported g c text is =
    let listed = c.in_ok-report.ensures.imported text
    (c.in_ok-read_head.ensures.ok text (c.plain_reader-reader.ensures text is)) in
    record {
      rows = listed.rows;
      all = listed.all;
      printed = listed.printed;
      imported = listed.imported;
      shown = Appends-trans (g.W.Write.contents c.args.output.now)
          (g.W.Write.contents c.import_rows.new.output)
          (g.W.Write.contents c.print_totals.new.output) listed.printed
          (totals_line c.in_ok-report.report) listed.shown c.in_ok-print_totals.ensures.line;
    }

pub returns-clause-counted : goal.returns-clause-counted
returns-clause-counted g c text is =
    let k = g.K.Keep in
    let step =
    IsStep k.content k.is_failed k.is_honest k.may_leave (zone_of c.args.site.now) in
    let listed = c.in_ok-report.ensures.imported text
    (c.in_ok-read_head.ensures.ok text (c.plain_reader-reader.ensures text is)) in
    let size : length (records_of text) ≡ length (head ∷ listed.rows) = ap length listed.all in
    omega (
      arith,
      size,
      all_counted step c.args.by listed.rows (keep_of c.args.site.now)
          (keep_of c.import_rows.new.site) c.in_ok-report.report listed.printed listed.imported,
    )

pub returns-in_err-read_head-clause-ended : goal.returns-in_err-read_head-clause-ended
returns-in_err-read_head-clause-ended g c =
    let p = err_from_is_err_and c.from_residual.result c.from_residual.ensures.1 in
    rw (p.1, p.2) (λ text is. inl (record {
      why = c.in_err-read_head.ensures.fault text (c.plain_reader-reader.ensures text is);
      same = refl {a = keep_of c.args.site.now};
      shown = Appends-nil (g.W.Write.contents c.args.output.now);
    }))

pub returns-in_err-report-clause-ended : goal.returns-in_err-report-clause-ended
returns-in_err-report-clause-ended g c =
    let p = err_from_is_err_and c.from_residual-in_err-report.result c.from_residual-in_err-report.ensures.1 in
    rw (p.1, p.2) (λ text is. inr (c.in_err-report.ensures.ended text
    (c.in_ok-read_head.ensures.ok text (c.plain_reader-reader.ensures text is))))

pub returns-in_err-print_totals-clause-ended : goal.returns-in_err-print_totals-clause-ended
returns-in_err-print_totals-clause-ended g c =
    let k = g.K.Keep in
    let step =
    IsStep k.content k.is_failed k.is_honest k.may_leave (zone_of c.args.site.now) in
    let p = err_from_is_err_and c.from_residual-in_err-print_totals.result c.from_residual-in_err-print_totals.ensures.1 in
    rw (p.1, p.2) (λ text is. inr (cut_at_totals step
    (Appends (g.W.Write.contents c.args.output.now)
    (g.W.Write.contents c.import_rows.new.output))
    (Appends (g.W.Write.contents c.args.output.now)
    (g.W.Write.contents c.print_totals.new.output))
    c.args.by (records_of text) c.in_ok-report.report _
    (keep_of c.args.site.now) (keep_of c.import_rows.new.site)
    (c.in_ok-report.ensures.imported text
    (c.in_ok-read_head.ensures.ok text (c.plain_reader-reader.ensures text is)))
    c.in_err-print_totals.ensures.fault))
