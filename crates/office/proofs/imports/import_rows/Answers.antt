use Rattle.std.proofs.Common.{◌∷◌, ◌++◌, ◌∙◌, [], arith, inr, refl}
use Rattle.std.specs.Io.KnownBytes.{Appends}
use Rattle.std.proofs.KnownBytes.{Appends-trans}
use Rattle.std.proofs.lemmas.Result.{err_from_is_err_and}
use Rattle.csv.specs.Records.{fields_of}
use Rattle.site.specs.Replies.{IsStep, zone_of}
use Rattle.office.specs.declared.fault.ImportFault.TheVariants as importing
use Rattle.office.specs.Imports.{keep_of}
use Rattle.office.specs.Lots.{head}
use Rattle.office.proofs.Chains.{imported_more, one_more, ordered_on, is_consistent_on}
use Rattle.office.proofs.Ends.{cut_at_row, cut_between}
use Rattle.office.proofs.imports.import_rows.Goals as goal

pub returns-then-not-branch-clause-imported : goal.returns-then-not-branch-clause-imported
returns-then-not-branch-clause-imported g c text has =
    let (rows, printed, read, imported, shown) = c.loop-before.invariant.read text has in
    record {
      rows = rows;
      all = rw c.if-not-branch.true at (c.in_ok-next.ensures.ok (head ∷ rows) text read);
      printed = printed;
      imported = imported;
      shown = shown;
    }

pub returns-in_err-outcome-clause-ordered : goal.returns-in_err-outcome-clause-ordered
returns-in_err-outcome-clause-ordered g c =
    let k = g.K.Keep in
    let step =
    IsStep k.content k.is_failed k.is_honest k.may_leave (zone_of c.args.site.now) in
    ordered_on step c.args.by (keep_of c.args.site.now) (keep_of c.loop-before.site)
    (keep_of c.import_row.new.site) c.loop-before.invariant.ordered
    (rw c.loop-before.invariant.zone at c.in_err-outcome.ensures.ordered)

pub loop-before-preserved : goal.loop-before-preserved
loop-before-preserved g c =
    let k = g.K.Keep in
    let step =
    IsStep k.content k.is_failed k.is_honest k.may_leave (zone_of c.args.site.now) in
    let so_far = c.loop-before.invariant in
    let done = rw so_far.zone at c.in_ok-outcome.ensures.row in
    let ordered = rw so_far.zone at c.in_ok-outcome.ensures.ordered in
    let outcome = c.in_ok-outcome.outcome in
    let more = one_more c.loop-before.report outcome in
    record {
      counted = rw c.with_outcome-report.ensures (omega (arith, more, so_far.counted));
      zone = c.in_ok-outcome.ensures.zone ∙ so_far.zone;
      ordered = ordered_on step c.args.by (keep_of c.args.site.now) (keep_of c.loop-before.site)
          (keep_of c.import_row.new.site) so_far.ordered ordered;
      read = λ text has.
          let (rows, printed, read, imported, shown) = so_far.read text has in
          let next = rw c.if-not-branch.false
          at (c.in_ok-next.ensures.ok (head ∷ rows) text read) in (
            rows ++ fields_of c.next.new.row ∷ [],
            printed ++ done.0,
            next,
            imported_more step c.args.by rows (fields_of c.next.new.row)
                (keep_of c.args.site.now) (keep_of c.loop-before.site)
                (keep_of c.import_row.new.site) c.loop-before.report c.with_outcome-report.result
                printed done.0 outcome imported (rw so_far.counted done.1) c.with_outcome-report.ensures,
            Appends-trans (g.W.Write.contents c.args.output.now)
                (g.W.Write.contents c.loop-before.output)
                (g.W.Write.contents c.import_row.new.output) printed done.0 shown done.2,
          );
    }

pub returns-in_err-next-clause-ended : goal.returns-in_err-next-clause-ended
returns-in_err-next-clause-ended g c =
    let k = g.K.Keep in
    let step =
    IsStep k.content k.is_failed k.is_honest k.may_leave (zone_of c.args.site.now) in
    let p = err_from_is_err_and c.from_residual.result c.from_residual.ensures.1 in
    rw (p.1, p.2) (λ text has.
    let (rows, printed, read, imported, shown) = c.loop-before.invariant.read text has in
    cut_between g.R.Read.remaining step
    (Appends (g.W.Write.contents c.args.output.now)
    (g.W.Write.contents c.loop-before.output))
    c.args.by c.loop-before.reader rows text _
    (keep_of c.args.site.now) (keep_of c.loop-before.site) c.loop-before.report printed
    read imported shown (c.in_err-next.ensures.fault (head ∷ rows) text read))

pub returns-in_err-outcome-clause-ended : goal.returns-in_err-outcome-clause-ended
returns-in_err-outcome-clause-ended g c =
    let k = g.K.Keep in
    let step =
    IsStep k.content k.is_failed k.is_honest k.may_leave (zone_of c.args.site.now) in
    let so_far = c.loop-before.invariant in
    let p = err_from_is_err_and c.from_residual-in_err-outcome.result c.from_residual-in_err-outcome.ensures.1 in
    let ended = rw so_far.zone at c.in_err-outcome.ensures.ended in
    rw (p.1, p.2) (λ text has.
    let (rows, printed, read, imported, shown) = so_far.read text has in
    let next = rw c.if-not-branch.false
    at (c.in_ok-next.ensures.ok (head ∷ rows) text read) in
    cut_at_row g.R.Read.remaining step
    (Appends (g.W.Write.contents c.args.output.now)
    (g.W.Write.contents c.import_row.new.output))
    c.args.by c.next.new.reader rows (fields_of c.next.new.row) text _
    (keep_of c.args.site.now) (keep_of c.loop-before.site) (keep_of c.import_row.new.site)
    c.loop-before.report printed next imported
    (is_consistent_on (g.W.Write.contents c.args.output.now)
    (g.W.Write.contents c.loop-before.output)
    (g.W.Write.contents c.import_row.new.output) printed _ shown
    c.in_err-outcome.ensures.quiet)
    (rw so_far.counted ended))

pub returns-clause-ended : goal.returns-clause-ended
returns-clause-ended g c text has =
    let k = g.K.Keep in
    let step =
    IsStep k.content k.is_failed k.is_honest k.may_leave (zone_of c.args.site.now) in
    let (rows, printed, read, imported, shown) = c.loop-before.invariant.read text has in
    cut_between g.R.Read.remaining step
    (Appends (g.W.Write.contents c.args.output.now) (g.W.Write.contents c.loop-before.output))
    c.args.by c.loop-before.reader rows text importing.Read
    (keep_of c.args.site.now) (keep_of c.loop-before.site) c.loop-before.report printed
    read imported shown (inr refl)
