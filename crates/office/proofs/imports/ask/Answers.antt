use Rattle.std.specs.Cow.{cow_slice_items}
use Rattle.office.proofs.imports.ask.Goals as goal

pub returns-clause-report : goal.returns-clause-report
returns-clause-report g c =
    let (asked, by_text, step) = c.reply-reply.ensures.step in
    record {
      asked = asked;
      by_text = by_text;
      reply = cow_slice_items c.reply-reply.result;
      step = step;
      report = rw c.deref.ensures.value at c.write_outcome.ensures.report;
      failed = rw c.deref.ensures.value at c.write_outcome.ensures.failed;
    }
