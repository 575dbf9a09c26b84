use Rattle.std.proofs.Common.{inr, ◌∙◌}
use Rattle.steps.proofs.ReadLemmas.{read_none}
use Rattle.office.proofs.records.plain_reader.Goals as goal

pub returns : goal.returns
returns g c text is =
    let made = c.from_reader.ensures in
    let flexible = c.flexible.ensures in
    let headless = c.has_headers.ensures in
    read_none g.R.Read.remaining c.from_reader.result text (record {
      untrimmed = rw (flexible, headless) at made.trim ∙ c.new.ensures.trim;
      ready = inr (inr (rw (flexible, headless) at made.has_headers, made.headers));
      config = rw (flexible, headless) at made.config ∙ c.new.ensures.config;
      flexible = rw flexible at made.flexible;
    }) (rw is at made.source) made.state
