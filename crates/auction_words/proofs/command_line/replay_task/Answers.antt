use Rattle.std.proofs.Common.{codes, refl}
use Rattle.clap.specs.Matches.{found_of}
use Rattle.auction_words.proofs.AskedLemmas.{flag_read}
use Rattle.auction_words.proofs.command_line.replay_task.Goals as goal

pub returns-in-Ok-clause-asked : goal.returns-in-Ok-clause-asked
returns-in-Ok-clause-asked c =
    let found = found_of c.args.words.now in
    let preset = c.get_flag.ensures in
    let appended = c.get_flag-2.ensures in (
      refl,
      flag_read found (codes "preset") c.get_flag.result preset.none preset.value preset.other,
      flag_read found (codes "record") c.get_flag-2.result appended.none appended.value appended.other,
      c.in-Ok.ensures.asked,
    )
