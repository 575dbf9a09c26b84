use Rattle.std.proofs.Common.{refl}
use Rattle.auction_words.proofs.CommandLemmas.{last_argument}
use Rattle.auction_words.proofs.commands.upgrade_command.Goals as goal

pub returns : goal.returns
returns c = last_argument c.arg.result _ _ c.arg.ensures c.subcommand.ensures c.house_file.ensures refl
