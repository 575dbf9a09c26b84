-- What is known of the program's command line, by computing.
use Rattle.std.proofs.Common.{◌≡◌, true, refl}
use Rattle.clap.specs.Words.{is_simple}
use Rattle.clap.proofs.OnLiterals.{clap_on_literals}
use Rattle.auction_words.specs.CommandLine.{house_app}

-- `clap` says which matches this command line has on any words
pub house_is_simple : is_simple house_app ≡ true
unfolding clap_on_literals
house_is_simple = refl
