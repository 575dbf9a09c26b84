use Rattle.std.proofs.Common.{refl}
use Rattle.site_request.specs.Table.{table}
use Rattle.site_request.proofs.Apart.{pairs_apart}
use Rattle.site_request.proofs.laws.no_target_fits_two_patterns.Goals as goal

pub returns : goal.returns
unfolding table
returns c = λ target. pairs_apart target table refl
