use Rattle.std.proofs.Common.{◌==◌, rules}
use Rattle.std.proofs.lemmas.Iterator.Consumers.{nth_from_yields_List}
use Rattle.std.proofs.lemmas.Iterator.Splits.{YieldsList-from_slice_split}
use Rattle.site_request.specs.Segments.{segment_at}
use Rattle.site_request.proofs.segment.bytes_at.Goals as goal

pub returns : goal.returns
unfolding segment_at
returns c =
    nth_from_yields_List c.nth.result c.nth.new.self c.args.place c.nth.ensures.ran
    (YieldsList-from_slice_split {s = c.split.result} _ (λ b. b == 47) c.args.target.now c.split.ensures.rest c.split.ensures.done c.split.ensures.closure (search rules))
