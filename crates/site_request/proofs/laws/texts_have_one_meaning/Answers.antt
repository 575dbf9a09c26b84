use Rattle.std.proofs.Common.{◌∙◌, sym, ap}
use Rattle.site_request.specs.Asked.{asked_of}
use Rattle.wire.proofs.OneFrame.{one_frame}
use Rattle.site_request.proofs.laws.texts_have_one_meaning.Goals as goal

pub returns : goal.returns
returns c = λ text asked other a b.
    let (frame, is, same) = a in
    let (frame', is', same') = b in
    same ∙ ap asked_of (one_frame text frame frame' is is') ∙ sym same'
