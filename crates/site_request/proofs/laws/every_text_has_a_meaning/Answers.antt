use Rattle.std.proofs.Common.{refl}
use Rattle.site_request.specs.Asked.{asked_of}
use Rattle.wire.proofs.SomeFrame.{some_frame}
use Rattle.site_request.proofs.laws.every_text_has_a_meaning.Goals as goal

pub returns : goal.returns
returns c = λ text. let (frame, is) = some_frame text in (asked_of frame, (frame, is, refl))
