use Rattle.std.proofs.Common.{refl}
use Rattle.site_request.specs.Asked.{asked_of}
use Rattle.site_request.proofs.CallerLemmas.{message_is_of}
use Rattle.site_request.proofs.laws.messages_are_their_callers.Goals as goal

pub returns-clause-whole : goal.returns-clause-whole
returns-clause-whole c = message_is_of

pub returns-clause-broken : goal.returns-clause-broken
unfolding asked_of
returns-clause-broken c = λ f. refl
