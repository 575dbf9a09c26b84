use Rattle.house_laws.proofs.AskedSeen.{asker_has, seller_has}
use Rattle.house_laws.proofs.Asking.{ask_unread, ask_unseen}
use Rattle.house_laws.proofs.privacy.questions_are_private_until_answered.Goals as goal

pub returns-clause-asker : goal.returns-clause-asker
returns-clause-asker c = asker_has

pub returns-clause-seller : goal.returns-clause-seller
returns-clause-seller c = seller_has

pub returns-clause-unseen : goal.returns-clause-unseen
returns-clause-unseen c = ask_unseen

pub returns-clause-unread : goal.returns-clause-unread
returns-clause-unread c = ask_unread
