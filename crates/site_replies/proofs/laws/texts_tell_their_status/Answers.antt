use Rattle.site_replies.proofs.StatusLemmas.{damage_reported, memory_reported, reply_served, store_reported}
use Rattle.site_replies.proofs.laws.texts_tell_their_status.Goals as goal

pub returns-clause-served : goal.returns-clause-served
returns-clause-served c = reply_served

pub returns-clause-memory : goal.returns-clause-memory
returns-clause-memory c = memory_reported

pub returns-clause-store : goal.returns-clause-store
returns-clause-store c = store_reported

pub returns-clause-damaged : goal.returns-clause-damaged
returns-clause-damaged c = damage_reported
