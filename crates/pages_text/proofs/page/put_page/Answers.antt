use Rattle.pages_text.proofs.page.put_page.Goals as goal

pub returns-in-OneItem-clause-text : goal.returns-in-OneItem-clause-text
returns-in-OneItem-clause-text c = rw c.in-OneItem.is c.put-in-OneItem.ensures.text
