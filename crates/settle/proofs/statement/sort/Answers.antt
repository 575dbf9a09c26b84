use Rattle.std.proofs.Common.{rules}
use Rattle.std.proofs.lemmas.Result.{IfOk-weaker}
use Rattle.std.proofs.lemmas.List.Sorted.{answers_always}
use Rattle.settle.proofs.statement.sort.Goals as goal
use Rattle.settle.proofs.OrderLemmas.{sort_is}

pub returns : goal.returns
returns c =
    IfOk-weaker c.sort_by_key.result _ _ (λ _ s.
    sort_is c.args.rows.now.items c.sort_by_key.new.self.items c.requires.items c.requires.numbers c.sort_by_key.ensures.permutation
    (s (λ l. (l.day, l.item)) (answers_always _ _ _ (λ f a r g h. search rules)))) c.sort_by_key.ensures.sorted
