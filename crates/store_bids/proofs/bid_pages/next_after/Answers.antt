use Rattle.std.proofs.Common.{◌≡◌, ◌+◌, ◌-◌, ◌∙◌, Some, ap, arith, length, rules, slice_get, sym}
use Rattle.store_bids.proofs.Numbers.{after_last}
use Rattle.store_bids.proofs.bid_pages.next_after.Goals as goal

pub returns-in-Some-clause-next : goal.returns-in-Some-clause-next
returns-in-Some-clause-next c many some =
    let numbers = c.args.numbers.now in
    let same : c.from.result ≡ c.in-Some.last.now = search rules in
    let found : slice_get numbers (length numbers - 1) ≡ Some c.in-Some.last.now = search rules in
    let place : (length numbers - 1) + 1 ≡ length numbers = omega (arith, some) in
    ap (λ n. n + 1) same ∙ sym (after_last 0 (length numbers - 1) c.in-Some.last.now numbers place found)
