use Rattle.std.proofs.Common.{◌≡◌, ◌∙◌, ◌+◌, ◌≤◌, ℕ, ap, arith, rules}
use Rattle.house_rows.specs.Limits.{most_items}
use Rattle.store_rows.specs.Tables.{tables_in}
use Rattle.store.proofs.change_rows.set_next.Goals as goal

pub set_bands-requires-clause-begins : goal.set_bands-requires-clause-begins
unfolding tables_in
set_bands-requires-clause-begins g c clean =
    let next : c.in-Some.first ≡ c.args.items + 1 = search rules in
    next ∙ ap (λ (n : ℕ). n + 1) (c.requires.counted clean)

-- there are not so many items
pub returns-in_default-clause-damaged : goal.returns-in_default-clause-damaged
returns-in_default-clause-damaged g c clean few fits _ =
    let low : c.args.items ≤ most_items = (let many = c.requires.counted clean in omega (arith, many, few)) in
    search (arith, low)
