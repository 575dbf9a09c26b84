use Rattle.std.proofs.Common.{arith}
use Rattle.store_rows.proofs.StateLemmas.{ok_then}
use Rattle.house_rows.specs.Bids.{BidRow}
use Rattle.store_bids.proofs.BidLemmas.{IsSmall, adds_bid}
use Rattle.store_bids.proofs.Free.{number_free}
use Rattle.store_bids.proofs.bidding.put_bid.Goals as goal

pub returns-clause-ok : goal.returns-clause-ok
returns-clause-ok g c clean =
    let house = c.run.ensures.house clean in
    let row : BidRow = record { item = c.args.item; bid = c.args.bid } in
    let small : IsSmall row = record { item = omega (arith, c.ranges.item); number = omega (arith, c.well_formed.1.1.0.1.1.1.1.1.0.1); member = omega (arith, c.well_formed.1.1.0.1.1.1.0.1); maximum = omega (arith, c.value-maximum.ensures.value, c.value-maximum.ensures.within) } in
    ok_then c.run.result (rw (c.params-to_sql.ensures, c.params-to_sql-2.ensures, c.params-to_sql-3.ensures, c.params-to_sql-4.ensures, c.value-maximum.ensures.value) at (c.run.ensures.ran clean))
    (λ _ ran. adds_bid _ _ row ran.0 small house ran.1)

pub returns-clause-free : goal.returns-clause-free
returns-clause-free g c clean =
    let house = c.run.ensures.house clean in
    let row : BidRow = record { item = c.args.item; bid = c.args.bid } in
    let small : IsSmall row = record { item = omega (arith, c.ranges.item); number = omega (arith, c.well_formed.1.1.0.1.1.1.1.1.0.1); member = omega (arith, c.well_formed.1.1.0.1.1.1.0.1); maximum = omega (arith, c.value-maximum.ensures.value, c.value-maximum.ensures.within) } in
    ok_then c.run.result (rw (c.params-to_sql.ensures, c.params-to_sql-2.ensures, c.params-to_sql-3.ensures, c.params-to_sql-4.ensures, c.value-maximum.ensures.value) at (c.run.ensures.ran clean))
    (λ _ ran. number_free row _ _ small.item small.number (adds_bid _ _ row ran.0 small house ran.1))
