use Rattle.std.proofs.Common.{◌≡◌, ◌==◌, ◌&&◌, ◌∙◌, true, arith, inl, subst, sym}
use Rattle.std.specs.List.{list_any}
use Rattle.sqlite.specs.Effect.{Database}
use Rattle.sqlite.specs.Held.{state}
use Rattle.sqlite.specs.State.{HasCleanDisk}
use Rattle.store_rows.specs.House.{IsHouse}
use Rattle.store_rows.specs.Tables.{tables_in}
use Rattle.store_rows.proofs.Steps.{both_same, both_survive}
use Rattle.store_bids.proofs.Begins.{bids_sorted}
use Rattle.store_bids.proofs.Placing.{ended_after}
use Rattle.store_bids.proofs.bidding.placing_fault.Goals as goal

pub has_bid-requires : goal.has_bid-requires
has_bid-requires g c clean =
    let same = (c.is_still_open.ensures.same clean c.if-not-is_still_open.false).0 in
    let before : HasCleanDisk (state g.S.Store c.args.conn.now) = omega (arith, c.is_still_open.ensures.crash.clean, clean) in
    (same.is_open, subst IsHouse (sym same.now_is) (c.requires before same.was_open))

pub returns-then-is_taken-clause-taken : goal.returns-then-is_taken-clause-taken
returns-then-is_taken-clause-taken g c = λ clean calm e.
    let mid : HasCleanDisk (state g.S.Store c.is_still_open.new.conn) = omega (arith, c.has_bid.ensures.finds.read.crash.clean, clean) in
    let same = (c.is_still_open.ensures.same mid c.if-not-is_still_open.false).0 in
    let found = sym (bids_sorted (state g.S.Store c.is_still_open.new.conn).now.trees c.args.item c.args.number) ∙ sym (c.in-Ok.ensures.finds.value clean) ∙ c.if-is_taken.true in
    (same.was_open, subst (λ (db : Database). list_any (λ b. (b.item == c.args.item) && (b.bid.no == c.args.number)) (tables_in db.trees).bids ≡ true) same.now_is found)

pub returns-then-is_taken-clause-kept : goal.returns-then-is_taken-clause-kept
returns-then-is_taken-clause-kept g c = λ clean.
    let mid : HasCleanDisk (state g.S.Store c.is_still_open.new.conn) = omega (arith, c.has_bid.ensures.finds.read.crash.clean, clean) in
    inl (both_same _ _ _ (c.is_still_open.ensures.same mid c.if-not-is_still_open.false) (c.in-Ok.ensures.finds.read.same clean))

pub returns-else-is_taken-clause-kept : goal.returns-else-is_taken-clause-kept
returns-else-is_taken-clause-kept g c = λ clean.
    let mid : HasCleanDisk (state g.S.Store c.is_still_open.new.conn) = omega (arith, c.has_bid.ensures.finds.read.crash.clean, clean) in
    inl (both_same _ _ _ (c.is_still_open.ensures.same mid c.if-not-is_still_open.false) (c.in-Ok.ensures.finds.read.same clean))

pub returns-in-Err-clause-kept : goal.returns-in-Err-clause-kept
returns-in-Err-clause-kept g c = λ clean.
    let mid : HasCleanDisk (state g.S.Store c.is_still_open.new.conn) = omega (arith, c.has_bid.ensures.finds.read.crash.clean, clean) in
    ended_after _ _ _ (c.is_still_open.ensures.same mid c.if-not-is_still_open.false) (c.in-Err.ensures.finds.read.err clean)

pub returns-then-is_taken-clause-crash : goal.returns-then-is_taken-clause-crash
returns-then-is_taken-clause-crash g c = both_survive _ _ _ c.is_still_open.ensures.crash c.has_bid.ensures.finds.read.crash

pub returns-else-is_taken-clause-crash : goal.returns-else-is_taken-clause-crash
returns-else-is_taken-clause-crash g c = both_survive _ _ _ c.is_still_open.ensures.crash c.has_bid.ensures.finds.read.crash

pub returns-in-Err-clause-crash : goal.returns-in-Err-clause-crash
returns-in-Err-clause-crash g c = both_survive _ _ _ c.is_still_open.ensures.crash c.has_bid.ensures.finds.read.crash
