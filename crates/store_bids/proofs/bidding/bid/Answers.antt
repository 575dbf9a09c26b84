use Rattle.std.proofs.Common.{◌≡◌, ◌≢◌, ◌==◌, ◌&&◌, ◌∙◌, Err, false, true, true≢false, ap, arith, rules, subst, sym}
use Rattle.std.specs.List.{list_any}
use Rattle.sqlite.specs.Effect.{Database}
use Rattle.sqlite.specs.Held.{state}
use Rattle.sqlite.specs.State.{HasCleanDisk}
use Rattle.house_rows.specs.declared.change.Change.TheVariants as change
use Rattle.house_rows.specs.declared.fault.KeepFault.TheVariants.{Damaged}
use Rattle.store_rows.specs.House.{IsHouse}
use Rattle.store_rows.specs.Tables.{tables_in}
use Rattle.store_bids.specs.Judged.{BidFitsThere}
use Rattle.store_bids.proofs.Placing.{commits_after, commits_reported, still_rests}
use Rattle.store_bids.proofs.bidding.bid.Goals as goal

pub check_standing-requires-clause-serves : goal.check_standing-requires-clause-serves
check_standing-requires-clause-serves g c clean = let rest = c.requires.rests clean in (rest.is_open, rest.house, c.requires.reserves clean)

pub commit_bid-requires-clause-rests : goal.commit_bid-requires-clause-rests
commit_bid-requires-clause-rests g c clean =
    let before : HasCleanDisk (state g.S.Store c.args.conn.now) = omega (arith, c.check_standing.ensures.finds.read.crash.clean, clean) in
    still_rests _ _ (c.in_ok-check_standing.ensures.finds.read.same clean) (c.requires.rests before)

-- after a failure the house is shown that was committed before
pub placing_fault-requires : goal.placing_fault-requires
placing_fault-requires g c clean is_open =
    let mid : HasCleanDisk (state g.S.Store c.check_standing.new.conn) = omega (arith, c.in-Err.ensures.commit.crash.clean, clean) in
    let before : HasCleanDisk (state g.S.Store c.args.conn.now) = omega (arith, c.check_standing.ensures.finds.read.crash.clean, mid) in
    let rest = c.requires.rests before in
    let same = (c.in_ok-check_standing.ensures.finds.read.same mid).0 in
    subst IsHouse (sym ((c.in-Err.ensures.commit.err clean is_open).0 ∙ same.committed_is ∙ sym rest.settled)) rest.house

pub returns-in_err-check_standing-clause-damaged : goal.returns-in_err-check_standing-clause-damaged
returns-in_err-check_standing-clause-damaged g c clean here fits free =
    let before : HasCleanDisk (state g.S.Store c.args.conn.now) = omega (arith, c.check_standing.ensures.finds.read.crash.clean, clean) in
    let fit : BidFitsThere c.args.rules.now.editions c.args.item c.args.standing.now (state g.S.Store c.args.conn.now).now.trees = record { row = here; editions_are = c.requires.editions before; moment = c.args.moment; placed = c.args.placed; bid = fits } in
    let none = c.in_err-check_standing.ensures.finds.damaged clean fit in
    search (rules, none)

pub returns-in-Ok-clause-commit : goal.returns-in-Ok-clause-commit
returns-in-Ok-clause-commit g c =
    commits_after (state g.S.Store c.args.conn.now) (state g.S.Store c.check_standing.new.conn) (state g.S.Store c.commit_bid.new.conn) (change.Bid c.args.moment c.args.item c.args.placed c.args.standing.now) _
    c.in_ok-check_standing.ensures.finds.read.same c.check_standing.ensures.finds.read.crash (rw c.in_ok-moment.ensures.value at c.in-Ok.ensures.commit)

pub returns-in-Err-clause-commit : goal.returns-in-Err-clause-commit
returns-in-Err-clause-commit g c =
    let failed = commits_after (state g.S.Store c.args.conn.now) (state g.S.Store c.check_standing.new.conn) (state g.S.Store c.commit_bid.new.conn) (change.Bid c.args.moment c.args.item c.args.placed c.args.standing.now) _
    c.in_ok-check_standing.ensures.finds.read.same c.check_standing.ensures.finds.read.crash (rw c.in_ok-moment.ensures.value at c.in-Err.ensures.commit) in
    commits_reported (state g.S.Store c.args.conn.now) (state g.S.Store c.commit_bid.new.conn) (state g.S.Store c.placing_fault.new.conn) (change.Bid c.args.moment c.args.item c.args.placed c.args.standing.now) c.in-Err.fault c.placing_fault.result
    failed c.placing_fault.ensures.kept (c.placing_fault.ensures.mode c.in-Err.ensures.commit.mode) c.placing_fault.ensures.crash

pub returns-in-Ok-clause-there : goal.returns-in-Ok-clause-there
returns-in-Ok-clause-there g c = λ clean. (c.in_ok-check_standing.ensures.finds.value (omega (arith, c.in-Ok.ensures.commit.crash.clean, clean))).there

pub returns-in-Ok-clause-start : goal.returns-in-Ok-clause-start
returns-in-Ok-clause-start g c = λ clean. (c.in_ok-check_standing.ensures.finds.value (omega (arith, c.in-Ok.ensures.commit.crash.clean, clean))).start

pub returns-in-Ok-clause-taken : goal.returns-in-Ok-clause-taken
returns-in-Ok-clause-taken g c = λ clean.
    let mid : HasCleanDisk (state g.S.Store c.check_standing.new.conn) = omega (arith, c.in-Ok.ensures.commit.crash.clean, clean) in
    subst (λ (db : Database). list_any (λ b. (b.item == c.args.item) && (b.bid.no == c.args.placed.no)) (tables_in db.trees).bids ≡ false) (c.in_ok-check_standing.ensures.finds.read.same mid).0.now_is (c.in-Ok.ensures.free clean)

pub returns-in-Err-clause-damaged : goal.returns-in-Err-clause-damaged
returns-in-Err-clause-damaged g c clean here fits free is =
    let last : HasCleanDisk (state g.S.Store c.commit_bid.new.conn) = omega (arith, c.placing_fault.ensures.crash.clean, clean) in
    let mid : HasCleanDisk (state g.S.Store c.check_standing.new.conn) = omega (arith, c.in-Err.ensures.commit.crash.clean, last) in
    let before : HasCleanDisk (state g.S.Store c.args.conn.now) = omega (arith, c.check_standing.ensures.finds.read.crash.clean, mid) in
    let calm : c.in-Err.fault ≢ Damaged = λ e. c.in-Err.ensures.sound (ap Err e) in
    let report = c.placing_fault.ensures.taken clean calm (let e : c.placing_fault.result ≡ Damaged = cc in e) in
    let same = (c.in_ok-check_standing.ensures.finds.read.same mid).0 in
    let shown : (state g.S.Store c.commit_bid.new.conn).now ≡ (state g.S.Store c.args.conn.now).now = (c.in-Err.ensures.commit.err last report.0).0 ∙ same.committed_is ∙ sym (c.requires.rests before).settled in
    true≢false (sym (subst (λ (db : Database). list_any (λ b. (b.item == c.args.item) && (b.bid.no == c.args.placed.no)) (tables_in db.trees).bids ≡ true) shown report.1) ∙ free)
