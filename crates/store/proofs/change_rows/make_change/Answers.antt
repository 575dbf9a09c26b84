-- The counts after a change number what it adds.
use Rattle.std.proofs.Common.{◌≡◌, ◌∙◌, ap, arith, length, subst, sym}
use Rattle.std.specs.Prelude.{IfSome}
use Rattle.std.proofs.lemmas.List.{length-append}
use Rattle.sqlite.specs.Held.{state}
use Rattle.sqlite.specs.State.{HasCleanDisk}
use Rattle.house_rows.specs.Found.{counts_of}
use Rattle.house_rows.specs.declared.change.Change.{Change}
use Rattle.house_rows.specs.declared.people.Counts.{Counts}
use Rattle.house_rows.specs.Editions.{BandTables}
use Rattle.house_rows.specs.Items.{is_due}
use Rattle.house_rows.specs.Tables.{ItemRow, band_tables}
use Rattle.steps.specs.Table.{IsBandTable}
use Rattle.store_rows.specs.Rows.{reserves_in}
use Rattle.store_rows.specs.Tables.{reserves_after, tables_in}
use Rattle.store.specs.After.{bands_set, counts_after, with_table}
use Rattle.store.proofs.Known.{row_by, seen_by, where_by}
use Rattle.store.proofs.Moves.{editions_long}
use Rattle.store.proofs.change_rows.make_change.Goals as goal

pub register-requires-clause-numbered : goal.register-requires-clause-numbered
unfolding tables_in
register-requires-clause-numbered g c = λ honest.
    ap (λ (k : Counts). k.members) (c.requires.counted honest ∙ ap (counts_after (counts_of (tables_in (state g.S.Store c.args.conn.now).now.trees))) c.in-Register.is)

pub add_category-requires-clause-numbered : goal.add_category-requires-clause-numbered
unfolding tables_in
add_category-requires-clause-numbered g c = λ honest.
    ap (λ (k : Counts). k.categories) (c.requires.counted honest ∙ ap (counts_after (counts_of (tables_in (state g.S.Store c.args.conn.now).now.trees))) c.in-AddCategory.is)

pub list-requires-clause-numbered : goal.list-requires-clause-numbered
unfolding tables_in
list-requires-clause-numbered g c = λ honest.
    ap (λ (k : Counts). k.items) (c.requires.counted honest ∙ ap (counts_after (counts_of (tables_in (state g.S.Store c.args.conn.now).now.trees))) c.in-List.is)

pub set_next-requires-clause-valid : goal.set_next-requires-clause-valid
set_next-requires-clause-valid g c =
    subst (λ (change : Change). IfSome (bands_set change) IsBandTable) c.in-SetBands.is c.requires.valid

pub set_next-requires-clause-counted : goal.set_next-requires-clause-counted
unfolding tables_in
set_next-requires-clause-counted g c = λ honest.
    ap (λ (k : Counts). k.items) (c.requires.counted honest ∙ ap (counts_after (counts_of (tables_in (state g.S.Store c.args.conn.now).now.trees))) c.in-SetBands.is)

-- the rules have the new table already
pub set_next-requires-clause-next : goal.set_next-requires-clause-next
set_next-requires-clause-next g c = λ honest.
    let db = (state g.S.Store c.args.conn.now).now.trees in
    let long = ap (λ (b : BandTables). length b.later) (c.requires.editions honest
    ∙ ap (λ (change : Change). with_table (band_tables (tables_in db)) c.args.after.items (bands_set change)) c.in-SetBands.is) in
    omega (arith, c.newest.ensures, long, editions_long db, length-append (band_tables (tables_in db)).later)

pub bid-requires-clause-seen : goal.bid-requires-clause-seen
bid-requires-clause-seen g c = λ honest.
    seen_by _ _ c.args.seen.now (c.requires.editions honest ∙ ap (λ (change : Change). with_table (band_tables (tables_in (state g.S.Store c.args.conn.now).now.trees)) c.args.after.items (bands_set change)) c.in-Bid.is) (c.requires.seen honest)

pub bid-requires-clause-editions : goal.bid-requires-clause-editions
bid-requires-clause-editions g c = λ honest.
    c.requires.editions honest ∙ ap (λ (change : Change). with_table (band_tables (tables_in (state g.S.Store c.args.conn.now).now.trees)) c.args.after.items (bands_set change)) c.in-Bid.is

pub bid-requires-clause-reserves : goal.bid-requires-clause-reserves
bid-requires-clause-reserves g c = λ honest.
    c.requires.reserves honest ∙ ap (λ (change : Change). reserves_after (reserves_in (state g.S.Store c.args.conn.now).now.trees) c.args.after.items change) c.in-Bid.is

pub buy-requires-clause-seen : goal.buy-requires-clause-seen
buy-requires-clause-seen g c = λ honest.
    seen_by _ _ c.args.seen.now (c.requires.editions honest ∙ ap (λ (change : Change). with_table (band_tables (tables_in (state g.S.Store c.args.conn.now).now.trees)) c.args.after.items (bands_set change)) c.in-Buy.is) (c.requires.seen honest)

pub buy-requires-clause-editions : goal.buy-requires-clause-editions
buy-requires-clause-editions g c = λ honest.
    c.requires.editions honest ∙ ap (λ (change : Change). with_table (band_tables (tables_in (state g.S.Store c.args.conn.now).now.trees)) c.args.after.items (bands_set change)) c.in-Buy.is

pub buy-requires-clause-reserves : goal.buy-requires-clause-reserves
buy-requires-clause-reserves g c = λ honest.
    c.requires.reserves honest ∙ ap (λ (change : Change). reserves_after (reserves_in (state g.S.Store c.args.conn.now).now.trees) c.args.after.items change) c.in-Buy.is

pub close-requires-clause-editions : goal.close-requires-clause-editions
close-requires-clause-editions g c = λ honest.
    c.requires.editions honest ∙ ap (λ (change : Change). with_table (band_tables (tables_in (state g.S.Store c.args.conn.now).now.trees)) c.args.after.items (bands_set change)) c.in-Close.is

pub close-requires-clause-reserves : goal.close-requires-clause-reserves
close-requires-clause-reserves g c = λ honest.
    c.requires.reserves honest ∙ ap (λ (change : Change). reserves_after (reserves_in (state g.S.Store c.args.conn.now).now.trees) c.args.after.items change) c.in-Close.is

pub settle-requires-clause-seen : goal.settle-requires-clause-seen
settle-requires-clause-seen g c = λ honest.
    seen_by _ _ c.args.seen.now (c.requires.editions honest ∙ ap (λ (change : Change). with_table (band_tables (tables_in (state g.S.Store c.args.conn.now).now.trees)) c.args.after.items (bands_set change)) c.in-Settle.is) (c.requires.seen honest)

pub settle-requires-clause-editions : goal.settle-requires-clause-editions
settle-requires-clause-editions g c = λ honest.
    c.requires.editions honest ∙ ap (λ (change : Change). with_table (band_tables (tables_in (state g.S.Store c.args.conn.now).now.trees)) c.args.after.items (bands_set change)) c.in-Settle.is

pub settle-requires-clause-reserves : goal.settle-requires-clause-reserves
settle-requires-clause-reserves g c = λ honest.
    c.requires.reserves honest ∙ ap (λ (change : Change). reserves_after (reserves_in (state g.S.Store c.args.conn.now).now.trees) c.args.after.items change) c.in-Settle.is

pub returns-in-Bid-clause-damaged : goal.returns-in-Bid-clause-damaged
returns-in-Bid-clause-damaged g c clean fits rows free =
    let db = (state g.S.Store c.args.conn.now).now.trees in
    let before : HasCleanDisk (state g.S.Store c.args.conn.now) = omega (arith, c.bid.ensures.commit.crash.clean, clean) in
    let known : band_tables (tables_in db) ≡ c.args.rules.now.editions =
    sym (c.requires.editions before ∙ ap (λ (change : Change). with_table (band_tables (tables_in db)) c.args.after.items (bands_set change)) c.in-Bid.is) in
    c.bid.ensures.damaged clean (row_by db c.args.rules.now.editions known c.in-Bid.item (rw c.in-Bid.is at rows)) (rw c.in-Bid.is at fits) (rw c.in-Bid.is at free)

pub returns-in-Buy-clause-damaged : goal.returns-in-Buy-clause-damaged
returns-in-Buy-clause-damaged g c clean fits rows free =
    let db = (state g.S.Store c.args.conn.now).now.trees in
    let before : HasCleanDisk (state g.S.Store c.args.conn.now) = omega (arith, c.buy.ensures.commit.crash.clean, clean) in
    let known : band_tables (tables_in db) ≡ c.args.rules.now.editions =
    sym (c.requires.editions before ∙ ap (λ (change : Change). with_table (band_tables (tables_in db)) c.args.after.items (bands_set change)) c.in-Buy.is) in
    c.buy.ensures.damaged clean (row_by db c.args.rules.now.editions known c.in-Buy.item (rw c.in-Buy.is at rows)) (rw c.in-Buy.is at fits)

pub returns-in-Settle-clause-damaged : goal.returns-in-Settle-clause-damaged
returns-in-Settle-clause-damaged g c clean fits rows free =
    let db = (state g.S.Store c.args.conn.now).now.trees in
    let before : HasCleanDisk (state g.S.Store c.args.conn.now) = omega (arith, c.settle.ensures.commit.crash.clean, clean) in
    let known : band_tables (tables_in db) ≡ c.args.rules.now.editions =
    sym (c.requires.editions before ∙ ap (λ (change : Change). with_table (band_tables (tables_in db)) c.args.after.items (bands_set change)) c.in-Settle.is) in
    c.settle.ensures.damaged clean (row_by db c.args.rules.now.editions known c.in-Settle.item (rw c.in-Settle.is at rows)) (rw c.in-Settle.is at fits)

pub returns-in-Close-clause-damaged : goal.returns-in-Close-clause-damaged
returns-in-Close-clause-damaged g c clean fits rows free =
    let db = (state g.S.Store c.args.conn.now).now.trees in
    let before : HasCleanDisk (state g.S.Store c.args.conn.now) = omega (arith, c.close.ensures.commit.crash.clean, clean) in
    let known : band_tables (tables_in db) ≡ c.args.rules.now.editions =
    sym (c.requires.editions before ∙ ap (λ (change : Change). with_table (band_tables (tables_in db)) c.args.after.items (bands_set change)) c.in-Close.is) in
    c.close.ensures.damaged clean (rw c.in-Close.is at fits)
    (where_by db c.args.rules.now.editions known (λ (row : ItemRow). is_due c.in-Close.moment row.item.terms) (rw c.in-Close.is at rows))
