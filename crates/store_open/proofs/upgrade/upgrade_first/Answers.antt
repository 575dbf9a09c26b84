use Rattle.std.proofs.Common.{◌∙◌, ap, subst, sym, arith, rules, IsTrue}
use Rattle.sqlite_trees.specs.View.{IsClean}
use Rattle.sqlite.specs.Effect.{Database}
use Rattle.sqlite.specs.Held.{state}
use Rattle.sqlite.specs.State.{HasCleanDisk}
use Rattle.sqlite.proofs.StateLemmas.{unchanged}
use Rattle.store_house.specs.Opening.{Upgraded}
use Rattle.store_house.proofs.OpenLemmas.{not_shut}
use Rattle.store_open.proofs.ReadLemmas.{WasRead, was_read}
use Rattle.store_open.proofs.UpgradeLemmas.{gives_back_grown, gives_back_open}
use Rattle.store_open.proofs.upgrade.upgrade_first.Goals as goal

pub returns-in-Ok : goal.returns-in-Ok
returns-in-Ok g c =
    let last = state g.S.Store c.upgrade_read.new.conn in
    let read = c.in-Ok.ensures in
    let found : HasCleanDisk last → WasRead last last c.in-Ok.editions c.in-Ok.clock c.in-Ok.counts c.in-Ok.reserves = λ clean.
    was_read last last _ _ _ _ ((read.rests clean).0, (read.upgraded clean).house) (read.rests clean).1 (unchanged last (read.rests clean).0) (record { has_settings = read.settings clean; has_editions = read.editions clean; have_numbers = read.counts clean; has_reserves = read.reserves clean }) in
    record {
      opened = record {
        rests = λ clean. (found clean).rests;
        editions = λ clean. (found clean).editions_are;
        counts = λ clean. (found clean).counts_are;
        reserves = λ clean. (found clean).reserves_are;
        numbered = λ clean. (found clean).numbered;
        set = λ clean. (found clean).set;
        clock = λ clean. (found clean).clock_is;
        moment = read.moment;
        row = λ clean. (found clean).row;
        only = λ clean db left. g.met.S.Store.settled c.upgrade_read.new.conn.store db (read.rests clean).0 left ∙ ap (λ (d : Database). d.trees) (sym (read.rests clean).1);
        mode = read.mode;
        unlimited = c.upgrade_read.ensures.crash.limit ∙ c.requires.unlimited;
      };
      upgraded = read.upgraded;
      clean = λ clean. omega (arith, c.upgrade_read.ensures.crash.clean, clean);
      left = search rules;
      grown = search rules;
      damaged = search rules;
    }

-- an error gives the store back

pub returns-then-is_broken-clause-grown : goal.returns-then-is_broken-clause-grown
returns-then-is_broken-clause-grown g c =
    let store = c.into_store-store in
    let was = λ (clean : HasCleanDisk (state g.S.Store c.args.conn)). (c.requires.first clean).0 in
    gives_back_grown g.S.Store g.met.S.Store.settled g.met.S.Store.stays c.args.conn c.upgrade_read.new.conn store.result (Upgraded (state g.S.Store c.args.conn).now.trees) was c.upgrade_read.ensures.crash c.in-Err.ensures.err store.ensures.undone store.ensures.quiet
    (λ db clean made. subst (λ (d : Database). Upgraded d.trees db) (c.requires.rests clean) made)

pub returns-else-is_broken-clause-grown : goal.returns-else-is_broken-clause-grown
returns-else-is_broken-clause-grown g c =
    let store = c.into_store-store in
    let was = λ (clean : HasCleanDisk (state g.S.Store c.args.conn)). (c.requires.first clean).0 in
    gives_back_grown g.S.Store g.met.S.Store.settled g.met.S.Store.stays c.args.conn c.upgrade_read.new.conn store.result (Upgraded (state g.S.Store c.args.conn).now.trees) was c.upgrade_read.ensures.crash c.in-Err.ensures.err store.ensures.undone store.ensures.quiet
    (λ db clean made. subst (λ (d : Database). Upgraded d.trees db) (c.requires.rests clean) made)

pub returns-else-is_broken-clause-left : goal.returns-else-is_broken-clause-left
returns-else-is_broken-clause-left g c serves =
    let store = c.into_store-store in
    let works : IsClean (g.S.Store.view store.result) → IsTrue (g.S.Store.view store.result).is_open = λ clean.
    not_shut _ _ (g.met.S.Store.broken_if_shut store.result) (sym (c.is_broken.ensures clean) ∙ c.if-is_broken.false) in
    let was = λ (clean : HasCleanDisk (state g.S.Store c.args.conn)). (c.requires.first clean).0 in
    gives_back_open g.S.Store g.met.S.Store.settled g.met.S.Store.stays c.args.conn c.upgrade_read.new.conn store.result (Upgraded (state g.S.Store c.args.conn).now.trees) was c.upgrade_read.ensures.crash c.in-Err.ensures.err store.ensures.undone store.ensures.quiet works

pub returns-else-is_broken-clause-damaged : goal.returns-else-is_broken-clause-damaged
returns-else-is_broken-clause-damaged g c is clean sound =
    let last : HasCleanDisk (state g.S.Store c.upgrade_read.new.conn) = omega (arith, c.into_store-store.ensures.quiet.clean, clean) in
    c.upgrade_read.ensures.damaged last sound.set_up sound.numbered (search rules)
