use Rattle.std.proofs.Common.{◌∙◌, ap, arith, inl, rules}
use Rattle.sqlite.specs.Effect.{Database}
use Rattle.sqlite.specs.Held.{state}
use Rattle.sqlite.specs.State.{HasCleanDisk}
use Rattle.store_house.proofs.OpenLemmas.{gives_back, leads_on, leads_self}
use Rattle.store_open.proofs.ReadLemmas.{WasRead, was_read}
use Rattle.store_open.proofs.open.opened_house.Goals as goal

pub returns-in-Ok : goal.returns-in-Ok
returns-in-Ok g c =
    let was = state g.S.Store c.args.conn in
    let is = state g.S.Store c.read_house.new.conn in
    let read = c.in-Ok.ensures in
    let first : HasCleanDisk is → HasCleanDisk was = λ clean. omega (arith, c.read_house.ensures.finds.read.crash.clean, clean) in
    let found : HasCleanDisk is → WasRead was is c.in-Ok.editions c.in-Ok.clock c.in-Ok.counts c.in-Ok.reserves = λ clean.
    was_read was is _ _ _ _ (c.requires.house (first clean)) (c.requires.rests (first clean)) (read.finds.read.same clean) (read.finds.value clean) in
    let leads = leads_on g.S.Store c.args.conn c.args.conn c.read_house.new.conn (leads_self g.S.Store c.args.conn)
    c.read_house.ensures.finds.read.crash (λ clean. inl (read.finds.read.same clean)) in
    record {
      opened = record {
        rests = λ clean. (found clean).rests;
        editions = λ clean. (found clean).editions_are;
        counts = λ clean. (found clean).counts_are;
        reserves = λ clean. (found clean).reserves_are;
        numbered = λ clean. (found clean).numbered;
        set = λ clean. (found clean).set;
        clock = λ clean. (found clean).clock_is;
        moment = read.moment;
        row = λ clean. (found clean).row;
        only = λ clean db left. g.met.S.Store.settled c.read_house.new.conn.store db (found clean).rests.is_open left ∙ ap (λ (d : Database). d.trees) (found clean).committed;
        mode = search rules;
        unlimited = c.read_house.ensures.finds.read.crash.limit ∙ c.requires.unlimited;
      };
      same = λ clean. ap (λ (d : Database). d.trees) (found clean).same;
      follows = record {
        clean = leads.clean;
        shield = leads.shield;
        shown = λ clean is_open. ap (λ (d : Database). d.trees) ((found clean).same ∙ c.requires.rests (first clean));
        crash = leads.crash;
      };
      left = search rules;
      damaged = search rules;
    }

-- an error gives the store back

pub returns-in-Err-clause-left : goal.returns-in-Err-clause-left
returns-in-Err-clause-left g c =
    let read = c.read_house.ensures.finds.read in
    let left = c.into_store in
    gives_back g.S.Store c.args.conn c.read_house.new.conn left.result
    (leads_on g.S.Store c.args.conn c.args.conn c.read_house.new.conn (leads_self g.S.Store c.args.conn) read.crash (λ clean. c.in-Err.ensures.finds.read.err clean))
    left.ensures.undone left.ensures.quiet

pub returns-in-Err-clause-damaged : goal.returns-in-Err-clause-damaged
returns-in-Err-clause-damaged g c is clean readable =
    let second : HasCleanDisk (state g.S.Store c.read_house.new.conn) = omega (arith, c.into_store.ensures.quiet.clean, clean) in
    c.read_house.ensures.finds.damaged second readable (search rules)
