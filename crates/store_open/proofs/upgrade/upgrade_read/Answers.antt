use Rattle.std.proofs.Common.{◌∙◌, ap, subst, sym, arith, refl, rules}
use Rattle.sqlite.specs.Effect.{Database}
use Rattle.sqlite.specs.Held.{state}
use Rattle.sqlite.specs.State.{HasCleanDisk}
use Rattle.store_house.specs.Opening.{HasEditions, HasReserves, HasSettings, HaveNumbers, Upgraded, Upgrades}
use Rattle.store_open.proofs.UpgradeLemmas.{nothing_committed, set_up_version, survives_end, survives_none, survives_two, upgraded_numbered, upgraded_reserved, upgraded_set, upgraded_set_up}
use Rattle.store_open.proofs.upgrade.upgrade_read.Goals as goal

pub read_house-requires : goal.read_house-requires
read_house-requires g c clean = ((c.in_ok-grow.ensures.inside clean).is_open, (c.in_ok-grow.ensures.ok clean).house)

pub finish-requires : goal.finish-requires
finish-requires g c = record {
  begun = λ clean.
      let first : HasCleanDisk (state g.S.Store c.grow.new.conn) = omega (arith, c.read_house.ensures.finds.read.crash.clean, clean) in
      (c.in_ok-read.ensures.finds.read.same clean).0.mode ∙ (c.in_ok-grow.ensures.inside first).mode;
}

pub returns : goal.returns
returns g c =
    let old = state g.S.Store c.args.conn.now in
    let grown = state g.S.Store c.grow.new.conn in
    let read = state g.S.Store c.read_house.new.conn in
    let last = state g.S.Store c.finish.new.conn in
    let second : HasCleanDisk last → HasCleanDisk read = λ clean. omega (arith, c.finish.ensures.crash.clean, clean) in
    let first : HasCleanDisk last → HasCleanDisk grown = λ clean. omega (arith, c.read_house.ensures.finds.read.crash.clean, second clean) in
    let shown = c.in_ok-finish.ensures.ok in
    let same = λ (clean : HasCleanDisk last). (shown clean).now_is ∙ (c.in_ok-read.ensures.finds.read.same (second clean)).0.now_is in
    record {
      upgraded = λ clean. subst (Upgrades old.now.trees) (sym (same clean)) (c.in_ok-grow.ensures.ok (first clean));
      rests = λ clean. ((shown clean).is_open, (shown clean).now_is ∙ sym (shown clean).committed_is);
      settings = λ clean. subst (λ (d : Database). HasSettings d.trees c.in_ok-read.read.0.settings c.in_ok-read.read.1) (sym (same clean)) (c.in_ok-read.ensures.finds.value (second clean)).has_settings;
      editions = λ clean. subst (λ (d : Database). HasEditions d.trees c.in_ok-read.read.0.later) (sym (same clean)) (c.in_ok-read.ensures.finds.value (second clean)).has_editions;
      moment = c.in_ok-read.ensures.moment;
      counts = λ clean. subst (λ (d : Database). HaveNumbers d.trees c.in_ok-read.read.2) (sym (same clean)) (c.in_ok-read.ensures.finds.value (second clean)).have_numbers;
      reserves = λ clean. subst (λ (d : Database). HasReserves d.trees c.in_ok-read.read.3) (sym (same clean)) (c.in_ok-read.ensures.finds.value (second clean)).has_reserves;
      mode = c.in_ok-finish.ensures.mode;
      damaged = search rules;
      err = search rules;
      crash = survives_end old read last (Upgraded old.now.trees) (survives_two old grown read c.grow.ensures.crash c.read_house.ensures.finds.read.crash) c.finish.ensures.crash
          (λ clean.
          let early : HasCleanDisk grown = omega (arith, c.read_house.ensures.finds.read.crash.clean, clean) in
          (read.now, subst (Upgrades old.now.trees) (sym (c.in_ok-read.ensures.finds.read.same clean).0.now_is) (c.in_ok-grow.ensures.ok early), refl));
    }

-- an error has committed nothing

pub returns-in_err-grow-clause-crash : goal.returns-in_err-grow-clause-crash
returns-in_err-grow-clause-crash g c = survives_none _ _ _ c.grow.ensures.crash

pub returns-in_err-grow-clause-err : goal.returns-in_err-grow-clause-err
returns-in_err-grow-clause-err g c clean is_open =
    let same = nothing_committed g.S.Store g.met.S.Store.settled g.met.S.Store.stays c.args.conn.now c.grow.new.conn (λ early. (c.requires.first early).0) c.grow.ensures.crash clean is_open in
    search rules

pub returns-in_err-grow-clause-damaged : goal.returns-in_err-grow-clause-damaged
returns-in_err-grow-clause-damaged g c clean set numbered =
    let calm = c.in_err-grow.ensures.damaged clean (set_up_version (state g.S.Store c.args.conn.now).now.trees set) in
    search rules

pub returns-in_err-read-clause-crash : goal.returns-in_err-read-clause-crash
returns-in_err-read-clause-crash g c = survives_none _ _ _ (survives_two _ (state g.S.Store c.grow.new.conn) _ c.grow.ensures.crash c.read_house.ensures.finds.read.crash)

pub returns-in_err-read-clause-err : goal.returns-in_err-read-clause-err
returns-in_err-read-clause-err g c clean is_open =
    let survives = survives_two (state g.S.Store c.args.conn.now) (state g.S.Store c.grow.new.conn) (state g.S.Store c.read_house.new.conn) c.grow.ensures.crash c.read_house.ensures.finds.read.crash in
    let same = nothing_committed g.S.Store g.met.S.Store.settled g.met.S.Store.stays c.args.conn.now c.read_house.new.conn (λ early. (c.requires.first early).0) survives clean is_open in
    search rules

pub returns-in_err-read-clause-damaged : goal.returns-in_err-read-clause-damaged
returns-in_err-read-clause-damaged g c clean set numbered =
    let early : HasCleanDisk (state g.S.Store c.grow.new.conn) = omega (arith, c.read_house.ensures.finds.read.crash.clean, clean) in
    let made = c.in_ok-grow.ensures.ok early in
    let old = (state g.S.Store c.args.conn.now).now.trees in
    let grown = (state g.S.Store c.grow.new.conn).now in
    let calm = c.in_err-read.ensures.finds.damaged clean (record { set_up = upgraded_set_up old grown made set; numbered = upgraded_numbered old grown made numbered; reserved = upgraded_reserved old grown made; set = upgraded_set old grown made }) in
    search rules

pub returns-in_err-finish-clause-crash : goal.returns-in_err-finish-clause-crash
returns-in_err-finish-clause-crash g c =
    let old = state g.S.Store c.args.conn.now in
    let grown = state g.S.Store c.grow.new.conn in
    let read = state g.S.Store c.read_house.new.conn in
    let last = state g.S.Store c.finish.new.conn in
    survives_end old read last (Upgraded old.now.trees) (survives_two old grown read c.grow.ensures.crash c.read_house.ensures.finds.read.crash) c.finish.ensures.crash
    (λ clean.
    let early : HasCleanDisk grown = omega (arith, c.read_house.ensures.finds.read.crash.clean, clean) in
    (read.now, subst (Upgrades old.now.trees) (sym (c.in_ok-read.ensures.finds.read.same clean).0.now_is) (c.in_ok-grow.ensures.ok early), refl))

pub returns-in_err-finish-clause-err : goal.returns-in_err-finish-clause-err
returns-in_err-finish-clause-err g c clean is_open =
    let second : HasCleanDisk (state g.S.Store c.read_house.new.conn) = omega (arith, c.finish.ensures.crash.clean, clean) in
    let first : HasCleanDisk (state g.S.Store c.grow.new.conn) = omega (arith, c.read_house.ensures.finds.read.crash.clean, second) in
    let kept = (c.in_err-finish.ensures.err clean).committed is_open in
    let same = ap (λ (d : Database). d.trees) (kept ∙ (c.in_ok-read.ensures.finds.read.same second).0.committed_is ∙ (c.in_ok-grow.ensures.inside first).committed) in
    search rules
