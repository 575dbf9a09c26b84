use Rattle.std.proofs.Common.{ap, arith, ◌≡◌, rules, subst, sym, ℕ, Option, true, false}
use Rattle.std.specs.Prelude.{◌==◌, ◌&&◌, Err, IfSome}
use Rattle.sqlite.specs.Held.{state}
use Rattle.sqlite.specs.State.{HasCleanDisk}
use Rattle.house_rows.specs.Fits.{IsItem}
use Rattle.house_rows.specs.Tables.{ItemRow}
use Rattle.house_rows.specs.Text.{same_text}
use Rattle.store_rows.specs.Tables.{tables_in}
use Rattle.store.proofs.Absent.{no_lot}
use Rattle.store.proofs.Known.{not_reported, report_sound}
use Rattle.store.proofs.Sound.{number_low, sound_number}
use Rattle.store.proofs.keep.SqlKeepKeep.item_of.Goals as goal

pub returns-then-not-is_item_number-clause-answers : goal.returns-then-not-is_item_number-clause-answers
unfolding tables_in
returns-then-not-is_item_number-clause-answers g c = record {
  value = search rules;
  faults = rw (← c.self.view_is) (record {
    store = search rules;
    damaged = λ honest sound is.
        let named = λ (row : ItemRow). (row.item.terms.seller == c.in-Ok.seller) && same_text row.item.lot c.args.lot.now in
        let number = sound_number (state g.S.Store c.self.inside.conn).now.trees named sound in
        let no : false ≡ true = c.if-not-is_item_number.ensures.whole (subst (λ (o : Option ℕ). IfSome o IsItem) (sym (c.in-Ok-item_with_lot.ensures.value honest)) number) in
        absurd cc;
  });
  damaged = rw (← c.self.view_is)
      (λ honest fits is.
      let seller : c.in-Ok.seller ≡ c.args.seller = search rules in
      let stored = rw (← seller) at fits in
      let no : false ≡ true = c.if-not-is_item_number.ensures.whole (subst (λ (o : Option ℕ). IfSome o IsItem) (sym (c.in-Ok-item_with_lot.ensures.value honest)) stored) in
      absurd cc);
  read = search rules;
}

pub returns-else-not-is_item_number-clause-answers : goal.returns-else-not-is_item_number-clause-answers
unfolding tables_in
returns-else-not-is_item_number-clause-answers g c = record {
  value = let seller : c.in-Ok.seller ≡ c.args.seller = search rules in
      rw (← c.self.view_is, ← seller) (λ honest. c.in-Ok-item_with_lot.ensures.value honest);
  faults = search rules;
  damaged = search rules;
  read = search rules;
}

pub returns-in-Err-clause-answers : goal.returns-in-Err-clause-answers
unfolding tables_in
returns-in-Err-clause-answers g c = record {
  value = search rules;
  faults = rw (← c.self.view_is)
      (report_sound _ _ _ _ _ c.reported_fault.ensures.fault c.reported_fault.ensures.store (λ honest sound is.
      let clean : HasCleanDisk (state g.S.Store c.item_with_lot.new.conn) = omega (arith, c.reported_fault.ensures.crash.clean, honest) in
      c.in-Err.ensures.damaged clean (number_low _ (sound_number (state g.S.Store c.self.inside.conn).now.trees _ sound)) (ap Err is)));
  damaged = rw (← c.self.view_is)
      (λ honest fits. not_reported _ _ _ c.reported_fault.ensures.fault c.reported_fault.ensures.store (λ is.
      let clean : HasCleanDisk (state g.S.Store c.item_with_lot.new.conn) = omega (arith, c.reported_fault.ensures.crash.clean, honest) in
      let seller : c.in-Ok.seller ≡ c.args.seller = search rules in
      let stored = rw (← seller) at fits in
      c.in-Err.ensures.damaged clean (number_low _ stored) (ap Err is)));
  read = search rules;
}

pub returns-in_default-clause-answers : goal.returns-in_default-clause-answers
unfolding tables_in
returns-in_default-clause-answers g c = record {
  value = search (rules, no_lot);
  faults = search rules;
  damaged = search rules;
  read = search rules;
}
