use Rattle.std.proofs.Common.{◌≡◌, length, false}
use Rattle.sqlite.specs.State.{HasCleanDisk, IsUnchanged, Survives}
use Rattle.sqlite.specs.Held.{state}
use Rattle.sqlite.specs.Given.{HasGiven}
use Rattle.sqlite.specs.Values.{bound}
use Rattle.store_rows.proofs.first.rows_given.Given as goal

abbrev pub invariant-rows : goal.invariant-rows
invariant-rows g l =
    let old = state g.S.Store l.fn.conn in
    let now = state g.S.Store l.rows.conn.now in
    (l.rows.conn.ghost_name ≡ l.initial.rows.conn.ghost_name) × (length l.first.items ≡ l.counter) × Survives old now (λ _. ⊥) × (l.fn.conn.in_transaction ≡ false → l.rows.conn.now.in_transaction ≡ false) × (HasCleanDisk now → HasGiven g.S.Store l.sql (bound l.params) l.rows.conn.now l.first.items × IsUnchanged old now)
