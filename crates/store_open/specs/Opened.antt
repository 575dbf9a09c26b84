-- What is known of a house that was opened.
use Rattle.std.specs.Prelude.{◌≡◌, None, false}
use Rattle.sqlite_trees.specs.Tree.{Trees}
use Rattle.sqlite_trees.specs.declared.store.Store.{Ghosts}
use Rattle.sqlite.specs.Held.{state}
use Rattle.sqlite.specs.State.{HasCleanDisk}
use Rattle.house_rows.specs.Fits.{IsMoment}
use Rattle.house_rows.specs.Found.{counts_of}
use Rattle.house_rows.specs.Tables.{band_tables}
use Rattle.store_rows.specs.Fitting.{HouseRowFits}
use Rattle.store_rows.specs.Rows.{reserves_in}
use Rattle.store_rows.specs.Tables.{IsAtRest, house_row_in, tables_in}
use Rattle.store_house.specs.Opening.{AreNumbered, AreSet}
use Rattle.store_open.specs.declared.house.Opened.{Opened}

-- A numbered house is committed, no transaction is open, no limit on steps is set, a crash leaves what is shown, and what was
-- read of the house is what it has; all but the mode, the limit and the range of the clock as far as the disk was honest.
pub record IsOpenedHouse {S : Type 0} (g : Ghosts S) (o : Opened S) : Type 0 where
  pub rests : HasCleanDisk (state g o.conn) → IsAtRest (state g o.conn)
  pub editions : HasCleanDisk (state g o.conn)
      → band_tables (tables_in (state g o.conn).now.trees) ≡ o.editions
  pub counts : HasCleanDisk (state g o.conn)
      → counts_of (tables_in (state g o.conn).now.trees) ≡ o.counts
  pub reserves : HasCleanDisk (state g o.conn)
      → o.reserves ≡ reserves_in (state g o.conn).now.trees
  pub numbered : HasCleanDisk (state g o.conn) → AreNumbered (state g o.conn).now.trees
  pub set : HasCleanDisk (state g o.conn) → AreSet (state g o.conn).now.trees
  pub clock : HasCleanDisk (state g o.conn)
      → (tables_in (state g o.conn).now.trees).clock ≡ o.clock
  pub moment : IsMoment o.clock
  pub row : HasCleanDisk (state g o.conn)
      → HouseRowFits (house_row_in (state g o.conn).now.trees)
  pub only : HasCleanDisk (state g o.conn) → (db : Trees) → (state g o.conn).may_leave db
      → db ≡ (state g o.conn).now.trees
  pub mode : o.conn.in_transaction ≡ false
  pub unlimited : o.conn.step_limit ≡ None
