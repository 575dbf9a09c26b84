use Rattle.store_making.proofs.MadeHouses.{shown_reserves, shown_sound, shown_tables}
use Rattle.store_making.proofs.laws.made_houses_are_found.Goals as goal

pub returns-clause-tables : goal.returns-clause-tables
returns-clause-tables c = shown_tables

pub returns-clause-reserves : goal.returns-clause-reserves
returns-clause-reserves c = shown_reserves

pub returns-clause-opens : goal.returns-clause-opens
returns-clause-opens c = shown_sound
