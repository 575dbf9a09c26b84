-- A keep over two files whose trees are shown in the order of a house.
use Rattle.sqlite_disk.specs.declared.Disk as disk
use Rattle.sqlite_trees.specs.declared.store.Store.{Ghosts}
use Rattle.sqlite_store.specs.declared.store.FileStore.{FileStore}
use Rattle.sqlite.specs.Files.{over_files}
use Rattle.sqlite.specs.Held.{Held, state}
use Rattle.sqlite.specs.State.{State}
use Rattle.store_house.specs.Over.{over_numbers}
use Rattle.tree_order.specs.declared.renumbered.Renumbered.{Renumbered}

-- what the store of a keep in order is to its callers
abbrev pub over_order : {D : Type 0} {g : disk.Ghosts D} → Ghosts (Renumbered (FileStore D g))
over_order = over_numbers over_files

abbrev pub order_state : {D : Type 0} {g : disk.Ghosts D} → Held (Renumbered (FileStore D g))
    → State
order_state = state over_order
