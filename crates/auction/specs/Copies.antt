-- What keeps over copies of a house in a file have, and what is left of the file.
use Rattle.std.specs.Prelude.{◌≡◌}
use Rattle.house_rows.specs.Tables.{Tables}
use Rattle.sqlite.specs.declared.file.Leftover.{Leftover}
use Rattle.sqlite.specs.declared.file.Leftover.TheVariants as leftover
use Rattle.sqlite_disk.specs.declared.Disk as disk
use Rattle.sqlite_disk.specs.declared.Files.{Files}
use Rattle.sqlite_wal.specs.Reads.{OnlyReads}
use Rattle.sqlite_wal.specs.Recovery.{Image}
use Rattle.store_files.specs.InOrder.{FindsHouse, HoldsTables}

-- both have the tables that the file and its log held, and these held a house
pub record AreCopies {K : Type 0} (content : K → Tables) (is_honest : K → Type 0) (image : Image)
    (left right : K) : Type 0 where
  pub left_has : is_honest left → (t : Tables) → HoldsTables image t → content left ≡ t
  pub right_has : is_honest right → (t : Tables) → HoldsTables image t → content right ≡ t
  pub left_there : is_honest left → FindsHouse image (content left)
  pub right_there : is_honest right → FindsHouse image (content right)

-- a log and a database file are left that were only read since this was so of them
pub record AreOnlyRead {D : Type 0} {g : disk.Ghosts D} (rest : Leftover D g)
    (AreFresh : Files D → Type 0) : Type 0 where
  pub first : Files D
  pub fresh : AreFresh first
  pub last : Files D
  pub are_left : rest ≡ leftover.Files last
  pub log : OnlyReads g first.log last.log
  pub db : OnlyReads g first.db last.db
