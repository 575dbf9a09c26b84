use Rattle.sqlite.specs.Files.{file_state}
use Rattle.store_files.proofs.Crashed.{found_left, found_same}
use Rattle.store_files.proofs.laws.openings_find_what_crashes_leave.Goals as goal

pub returns-clause-found : goal.returns-clause-found
returns-clause-found g c before left opened crashed found = found_left before left crashed (file_state opened) found

pub returns-clause-same : goal.returns-clause-same
returns-clause-same g c before left opened crashed found = found_same before left crashed (file_state opened) found g.met.D.Disk.seen_may_stay
