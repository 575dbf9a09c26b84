use Rattle.std.proofs.Common.{◌∙◌, Bool, List, cond, ℕ, ap₂, refl, subst, sym}
use Rattle.sqlite.specs.Files.{HoldsDatabase}
use Rattle.sqlite_disk.specs.Events.{Event, replay}
use Rattle.store.specs.InOrder.{over_order}
use Rattle.store.specs.Kept.{content}
use Rattle.store_files.specs.InOrder.{FindsHouse}
use Rattle.auction.proofs.Opened.{bytes_of}
use Rattle.auction.proofs.copies.RenumberedFileStoreStoreInMemory.open_twice.Goals as goal

abbrev seen : List ℕ → List ℕ → Bool → List Event → List ℕ
seen log db is_log history = (replay (cond is_log log db) history).seen

pub returns-in-Ok-clause-copies : goal.returns-in-Ok-clause-copies
returns-in-Ok-clause-copies g c = λ at clean.
    let fresh = c.in_ok-files.ensures.fresh at in
    let same = ap₂ bytes_of (ap₂ (seen g.T.Start.log g.T.Start.db) fresh.0.0 fresh.0.1) (ap₂ (seen g.T.Start.log g.T.Start.db) fresh.1.0 fresh.1.1) in
    record {
      left_has = λ honest t held.
          c.in-Ok.ensures.left clean honest held.db (subst (λ i. HoldsDatabase i held.db) (sym same) held.holds)
          ∙ sym held.tables;
      right_has = λ honest t held.
          c.in-Ok.ensures.right clean honest held.db (subst (λ i. HoldsDatabase i held.db) (sym same) held.holds)
          ∙ sym held.tables;
      left_there = λ honest.
          subst (λ i. FindsHouse i (content over_order c.in-Ok.left)) same (c.in-Ok.ensures.left_there clean honest);
      right_there = λ honest.
          subst (λ i. FindsHouse i (content over_order c.in-Ok.right)) same (c.in-Ok.ensures.right_there clean honest);
    }

pub returns-in-Ok-clause-reads : goal.returns-in-Ok-clause-reads
returns-in-Ok-clause-reads g c = λ at. record {
  first = c.in_ok-files.files;
  fresh = c.in_ok-files.ensures.fresh at;
  last = c.open_copies.new.files;
  are_left = refl;
  log = c.in-Ok.ensures.reads_log;
  db = c.in-Ok.ensures.reads_db;
}
