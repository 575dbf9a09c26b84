-- Why no site is begun over a keep.
use Rattle.std.specs.Prelude.{◌≡◌, ◌↔◌, Bool, true}
use Rattle.house_rows.specs.Tables.{Tables}
use Rattle.site.specs.Replies.{IsReadable}
use Rattle.auction_runs.specs.Faults.{IsOfKeep}
use Rattle.auction_runs.specs.declared.fault.TaskFault.{TaskFault}
use Rattle.auction_runs.specs.declared.fault.TaskFault.TheVariants.{Store, Damaged}

-- the fault of a site that isn't begun, which is a keep's: Store exactly where the keep has failed,
-- and Damaged only where the zone can't be read
pub record IsUnbegun (is_honest : Type 0) (is_failed : Bool) (content : Tables)
    (fault : TaskFault) : Type 0 where
  pub reported : IsOfKeep fault
  pub store : (fault ≡ Store) ↔ (is_failed ≡ true)
  pub damaged : is_honest → fault ≡ Damaged → ¬ (IsReadable content.settings.zone)
