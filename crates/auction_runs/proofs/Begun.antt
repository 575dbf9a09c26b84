-- Why no site is begun over a keep, by what the site's crate says of it.
use Rattle.std.proofs.Common.{◌≡◌, Bool, true, false, Ok, Err, refl}
use Rattle.house_rows.specs.Tables.{Tables}
use Rattle.house_rows.specs.declared.fault.KeepFault.{KeepFault}
use Rattle.house_rows.specs.declared.fault.KeepFault.TheVariants.{Memory, Store, Damaged}
use Rattle.site.specs.Replies.{IsBegun}
use Rattle.auction_runs.specs.Begun.{IsUnbegun}
use Rattle.auction_runs.specs.Faults.{fault_of_keep}

-- the fault that stands for a keep's has the same causes
pub unbegun : {S : Type 0} (is_honest : Type 0) (is_failed : Bool) (content : Tables)
    (fault : KeepFault) → IsBegun {S = S} (Err fault) is_honest is_failed content
    → IsUnbegun is_honest is_failed content (fault_of_keep fault)
unbegun is_honest is_failed content Memory begun = record {
  reported = (Memory, refl);
  store = (λ e. absurd cc, λ failed. let other = begun.store.1 failed in absurd cc);
  damaged = λ honest e. absurd cc;
}
unbegun is_honest is_failed content Store begun = record {
  reported = (Store, refl);
  store = (λ e. begun.store.0 refl, λ failed. refl);
  damaged = λ honest e. absurd cc;
}
unbegun is_honest is_failed content Damaged begun = record {
  reported = (Damaged, refl);
  store = (λ e. absurd cc, λ failed. let other = begun.store.1 failed in absurd cc);
  damaged = λ honest e. begun.damaged honest refl;
}

-- a site is begun only over a keep that works
pub works : {S : Type 0} (is_honest : Type 0) (is_failed : Bool) (content : Tables) (site : S)
    → IsBegun (Ok site) is_honest is_failed content → is_failed ≡ false
works is_honest true content site begun = let other = begun.store.1 refl in absurd cc
works is_honest false content site begun = refl
