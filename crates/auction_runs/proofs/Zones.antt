-- The zone of a site stays, and with it what a step is.
use Rattle.std.proofs.Common.{◌≡◌, ℕ, List, Bool, Option, subst}
use Rattle.house_rows.specs.Tables.{Tables}
use Rattle.settle.specs.declared.zone.Zone.{Zone}
use Rattle.site.specs.Replies.{IsStep}
use Rattle.site_serve.specs.Serving.{HasServed}
use Rattle.site_serve.specs.declared.server.Served.{Served}
use Rattle.auction_runs.specs.Setup.{IsTaken, IsUntaken}
use Rattle.auction_runs.specs.declared.fault.TaskFault.{TaskFault}

-- a command was taken by the zone that a site began with
pub taken_in_zone : {K : Type 0} (content : K → Tables) (is_failed : K → Bool)
    (is_honest : K → Type 0) (may_leave : K → Tables → Type 0) (now first : Zone)
    (old : K) (text : List ℕ) (new : K) → now ≡ first
    → IsTaken (IsStep content is_failed is_honest may_leave now) old text new
    → IsTaken (IsStep content is_failed is_honest may_leave first) old text new
taken_in_zone content is_failed is_honest may_leave now first old text new same taken =
    subst (λ z. IsTaken (IsStep content is_failed is_honest may_leave z) old text new) same taken

-- or was not
pub untaken_in_zone : {K : Type 0} (content : K → Tables) (is_failed : K → Bool)
    (is_honest : K → Type 0) (may_leave : K → Tables → Type 0) (now first : Zone)
    (old : K) (text : List ℕ) (fault : TaskFault) (new : K) → now ≡ first
    → IsUntaken (IsStep content is_failed is_honest may_leave now) old text fault new
    → IsUntaken (IsStep content is_failed is_honest may_leave first) old text fault new
untaken_in_zone content is_failed is_honest may_leave now first old text fault new same untaken =
    subst (λ z. IsUntaken (IsStep content is_failed is_honest may_leave z) old text fault new) same
    untaken

-- a stream was served by the zone that a site began with
pub served_in_zone : {K : Type 0} (content : K → Tables) (is_failed : K → Bool)
    (is_honest : K → Type 0) (may_leave : K → Tables → Type 0) (now first : Zone)
    (stream : List ℕ) (most : ℕ) (before after : Option (List ℕ)) (old new : K) (served : Served)
    → now ≡ first
    → HasServed (IsStep content is_failed is_honest may_leave now)
    stream most before after old new served
    → HasServed (IsStep content is_failed is_honest may_leave first)
    stream most before after old new served
served_in_zone content is_failed is_honest may_leave now first stream most before after old new
    served same has =
    subst (λ z. HasServed (IsStep content is_failed is_honest may_leave z)
    stream most before after old new served) same has
