-- A setup that ended before its end.
use Rattle.std.proofs.Common.{ℕ, List, ◌∷◌, ◌++◌, codes, refl}
use Rattle.std.specs.List.{FoldsTo}
use Rattle.site_request.specs.declared.asked.Asked.{Asked}
use Rattle.auction_runs.specs.Setup.{IsCutOff, IsTaken, IsUntaken, member_text}
use Rattle.auction_runs.specs.declared.fault.TaskFault.{TaskFault}

-- the members
abbrev pub ana : List ℕ
ana = member_text (codes "Ana")

abbrev pub ben : List ℕ
ben = member_text (codes "Ben")

abbrev pub cid : List ℕ
cid = member_text (codes "Cid")

-- after some commands that were taken one was not
pub cut_at : {K : Type 0} (Step : Asked → List ℕ → K → K → Type 0) (taken : List (List ℕ))
    (text : List ℕ) (rest : List (List ℕ)) (old mid : K) (fault : TaskFault) (new : K)
    → FoldsTo (IsTaken Step) old taken mid → IsUntaken Step mid text fault new
    → IsCutOff Step (taken ++ text ∷ rest) old fault new
cut_at Step taken text rest old mid fault new before why = record {
  taken = taken;
  text = text;
  rest = rest;
  all = refl;
  mid = mid;
  before = before;
  why = why;
}
