-- What comparing both lists shows of a surplus.
use Rattle.std.proofs.Common.{◌≡◌, ◌∙◌, ℕ, List, [], Bool, map, refl, sym, subst, arith, false, Result, Ok, Err, None}
use Rattle.std.specs.Prelude.{IsErr, IsErrAnd}
use Rattle.steps.specs.Table.{IsBandTable}
use Rattle.proxy.specs.Bids.{greatest}
use Rattle.house_laws.specs.Covered.{IsCoveredBid, LeadsBy, Sealed, raised, with_maximum}
use Rattle.house_laws.proofs.CoveredLeads.{run_is_history}
use Rattle.house_rows.specs.declared.command.Command.TheVariants.{Bid}
use Rattle.house_rows.specs.declared.item.ItemShown.{ItemShown}
use Rattle.house_rows.specs.declared.settings.Settings.{Settings}
use Rattle.house_rows.specs.Bids.{bids_on}
use Rattle.house_rows.specs.Fits.{IsItem, IsMember}
use Rattle.house_rows.specs.History.{History}
use Rattle.house_rows.specs.Runs.{AreTwinsFrom}
use Rattle.house_rows.specs.Tables.{Tables}
use Rattle.house_rows.specs.Verdict.{IsHistory, Rule, bid_rules}
use Rattle.house_rows.proofs.Passed.{common_pass, item_pass, own_pass}
use Rattle.house_rows.proofs.Ranged.{caller_is}
use Rattle.house_rows.proofs.RangedTalk.{item_there}
use Rattle.settle.specs.declared.zone.Zone.{Zone}
use Rattle.site_bids.specs.Spelt.{IsSent}
use Rattle.site_audit.specs.declared.fault.AuditFault.{AuditFault}
use Rattle.site_audit.specs.declared.fault.AuditFault.TheVariants.{Memory, Store, NotNew}
use Rattle.site_audit.specs.declared.outcome.Surplus.{Surplus}
use Rattle.site_audit.specs.declared.outcome.Surplus.TheVariants.{Same, NotCovered}
use Rattle.site_audit.specs.Audits.{MayBegin}
use Rattle.site_audit.specs.AuditsFrom.{AreEqualFrom, IsFoundFrom, heard_history}
use Rattle.site_audit.specs.Places.{Heard, IsSeen, heard_message}
use Rattle.site_audit.specs.SealedBids.{IsBidAt, IsBidFound, IsRaise, MayRaise}
use Rattle.site_audit.specs.Surplus.{IsSurplusFound, IsSurplusResult}
use Rattle.site_audit.specs.SurplusFrom.{IsCoveredTextFrom, IsHiddenBidFrom, IsNoSurplusFrom, IsSurplusFoundFrom}
use Rattle.site_audit.proofs.CoveredFrom.{LeadsBoth, covered_led_from, covered_twins_from, led_covered_from}
use Rattle.site_audit.proofs.SealedBids.{one_bid_at}

pub is_history : (settings : Settings) (h : History) (heards : List Heard) → IsHistory settings h
    → IsHistory settings (heard_history settings h heards)
is_history settings h heards is = run_is_history settings h (map heard_message heards) is

-- the bidder leads after both lists, by its maximum and by the greater one
abbrev pub BothLead : Settings → History → ℕ → ℕ → Sealed → List Heard → Heard → Type 0
BothLead settings h place y b heards text =
    LeadsBy settings (heard_history settings h heards) b.item b.member b.maximum
    × LeadsBy settings (heard_history settings h (raised place text heards)) b.item b.member y

-- a covered bid is at its place
covered_at : (settings : Settings) (h : History) (c place y : ℕ) (b : Sealed) (heards : List Heard)
    → IsCoveredTextFrom settings h c place y b heards → IsBidAt place b heards
covered_at settings h c place y b heards is = record {
  before = is.before;
  here = is.here;
  later = is.later;
  parts = is.parts;
  placed = is.placed;
  means = is.means;
}

-- a covered bid in the place is the one that is there
the_bid : (settings : Settings) (h : History) (c place y : ℕ) (b d : Sealed) (heards : List Heard)
    → IsBidAt place b heards → IsCoveredTextFrom settings h c place y d heards
    → IsCoveredTextFrom settings h c place y b heards
the_bid settings h c place y b d heards there covered =
    subst (λ e. IsCoveredTextFrom settings h c place y e heards)
    (one_bid_at place d b heards (covered_at settings h c place y d heards covered) there) covered

-- where the runs are no twins, no bid there is covered
pub apart_tells : (settings : Settings) (h : History) (c place y : ℕ) (b : Sealed)
    (heards : List Heard) (text : Heard) → IsBandTable settings.bands → IsHistory settings h
    → IsBidAt place b heards → IsRaise y b text
    → ¬ (AreTwinsFrom heard_message settings c h h heards (raised place text heards))
    → IsNoSurplusFrom settings h c place y heards
apart_tells settings h c place y b heards text valid is there raise not = λ d covered.
    not (covered_twins_from heard_message settings h c place y b heards text valid is
    (the_bid settings h c place y b d heards there covered) raise.asks)

-- where they are, and both lead in the end, it is
pub equal_tells : {K : Type 0} (content : K → Tables) (settings : Settings) (zone : Zone)
    (h : History) (c place y : ℕ) (b : Sealed) (heards : List Heard) (text : Heard)
    (replies : List (List ℕ)) (left right left_new right_new : K) → IsBandTable settings.bands
    → IsHistory settings h → IsBidAt place b heards → MayRaise c y b → IsRaise y b text
    → AreEqualFrom content settings zone c h h heards (raised place text heards) replies left right
    → content left_new ≡ content left → content right_new ≡ content right
    → BothLead settings h place y b heards text
    → IsHiddenBidFrom content settings zone c h place y heards replies left_new right_new
equal_tells content settings zone h c place y b heards text replies left right left_new right_new
    valid is there may raise equal same same' both =
    let leads : LeadsBoth heard_message settings h place y b heards text = record {
      left = both.0;
      right = both.1;
    } in
    record {
      bid = b;
      covered = led_covered_from heard_message settings h c place y b heards there.before there.here
          there.later text valid is there.parts there.placed there.means raise.asks may.above
          may.fits may.apart equal.twins leads;
      text = text;
      raise = raise;
      left = equal.left;
      right = equal.right;
      left_tables = same ∙ equal.left_tables;
      right_tables = same' ∙ equal.right_tables;
    }

-- and where not both lead, it isn't
pub not_led : (settings : Settings) (h : History) (c place y : ℕ) (b : Sealed)
    (heards : List Heard) (text : Heard) → IsBandTable settings.bands → IsHistory settings h
    → IsBidAt place b heards → IsRaise y b text → ¬ (BothLead settings h place y b heards text)
    → IsNoSurplusFrom settings h c place y heards
not_led settings h c place y b heards text valid is there raise not = λ d covered.
    let shows = covered_led_from heard_message settings h c place y b heards text valid is raise.asks
    (the_bid settings h c place y b d heards there covered) in
    not (shows.left, shows.right)

-- a bid that was accepted can be sent, and so can one of a greater maximum
accepted_sent : (settings : Settings) (y : ℕ) (b : Sealed) (h last : History) → IsHistory settings h
    → IsCoveredBid settings y b h last → IsSent (with_maximum y b)
accepted_sent settings y b h last is covered =
    let common = common_pass settings h b.moment b.member (Bid b.item b.maximum) covered.accepted in
    let who : IsMember b.member = caller_is settings h b.moment b.member false is common refl in
    let more : ItemShown → List Rule = bid_rules b.moment b.member b.maximum
    (greatest (bids_on h b.item) b.member) in
    let pass = item_pass settings h b.item more
    (own_pass settings h b.moment b.member (Bid b.item b.maximum) covered.accepted) in
    let what : IsItem b.item = item_there settings h b.item pass.listing is pass.listed in
    let above = covered.above in
    let fits = covered.fits in
    record {
      item = (omega (arith, what), omega (arith, what));
      member = omega (arith, who);
      moment = common.moment_fits;
      maximum = (omega (arith, above), omega (arith, fits));
    }

-- where it may not be raised, it isn't
pub not_raised : (settings : Settings) (h : History) (c place y : ℕ) (b : Sealed)
    (heards : List Heard) → IsHistory settings h → IsBidAt place b heards → ¬ (MayRaise c y b)
    → IsNoSurplusFrom settings h c place y heards
not_raised settings h c place y b heards is there not = λ d covered.
    let mine : IsCoveredTextFrom settings h c place y b heards =
    the_bid settings h c place y b d heards there covered in
    not (record {
      sent = accepted_sent settings y b _ _
          (run_is_history settings h (map heard_message mine.before) is) mine.covered;
      above = mine.covered.above;
      fits = mine.covered.fits;
      apart = mine.apart;
    })

-- and where no bid is in the place, none is covered
pub no_bid : (settings : Settings) (h : History) (c place y : ℕ) (heards : List Heard)
    → IsBidFound place heards (Ok None) → IsNoSurplusFrom settings h c place y heards
no_bid settings h c place y heards none = λ d covered.
    none d (covered_at settings h c place y d heards covered)

-- the result that a fault was made into
pub fault_gave : {A : Type 0} (P : Result A AuditFault → Type 0) (f : AuditFault)
    (result : Result A AuditFault) → IsErr result × IsErrAnd result (λ report. report ≡ f) → P (Err f)
    → P result
fault_gave P f (Ok a) gave is = absurd gave.1
fault_gave P f (Err report) gave is = subst (λ e. P (Err e)) (sym gave.1) is

-- a fault of the comparison
pub found_gives : {K : Type 0} (content : K → Tables) (is_failed : K → Bool) (settings : Settings)
    (zone : Zone) (h : History) (c place y : ℕ) (heards rights : List Heard) (left right : K)
    (f : AuditFault)
    → IsFoundFrom content is_failed settings zone c h h heards rights left right (Err f)
    → IsSurplusFoundFrom content is_failed settings zone c h place y heards left right (Err f)
found_gives content is_failed settings zone h c place y heards rights left right Memory found = tt
found_gives content is_failed settings zone h c place y heards rights left right Store found = found
found_gives content is_failed settings zone h c place y heards rights left right NotNew found = found

-- a fault of the looks at the end
pub seen_gives : {K : Type 0} (content : K → Tables) (is_failed : K → Bool) (P : Type 0)
    (settings : Settings) (zone : Zone) (h : History) (c place y : ℕ) (heards : List Heard)
    (left right left_new right_new : K) (f : AuditFault)
    → IsSeen content is_failed P left right left_new right_new (Err f)
    → IsSurplusFoundFrom content is_failed settings zone c h place y heards left_new right_new (Err f)
seen_gives content is_failed P settings zone h c place y heards left right left_new right_new Memory
    seen = tt
seen_gives content is_failed P settings zone h c place y heards left right left_new right_new Store
    seen = seen
seen_gives content is_failed P settings zone h c place y heards left right left_new right_new NotNew
    seen = seen

-- a fault of reading the bid
pub read_gives : {K : Type 0} (content : K → Tables) (is_failed : K → Bool) (settings : Settings)
    (zone : Zone) (h : History) (c place y : ℕ) (heards : List Heard) (left right : K)
    (f : AuditFault) → IsBidFound place heards (Err f)
    → IsSurplusFoundFrom content is_failed settings zone c h place y heards left right (Err f)
read_gives content is_failed settings zone h c place y heards left right Memory found = tt
read_gives content is_failed settings zone h c place y heards left right Store found = absurd found
read_gives content is_failed settings zone h c place y heards left right NotNew found = absurd found

-- over new houses it is the result of new houses
surplus_new : {K : Type 0} (content : K → Tables) (is_failed : K → Bool) (settings : Settings)
    (zone : Zone) (c place y : ℕ) (heards : List Heard) (left right : K)
    (result : Result Surplus AuditFault)
    → IsSurplusFoundFrom content is_failed settings zone c [] place y heards left right result
    → IsSurplusFound content is_failed settings zone c place y heards left right result
surplus_new content is_failed settings zone c place y heards left right (Ok (Same replies)) found =
    let is = found.covered in
    record {
      bid = found.bid;
      covered = record {
        before = is.before;
        here = is.here;
        later = is.later;
        parts = is.parts;
        placed = is.placed;
        means = is.means;
        covered = is.covered;
        apart = is.apart;
      };
      text = found.text;
      raise = found.raise;
      left = found.left;
      right = found.right;
      left_tables = found.left_tables;
      right_tables = found.right_tables;
    }
surplus_new content is_failed settings zone c place y heards left right (Ok NotCovered) none =
    λ b is. none b (record {
      before = is.before;
      here = is.here;
      later = is.later;
      parts = is.parts;
      placed = is.placed;
      means = is.means;
      covered = is.covered;
      apart = is.apart;
    })
surplus_new content is_failed settings zone c place y heards left right (Err Memory) found = tt
surplus_new content is_failed settings zone c place y heards left right (Err Store) found = found
surplus_new content is_failed settings zone c place y heards left right (Err NotNew) found = found

-- the result over houses with which an audit can begin
pub result_of : {K : Type 0} (content : K → Tables) (is_failed : K → Bool) (settings : Settings)
    (zone zone' : Zone) (c place y : ℕ) (heards : List Heard) (left right left_new right_new : K)
    (result : Result Surplus AuditFault) → MayBegin (content left) (content right) → zone ≡ zone'
    → IsSurplusFoundFrom content is_failed settings zone c [] place y heards left_new right_new result
    → IsSurplusResult content is_failed settings zone' c place y heards left right left_new right_new
    result
result_of content is_failed settings zone zone' c place y heards left right left_new right_new
    (Ok surplus) may e found = (
      may,
      subst (λ z. IsSurplusFound content is_failed settings z c place y heards left_new right_new
          (Ok surplus)) e
          (surplus_new content is_failed settings zone c place y heards left_new right_new
          (Ok surplus) found),
    )
result_of content is_failed settings zone zone' c place y heards left right left_new right_new
    (Err Memory) may e found = tt
result_of content is_failed settings zone zone' c place y heards left right left_new right_new
    (Err Store) may e found = found
result_of content is_failed settings zone zone' c place y heards left right left_new right_new
    (Err NotNew) may e found = absurd found
