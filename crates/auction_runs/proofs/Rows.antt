-- The rows of a lot file that was imported.
use Rattle.std.proofs.Common.{◌≡◌, ◌≢◌, ◌∙◌, ◌⊎◌, ◌++◌, ℕ, ◌≤◌, List, [], ◌∷◌, Bool, Option, Some, None, Result, Ok, Err, ap, arith, inl, inr, refl, subst, sym}
use Rattle.std.specs.Prelude.{IfErr, IfOk, IsErrOf, IsOk, OnErr, OnOk}
use Rattle.std.specs.Io.KnownBytes.{Appends, Keeps}
use Rattle.std.specs.List.{FoldsTo}
use Rattle.house_rows.specs.Tables.{Tables}
use Rattle.office.specs.Imports.{HasEnded, HasListed, HasOrdered, IsCounted, UnlessWrite}
use Rattle.office.specs.Lines.{totals_line}
use Rattle.office.specs.Tallies.{counted, nothing}
use Rattle.house_rows.specs.declared.fault.KeepFault.{KeepFault}
use Rattle.house_rows.specs.declared.fault.KeepFault.TheVariants as closing
use Rattle.house_rows.specs.declared.keep.Keep as keep
use Rattle.office.specs.declared.fault.ImportFault.{ImportFault}
use Rattle.office.specs.declared.fault.ImportFault.TheVariants as importing
use Rattle.office.specs.declared.lister.Lister.{Lister}
use Rattle.office.specs.declared.outcome.Outcome.{Outcome}
use Rattle.office.specs.declared.outcome.Outcome.TheVariants as outcome
use Rattle.office.specs.declared.tally.Imported.{Imported}
use Rattle.settle.specs.Zoned.{IsZoneOf}
use Rattle.settle.specs.declared.zone.Zone.{Zone}
use Rattle.site.specs.Replies.{IsStep}
use Rattle.site_request.specs.declared.asked.Asked.{Asked}
use Rattle.steps.specs.Reading.{records_of}
use Rattle.auction_runs.specs.Faults.{IsEndFault, fault_of_import, fault_of_keep}
use Rattle.auction_runs.specs.Listed.{HasAll, HasDealt, HasDealtSome, HasFault, HasPrinted, HasRefused, HasTaken, IsDealtPart, IsHad, IsKnown, IsUnimported, IsWhole}
use Rattle.auction_runs.proofs.Outcomes.{either_end, of_closing}
use Rattle.auction_runs.specs.declared.fault.TaskFault.{TaskFault}
use Rattle.auction_runs.specs.declared.fault.TaskFault.TheVariants.{Write}

-- what follows of a result that is the same
pub ok_of_same : {T E F : Type 0} (P Q : T → Type 0) (r : Result T E) (s : Result T F)
    → IfOk r (λ x. s ≡ Ok x) → IfOk s P → ((x : T) → P x → Q x) → IfOk r Q
ok_of_same P Q (Ok x) s same p f = f x (subst (λ v. IfOk v P) same p)
ok_of_same P Q (Err e) s same p f = tt

-- what grew and was then kept has grown
grown : (a b c : Option (List ℕ)) (x : List ℕ) → Keeps b c → Appends a b x → Appends a c x
grown None b c x keeps p = tt
grown (Some a) None c x keeps p = absurd p
grown (Some a) (Some b) None x keeps p = absurd keeps
grown (Some a) (Some b) (Some c) x keeps p = keeps ∙ p

-- what an import leaves of the keep that was given, from what each of its calls says
abbrev pub taken : {K : Type 0} (content : K → Tables) (is_failed : K → Bool)
    (is_honest : K → Type 0) (may_leave : K → Tables → Type 0) (is_ended : K → Type 0)
    (by : Lister) (given asked begun left last : K) (zone : Zone)
    → IsKnown content is_failed is_honest may_leave by.member given asked
    → begun ≡ asked → (is_honest asked → IsZoneOf (content asked).settings.zone zone)
    → HasOrdered (IsStep content is_failed is_honest may_leave zone) by begun left
    → last ≡ left → is_ended last
    → HasTaken content is_failed is_honest may_leave is_ended by given
taken content is_failed is_honest may_leave is_ended by given asked begun left last zone
    known begun_is kept_zone ordered last_is ended = record {
      asked = asked;
      member = known;
      zone = zone;
      kept_zone = kept_zone;
      left = left;
      ordered = subst (λ k. HasOrdered (IsStep content is_failed is_honest may_leave zone) by k left)
          begun_is ordered;
      ended = subst is_ended last_is ended;
    }

-- and what of the rows of its file
pub dealt : {K R : Type 0} (content : K → Tables) (is_failed : K → Bool)
    (is_honest : K → Type 0) (may_leave : K → Tables → Type 0) (is_ended : K → Type 0)
    (remaining : R → Option (List ℕ)) (by : Lister) (given begun : K)
    (house : HasTaken content is_failed is_honest may_leave is_ended by given)
    (lots : Result R TaskFault) (mine : R) (before between after : Option (List ℕ)) (report : Imported)
    → lots ≡ Ok mine → begun ≡ house.asked → Keeps between after
    → ((text : List ℕ) → remaining mine ≡ Some text
    → HasListed (IsStep content is_failed is_honest may_leave house.zone)
    (λ printed. Appends before between (printed ++ totals_line report))
    by (records_of text) report begun house.left)
    → (reader : R) → lots ≡ Ok reader → (text : List ℕ) → remaining reader ≡ Some text
    → HasDealt content is_failed is_honest may_leave is_ended by text before after given report
dealt content is_failed is_honest may_leave is_ended remaining by given begun house lots mine before
    between after report opened begun_is keeps rows_of reader is text gives =
    let same : reader ≡ mine = cc (opened, is) in
    let found = rows_of text (subst (λ r. remaining r ≡ Some text) same gives) in
    record {
      house = house;
      listed = subst (λ k. HasListed (IsStep content is_failed is_honest may_leave house.zone)
          (λ printed. Appends before after (printed ++ totals_line report))
          by (records_of text) report k house.left) begun_is (record {
            rows = found.rows;
            all = found.all;
            printed = found.printed;
            imported = found.imported;
            shown = grown before between after (found.printed ++ totals_line report) keeps
                found.shown;
          });
    }

-- an import that left this keep, of which that is so, left one of which it is so
abbrev pub taken_so : {K : Type 0} (content : K → Tables) (is_failed : K → Bool)
    (is_honest : K → Type 0) (may_leave : K → Tables → Type 0) (P : K → Type 0) (by : Lister)
    (given kept : K) → P kept
    → HasTaken content is_failed is_honest may_leave (λ last. last ≡ kept) by given
    → HasTaken content is_failed is_honest may_leave P by given
taken_so content is_failed is_honest may_leave P by given kept so house = record {
  asked = house.asked;
  member = house.member;
  zone = house.zone;
  kept_zone = house.kept_zone;
  left = house.left;
  ordered = house.ordered;
  ended = subst P (sym house.ended) so;
}

-- and so with its rows
pub dealt_so : {K : Type 0} (content : K → Tables) (is_failed : K → Bool)
    (is_honest : K → Type 0) (may_leave : K → Tables → Type 0) (P : K → Type 0) (by : Lister)
    (text : List ℕ) (before after : Option (List ℕ)) (given kept : K) (report : Imported) → P kept
    → HasDealt content is_failed is_honest may_leave (λ last. last ≡ kept) by text before after given report
    → HasDealt content is_failed is_honest may_leave P by text before after given report
dealt_so content is_failed is_honest may_leave P by text before after given kept report so run = record {
  house = taken_so content is_failed is_honest may_leave P by given kept so run.house;
  listed = run.listed;
}

-- a count of refused rows never falls
grows : (t : Imported) (o : Outcome) → t.refused ≤ (counted t o).refused
grows t outcome.Listed = omega arith
grows t outcome.There = omega arith
grows t outcome.Refused = omega arith

-- and a refused row raises it
not_refused : (t : Imported) (o : Outcome) → (counted t o).refused ≤ 0 → o ≢ outcome.Refused
not_refused t outcome.Listed few = λ same. cc
not_refused t outcome.There few = λ same. cc
not_refused t outcome.Refused few = λ same. absurd (omega (arith, few))

-- however many rows follow
grows_on : {K : Type 0} (Step : Asked → List ℕ → K → K → Type 0) (by : Lister)
    (rows : List (List (List ℕ))) (p q : K × Imported × List ℕ)
    → FoldsTo (IsCounted Step by) p rows q → p.1.refused ≤ q.1.refused
grows_on Step by [] p q folds = rw folds (omega arith)
grows_on Step by (row ∷ rows) p q (mid, step, rest) =
    let later = grows_on Step by rows mid q rest in
    let now = grows p.1 step.outcome in
    let same : mid.1.refused ≡ (counted p.1 step.outcome).refused = ap (λ t. t.refused) step.count in
    omega (arith, later, now, same)

-- where none was counted as refused, none was
pub all_had : {K : Type 0} (Step : Asked → List ℕ → K → K → Type 0) (by : Lister)
    (rows : List (List (List ℕ))) (p q : K × Imported × List ℕ)
    → FoldsTo (IsCounted Step by) p rows q → q.1.refused ≡ 0 → FoldsTo (IsHad Step by) p rows q
all_had Step by [] p q folds none = folds
all_had Step by (row ∷ rows) p q (mid, step, rest) none =
    let later = grows_on Step by rows mid q rest in
    let same : mid.1.refused ≡ (counted p.1 step.outcome).refused = ap (λ t. t.refused) step.count in
    let few : (counted p.1 step.outcome).refused ≤ 0 = omega (arith, later, same, none) in (
      mid,
      record { dealt = step; had = not_refused p.1 step.outcome few },
      all_had Step by rows mid q rest none,
    )

-- an import that refused no row
pub has_all : {K : Type 0} (content : K → Tables) (is_failed : K → Bool)
    (is_honest : K → Type 0) (may_leave : K → Tables → Type 0) (is_ended : K → Type 0)
    (by : Lister) (text : List ℕ) (before after : Option (List ℕ)) (given : K) (report : Imported)
    → report.refused ≡ 0
    → HasDealt content is_failed is_honest may_leave is_ended by text before after given report
    → HasAll content is_failed is_honest may_leave is_ended by text before after given
has_all content is_failed is_honest may_leave is_ended by text before after given report none run =
    record {
      report = report;
      run = run;
      had = all_had (IsStep content is_failed is_honest may_leave run.house.zone) by run.listed.rows
          (run.house.asked, nothing, []) (run.house.left, report, run.listed.printed)
          run.listed.imported none;
    }

-- ---- an import that ended before its end

unless_then : {P Q : Type 0} (fault : ImportFault) → UnlessWrite fault P → (P → Q) → UnlessWrite fault Q
unless_then importing.Write p f = tt
unless_then importing.Memory p f = f p
unless_then importing.Store p f = f p
unless_then importing.Damaged p f = f p
unless_then importing.Member p f = f p
unless_then importing.Head p f = f p
unless_then importing.Csv p f = f p
unless_then importing.Read p f = f p

-- what was printed was handed on
ended_so : {K : Type 0} (Step : Asked → List ℕ → K → K → Type 0) (P Q : List ℕ → Type 0) (by : Lister)
    (records : List (List (List ℕ))) (fault : ImportFault) (old new : K)
    → ((x : List ℕ) → P x → Q x) → HasEnded Step P by records fault old new
    → HasEnded Step Q by records fault old new
ended_so Step P Q by records fault old new f (inl unopened) = inl (record {
  why = unopened.why;
  same = unopened.same;
  shown = f [] unopened.shown;
})
ended_so Step P Q by records fault old new f (inr cut) = inr (record {
  rows = cut.rows;
  rest = cut.rest;
  all = cut.all;
  mid = cut.mid;
  report = cut.report;
  printed = cut.printed;
  before = cut.before;
  shown = unless_then fault cut.shown (f cut.printed);
  why = cut.why;
})

module _ {K R : Type 0} (k : keep.Ghosts K) (remaining : R → Option (List ℕ)) (by : Lister)
    (given asked begun left last : K) (zone : Zone)
    (member : IsKnown k.content k.is_failed k.is_honest k.may_leave by.member given asked)
    (begun_is : begun ≡ asked) (kept_zone : k.is_honest asked → IsZoneOf (k.content asked).settings.zone zone)
    (ordered : HasOrdered (IsStep k.content k.is_failed k.is_honest k.may_leave zone) by begun left)
    (last_is : last ≡ left) (lots : Result R TaskFault) (mine : R) (opened : lots ≡ Ok mine)
    (before between after : Option (List ℕ)) (keeps : Keeps between after) where
  some_dealt : (importing : ImportFault) (fault : TaskFault) → fault ≡ fault_of_import importing
      → (text : List ℕ)
      → HasEnded (IsStep k.content k.is_failed k.is_honest k.may_leave zone) (Appends before between)
      by (records_of text) importing begun left
      → HasDealtSome k by text before after given fault last
  some_dealt importing fault is text ended = record {
    asked = asked;
    member = member;
    zone = zone;
    kept_zone = kept_zone;
    importing = importing;
    report = is;
    ended = subst (λ q. HasEnded (IsStep k.content k.is_failed k.is_honest k.may_leave zone)
        (Appends before after) by (records_of text) importing asked q) (sym last_is)
        (subst (λ q. HasEnded (IsStep k.content k.is_failed k.is_honest k.may_leave zone)
        (Appends before after) by (records_of text) importing q left) begun_is
        (ended_so (IsStep k.content k.is_failed k.is_honest k.may_leave zone) (Appends before between)
        (Appends before after) by (records_of text) importing begun left
        (λ x p. grown before between after x keeps p) ended));
  }

  pub fault_of_rows : (r : Result Imported TaskFault) (s : Result Imported ImportFault)
      → IfErr r (λ fault. ((importing : ImportFault) × (s ≡ Err importing)
      × (fault ≡ fault_of_import importing))
      ⊎ ((report : Imported) × (s ≡ Ok report) × (fault ≡ Write)))
      → IfOk s (λ report. (text : List ℕ) → remaining mine ≡ Some text
      → HasListed (IsStep k.content k.is_failed k.is_honest k.may_leave zone)
      (λ printed. Appends before between (printed ++ totals_line report))
      by (records_of text) report begun left)
      → IfErr s (λ fault. (text : List ℕ) → remaining mine ≡ Some text
      → HasEnded (IsStep k.content k.is_failed k.is_honest k.may_leave zone) (Appends before between)
      by (records_of text) fault begun left)
      → IfErr r (HasFault k remaining lots by before after given last)
  fault_of_rows (Ok x) s why listed ended = tt
  fault_of_rows (Err fault) s (inl (importing, is, fault_is)) listed ended = inr (record {
    reader = mine;
    opened = opened;
    asked = asked;
    member = member;
    importing = importing;
    report = fault_is;
    part = λ text gives. inl (some_dealt importing fault fault_is text (subst
        (λ v. IfErr v (λ f. (t : List ℕ) → remaining mine ≡ Some t
        → HasEnded (IsStep k.content k.is_failed k.is_honest k.may_leave zone) (Appends before between)
        by (records_of t) f begun left)) is ended text gives));
  })
  fault_of_rows (Err fault) s (inr (report, is, fault_is)) listed ended = inr (record {
    reader = mine;
    opened = opened;
    asked = asked;
    member = member;
    importing = importing.Write;
    report = fault_is;
    part = λ text gives. inr (
      fault_is,
      (
        report,
        dealt k.content k.is_failed k.is_honest k.may_leave (λ q. q ≡ last)
            remaining by given begun (taken k.content k.is_failed k.is_honest k.may_leave (λ q. q ≡ last) by
            given asked begun left last zone member begun_is kept_zone ordered last_is refl) lots mine before
            between after report opened begun_is keeps
            (subst (λ v. IfOk v (λ x. (t : List ℕ) → remaining mine ≡ Some t
            → HasListed (IsStep k.content k.is_failed k.is_honest k.may_leave zone)
            (λ printed. Appends before between (printed ++ totals_line x))
            by (records_of t) x begun left)) is listed) mine opened text gives,
      ),
    );
  })

-- what was printed of a file before a fault
part_of : {K R : Type 0} (k : keep.Ghosts K) (remaining : R → Option (List ℕ)) (by : Lister)
    (given last : K) (lots : Result R TaskFault) (before after : Option (List ℕ)) (fault : TaskFault)
    → HasFault k remaining lots by before after given last fault
    → (reader : R) → lots ≡ Ok reader → (text : List ℕ) → remaining reader ≡ Some text
    → IsDealtPart k by text before after given fault last
part_of k remaining by given last lots before after fault (inl (keeps, why)) reader at text gives = inl keeps
part_of k remaining by given last lots before after fault (inr stopped) reader at text gives =
    let same : reader ≡ stopped.reader = let opened = stopped.opened in cc (opened, at) in
    inr (stopped.part text (subst (λ q. remaining q ≡ Some text) same gives))

-- what was printed, whichever way it ended
pub printed_of : {K R : Type 0} (k : keep.Ghosts K) (remaining : R → Option (List ℕ)) (by : Lister)
    (given last : K) (lots : Result R TaskFault) (before after : Option (List ℕ)) (r : Result Imported TaskFault)
    → IfOk r (λ report. (reader : R) → lots ≡ Ok reader → (text : List ℕ) → remaining reader ≡ Some text
    → HasDealt k.content k.is_failed k.is_honest k.may_leave (λ q. q ≡ last) by text before after given
    report)
    → IfErr r (HasFault k remaining lots by before after given last)
    → (reader : R) → lots ≡ Ok reader → (text : List ℕ) → remaining reader ≡ Some text
    → HasPrinted k by text before after given
printed_of k remaining by given last lots before after (Ok report) listed failed reader at text gives =
    (last, inl (report, listed reader at text gives))
printed_of k remaining by given last lots before after (Err fault) listed failed reader at text gives =
    (last, inr (fault, part_of k remaining by given last lots before after fault failed reader at text gives))

-- ---- what the run of an import tells

opened_of : {T E : Type 0} (r : Result T E) → IsOk r → (x : T) × (r ≡ Ok x)
opened_of (Ok x) done = (x, refl)
opened_of (Err e) done = absurd cc

-- a fault of the rows is told before one of the end
pub first_told : {T : Type 0} (Told : TaskFault → Type 0) (r s : Result T TaskFault) (fault : TaskFault)
    → r ≡ Err fault → IfErr s (λ e. r ≡ Err e) → Told fault → IfErr s Told
first_told Told r (Ok x) fault is first told = tt
first_told Told r (Err e) fault is first told =
    let same : fault ≡ e = cc (is, first) in subst Told same told

-- and else that of the end
pub end_told : {T : Type 0} (Told : TaskFault → Type 0) (s : Result T TaskFault)
    (ended : Result (Unit {0}) KeepFault) (fault : TaskFault)
    → (s ≡ Err fault) ⊎ IsEndFault ended fault → Told fault
    → IsOk s → IfErr ended (λ kept. Told (fault_of_keep kept))
end_told Told (Err e) ended fault why told opened = absurd cc
end_told Told (Ok x) (Ok u) fault why told opened = tt
end_told Told (Ok x) (Err e) fault (inl is) told opened = absurd cc
end_told Told (Ok x) (Err e) fault (inr (kept, gave, is)) told opened =
    let same : fault ≡ fault_of_keep e = cc (gave, is) in subst Told same told

pub none_told : {T E : Type 0} (P : E → Type 0) (r : Result T E) → IsOk r → IfErr r P
none_told P (Ok x) done = tt
none_told P (Err e) done = absurd cc

module _ {K L R : Type 0} (k : keep.Ghosts K) (remaining : R → Option (List ℕ)) (lots : Result R TaskFault)
    (is_ended is_left : K → L → Type 0) (by : Lister) (before after : Option (List ℕ)) (given kept : K)
    (left : L) where
  -- an import that came to its end, over a keep of which that is so
  whole : (P : K → Type 0) (report : Imported) → P kept → IsOk lots
      → HasTaken k.content k.is_failed k.is_honest k.may_leave (λ q. q ≡ kept) by given
      → ((reader : R) → lots ≡ Ok reader → (text : List ℕ) → remaining reader ≡ Some text
      → HasDealt k.content k.is_failed k.is_honest k.may_leave (λ q. q ≡ kept) by text before after given
      report)
      → IsWhole k remaining lots P by before after given report
  whole P report so opened house rows =
      let found = opened_of lots opened in
      record {
        reader = found.0;
        opened = found.1;
        house = taken_so k.content k.is_failed k.is_honest k.may_leave P by given kept so house;
        dealt = λ text gives. dealt_so k.content k.is_failed k.is_honest k.may_leave P by text before after
            given kept report so (rows found.0 found.1 text gives);
      }

  pub import_told : {Quiet : Type 0} {Told : TaskFault → Type 0} (listed : Result Imported TaskFault)
      (ended : Result (Unit {0}) KeepFault)
      → IfOk listed (λ report. (reader : R) → lots ≡ Ok reader → (text : List ℕ)
      → remaining reader ≡ Some text
      → HasDealt k.content k.is_failed k.is_honest k.may_leave (λ q. q ≡ kept) by text before after given
      report)
      → OnOk listed (IsOk lots)
      → OnOk listed (HasTaken k.content k.is_failed k.is_honest k.may_leave (λ q. q ≡ kept) by given)
      → IfErr listed (HasFault k remaining lots by before after given kept)
      → OnOk ended (is_ended kept left) → OnErr ended (is_left kept left)
      → ¬ (IsErrOf ended closing.Damaged)
      → (IsOk ended → IfOk listed (λ report. (report.refused ≢ 0) × Quiet))
      → IfErr listed Told → (IsOk listed → IfErr ended (λ end. Told (fault_of_keep end)))
      → (Quiet × HasRefused k remaining lots (λ q. is_ended q left) by before after given)
      ⊎ ((fault : TaskFault)
      × IsUnimported k remaining lots is_ended is_left by before after given left fault × Told fault)
  import_told (Ok report) (Ok u) rows opened house failed done undone sound refused told end_is =
      let (some, quiet) = refused refl in
      inl (quiet, (report, some, whole (λ q. is_ended q left) report done opened house rows))
  import_told (Ok report) (Err e) rows opened house failed done undone sound refused told end_is =
      inr (
        fault_of_keep e,
        inr (
          report,
          of_closing (Err e) e (fault_of_keep e) sound refl refl,
          whole (λ q. is_left q left) report undone opened house rows,
        ),
        end_is refl,
      )
  import_told (Err fault) ended rows opened house failed done undone sound refused told end_is =
      inr (fault, inl (kept, either_end ended done undone, failed), told)
