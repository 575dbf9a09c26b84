-- A covered bid from a history on: what the entries of the history make of a new house is the
-- history, so the run is the end of a run from there.
use Rattle.std.proofs.Common.{◌≡◌, ◌∙◌, ◌+◌, ◌<◌, ◌≤◌, ◌++◌, ◌∷◌, ◌⊎◌, [], ℕ, List, length, length-append, map, ap, arith, inl, inr, refl, subst, sym}
use Rattle.std.specs.Prelude.{◌==◌, false}
use Rattle.std.proofs.lemmas.List.{append_assoc, length-map, map-append}
use Rattle.steps.specs.Table.{IsBandTable}
use Rattle.house_laws.specs.Covered.{IsCovered, IsCoveredBid, IsLedByBoth, LeadsBy, Sealed, bid_message, raised, with_maximum}
use Rattle.house_laws.proofs.CoveredLeads.{covered_led, led_covered}
use Rattle.house_laws.proofs.CoveredRuns.{covered_twins, history_append, raised_is}
use Rattle.house_rows.specs.declared.message.Message.{Message}
use Rattle.house_rows.specs.declared.message.Message.TheVariants.{Write}
use Rattle.house_rows.specs.declared.settings.Settings.{Settings}
use Rattle.house_rows.specs.History.{History}
use Rattle.house_rows.specs.Limits.{most_cents}
use Rattle.house_rows.specs.Runs.{AreTwins, AreTwinsFrom, history_from, history_of, is_of, next}
use Rattle.house_rows.specs.Verdict.{IsHistory}
use Rattle.house_rows.proofs.Next.{next_accepted}
use Rattle.site_audit.specs.SurplusFrom.{IsCoveredFrom}
use Rattle.site_audit.proofs.Twins.{history_more, twins_read}

-- after two runs from a history on, of which the second has another element in a place, the bidder
-- leads: by its maximum, and by a greater one; and both cover what leading takes
pub record LeadsBoth {A F : Type 0} (meant : A → Message F) (settings : Settings) (h : History)
    (place y : ℕ) (b : Sealed) (xs : List A) (other : A) : Type 0 where
  pub left : LeadsBy settings (history_from settings h (map meant xs)) b.item b.member b.maximum
  pub right : LeadsBy settings (history_from settings h (map meant (raised place other xs))) b.item
      b.member y

-- the commands of a history, the oldest first
abbrev orders_of : (F : Type 0) → History → List (Message F)
orders_of F [] = []
orders_of F (e ∷ h) = orders_of F h ++ Write e.moment e.caller e.command ∷ []

-- they make it of a new house
orders_make : (F : Type 0) (settings : Settings) (h : History) → IsHistory settings h
    → history_from settings [] (orders_of F h) ≡ h
orders_make F settings [] is = refl
orders_make F settings (e ∷ h) is =
    history_more settings [] (orders_of F h) (Write e.moment e.caller e.command)
    ∙ ap (λ g. next {F = F} settings g (Write e.moment e.caller e.command)) (orders_make F settings h is.1)
    ∙ next_accepted F settings h e.moment e.caller e.command is.0

-- a command of the history, or an element of the run
abbrev IsConsistent : Type 0 → Type 0 → Type 0
IsConsistent A F = Message F ⊎ A

abbrev is_consistent : {A F : Type 0} → (A → Message F) → IsConsistent A F → Message F
is_consistent meant (inl m) = m
is_consistent meant (inr x) = meant x

-- the history's commands, and then the run
abbrev first_of : (A F : Type 0) → History → List (IsConsistent A F)
first_of A F h = map inl (orders_of F h)

abbrev run_of : {A : Type 0} (F : Type 0) → List A → List (IsConsistent A F)
run_of F xs = map inr xs

abbrev whole : {A : Type 0} (F : Type 0) → History → List A → List (IsConsistent A F)
whole {A} F h xs = first_of A F h ++ run_of F xs

means_first : {A F : Type 0} (meant : A → Message F) (ms : List (Message F))
    → map (is_consistent meant) (map inl ms) ≡ ms
means_first meant [] = refl
means_first meant (m ∷ ms) = ap (λ rest. m ∷ rest) (means_first meant ms)

means_run : {A F : Type 0} (meant : A → Message F) (xs : List A)
    → map (is_consistent meant) (map inr xs) ≡ map meant xs
means_run meant [] = refl
means_run meant (x ∷ xs) = ap (λ rest. meant x ∷ rest) (means_run meant xs)

-- what the history's commands make
first_makes : {A F : Type 0} (meant : A → Message F) (settings : Settings) (h : History)
    → IsHistory settings h
    → history_from settings [] (map (is_consistent meant) (first_of A F h)) ≡ h
first_makes {F = F} meant settings h is =
    ap (history_from settings []) (means_first meant (orders_of F h)) ∙ orders_make F settings h is

-- what the whole makes is what the run makes of the history
whole_makes : {A F : Type 0} (meant : A → Message F) (settings : Settings) (h : History)
    → IsHistory settings h → (xs : List A)
    → history_of settings (map (is_consistent meant) (whole F h xs)) ≡ history_from settings h (map meant xs)
whole_makes {A} {F} meant settings h is xs =
    ap (history_from settings []) (map-append (is_consistent meant) (first_of A F h) (run_of F xs))
    ∙ history_append settings [] (map (is_consistent meant) (first_of A F h)) (map (is_consistent meant) (run_of F xs))
    ∙ ap (λ g. history_from settings g (map (is_consistent meant) (run_of F xs))) (first_makes meant settings h is)
    ∙ ap (history_from settings h) (means_run meant xs)

-- twin runs after equal fronts, and with them
twins_after : {A F : Type 0} (meant : A → Message F) (settings : Settings) (c : ℕ) (h : History)
    (front xs ys : List A) → AreTwinsFrom meant settings c h h (front ++ xs) (front ++ ys)
    → AreTwinsFrom meant settings c (history_from settings h (map meant front))
    (history_from settings h (map meant front)) xs ys
twins_after meant settings c h [] xs ys twins = twins
twins_after meant settings c h (m ∷ front) xs ys twins =
    twins_after meant settings c (next settings h (meant m)) front xs ys twins.2

twins_with : {A F : Type 0} (meant : A → Message F) (settings : Settings) (c : ℕ) (h : History)
    (front xs ys : List A)
    → AreTwinsFrom meant settings c (history_from settings h (map meant front))
    (history_from settings h (map meant front)) xs ys
    → AreTwinsFrom meant settings c h h (front ++ xs) (front ++ ys)
twins_with meant settings c h [] xs ys twins = twins
twins_with meant settings c h (m ∷ front) xs ys twins = (
  inl refl,
  record { public = refl; waiting = refl },
  twins_with meant settings c (next settings h (meant m)) front xs ys twins,
)

same_element : {A F : Type 0} (c : ℕ) (meant : A → Message F) (x y : A)
    → (◌≡◌ {A = IsConsistent A F} (inr x) (inr y)) ⊎ ((is_of c (meant x) ≡ false) × (is_of c (meant y) ≡ false))
    → (x ≡ y) ⊎ ((is_of c (meant x) ≡ false) × (is_of c (meant y) ≡ false))
same_element c meant x y (inl e) = inl cc
same_element c meant x y (inr apart) = inr apart

-- twin runs of elements that stand for themselves
twins_alone : {A F : Type 0} (meant : A → Message F) (settings : Settings) (c : ℕ) (h k : History)
    (xs ys : List A) → AreTwinsFrom (is_consistent meant) settings c h k (run_of F xs) (run_of F ys)
    → AreTwinsFrom meant settings c h k xs ys
twins_alone meant settings c h k [] [] twins = tt
twins_alone meant settings c h k [] (y ∷ ys) twins = absurd twins
twins_alone meant settings c h k (x ∷ xs) [] twins = absurd twins
twins_alone meant settings c h k (x ∷ xs) (y ∷ ys) twins = (
  same_element c meant x y twins.0,
  twins.1,
  twins_alone meant settings c (next settings h (meant x)) (next settings k (meant y)) xs ys twins.2,
)

-- the whole, parted where the run is
parts_whole : {A F : Type 0} (h : History) (xs before : List A) (here : A) (later : List A)
    → xs ≡ before ++ here ∷ later
    → whole F h xs ≡ whole F h before ++ inr here ∷ run_of F later
parts_whole {A} {F} h xs before here later parts =
    ap (whole F h) parts
    ∙ ap (λ zs. first_of A F h ++ zs) (map-append inr before (here ∷ later))
    ∙ sym (append_assoc (first_of A F h) (run_of F before) (inr here ∷ run_of F later))

placed_whole : {A : Type 0} (F : Type 0) (h : History) (before : List A) (place : ℕ)
    → place ≡ length before + 1
    → length (orders_of F h) + place ≡ length (whole F h before) + 1
placed_whole {A} F h before place placed =
    omega (
      arith,
      placed,
      length-append (first_of A F h) (run_of F before),
      length-map {B = IsConsistent A F} (orders_of F h) inl,
      length-map {B = IsConsistent A F} before inr,
    )

-- another element in a place of the run is another in a place of the whole
raised_whole : {A F : Type 0} (h : History) (place : ℕ) (xs before : List A) (here other : A)
    (later : List A) → xs ≡ before ++ here ∷ later → place ≡ length before + 1
    → raised (length (orders_of F h) + place) (inr other) (whole F h xs)
    ≡ whole F h (raised place other xs)
raised_whole {A} {F} h place xs before here other later parts placed =
    let n = length (orders_of F h) + place in
    ap (raised n (inr other)) (parts_whole {F = F} h xs before here later parts)
    ∙ raised_is n (whole F h before) (inr here) (inr other) (run_of F later)
    (placed_whole F h before place placed)
    ∙ sym (parts_whole {F = F} h (raised place other xs) before other later
    (ap (raised place other) parts ∙ raised_is place before here other later placed))

-- twin runs from a history on are ends of twin runs from a new house on
twins_whole : {A F : Type 0} (meant : A → Message F) (settings : Settings) (c : ℕ) (h : History)
    → IsHistory settings h → (xs ys : List A) → AreTwinsFrom meant settings c h h xs ys
    → AreTwins (is_consistent meant) settings c (whole F h xs) (whole F h ys)
twins_whole {A} {F} meant settings c h is xs ys twins =
    twins_with (is_consistent meant) settings c [] (first_of A F h) (run_of F xs) (run_of F ys)
    (subst (λ g. AreTwinsFrom (is_consistent meant) settings c g g (run_of F xs) (run_of F ys))
    (sym (first_makes meant settings h is))
    (twins_read {B = IsConsistent A F} inr (is_consistent meant) settings c h h xs ys twins))

whole_twins : {A F : Type 0} (meant : A → Message F) (settings : Settings) (c : ℕ) (h : History)
    → IsHistory settings h → (xs ys : List A)
    → AreTwins (is_consistent meant) settings c (whole F h xs) (whole F h ys)
    → AreTwinsFrom meant settings c h h xs ys
whole_twins {A} {F} meant settings c h is xs ys twins =
    twins_alone meant settings c h h xs ys
    (subst (λ g. AreTwinsFrom (is_consistent meant) settings c g g (run_of F xs) (run_of F ys))
    (first_makes meant settings h is)
    (twins_after (is_consistent meant) settings c [] (first_of A F h) (run_of F xs) (run_of F ys) twins))

-- a covered bid of the run is one of the whole
covered_whole : {A F : Type 0} (meant : A → Message F) (settings : Settings) (h : History)
    → IsHistory settings h → (c place y : ℕ) (b : Sealed) (xs : List A)
    → IsCoveredFrom meant settings h c place y b xs
    → IsCovered (is_consistent meant) settings c (length (orders_of F h) + place) y b (whole F h xs)
covered_whole {A} {F} meant settings h is c place y b xs covered = record {
  before = whole F h covered.before;
  here = inr covered.here;
  later = run_of F covered.later;
  parts = parts_whole {F = F} h xs covered.before covered.here covered.later covered.parts;
  placed = placed_whole F h covered.before place covered.placed;
  means = covered.means;
  covered = subst (λ g. IsCoveredBid settings y b g (history_of settings (map (is_consistent meant) (whole F h xs))))
      (sym (whole_makes meant settings h is covered.before))
      (subst (λ g. IsCoveredBid settings y b (history_from settings h (map meant covered.before)) g)
      (sym (whole_makes meant settings h is xs)) covered.covered);
  apart = covered.apart;
}

-- nobody else sees that the bid was raised
pub covered_twins_from : {A F : Type 0} (meant : A → Message F) (settings : Settings) (h : History)
    (c place y : ℕ) (b : Sealed) (xs : List A) (other : A) → IsBandTable settings.bands
    → IsHistory settings h → IsCoveredFrom meant settings h c place y b xs
    → meant other ≡ bid_message (with_maximum y b)
    → AreTwinsFrom meant settings c h h xs (raised place other xs)
covered_twins_from {A} {F} meant settings h c place y b xs other valid is covered raises =
    let n = length (orders_of F h) + place in
    whole_twins meant settings c h is xs (raised place other xs)
    (subst (λ zs. AreTwins (is_consistent meant) settings c (whole F h xs) zs)
    (raised_whole {F = F} h place xs covered.before covered.here other covered.later covered.parts
    covered.placed)
    (covered_twins (is_consistent meant) settings c n y b (whole F h xs) (inr other) valid
    (covered_whole meant settings h is c place y b xs covered) raises))

-- a covered bid shows in the end
pub covered_led_from : {A F : Type 0} (meant : A → Message F) (settings : Settings) (h : History)
    (c place y : ℕ) (b : Sealed) (xs : List A) (other : A) → IsBandTable settings.bands
    → IsHistory settings h → meant other ≡ bid_message (with_maximum y b)
    → IsCoveredFrom meant settings h c place y b xs → LeadsBoth meant settings h place y b xs other
covered_led_from {A} {F} meant settings h c place y b xs other valid is raises covered =
    let n = length (orders_of F h) + place in
    let shows = covered_led (is_consistent meant) settings c n y b (whole F h xs) (inr other) valid raises
    (covered_whole meant settings h is c place y b xs covered) in
    let same = raised_whole {F = F} h place xs covered.before covered.here other covered.later
    covered.parts covered.placed in
    record {
      left = subst (λ g. LeadsBy settings g b.item b.member b.maximum)
          (whole_makes meant settings h is xs) shows.left;
      right = subst (λ g. LeadsBy settings g b.item b.member y)
          (ap (λ zs. history_of settings (map (is_consistent meant) zs)) same
          ∙ whole_makes meant settings h is (raised place other xs)) shows.right;
    }

-- a list parted at one place has one front
one_front : {A : Type 0} (before later before' later' : List A) (here here' : A)
    → before ++ here ∷ later ≡ before' ++ here' ∷ later' → length before ≡ length before'
    → before ≡ before'
one_front [] later [] later' here here' e same = refl
one_front [] later (b ∷ before') later' here here' e same = absurd (omega (arith, same))
one_front (a ∷ before) later [] later' here here' e same = absurd (omega (arith, same))
one_front (a ∷ before) later (b ∷ before') later' here here' e same =
    let first : a ≡ b = cc in
    let rest : before ≡ before' =
    one_front before later before' later' here here'
    (let f : before ++ here ∷ later ≡ before' ++ here' ∷ later' = cc in f) (omega (arith, same)) in
    rw (first, rest) refl

same_length : (n m place : ℕ) → place ≡ n + 1 → place ≡ m + 1 → n ≡ m
same_length n m place e f = omega (arith, e, f)

-- and what shows in the end says that the bid was covered
pub led_covered_from : {A F : Type 0} (meant : A → Message F) (settings : Settings) (h : History)
    (c place y : ℕ) (b : Sealed) (xs before : List A) (here : A) (later : List A) (other : A)
    → IsBandTable settings.bands → IsHistory settings h → xs ≡ before ++ here ∷ later
    → place ≡ length before + 1 → meant here ≡ bid_message b
    → meant other ≡ bid_message (with_maximum y b) → b.maximum < y → y ≤ most_cents
    → (b.member == c) ≡ false → AreTwinsFrom meant settings c h h xs (raised place other xs)
    → LeadsBoth meant settings h place y b xs other → IsCoveredFrom meant settings h c place y b xs
led_covered_from {A} {F} meant settings h c place y b xs before here later other valid is parts placed
    means raises above fits apart twins leads =
    let n = length (orders_of F h) + place in
    let same = raised_whole {F = F} h place xs before here other later parts placed in
    let parted = parts_whole {F = F} h xs before here later parts in
    let shows : IsLedByBoth (is_consistent meant) settings c n y b (whole F h xs) (inr other) = record {
      before = whole F h before;
      here = inr here;
      later = run_of F later;
      parts = parted;
      placed = placed_whole F h before place placed;
      means = means;
      above = above;
      fits = fits;
      apart = apart;
      twins = subst (λ zs. AreTwins (is_consistent meant) settings c (whole F h xs) zs) (sym same)
          (twins_whole meant settings c h is xs (raised place other xs) twins);
      left = subst (λ g. LeadsBy settings g b.item b.member b.maximum)
          (sym (whole_makes meant settings h is xs)) leads.left;
      right = subst (λ g. LeadsBy settings g b.item b.member y)
          (sym (ap (λ zs. history_of settings (map (is_consistent meant) zs)) same
          ∙ whole_makes meant settings h is (raised place other xs))) leads.right;
    } in
    let found = led_covered (is_consistent meant) settings c n y b (whole F h xs) (inr other) valid raises
    shows in
    let front : found.before ≡ whole F h before =
    one_front found.before found.later (whole F h before) (run_of F later) found.here (inr here)
    (sym found.parts ∙ parted)
    (same_length (length found.before) (length (whole F h before)) n found.placed
    (placed_whole F h before place placed)) in
    record {
      before = before;
      here = here;
      later = later;
      parts = parts;
      placed = placed;
      means = means;
      covered = subst (λ g. IsCoveredBid settings y b g (history_from settings h (map meant xs)))
          (ap (λ zs. history_of settings (map (is_consistent meant) zs)) front
          ∙ whole_makes meant settings h is before)
          (subst (λ g. IsCoveredBid settings y b
          (history_of settings (map (is_consistent meant) found.before)) g)
          (whole_makes meant settings h is xs) found.covered);
      apart = apart;
    }
