-- A covered bid shows in the end: its bidder leads by its maximum, and by the amount above it where
-- that is in its place.
use Rattle.std.proofs.Common.{◌≡◌, ℕ, ◌+◌, ◌<◌, ◌≤◌, List, [], ◌∷◌, ◌++◌, length, length-append, map, true, refl, ◌∙◌, ap, sym, subst, arith, inl, inr, Option, Some, None}
use Rattle.std.specs.Prelude.{◌==◌}
use Rattle.std.proofs.lemmas.Bool.Decides.{nat_tests}
use Rattle.std.proofs.lemmas.List.{append_assoc, map-append}
use Rattle.steps.specs.Table.{IsBandTable}
use Rattle.proxy.specs.Opening.{Opening}
use Rattle.proxy.specs.Accepted.{AreAccepted}
use Rattle.proxy.specs.declared.bid.Bid as bid
use Rattle.proxy.specs.Bids.{bids_by, greatest, second, top}
use Rattle.proxy.specs.Surplus.{Covers}
use Rattle.proxy.proofs.Rises.{maximum_below, maxima_rise}
use Rattle.proxy.proofs.Surpluses.{surplus_tops}
use Rattle.house_rows.specs.declared.command.Command.TheVariants.{Bid}
use Rattle.house_rows.specs.declared.item.ItemShown.{ItemShown}
use Rattle.house_rows.specs.declared.message.Message.{Message}
use Rattle.house_rows.specs.declared.message.Message.TheVariants.{Broken, Write, Read}
use Rattle.house_rows.specs.declared.refusal.Refusal.{Refusal}
use Rattle.house_rows.specs.declared.settings.Settings.{Settings}
use Rattle.house_rows.specs.Bids.{bids_on}
use Rattle.house_rows.specs.History.{Entry, History}
use Rattle.house_rows.specs.Items.{items_shown, shown_at, shown_now}
use Rattle.house_rows.specs.Listings.{Listing, bands_by, listed_opening, listing_at, listings}
use Rattle.house_rows.specs.Runs.{Agrees, AreTwins, AreTwinsFrom, entered, entry, history_from, history_of, next}
use Rattle.house_rows.specs.Verdict.{IsHistory, Rule, bid_rules, verdict}
use Rattle.house_rows.specs.Views.{Public, public_view}
use Rattle.house_rows.proofs.AcceptedBids.{bids_are_accepted}
use Rattle.house_rows.proofs.GoesBy.{bands_valid}
use Rattle.house_rows.proofs.Next.{next_accepted, next_is_history, next_refused}
use Rattle.house_rows.proofs.Passed.{item_from, item_pass, own_pass, shown_is}
use Rattle.house_rows.proofs.Put.{by_test}
use Rattle.house_rows.proofs.RangedBids.{listed_more}
use Rattle.house_rows.proofs.RangedTalk.{listing_is}
use Rattle.house_laws.specs.Covered.{IsCovered, IsCoveredBid, IsLedByBoth, Sealed, bid_message, raised, with_maximum}
use Rattle.house_laws.proofs.CoveredRuns.{covered_twins, after_bid, grows, history_append, last_near, mine, raised_is}

-- every history along a list is one of accepted entries
pub run_is_history : {F : Type 0} (settings : Settings) (h : History) (ms : List (Message F)) → IsHistory settings h → IsHistory settings (history_from settings h ms)
run_is_history settings h [] is = is
run_is_history settings h (m ∷ ms) is = run_is_history settings (next settings h m) ms (next_is_history settings h m is)

-- what is listed stays listed
entered_listed : (v : Option Refusal) (h : History) (e : Entry) (i : ℕ) (l : Listing) → listing_at (listings h) i ≡ Some l → listing_at (listings (entered v e h)) i ≡ Some l
entered_listed None h e i l listed = listed_more h e i l listed
entered_listed (Some r) h e i l listed = listed

next_listed : {F : Type 0} (settings : Settings) (h : History) (m : Message F) (i : ℕ) (l : Listing) → listing_at (listings h) i ≡ Some l → listing_at (listings (next settings h m)) i ≡ Some l
unfolding next
next_listed settings h (Write t d command) i l listed = entered_listed (verdict settings h t d command) h (entry t d command) i l listed
next_listed settings h (Read d query) i l listed = listed
next_listed settings h (Broken caller fault) i l listed = listed

listed_along : {F : Type 0} (settings : Settings) (h : History) (ms : List (Message F)) (i : ℕ) (l : Listing) → listing_at (listings h) i ≡ Some l → listing_at (listings (history_from settings h ms)) i ≡ Some l
listed_along settings h [] i l listed = listed
listed_along settings h (m ∷ ms) i l listed = listed_along settings (next settings h m) ms i l (next_listed settings h m i l listed)

-- two runs agree after each place
twins_agree : {A F : Type 0} (meant : A → Message F) (settings : Settings) (c : ℕ) (h k : History) (before : List A) (here other : A) (later : List A)
    → AreTwinsFrom meant settings c h k (before ++ here ∷ later) (before ++ other ∷ later)
    → Agrees settings c (next settings (history_from settings h (map meant before)) (meant here)) (next settings (history_from settings k (map meant before)) (meant other))
twins_agree meant settings c h k [] here other later twins = twins.1
twins_agree meant settings c h k (m ∷ before) here other later twins =
    twins_agree meant settings c (next settings h (meant m)) (next settings k (meant m)) before here other later twins.2

-- an accepted bid shows in the count of its item
shown_count : (settings : Settings) (h : History) (t w i y : ℕ) (l : Listing) → listing_at (listings h) i ≡ Some l
    → items_shown settings h ≡ items_shown settings (entry t w (Bid i y) ∷ h) → ⊥
shown_count settings h t w i y l listed same =
    let e : Entry = entry t w (Bid i y) in
    let me : l.item ≡ i = listing_is h i l listed in
    let before : shown_at (items_shown settings h) i ≡ Some (shown_now settings h l) = shown_is settings h i ∙ ap (item_from settings h) listed in
    let after : shown_at (items_shown settings (e ∷ h)) i ≡ Some (shown_now settings (e ∷ h) l) = shown_is settings (e ∷ h) i ∙ ap (item_from settings (e ∷ h)) (listed_more h e i l listed) in
    let both : Some (shown_now settings h l) ≡ Some (shown_now settings (e ∷ h) l) = sym before ∙ ap (λ its. shown_at its i) same ∙ after in
    let counts : length (bids_on h l.item) ≡ length (bids_on (e ∷ h) l.item) = ap (λ (it : ItemShown). it.item.terms.count) (let f : shown_now settings h l ≡ shown_now settings (e ∷ h) l = cc in f) in
    let on : (i == l.item) ≡ true = grind (arith, nat_tests) in
    let more : length (bids_on (e ∷ h) l.item) ≡ length (bids_on h l.item) + 1 = rw on (length-append (bids_on h l.item) _) in
    omega arith

-- a refused bid leaves the history
refused_stays : {F : Type 0} (settings : Settings) (h : History) (m : Message F) (b : Sealed) (r : Refusal) → m ≡ bid_message b
    → verdict settings h b.moment b.member (Bid b.item b.maximum) ≡ Some r → next settings h m ≡ h
refused_stays {F = F} settings h m b r is e = rw is (next_refused F settings h b.moment b.member (Bid b.item b.maximum) r e)

accepted_enters : {F : Type 0} (settings : Settings) (h : History) (m : Message F) (b : Sealed) → m ≡ bid_message b
    → verdict settings h b.moment b.member (Bid b.item b.maximum) ≡ None → next settings h m ≡ entry b.moment b.member (Bid b.item b.maximum) ∷ h
accepted_enters {F = F} settings h m b is e = rw is (next_accepted F settings h b.moment b.member (Bid b.item b.maximum) e)

-- where both maxima show in the end, the bid was accepted
was_accepted : {F : Type 0} (settings : Settings) (c y : ℕ) (b : Sealed) (h : History) (m n : Message F) (ms : List (Message F)) (v u : Option Refusal)
    → m ≡ bid_message b → n ≡ bid_message (with_maximum y b) → b.maximum < y
    → verdict settings h b.moment b.member (Bid b.item b.maximum) ≡ v → verdict settings h b.moment b.member (Bid b.item y) ≡ u
    → Agrees settings c (next settings h m) (next settings h n)
    → top (bids_on (history_from settings (next settings h m) ms) b.item) ≡ b.maximum
    → top (bids_on (history_from settings (next settings h n) ms) b.item) ≡ y
    → v ≡ None
was_accepted settings c y b h m n ms None u is raises lt e f agrees left right = refl
was_accepted settings c y b h m n ms (Some r) (Some s) is raises lt e f agrees left right =
    let left' : top (bids_on (history_from settings h ms) b.item) ≡ b.maximum =
    subst (λ (g : History). top (bids_on (history_from settings g ms) b.item) ≡ b.maximum) (refused_stays settings h m b r is e) left in
    let right' : top (bids_on (history_from settings h ms) b.item) ≡ y =
    subst (λ (g : History). top (bids_on (history_from settings g ms) b.item) ≡ y) (refused_stays settings h n (with_maximum y b) s raises f) right in
    absurd (omega (arith, left', right', lt))
was_accepted settings c y b h m n ms (Some r) None is raises lt e f agrees left right =
    let same : public_view settings h ≡ public_view settings (entry b.moment b.member (Bid b.item y) ∷ h) =
    ap (public_view settings) (sym (refused_stays settings h m b r is e)) ∙ agrees.public
    ∙ ap (public_view settings) (accepted_enters settings h n (with_maximum y b) raises f) in
    let more : ItemShown → List Rule = bid_rules b.moment b.member y (greatest (bids_on h b.item) b.member) in
    let pass = item_pass settings h b.item more (own_pass settings h b.moment b.member (Bid b.item y) f) in
    absurd (shown_count settings h b.moment b.member b.item y pass.listing pass.listed (ap (λ (p : Public). p.items) same))

-- none of these bids is a bidder's
none_by : (w : ℕ) (bids : List bid.Bid) → ((middle : List bid.Bid) (b : bid.Bid) (rest : List bid.Bid) → bids ≡ middle ++ b ∷ rest → b.member ≡ w → ⊥) → bids_by w bids ≡ []
none_by w [] none = refl
none_by w (b ∷ bids) none =
    elim (by_test (b.member == w)) [
      | inl is ↦ absurd (none [] b bids refl (grind (arith, nat_tests)))
      | inr not ↦ rw not (none_by w bids (λ middle a rest e. none (b ∷ middle) a rest (ap (λ bs. b ∷ bs) e)))
    ]

-- where a bidder's bid is still the top in the end, it has bid no more
is_last : (bands : List (ℕ × ℕ)) (opening : Opening) (w x number : ℕ) (before more : List bid.Bid) → IsBandTable bands
    → AreAccepted bands opening (before ++ record { member = w; maximum = x; no = number } ∷ more) → top (before ++ record { member = w; maximum = x; no = number } ∷ more) ≡ x
    → bids_by w more ≡ []
is_last bands opening w x number before more valid each is =
    let one : bid.Bid = record { member = w; maximum = x; no = number } in
    none_by w more (λ middle b rest e me.
    let parts : (before ++ one ∷ middle) ++ b ∷ rest ≡ before ++ (one ∷ (middle ++ b ∷ rest)) = append_assoc before (one ∷ middle) (b ∷ rest) in
    let each' : AreAccepted bands opening (before ++ (one ∷ (middle ++ b ∷ rest))) = subst (λ bs. AreAccepted bands opening (before ++ one ∷ bs)) e each in
    let is' : top (before ++ (one ∷ (middle ++ b ∷ rest))) ≡ x = subst (λ bs. top (before ++ one ∷ bs) ≡ x) e is in
    let above : x < b.maximum = maxima_rise bands opening before middle rest one b valid (subst (AreAccepted bands opening) (sym parts) each') (sym me) in
    let below : b.maximum ≤ top (before ++ (one ∷ (middle ++ b ∷ rest))) = subst (λ bs. b.maximum ≤ top bs) parts (maximum_below (before ++ one ∷ middle) b rest) in
    omega (arith, above, below, is'))

by_one : (w x number : ℕ) (before more : List bid.Bid) → bids_by w more ≡ []
    → length (bids_by w (before ++ record { member = w; maximum = x; no = number } ∷ more)) ≡ length (bids_by w before) + 1
by_one w x number [] more none = let me : (w == w) ≡ true = grind (arith, nat_tests) in rw (me, none) refl
by_one w x number (b ∷ before) more none =
    let rest = by_one w x number before more none in
    elim (by_test (b.member == w)) [ inl is ↦ rw is (omega arith) | inr not ↦ rw not rest ]

-- so it is the bidder's last
no_more_bids : {F : Type 0} (settings : Settings) (b : Sealed) (h : History) (ms : List (Message F)) → IsBandTable settings.bands → IsHistory settings h
    → verdict settings h b.moment b.member (Bid b.item b.maximum) ≡ None
    → top (bids_on (history_from settings (entry b.moment b.member (Bid b.item b.maximum) ∷ h) ms) b.item) ≡ b.maximum
    → mine b.member b.item (history_from settings (entry b.moment b.member (Bid b.item b.maximum) ∷ h) ms) ≡ mine b.member b.item h + 1
no_more_bids settings b h ms valid is accepted by =
    let w = b.member in
    let i = b.item in
    let x = b.maximum in
    let e : Entry = entry b.moment w (Bid i x) in
    let bids = bids_on h i in
    let one : bid.Bid = record { member = w; maximum = x; no = length bids + 1 } in
    let on : (i == i) ≡ true = grind (arith, nat_tests) in
    let first : bids_on (e ∷ h) i ≡ bids ++ one ∷ [] = rw on refl in
    let more = grows settings (e ∷ h) ms i in
    let all : bids_on (history_from settings (e ∷ h) ms) i ≡ bids ++ one ∷ more.0 = more.1 ∙ ap (λ bs. bs ++ more.0) first ∙ append_assoc bids (one ∷ []) more.0 in
    let rules : ItemShown → List Rule = bid_rules b.moment w x (greatest bids w) in
    let pass = item_pass settings h i rules (own_pass settings h b.moment w (Bid i x) accepted) in
    let l : Listing = pass.listing in
    let me : l.item ≡ i = listing_is h i l pass.listed in
    let last : History = history_from settings (e ∷ h) ms in
    let listed : listing_at (listings last) i ≡ Some l = listed_along settings (e ∷ h) ms i l (listed_more h e i l pass.listed) in
    let listed' : listing_at (listings last) l.item ≡ Some l = subst (λ (j : ℕ). listing_at (listings last) j ≡ Some l) (sym me) listed in
    let history : IsHistory settings last = run_is_history settings (e ∷ h) ms (accepted, is) in
    let each : AreAccepted (bands_by settings l) (listed_opening l) (bids_on last l.item) = bids_are_accepted settings last history l listed' in
    let each' : AreAccepted (bands_by settings l) (listed_opening l) (bids ++ one ∷ more.0) =
    subst (AreAccepted (bands_by settings l) (listed_opening l)) (ap (bids_on last) me ∙ all) each in
    let by' : top (bids ++ one ∷ more.0) ≡ x = rw all at by in
    let none : bids_by w more.0 ≡ [] = is_last (bands_by settings l) (listed_opening l) w x (length bids + 1) bids more.0 (bands_valid settings last l valid history listed') each' by' in
    ap (λ bs. length (bids_by w bs)) all ∙ by_one w x (length bids + 1) bids more.0 none

-- a run in two parts
run_parts : {A F : Type 0} (meant : A → Message F) (settings : Settings) (before : List A) (here : A) (later : List A)
    → history_of settings (map meant (before ++ here ∷ later)) ≡ history_from settings (next settings (history_of settings (map meant before)) (meant here)) (map meant later)
run_parts meant settings before here later =
    ap (history_from settings []) (map-append meant before (here ∷ later)) ∙ history_append settings [] (map meant before) (meant here ∷ map meant later)

-- what shows in the end says that the bid was covered
pub led_covered : {A F : Type 0} (meant : A → Message F) (settings : Settings) (c place y : ℕ) (b : Sealed) (xs : List A) (other : A) → IsBandTable settings.bands
    → meant other ≡ bid_message (with_maximum y b) → IsLedByBoth meant settings c place y b xs other → IsCovered meant settings c place y b xs
led_covered meant settings c place y b xs other valid raises is =
    let h : History = history_of settings (map meant is.before) in
    let left : top (bids_on (history_from settings (next settings h (meant is.here)) (map meant is.later)) b.item) ≡ b.maximum =
    subst (λ (g : History). top (bids_on g b.item) ≡ b.maximum) (ap (λ zs. history_of settings (map meant zs)) is.parts ∙ run_parts meant settings is.before is.here is.later) is.left.by in
    let changed : raised place other xs ≡ is.before ++ other ∷ is.later = ap (raised place other) is.parts ∙ raised_is place is.before is.here other is.later is.placed in
    let right : top (bids_on (history_from settings (next settings h (meant other)) (map meant is.later)) b.item) ≡ y =
    subst (λ (g : History). top (bids_on g b.item) ≡ y) (ap (λ zs. history_of settings (map meant zs)) changed ∙ run_parts meant settings is.before other is.later) is.right.by in
    let twins' : AreTwins meant settings c xs (is.before ++ other ∷ is.later) = subst (λ zs. AreTwins meant settings c xs zs) changed is.twins in
    let twins : AreTwins meant settings c (is.before ++ is.here ∷ is.later) (is.before ++ other ∷ is.later) =
    subst (λ zs. AreTwins meant settings c zs (is.before ++ other ∷ is.later)) is.parts twins' in
    let agrees = twins_agree meant settings c [] [] is.before is.here other is.later twins in
    let accepted = was_accepted settings c y b h (meant is.here) (meant other) (map meant is.later) (verdict settings h b.moment b.member (Bid b.item b.maximum))
    (verdict settings h b.moment b.member (Bid b.item y)) is.means raises is.above refl refl agrees left right in
    let enters : next settings h (meant is.here) ≡ entry b.moment b.member (Bid b.item b.maximum) ∷ h = accepted_enters settings h (meant is.here) b is.means accepted in
    let left' : top (bids_on (history_from settings (entry b.moment b.member (Bid b.item b.maximum) ∷ h) (map meant is.later)) b.item) ≡ b.maximum =
    subst (λ (g : History). top (bids_on (history_from settings g (map meant is.later)) b.item) ≡ b.maximum) enters left in
    let more = no_more_bids settings b h (map meant is.later) valid (run_is_history settings [] (map meant is.before) tt) accepted left' in
    let whole : history_of settings (map meant xs) ≡ history_from settings (entry b.moment b.member (Bid b.item b.maximum) ∷ h) (map meant is.later) =
    ap (λ zs. history_of settings (map meant zs)) is.parts ∙ run_parts meant settings is.before is.here is.later
    ∙ ap (λ (g : History). history_from settings g (map meant is.later)) enters in
    let more_rules : ItemShown → List Rule = bid_rules b.moment b.member b.maximum (greatest (bids_on h b.item) b.member) in
    let pass = item_pass settings h b.item more_rules (own_pass settings h b.moment b.member (Bid b.item b.maximum) accepted) in
    let e : Entry = entry b.moment b.member (Bid b.item b.maximum) in
    let along : listing_at (listings (history_of settings (map meant xs))) b.item ≡ Some pass.listing =
    subst (λ (g : History). listing_at (listings g) b.item ≡ Some pass.listing) (sym whole)
    (listed_along settings (e ∷ h) (map meant is.later) b.item pass.listing (listed_more h e b.item pass.listing pass.listed)) in
    let both : Some is.left.listing ≡ Some pass.listing = sym is.left.listed ∙ along in
    let same : is.left.listing ≡ pass.listing = cc in
    record {
      before = is.before;
      here = is.here;
      later = is.later;
      parts = is.parts;
      placed = is.placed;
      means = is.means;
      covered = record {
        accepted = accepted;
        listing = pass.listing;
        listed = pass.listed;
        no_more = ap (mine b.member b.item) whole ∙ more;
        leads = is.left.led;
        covers = subst (λ (l : Listing). Covers (bands_by settings l) l.reserve (second (bids_on (history_of settings (map meant xs)) b.item)) b.maximum) same is.left.covers;
        above = is.above;
        fits = is.fits;
      };
      apart = is.apart;
    }

-- and a bid that is covered shows so
pub covered_led : {A F : Type 0} (meant : A → Message F) (settings : Settings) (c place y : ℕ) (b : Sealed) (xs : List A) (other : A) → IsBandTable settings.bands
    → meant other ≡ bid_message (with_maximum y b) → IsCovered meant settings c place y b xs → IsLedByBoth meant settings c place y b xs other
covered_led meant settings c place y b xs other valid raises is =
    let h : History = history_of settings (map meant is.before) in
    let whole : history_of settings (map meant xs) ≡ history_from settings (next settings h (meant is.here)) (map meant is.later) =
    ap (λ zs. history_of settings (map meant zs)) is.parts ∙ run_parts meant settings is.before is.here is.later in
    let changed : raised place other xs ≡ is.before ++ other ∷ is.later = ap (raised place other) is.parts ∙ raised_is place is.before is.here other is.later is.placed in
    let whole' : history_of settings (map meant (raised place other xs)) ≡ history_from settings (next settings h (meant other)) (map meant is.later) =
    ap (λ zs. history_of settings (map meant zs)) changed ∙ run_parts meant settings is.before other is.later in
    let covered : IsCoveredBid settings y b h (history_from settings (next settings h (meant is.here)) (map meant is.later)) = subst (IsCoveredBid settings y b h) whole is.covered in
    let follows = after_bid meant settings y b h is.here other is.later valid (run_is_history settings [] (map meant is.before) tt) is.means raises covered in
    let near = last_near meant settings (bands_by settings covered.listing) covered.listing.reserve b.member b.item b.maximum y (next settings h (meant is.here)) (next settings h (meant other)) is.later follows.below follows.near follows.none follows.last in
    let s = near.surplus in
    let tops = surplus_tops (bands_by settings covered.listing) covered.listing.reserve b.member b.maximum y _ _ follows.below s in
    record {
      before = is.before;
      here = is.here;
      later = is.later;
      parts = is.parts;
      placed = is.placed;
      means = is.means;
      above = covered.above;
      fits = covered.fits;
      apart = is.apart;
      twins = covered_twins meant settings c place y b xs other valid is raises;
      left = rw whole (record {
        listing = covered.listing;
        listed = listed_along settings (next settings h (meant is.here)) (map meant is.later) b.item covered.listing
            (next_listed settings h (meant is.here) b.item covered.listing covered.listed);
        led = s.left_leads;
        by = s.left_top;
        covers = covered.covers;
      });
      right = rw whole' (record {
        listing = covered.listing;
        listed = listed_along settings (next settings h (meant other)) (map meant is.later) b.item covered.listing
            (next_listed settings h (meant other) b.item covered.listing covered.listed);
        led = s.right_leads;
        by = s.right_top;
        covers = rw s.right_top at tops.right_covers;
      });
    }
