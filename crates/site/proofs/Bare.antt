-- Tables without a member, a category, an item or a later band table whose clock is 0 are those of the empty history.
use Rattle.std.proofs.Common.{◌≡◌, ◌≤◌, ◌∙◌, ◌++◌, ◌∷◌, [], ℕ, ◌+◌, List, Bool, true, false, refl, ap, suc, arith, length, None}
use Rattle.std.specs.Prelude.{◌↔◌}
use Rattle.house_rows.specs.declared.command.Command.{Command}
use Rattle.house_rows.specs.declared.command.Command.TheVariants.{Register, AddCategory, List as Listed, Bid, Buy, Close, Settle, Watch, Unwatch, Ask, Answer, Feedback, SetBands}
use Rattle.house_rows.specs.declared.people.Counts.{Counts}
use Rattle.house_rows.specs.declared.settings.Settings.{Settings}
use Rattle.house_rows.specs.Bids.{bid_rows, with_bid}
use Rattle.house_rows.specs.Editions.{editions}
use Rattle.house_rows.specs.Found.{counts_of}
use Rattle.house_rows.specs.History.{History, clock}
use Rattle.house_rows.specs.Listings.{listing_in, listings, tables_set}
use Rattle.house_rows.specs.People.{categories, member_in, members}
use Rattle.house_rows.specs.Questions.{asked, questions, with_question}
use Rattle.house_rows.specs.Ratings.{feedback, with_feedback}
use Rattle.house_rows.specs.Tables.{Tables, tables_of}
use Rattle.house_rows.specs.Verdict.{IsHistory, is_house_command, verdict}
use Rattle.house_rows.specs.Watches.{watches, with_watch}
use Rattle.house_rows.proofs.Passed.{common_pass}
use Rattle.site.specs.Histories.{AreBlank}

-- a house without members accepts no member's command
no_member : (settings : Settings) (h : History) (moment caller : ℕ) (command : Command)
    → verdict settings h moment caller command ≡ None
    → members h ≡ [] → is_house_command command ≡ false → ⊥
no_member settings h moment caller command accepted none other =
    let common = common_pass settings h moment caller command accepted in
    let some : 1 ≤ caller = common.member_if other in
    let few : caller ≤ length (members h) = common.registered in
    let empty : length (members h) ≡ 0 = ap length none in
    omega arith

not_empty : {A : Type 0} (x : A) (xs : List A) → x ∷ xs ≡ [] → ⊥
not_empty x xs e = cc

-- an accepted command adds no row then, but of a category or a band table
record AddsNothing (h : History) (caller : ℕ) (command : Command) : Type 0 where
  listings : (n : ℕ) (set : List (List (ℕ × ℕ))) → listing_in n set caller command ≡ []
  bids : with_bid h (bid_rows h) caller command ≡ bid_rows h
  watches : with_watch (watches h) caller command ≡ watches h
  asked : with_question (asked h) caller command ≡ asked h
  feedback : with_feedback h (feedback h) caller command ≡ feedback h

adds_nothing : (settings : Settings) (h : History) (moment caller : ℕ) (command : Command)
    → verdict settings h moment caller command ≡ None
    → members h ≡ [] → member_in (length (members h) + 1) command ≡ []
    → AddsNothing h caller command
adds_nothing settings h moment caller (Register name) accepted none quiet =
    absurd (not_empty _ _ quiet)
adds_nothing settings h moment caller (AddCategory name) accepted none quiet =
    record { listings = λ n set. refl; bids = refl; watches = refl; asked = refl; feedback = refl }
adds_nothing settings h moment caller (Listed category lot title text start buy_now end reserve) accepted
    none quiet =
    absurd (no_member settings h moment caller (Listed category lot title text start buy_now end reserve)
    accepted none refl)
adds_nothing settings h moment caller (Bid i maximum) accepted none quiet =
    absurd (no_member settings h moment caller (Bid i maximum) accepted none refl)
adds_nothing settings h moment caller (Buy i) accepted none quiet =
    absurd (no_member settings h moment caller (Buy i) accepted none refl)
adds_nothing settings h moment caller Close accepted none quiet =
    record { listings = λ n set. refl; bids = refl; watches = refl; asked = refl; feedback = refl }
adds_nothing settings h moment caller (Settle i) accepted none quiet =
    record { listings = λ n set. refl; bids = refl; watches = refl; asked = refl; feedback = refl }
adds_nothing settings h moment caller (Watch i) accepted none quiet =
    absurd (no_member settings h moment caller (Watch i) accepted none refl)
adds_nothing settings h moment caller (Unwatch i) accepted none quiet =
    absurd (no_member settings h moment caller (Unwatch i) accepted none refl)
adds_nothing settings h moment caller (Ask i text) accepted none quiet =
    absurd (no_member settings h moment caller (Ask i text) accepted none refl)
adds_nothing settings h moment caller (Answer i asker number text) accepted none quiet =
    absurd (no_member settings h moment caller (Answer i asker number text) accepted none refl)
adds_nothing settings h moment caller (Feedback i rating text) accepted none quiet =
    absurd (no_member settings h moment caller (Feedback i rating text) accepted none refl)
adds_nothing settings h moment caller (SetBands bands) accepted none quiet =
    record { listings = λ n set. refl; bids = refl; watches = refl; asked = refl; feedback = refl }

-- without members there is no row but of categories and band tables
record IsBare (h : History) : Type 0 where
  listings : listings h ≡ []
  bids : bid_rows h ≡ []
  watches : watches h ≡ []
  asked : asked h ≡ []
  feedback : feedback h ≡ []

empty_parts : {A : Type 0} (xs ys : List A) → xs ++ ys ≡ [] → (xs ≡ []) × (ys ≡ [])
empty_parts [] ys e = (refl, e)
empty_parts (x ∷ xs) ys e = absurd (not_empty x (xs ++ ys) e)

both_empty : {A : Type 0} (xs ys : List A) → xs ≡ [] → ys ≡ [] → xs ++ ys ≡ []
both_empty xs ys e d = rw (e, d) refl

is_bare : (settings : Settings) (h : History) → IsHistory settings h → members h ≡ [] → IsBare h
is_bare settings [] is none =
    record { listings = refl; bids = refl; watches = refl; asked = refl; feedback = refl }
is_bare settings (e ∷ h) (accepted, is) none =
    let (before, quiet) =
    empty_parts (members h) (member_in (length (members h) + 1) e.command) none in
    let bare = is_bare settings h is before in
    let adds = adds_nothing settings h e.moment e.caller e.command accepted before quiet in
    record {
      listings = both_empty (listings h)
          (listing_in (length (listings h) + 1) (tables_set h) e.caller e.command)
          bare.listings (adds.listings (length (listings h) + 1) (tables_set h));
      bids = adds.bids ∙ bare.bids;
      watches = adds.watches ∙ bare.watches;
      asked = adds.asked ∙ bare.asked;
      feedback = adds.feedback ∙ bare.feedback;
    }

no_rows : {A : Type 0} (xs : List A) → length xs ≡ 0 → xs ≡ []
no_rows [] e = refl
no_rows (x ∷ xs) e = absurd (let wrong : suc (length xs) ≡ 0 = e in omega arith)

bare_tables : (settings : Settings) (h : History) → IsBare h → members h ≡ [] → categories h ≡ []
    → editions h ≡ [] → clock h ≡ 0
    → tables_of settings h ≡ tables_of settings []
unfolding tables_of questions
bare_tables settings h bare members categories editions clock =
    rw (
      clock,
      members,
      categories,
      editions,
      bare.listings,
      bare.bids,
      bare.watches,
      bare.asked,
      bare.feedback,
    ) refl

bare_if : (settings : Settings) (h : History) → IsHistory settings h
    → length (tables_of settings h).editions ≡ 0 → length (tables_of settings h).members ≡ 0
    → length (tables_of settings h).categories ≡ 0
    → (tables_of settings h).clock ≡ 0 → tables_of settings h ≡ tables_of settings []
unfolding tables_of
bare_if settings h is none_set no_members no_categories clock =
    let none = no_rows (members h) no_members in
    bare_tables settings h (is_bare settings h is none) none (no_rows (categories h) no_categories)
    (no_rows (editions h) none_set) clock

empty_blank : (settings : Settings) → AreBlank (tables_of settings [])
unfolding tables_of
empty_blank settings = (refl, refl, refl, refl, refl)

pub blank_reported : (settings : Settings) (h : History) (t : Tables) (blank : Bool)
    → IsHistory settings h → t ≡ tables_of settings h
    → (blank ≡ true) ↔ AreBlank t → (blank ≡ true) ↔ (t ≡ tables_of settings [])
blank_reported settings h t blank is e report = (
  λ yes. let (none_set, no_members, no_categories, no_items, clock) = rw e at (report.0 yes) in
      rw e (bare_if settings h is none_set no_members no_categories clock),
  λ same. report.1 (rw same (empty_blank settings)),
)

-- the first edition is the newest one exactly where no later band table was set
blank_if : (t : Tables) (blank : Bool) → (blank ≡ true) ↔ ((length t.editions + 1 ≡ 1)
    × (length t.members ≡ 0) × (length t.categories ≡ 0) × (length t.items ≡ 0) × (t.clock ≡ 0))
    → (blank ≡ true) ↔ AreBlank t
blank_if t blank report = (
  λ yes. let (alone, members, categories, items, clock) = report.0 yes in
      (omega (arith, alone), members, categories, items, clock),
  λ are. let (none, members, categories, items, clock) = are in
      report.1 (omega (arith, none), members, categories, items, clock),
)

-- the newest edition, counts and clock say whether tables are blank, whichever call they are read by
pub blank_by : (t mid : Tables) (newest : ℕ) (counts : Counts) (moment : ℕ) (blank : Bool)
    → newest ≡ length t.editions + 1 → counts ≡ counts_of t → mid ≡ t → moment ≡ mid.clock
    → (blank ≡ true) ↔ ((newest ≡ 1) × (counts.members ≡ 0) × (counts.categories ≡ 0) × (counts.items ≡ 0)
    × (moment ≡ 0))
    → (blank ≡ true) ↔ AreBlank t
blank_by t mid newest counts moment blank alone counted same now report =
    blank_if t blank (rw (now, same, counted, alone) at report)

-- and of a history whether it is new
pub new_reported : (settings : Settings) (h : History) (t mid : Tables) (newest : ℕ) (counts : Counts) (moment : ℕ)
    (blank : Bool) → IsHistory settings h → t ≡ tables_of settings h
    → newest ≡ length t.editions + 1 → counts ≡ counts_of t → mid ≡ t → moment ≡ mid.clock
    → (blank ≡ true) ↔ ((newest ≡ 1) × (counts.members ≡ 0) × (counts.categories ≡ 0) × (counts.items ≡ 0)
    × (moment ≡ 0))
    → (blank ≡ true) ↔ (t ≡ tables_of settings [])
new_reported settings h t mid newest counts moment blank is e alone counted same now report =
    blank_reported settings h t blank is e
    (blank_by t mid newest counts moment blank alone counted same now report)
