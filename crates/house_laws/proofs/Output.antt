-- What a member is answered depends on what is public, on its own view and on what waits for it.
use Rattle.house_rows.proofs.Own.{own_step}
use Rattle.house_rows.proofs.Ranged.{shown_count}
use Rattle.house_rows.specs.Runs.{entry}
use Rattle.house_rows.specs.Listings.{listings}
use Rattle.std.proofs.Common.{◌≡◌, ℕ, ◌+◌, List, [], ◌∷◌, map, filter, length, refl, ◌∙◌, ap, sym, arith}
use Rattle.std.specs.Prelude.{◌==◌}
use Rattle.std.proofs.lemmas.Bool.Decides.{nat_tests}
use Rattle.std.proofs.lemmas.List.{length-map, map-append}
use Rattle.std.proofs.lemmas.List.Elements.{filter-append}
use Rattle.proxy.specs.Bids.{bids_by, greatest, greatest_of, maxima}
use Rattle.house_rows.specs.declared.command.Command.{Command}
use Rattle.house_rows.specs.declared.command.Command.TheVariants.{Register, AddCategory, List as Listed, Bid, Buy, Close, Settle, Watch, Unwatch, Ask, Answer, Feedback, SetBands}
use Rattle.house_rows.specs.declared.settings.Settings.{Settings}
use Rattle.house_rows.specs.History.{History, clock}
use Rattle.house_rows.specs.Listings.{tables_set}
use Rattle.house_rows.specs.People.{categories, members}
use Rattle.house_rows.specs.Bids.{bid_in, bids_on}
use Rattle.house_rows.specs.Items.{items_shown}
use Rattle.house_rows.specs.Questions.{published}
use Rattle.house_rows.specs.Ratings.{feedback}
use Rattle.house_rows.specs.CommandResult.{result_of}
use Rattle.house_rows.specs.Verdict.{verdict}
use Rattle.house_rows.specs.Views.{Own, OwnMaximum, Public, own_maxima, own_maximum, own_questions, own_view, own_watches, public_view, own_reserves}
use Rattle.house_laws.specs.Alike.{AreAlike}

-- the parts of the public view
pub clocks : (settings : Settings) (h k : History) → public_view settings h ≡ public_view settings k → clock h ≡ clock k
clocks settings h k e = ap (λ (p : Public). p.clock) e

pub members_same : (settings : Settings) (h k : History) → public_view settings h ≡ public_view settings k → members h ≡ members k
members_same settings h k e = ap (λ (p : Public). p.members) e

pub categories_same : (settings : Settings) (h k : History) → public_view settings h ≡ public_view settings k → categories h ≡ categories k
categories_same settings h k e = ap (λ (p : Public). p.categories) e

pub items_same : (settings : Settings) (h k : History) → public_view settings h ≡ public_view settings k → items_shown settings h ≡ items_shown settings k
items_same settings h k e = ap (λ (p : Public). p.items) e

pub published_same : (settings : Settings) (h k : History) → public_view settings h ≡ public_view settings k → published h ≡ published k
published_same settings h k e = ap (λ (p : Public). p.questions) e

pub feedback_same : (settings : Settings) (h k : History) → public_view settings h ≡ public_view settings k → feedback h ≡ feedback k
feedback_same settings h k e = ap (λ (p : Public). p.feedback) e

pub tables_same : (settings : Settings) (h k : History) → public_view settings h ≡ public_view settings k → tables_set h ≡ tables_set k
tables_same settings h k e = ap (λ (p : Public). p.tables) e

-- the parts of the own view
pub watches_same : (h k : History) (c : ℕ) → own_view h c ≡ own_view k c → own_watches h c ≡ own_watches k c
watches_same h k c e = ap (λ (o : Own). o.watches) e

pub questions_same : (h k : History) (c : ℕ) → own_view h c ≡ own_view k c → own_questions h c ≡ own_questions k c
questions_same h k c e = ap (λ (o : Own). o.questions) e

pub reserves_same : (h k : History) (c : ℕ) → own_view h c ≡ own_view k c → own_reserves h c ≡ own_reserves k c
reserves_same h k c e = ap (λ (o : Own). o.reserves) e

-- as many items were listed where as many are shown
listed_same : (settings : Settings) (h k : History) → public_view settings h ≡ public_view settings k → length (listings h) ≡ length (listings k)
listed_same settings h k e = sym (shown_count settings h) ∙ ap length (items_same settings h k e) ∙ shown_count settings k

-- Step: an entry of a member changes its own view equally where the histories look alike to it
pub own_steps : (settings : Settings) (c : ℕ) (h k : History) (t : ℕ) (command : Command) → AreAlike settings c h k
    → own_view (entry t c command ∷ h) c ≡ own_view (entry t c command ∷ k) c
own_steps settings c h k t command alike = own_step c h k t command (listed_same settings h k alike.public) alike.own

-- a member's maxima on an item are those of its own view
abbrev maxima_on : ℕ → List OwnMaximum → List ℕ
maxima_on i own = map (λ b. b.maximum) (filter (λ b. b.item == i) own)

maxima_one : (i c number caller : ℕ) (command : Command) → maxima (bids_by c (bid_in i number caller command)) ≡ maxima_on i (own_maximum c caller command)
maxima_one i c number caller (Bid j maximum) = grind (arith, nat_tests)
maxima_one i c number caller (Register name) = refl
maxima_one i c number caller (AddCategory name) = refl
maxima_one i c number caller (Listed category lot title text start buy_now end reserve) = refl
maxima_one i c number caller (Buy j) = refl
maxima_one i c number caller Close = refl
maxima_one i c number caller (Settle j) = refl
maxima_one i c number caller (Watch j) = refl
maxima_one i c number caller (Unwatch j) = refl
maxima_one i c number caller (Ask j text) = refl
maxima_one i c number caller (Answer j asker n text) = refl
maxima_one i c number caller (Feedback j rating text) = refl
maxima_one i c number caller (SetBands bands) = refl

maxima_are : (h : History) (i c : ℕ) → maxima (bids_by c (bids_on h i)) ≡ maxima_on i (own_maxima h c)
unfolding own_maxima
maxima_are [] i c = refl
maxima_are (e ∷ h) i c =
    simp (filter-append, map-append) (let rest = maxima_are h i c in let one = maxima_one i c (length (bids_on h i) + 1) e.caller e.command in cc)

maxima_same : (h k : History) (c i : ℕ) → own_view h c ≡ own_view k c → maxima (bids_by c (bids_on h i)) ≡ maxima (bids_by c (bids_on k i))
maxima_same h k c i e = maxima_are h i c ∙ ap (maxima_on i) (ap (λ (o : Own). o.maxima) e) ∙ sym (maxima_are k i c)

pub greatest_same : (h k : History) (c i : ℕ) → own_view h c ≡ own_view k c → greatest (bids_on h i) c ≡ greatest (bids_on k i) c
unfolding greatest
greatest_same h k c i e = ap greatest_of (maxima_same h k c i e)

pub mine_same : (h k : History) (c i : ℕ) → own_view h c ≡ own_view k c → length (bids_by c (bids_on h i)) ≡ length (bids_by c (bids_on k i))
mine_same h k c i e = let same = ap length (maxima_same h k c i e) in simp length-map at same

-- Output, for the verdict on a member's command
pub verdict_same : (settings : Settings) (c : ℕ) (h k : History) (t : ℕ) (command : Command) → AreAlike settings c h k → verdict settings h t c command ≡ verdict settings k t c command
unfolding verdict
verdict_same settings c h k t (Register name) alike =
    rw (clocks settings h k alike.public, members_same settings h k alike.public) refl
verdict_same settings c h k t (AddCategory name) alike =
    rw (clocks settings h k alike.public, members_same settings h k alike.public, categories_same settings h k alike.public) refl
verdict_same settings c h k t (Listed category lot title text start buy_now end reserve) alike =
    rw (clocks settings h k alike.public, members_same settings h k alike.public, items_same settings h k alike.public, categories_same settings h k alike.public) refl
verdict_same settings c h k t (Bid i maximum) alike =
    rw (clocks settings h k alike.public, members_same settings h k alike.public, items_same settings h k alike.public, greatest_same h k c i alike.own) refl
verdict_same settings c h k t (Buy i) alike =
    rw (clocks settings h k alike.public, members_same settings h k alike.public, items_same settings h k alike.public) refl
verdict_same settings c h k t Close alike =
    rw (clocks settings h k alike.public, members_same settings h k alike.public) refl
verdict_same settings c h k t (Settle i) alike =
    rw (clocks settings h k alike.public, members_same settings h k alike.public, items_same settings h k alike.public) refl
verdict_same settings c h k t (Watch i) alike =
    rw (clocks settings h k alike.public, members_same settings h k alike.public, items_same settings h k alike.public, watches_same h k c alike.own) refl
verdict_same settings c h k t (Unwatch i) alike =
    rw (clocks settings h k alike.public, members_same settings h k alike.public, items_same settings h k alike.public) refl
verdict_same settings c h k t (Ask i text) alike =
    rw (clocks settings h k alike.public, members_same settings h k alike.public, items_same settings h k alike.public, questions_same h k c alike.own) refl
verdict_same settings c h k t (Answer i asker number text) alike =
    rw (clocks settings h k alike.public, members_same settings h k alike.public, items_same settings h k alike.public, published_same settings h k alike.public, alike.waiting) refl
verdict_same settings c h k t (Feedback i rating text) alike =
    rw (clocks settings h k alike.public, members_same settings h k alike.public, items_same settings h k alike.public, feedback_same settings h k alike.public) refl
verdict_same settings c h k t (SetBands bands) alike =
    rw (clocks settings h k alike.public, members_same settings h k alike.public, tables_same settings h k alike.public) refl

-- Output, for the result of an accepted command: by what is public before and after it, and the
-- member's own view after it
pub report_same : (settings : Settings) (c : ℕ) (h k after later : History) (t : ℕ) (command : Command)
    → public_view settings h ≡ public_view settings k → public_view settings after ≡ public_view settings later → own_view after c ≡ own_view later c
    → result_of settings after t c command h ≡ result_of settings later t c command k
report_same settings c h k after later t (Register name) p q o = rw (members_same settings after later q) refl
report_same settings c h k after later t (AddCategory name) p q o = rw (categories_same settings after later q) refl
report_same settings c h k after later t (Listed category lot title text start buy_now end reserve) p q o = rw (items_same settings after later q) refl
report_same settings c h k after later t (Bid i maximum) p q o = rw (items_same settings after later q) refl
report_same settings c h k after later t (Buy i) p q o = rw (items_same settings after later q) refl
report_same settings c h k after later t Close p q o = rw (items_same settings h k p) refl
report_same settings c h k after later t (Settle i) p q o = rw (items_same settings after later q) refl
report_same settings c h k after later t (Watch i) p q o = refl
report_same settings c h k after later t (Unwatch i) p q o = refl
report_same settings c h k after later t (Ask i text) p q o = rw (questions_same after later c o) refl
report_same settings c h k after later t (Answer i asker number text) p q o = refl
report_same settings c h k after later t (Feedback i rating text) p q o = rw (items_same settings after later q) refl
report_same settings c h k after later t (SetBands bands) p q o = rw (tables_same settings after later q) refl
