-- What others learn of a bid: what everybody is shown of the item.
use Rattle.std.proofs.Common.{◌≡◌, ℕ, List, [], ◌∷◌, map, subst, Bool, true, false, refl, ◌∙◌, ap, sym, arith, inl, inr, Option, Some, None}
use Rattle.std.specs.Prelude.{◌==◌, if◌then◌else◌, unwrap_or}
use Rattle.std.specs.List.{AllByRecursion}
use Rattle.std.proofs.lemmas.Bool.Decides.{nat_tests}
use Rattle.std.proofs.lemmas.List.{append-nil}
use Rattle.proxy.specs.Bids.{greatest}
use Rattle.proxy.specs.Rules.{first_failing}
use Rattle.house_rows.specs.declared.command.Command.TheVariants.{Bid}
use Rattle.house_rows.specs.declared.item.ItemShown.{ItemShown}
use Rattle.house_rows.specs.declared.refusal.Refusal.{Refusal}
use Rattle.house_rows.specs.declared.refusal.Refusal.TheVariants.{OwnItem}
use Rattle.house_rows.specs.declared.settings.Settings.{Settings}
use Rattle.house_rows.specs.Bids.{bids_on}
use Rattle.house_rows.specs.History.{History, clock}
use Rattle.house_rows.specs.Items.{items_shown, shown_at}
use Rattle.house_rows.specs.Listings.{Listing, listing_at, listings, tables_set}
use Rattle.house_rows.specs.People.{categories, members}
use Rattle.house_rows.specs.Questions.{published, questions, waiting}
use Rattle.house_rows.specs.Ratings.{feedback}
use Rattle.house_rows.specs.Runs.{entry}
use Rattle.house_rows.specs.Verdict.{bid_rules, rules, verdict}
use Rattle.house_rows.specs.Views.{public_view}
use Rattle.house_rows.proofs.Lists.{map_twice}
use Rattle.house_rows.proofs.Numbered.{numbered}
use Rattle.house_rows.proofs.Own.{own_local}
use Rattle.house_rows.proofs.Passed.{item_from, own_pass, shown_is}
use Rattle.house_rows.proofs.Put.{by_test}
use Rattle.house_laws.specs.Alike.{AreAlike}
use Rattle.house_laws.proofs.Seen.{items_seen, seen}
use Rattle.house_laws.proofs.Output.{categories_same, feedback_same, items_same, members_same, published_same, tables_same}

-- an item, or what is shown in its place
abbrev in_place : ℕ → Option ItemShown → ItemShown → ItemShown
in_place i o it = if it.item.terms.item == i then unwrap_or o it else it

-- every other item looks as before
other_item : (settings : Settings) (h : History) (t c i m : ℕ) (l : Listing) → (l.item == i) ≡ false → seen settings (entry t c (Bid i m) ∷ h) l ≡ seen settings h l
other_item settings h t c i m l other =
    let there : (i == l.item) ≡ false = grind (arith, nat_tests) in
    rw there (simp append-nil)

one_item : (settings : Settings) (h : History) (t c i m : ℕ) (ls : List Listing) (l : Listing) → listing_at ls l.item ≡ Some l
    → seen settings (entry t c (Bid i m) ∷ h) l ≡ in_place i (item_from settings (entry t c (Bid i m) ∷ h) (listing_at ls i)) (seen settings h l)
one_item settings h t c i m ls l listed =
    elim (by_test (l.item == i)) [
      | inl here ↦ (let at : l.item ≡ i = grind (arith, nat_tests) in
          let found : listing_at ls i ≡ Some l = subst (λ (n : ℕ). listing_at ls n ≡ Some l) at listed in rw (here, found) refl)
      | inr other ↦ rw other (other_item settings h t c i m l other)
    ]

map_each : {A B : Type 0} (f g : A → B) (xs : List A) → AllByRecursion (λ x. f x ≡ g x) xs → map f xs ≡ map g xs
map_each f g [] all = refl
map_each f g (x ∷ xs) all = rw (all.0, map_each f g xs all.1) refl

each_item : (settings : Settings) (h : History) (t c i m : ℕ) (ls some : List Listing) → AllByRecursion (λ l. listing_at ls l.item ≡ Some l) some
    → AllByRecursion (λ l. seen settings (entry t c (Bid i m) ∷ h) l ≡ in_place i (item_from settings (entry t c (Bid i m) ∷ h) (listing_at ls i)) (seen settings h l)) some
each_item settings h t c i m ls [] all = tt
each_item settings h t c i m ls (l ∷ some) all = (one_item settings h t c i m ls l all.0, each_item settings h t c i m ls some all.1)

-- the items after a bid: the one item in its place, and the others as before
items_after : (settings : Settings) (h : History) (t c i m : ℕ)
    → items_shown settings (entry t c (Bid i m) ∷ h)
    ≡ map (in_place i (item_from settings (entry t c (Bid i m) ∷ h) (listing_at (listings h) i))) (items_shown settings h)
items_after settings h t c i m =
    let k : History = entry t c (Bid i m) ∷ h in
    let o : Option ItemShown = item_from settings k (listing_at (listings h) i) in
    items_seen settings k
    ∙ ap (map (seen settings k)) (append-nil (listings h))
    ∙ map_each (seen settings k) (λ l. in_place i o (seen settings h l)) (listings h) (each_item settings h t c i m (listings h) (listings h) (numbered h).own)
    ∙ sym (map_twice (seen settings h) (in_place i o) (listings h))
    ∙ ap (map (in_place i o)) (sym (items_seen settings h))

shown_after : (settings : Settings) (h : History) (t c i m : ℕ)
    → shown_at (items_shown settings (entry t c (Bid i m) ∷ h)) i ≡ item_from settings (entry t c (Bid i m) ∷ h) (listing_at (listings h) i)
shown_after settings h t c i m =
    shown_is settings (entry t c (Bid i m) ∷ h) i ∙ ap (λ (ls : List Listing). item_from settings (entry t c (Bid i m) ∷ h) (listing_at ls i)) (append-nil (listings h))

items_alike : (settings : Settings) (h k : History) (t c d i m n : ℕ) → items_shown settings h ≡ items_shown settings k
    → shown_at (items_shown settings (entry t c (Bid i m) ∷ h)) i ≡ shown_at (items_shown settings (entry t d (Bid i n) ∷ k)) i
    → items_shown settings (entry t c (Bid i m) ∷ h) ≡ items_shown settings (entry t d (Bid i n) ∷ k)
items_alike settings h k t c d i m n same place =
    let o = item_from settings (entry t c (Bid i m) ∷ h) (listing_at (listings h) i) in
    let p = item_from settings (entry t d (Bid i n) ∷ k) (listing_at (listings k) i) in
    let e : o ≡ p = sym (shown_after settings h t c i m) ∙ place ∙ shown_after settings k t d i n in
    items_after settings h t c i m
    ∙ ap (λ (q : Option ItemShown). map (in_place i q) (items_shown settings h)) e
    ∙ ap (map (in_place i p)) same
    ∙ sym (items_after settings k t d i n)

bid_published : (h : History) (t c i m : ℕ) → published (entry t c (Bid i m) ∷ h) ≡ published h
unfolding published questions
bid_published h t c i m = simp append-nil

bid_members : (h : History) (t c i m : ℕ) → members (entry t c (Bid i m) ∷ h) ≡ members h
bid_members h t c i m = append-nil (members h)

bid_categories : (h : History) (t c i m : ℕ) → categories (entry t c (Bid i m) ∷ h) ≡ categories h
bid_categories h t c i m = append-nil (categories h)

bid_waiting : (h : History) (t d i m c : ℕ) → waiting (entry t d (Bid i m) ∷ h) c ≡ waiting h c
unfolding waiting questions
bid_waiting h t d i m c = simp append-nil

-- where the parts are the same, what is public is
public_of : (settings : Settings) (h k : History) → clock h ≡ clock k → members h ≡ members k → categories h ≡ categories k → items_shown settings h ≡ items_shown settings k
    → published h ≡ published k → feedback h ≡ feedback k → tables_set h ≡ tables_set k → public_view settings h ≡ public_view settings k
public_of settings h k clocks people kinds its talk rated set = rw (clocks, people, kinds, its, talk, rated, set) refl

-- whoever didn't bid learns of two bids what everybody is shown of the item
pub bids_alike : (settings : Settings) (c t left right i x y : ℕ) (h k : History) → AreAlike settings c h k → (left == c) ≡ false → (right == c) ≡ false
    → shown_at (items_shown settings (entry t left (Bid i x) ∷ h)) i ≡ shown_at (items_shown settings (entry t right (Bid i y) ∷ k)) i
    → AreAlike settings c (entry t left (Bid i x) ∷ h) (entry t right (Bid i y) ∷ k)
bids_alike settings c t left right i x y h k alike other also place =
    let a : History = entry t left (Bid i x) ∷ h in
    let b : History = entry t right (Bid i y) ∷ k in
    record {
      public = public_of settings a b refl
          (bid_members h t left i x ∙ members_same settings h k alike.public ∙ sym (bid_members k t right i y))
          (bid_categories h t left i x ∙ categories_same settings h k alike.public ∙ sym (bid_categories k t right i y))
          (items_alike settings h k t left right i x y (items_same settings h k alike.public) place)
          (bid_published h t left i x ∙ published_same settings h k alike.public ∙ sym (bid_published k t right i y))
          (feedback_same settings h k alike.public)
          (tables_same settings h k alike.public);
      own = own_local c h (entry t left (Bid i x)) other ∙ alike.own ∙ sym (own_local c k (entry t right (Bid i y)) also);
      waiting = bid_waiting h t left i x c ∙ alike.waiting ∙ sym (bid_waiting k t right i y c);
    }

own_not : (fails : Bool) (rest : Option Refusal) → (if fails then Some OwnItem else rest) ≡ None → fails ≡ false
own_not true rest none = cc
own_not false rest none = refl

-- a seller's bid on its own item is refused
not_sellers : (settings : Settings) (h : History) (t c i m : ℕ) (it : ItemShown) → shown_at (items_shown settings h) i ≡ Some it → verdict settings h t c (Bid i m) ≡ None
    → (c == it.item.terms.seller) ≡ false
not_sellers settings h t c i m it there none =
    let own : first_failing (rules settings h t c (Bid i m)) ≡ None = own_pass settings h t c (Bid i m) none in
    let pass : first_failing (bid_rules t c m (greatest (bids_on h i) c) it) ≡ None = rw there at own in
    let apart : (it.item.terms.seller == c) ≡ false = own_not (it.item.terms.seller == c) _ pass in
    grind (arith, nat_tests)

-- and so does the seller
pub sellers_alike : (settings : Settings) (t left right x y : ℕ) (h k : History) (l : Listing) → listing_at (listings h) l.item ≡ Some l → AreAlike settings l.seller h k
    → verdict settings h t left (Bid l.item x) ≡ None → verdict settings k t right (Bid l.item y) ≡ None
    → shown_at (items_shown settings (entry t left (Bid l.item x) ∷ h)) l.item ≡ shown_at (items_shown settings (entry t right (Bid l.item y) ∷ k)) l.item
    → AreAlike settings l.seller (entry t left (Bid l.item x) ∷ h) (entry t right (Bid l.item y) ∷ k)
sellers_alike settings t left right x y h k l listed alike first second place =
    let here : shown_at (items_shown settings h) l.item ≡ Some (seen settings h l) = shown_is settings h l.item ∙ ap (item_from settings h) listed in
    let there : shown_at (items_shown settings k) l.item ≡ Some (seen settings h l) = ap (λ (its : List ItemShown). shown_at its l.item) (sym (items_same settings h k alike.public)) ∙ here in
    bids_alike settings l.seller t left right l.item x y h k alike
    (not_sellers settings h t left l.item x (seen settings h l) here first)
    (not_sellers settings k t right l.item y (seen settings h l) there second)
    place
