-- Items that are looked at in turn, until fifty are found; and which rows each needs.
use Rattle.std.proofs.Common.{◌≡◌, ◌≤◌, ◌<◌, ◌+◌, ℕ, List, [], ◌∷◌, ◌++◌, append_assoc, flat_map, length, take, ap, sym, subst, ◌∙◌, arith, inl, inr, refl}
use Rattle.std.specs.Prelude.{◌^◌, nat_lt}
use Rattle.std.proofs.lemmas.Bool.Decides.{nat_tests}
use Rattle.std.proofs.lemmas.List.{append-nil, length-append, length-take, take_all, take-append-le}
use Rattle.std.proofs.lemmas.List.Concat.{flat_map-append}
use Rattle.sqlite_trees.specs.Tree.{Trees}
use Rattle.sqlite_keyed.proofs.ListLemmas.{all_weaker}
use Rattle.house_rows.specs.Bids.{BidRow}
use Rattle.house_rows.specs.Fits.{BidRowFits}
use Rattle.house_rows.specs.Keeping.{AreSound, AreSoundBy, FitsBy, RowFits}
use Rattle.house_rows.specs.Limits.{most_shown}
use Rattle.house_rows.specs.Tables.{ItemRow, Tables}
use Rattle.house_rows.specs.declared.item.OwnBid.{OwnBid}
use Rattle.house_rows.specs.Editions.{BandTables}
use Rattle.house_rows.proofs.Put.{by_test}
use Rattle.list_rows.proofs.Growing.{front_twice}
use Rattle.store_rows.specs.ItemRows.{items_in}
use Rattle.store_rows.specs.Sorted.{sorted_bids}
use Rattle.store_rows.specs.Tables.{tables_in}
use Rattle.store_bids.specs.Listed.{OwnBidsFit}
use Rattle.store_bids.specs.OwnBids.{own_found}
use Rattle.house_rows.specs.Reached.{FitsSoFar}
use Rattle.store_bids.specs.Reached.{FitInTurn}

-- ---- what was found so far, and what is to come

-- a part added, of which a full list takes no more
pub added : {A : Type 0} (f : ℕ → List A) (old new : List A) (numbers rest all : List ℕ) → new ≡ take most_shown (old ++ flat_map f numbers) → all ≡ numbers ++ rest → take most_shown (new ++ flat_map f rest) ≡ take most_shown (old ++ flat_map f all)
added f old new numbers rest all are split =
    ap (λ l. take most_shown (l ++ flat_map f rest)) are ∙ front_twice most_shown (old ++ flat_map f numbers) (flat_map f rest)
    ∙ ap (take most_shown) (append_assoc old (flat_map f numbers) (flat_map f rest) ∙ ap (λ l. old ++ l) (sym (flat_map-append f numbers rest) ∙ ap (flat_map f) (sym split)))

-- a full list is not gone on with
pub all_added : {A : Type 0} (f : ℕ → List A) (found whole : List A) (rest : List ℕ) → length found ≤ most_shown → take most_shown (found ++ flat_map f rest) ≡ whole → most_shown ≤ length found → found ≡ whole
all_added f found whole rest few are many = sym (take_all most_shown found few) ∙ sym (take-append-le most_shown found (flat_map f rest) many) ∙ are

pub none_left : {A : Type 0} (f : ℕ → List A) (found whole : List A) (rest : List ℕ) → length found ≤ most_shown → take most_shown (found ++ flat_map f rest) ≡ whole → rest ≡ [] → found ≡ whole
none_left f found whole rest few are none = sym (take_all most_shown found few) ∙ ap (take most_shown) (sym (append-nil found) ∙ ap (λ l. found ++ flat_map f l) (sym none)) ∙ are

module _ (editions : BandTables) (t : Tables) (member : ℕ) where
  -- after fifty nothing has to fit
  full_in_turn : (many : ℕ) (ns : List ℕ) → most_shown ≤ many → FitInTurn editions t member many ns
  full_in_turn many [] full = tt
  full_in_turn many (n ∷ ns) full = (λ few. absurd (omega (arith, full, few)), full_in_turn (many + length (own_found t member n)) ns (omega (arith, full)))

  split_in_turn : (many : ℕ) (ns ms : List ℕ) → FitInTurn editions t member many (ns ++ ms) → FitInTurn editions t member many ns × FitInTurn editions t member (many + length (flat_map (own_found t member) ns)) ms
  split_in_turn many [] ms fit = (let e : many ≡ many + length (flat_map (own_found t member) []) = omega arith in (tt, subst (λ k. FitInTurn editions t member k ms) e fit))
  split_in_turn many (n ∷ ns) ms fit =
      let more = split_in_turn (many + length (own_found t member n)) ns ms fit.1 in
      let l = length-append (own_found t member n) (flat_map (own_found t member) ns) in
      let e : (many + length (own_found t member n)) + length (flat_map (own_found t member) ns) ≡ many + length (flat_map (own_found t member) (n ∷ ns)) = omega (arith, l) in
      ((fit.0, more.0), subst (λ k. FitInTurn editions t member k ms) e more.1)

  pub first_in_turn : (many : ℕ) (numbers rest all : List ℕ) → all ≡ numbers ++ rest → FitInTurn editions t member many all → FitInTurn editions t member many numbers
  first_in_turn many numbers rest all split fit = (split_in_turn many numbers rest (subst (FitInTurn editions t member many) split fit)).0

  pub next_in_turn : (old new : List OwnBid) (numbers rest all : List ℕ) → new ≡ take most_shown (old ++ flat_map (own_found t member) numbers) → all ≡ numbers ++ rest
      → FitInTurn editions t member (length old) all → FitInTurn editions t member (length new) rest
  next_in_turn old new numbers rest all are split fit =
      let rest_after = (split_in_turn (length old) numbers rest (subst (FitInTurn editions t member (length old)) split fit)).1 in
      let joined = length-append old (flat_map (own_found t member) numbers) in
      let front = length-take most_shown (old ++ flat_map (own_found t member) numbers) in
      let long = ap length are in
      elim (by_test (nat_lt (length new) most_shown)) [
        | inl few ↦ (let less : length new < most_shown = grind (arith, nat_tests, few) in
            let e : length old + length (flat_map (own_found t member) numbers) ≡ length new = omega (arith, joined, front, long, less) in
            subst (λ k. FitInTurn editions t member k rest) e rest_after)
        | inr full ↦ full_in_turn (length new) rest (grind (arith, nat_tests, full))
      ]

-- ---- the rows that each needs

pub bids_are : (db : Trees) → sorted_bids db ≡ (tables_in db).bids
unfolding tables_in
bids_are db = refl

pub items_are : (db : Trees) → items_in db ≡ (tables_in db).items
unfolding tables_in
items_are db = refl

-- of sound tables all fits
pub all_fit : (editions : BandTables) (t : Tables) (member from : ℕ) → AreSoundBy editions t → FitsSoFar editions t member from
all_fit editions t member from sound = record {
  numbers = all_weaker (RowFits t) (λ (row : ItemRow). row.item.terms.item < 2 ^ 32) (λ row fit. omega (arith, fit.item.terms.item.1)) t.items sound.sound.items;
  reached = λ item is. record {
    row = all_weaker (RowFits t) (λ (row : ItemRow). row.item.terms.item ≡ item → FitsBy editions row) (λ row fit same. rw sound.same fit) t.items sound.sound.items;
    bids = all_weaker BidRowFits (λ (b : BidRow). b.bid.member ≡ member → b.item ≡ item → BidRowFits b) (λ b fit mine same. fit) t.bids sound.sound.bids;
  };
}

pub own_sound : (t : Tables) (member item : ℕ) → AreSound t → OwnBidsFit member item t.bids
own_sound t member item sound = all_weaker BidRowFits (λ (b : BidRow). b.bid.member ≡ member → b.item ≡ item → BidRowFits b) (λ b fit mine same. fit) t.bids sound.bids
