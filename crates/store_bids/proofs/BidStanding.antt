-- What a member has bid is handed out of items whose rows are consistent.
use Rattle.std.proofs.Common.{◌≡◌, ℕ, find, option_map, Option, Some, None, refl, sym, subst, arith}
use Rattle.std.specs.Prelude.{IfSome, nat_lt}
use Rattle.std.specs.List.{AllByRecursion}
use Rattle.std.proofs.lemmas.Bool.Decides.{nat_tests}
use Rattle.sqlite_trees.specs.Tree.{Trees}
use Rattle.sqlite_keyed.proofs.ListLemmas.{all-filter}
use Rattle.house_rows.specs.Changed.{is_item}
use Rattle.house_rows.specs.Found.{own_bid}
use Rattle.house_rows.specs.Tables.{ItemRow, Tables}
use Rattle.house_rows.specs.declared.item.OwnBid.{OwnBid}
use Rattle.house_rows.specs.Editions.{BandTables}
use Rattle.house_rows.proofs.Every.{found_is}
use Rattle.store_rows.specs.Tables.{tables_in}
use Rattle.store_rows.specs.Joined.{found_of}
use Rattle.store_bids.specs.OwnBids.{own_found}
use Rattle.store_items.specs.ConsistentRows.{ItemStands}

module _ (editions : BandTables) (db : Trees) where
  bid_here : (t : Tables) (member item : ℕ) (found : Option ItemRow) → find (is_item item) t.items ≡ found → ItemStands editions db item
      → AllByRecursion (λ (b : OwnBid). ItemStands editions db b.item) (found_of (option_map (λ (row : ItemRow). own_bid t member row.item) found))
  bid_here t member item None is is_consistent = tt
  bid_here t member item (Some row) is is_consistent =
      let passes = found_is (is_item item) t.items row is in
      let same : item ≡ row.item.terms.item = grind (arith, nat_tests, passes) in
      (subst (ItemStands editions db) same is_consistent, tt)

  the_found : (P : OwnBid → Type 0) (bid : Option OwnBid) → AllByRecursion P (found_of bid) → IfSome bid P
  the_found P None all = tt
  the_found P (Some b) all = all.0

  pub bid_is_consistent : (member item : ℕ) (bid : Option OwnBid) → found_of bid ≡ own_found (tables_in db) member item → ItemStands editions db item → IfSome bid (λ b. ItemStands editions db b.item)
  bid_is_consistent member item bid is is_consistent =
      let t = tables_in db in
      let P = λ (b : OwnBid). ItemStands editions db b.item in
      the_found P bid (subst (AllByRecursion P) (sym is)
      (all-filter P (λ b. nat_lt 0 b.mine) (found_of (option_map (λ (row : ItemRow). own_bid t member row.item) (find (is_item item) t.items))) (bid_here t member item (find (is_item item) t.items) refl is_consistent)))
