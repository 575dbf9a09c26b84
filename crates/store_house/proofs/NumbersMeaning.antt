-- What the statements on the numbers of members, categories and items mean.
use Rattle.std.proofs.Common.{refl, codes, List, ℕ}
use Rattle.sqlite_sql.specs.Term.{Term}
use Rattle.sqlite.specs.Listing.{understood}
use Rattle.sqlite_tied.specs.Compute.{everything}
use Rattle.store_house.specs.Numbers.{CountsRows, IsTableTree, ShowsNumbers, is_above, is_below}
use Rattle.store_rows.specs.Statements.{AlwaysPlain}

abbrev pub Counts : List ℕ → ℕ → Type 0
Counts sql tree = CountsRows sql tree × AlwaysPlain sql

abbrev pub Shows : List ℕ → ℕ → List Term → Type 0
Shows sql tree test = ShowsNumbers sql tree test × AlwaysPlain sql

pub member_tree : IsTableTree 2
member_tree = record { over = λ db. refl; shaped = λ db house. house.shaped.1.1.0 }

pub category_tree : IsTableTree 4
category_tree = record { over = λ db. refl; shaped = λ db house. house.shaped.1.1.1.0 }

pub item_tree : IsTableTree 6
item_tree = record { over = λ db. refl; shaped = λ db house. house.shaped.1.1.1.1.0 }

pub count_members_is : Counts (codes "SELECT count(*) FROM member") 2
unfolding understood everything
count_members_is = ((λ _. (refl, refl)), (λ _. (refl, refl)))

pub members_below_is : Shows (codes "SELECT id FROM member WHERE id < 1 ORDER BY id") 2 is_below
unfolding understood everything
members_below_is = ((λ _. (refl, refl)), (λ _. (refl, refl)))

pub members_above_is : Shows (codes "SELECT id FROM member WHERE id > ?1 ORDER BY id") 2 is_above
unfolding understood everything
members_above_is = ((λ _. (refl, refl)), (λ _. (refl, refl)))

pub count_categories_is : Counts (codes "SELECT count(*) FROM category") 4
unfolding understood everything
count_categories_is = ((λ _. (refl, refl)), (λ _. (refl, refl)))

pub categories_below_is : Shows (codes "SELECT id FROM category WHERE id < 1 ORDER BY id") 4 is_below
unfolding understood everything
categories_below_is = ((λ _. (refl, refl)), (λ _. (refl, refl)))

pub categories_above_is : Shows (codes "SELECT id FROM category WHERE id > ?1 ORDER BY id") 4 is_above
unfolding understood everything
categories_above_is = ((λ _. (refl, refl)), (λ _. (refl, refl)))

pub count_items_is : Counts (codes "SELECT count(*) FROM item") 6
unfolding understood everything
count_items_is = ((λ _. (refl, refl)), (λ _. (refl, refl)))

pub items_below_is : Shows (codes "SELECT id FROM item WHERE id < 1 ORDER BY id") 6 is_below
unfolding understood everything
items_below_is = ((λ _. (refl, refl)), (λ _. (refl, refl)))

pub items_above_is : Shows (codes "SELECT id FROM item WHERE id > ?1 ORDER BY id") 6 is_above
unfolding understood everything
items_above_is = ((λ _. (refl, refl)), (λ _. (refl, refl)))
