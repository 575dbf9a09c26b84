-- What the statements on members and on categories mean.
use Rattle.std.proofs.Common.{refl, [], ◌∷◌, codes}
use Rattle.sqlite.specs.Listing.{understood}
use Rattle.sqlite_tied.specs.Compute.{everything}
use Rattle.store_rows.proofs.Select.{equals}
use Rattle.store_house.proofs.NamedTable.{Puts, Reads}

pub put_member_is : Puts (codes "INSERT INTO member (id, name) VALUES (?1, ?2)") 2
unfolding understood everything
put_member_is = λ _. (refl, (refl, refl))

pub member_at_is : Reads (codes "SELECT id, name FROM member WHERE id = ?1 ORDER BY id") 2 (equals 0 ∷ [])
unfolding understood everything
member_at_is = ((λ _. (refl, refl)), (λ _. (refl, refl)))

pub member_named_is : Reads (codes "SELECT id, name FROM member WHERE name = ?1 ORDER BY id") 2 (equals 2 ∷ [])
unfolding understood everything
member_named_is = ((λ _. (refl, refl)), (λ _. (refl, refl)))

pub all_members_are : Reads (codes "SELECT id, name FROM member ORDER BY id") 2 []
unfolding understood everything
all_members_are = ((λ _. (refl, refl)), (λ _. (refl, refl)))

pub put_category_is : Puts (codes "INSERT INTO category (id, name) VALUES (?1, ?2)") 3
unfolding understood everything
put_category_is = λ _. (refl, (refl, refl))

pub category_at_is : Reads (codes "SELECT id, name FROM category WHERE id = ?1 ORDER BY id") 4 (equals 0 ∷ [])
unfolding understood everything
category_at_is = ((λ _. (refl, refl)), (λ _. (refl, refl)))

pub category_named_is : Reads (codes "SELECT id, name FROM category WHERE name = ?1 ORDER BY id") 4 (equals 2 ∷ [])
unfolding understood everything
category_named_is = ((λ _. (refl, refl)), (λ _. (refl, refl)))

pub all_categories_are : Reads (codes "SELECT id, name FROM category ORDER BY id") 4 []
unfolding understood everything
all_categories_are = ((λ _. (refl, refl)), (λ _. (refl, refl)))
