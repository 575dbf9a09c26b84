-- In sound tables the member and the category that a look-up takes fit.
use Rattle.std.proofs.Common.{Bool, IfSome, find}
use Rattle.sqlite_trees.specs.Tree.{Trees}
use Rattle.house_rows.specs.Fits.{CategoryFits, MemberFits}
use Rattle.house_rows.specs.Keeping.{AreSound}
use Rattle.house_rows.specs.declared.people.Category.{Category}
use Rattle.house_rows.specs.declared.people.Member.{Member}
use Rattle.store_rows.specs.Rows.{categories_in, category_of, member_of, members_in}
use Rattle.store_rows.specs.Tables.{tables_in}
use Rattle.store_rows.proofs.ShownRows.{found_fits}

pub member_fits : (test : Member → Bool) (db : Trees) → AreSound (tables_in db) → IfSome (find test (members_in db)) MemberFits
unfolding tables_in
member_fits test db sound = found_fits member_of MemberFits test (members_in db) sound.members

pub category_fits : (test : Category → Bool) (db : Trees) → AreSound (tables_in db) → IfSome (find test (categories_in db)) CategoryFits
unfolding tables_in
category_fits test db sound = found_fits category_of CategoryFits test (categories_in db) sound.categories
