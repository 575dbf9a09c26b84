-- The tables of members and of categories, as tables of numbers and names.
use Rattle.std.proofs.Common.{codes, refl}
use Rattle.sqlite_schema.specs.declared.schema.Constraint.TheVariants.{Datatype, NotNull}
use Rattle.house_rows.specs.declared.people.Category.{Category}
use Rattle.house_rows.specs.declared.people.Member.{Member}
use Rattle.store_rows.specs.Schema.{category_table, member_table}
use Rattle.store_house.proofs.NumbersMeaning.{category_tree, member_tree}
use Rattle.store_house.proofs.NamedTable.{NamedTable, rows_are, sound_house}

abbrev pub members : NamedTable Member
members = record {
  title = codes "member";
  tree = 2;
  place = 2;
  placed = refl;
  table = member_tree;
  rows = λ db house. rows_are member_table (db.trees 2) house.shaped.1.1.0.1 ((sound_house db house).obeys.rules Datatype).1.1.0 ((sound_house db house).obeys.rules NotNull).1.1.0;
  make = λ number name. record { member = number; name = name };
  number = λ m. m.member;
  name = λ m. m.name;
  numbers = λ n t. refl;
  names = λ n t. refl;
}

abbrev pub categories : NamedTable Category
categories = record {
  title = codes "category";
  tree = 4;
  place = 3;
  placed = refl;
  table = category_tree;
  rows = λ db house. rows_are category_table (db.trees 4) house.shaped.1.1.1.0.1 ((sound_house db house).obeys.rules Datatype).1.1.1.0 ((sound_house db house).obeys.rules NotNull).1.1.1.0;
  make = λ number name. record { category = number; name = name };
  number = λ k. k.category;
  name = λ k. k.name;
  numbers = λ n t. refl;
  names = λ n t. refl;
}
