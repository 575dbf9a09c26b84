-- The twelve tables with their keys and indexes, as the schema of a connection has them.
use Rattle.std.specs.Prelude.{true, false, [], ◌∷◌, Some, None, codes, List, ℕ, Bool, Option, cond, map, take}
use Rattle.sqlite_value.specs.declared.value.Value.TheVariants.{Null}
use Rattle.sqlite_value.specs.declared.keys.Collation.TheVariants.{Binary}
use Rattle.sqlite_value.specs.Keys.{plain}
use Rattle.sqlite_schema.specs.declared.schema.Kind.{Kind}
use Rattle.sqlite_schema.specs.declared.schema.Kind.TheVariants.{Integer, Text}
use Rattle.sqlite_schema.specs.declared.schema.Action.TheVariants.{NoAction}
use Rattle.sqlite_schema.specs.declared.schema.Column.{Column}
use Rattle.sqlite_schema.specs.declared.schema.Reference.{Reference}
use Rattle.sqlite_schema.specs.declared.schema.Table.{Table}
use Rattle.sqlite_schema.specs.declared.schema.Index.{Index}
use Rattle.sqlite_catalog.specs.Listing.{automatic}
use Rattle.sqlite_schema.specs.declared.schema.Schema.{Schema}

abbrev pub strict : List ℕ → Kind → Bool → Column
strict name kind not_null = record {
  name = name;
  kind = kind;
  is_strict = true;
  not_null = not_null;
  default = Null;
  collation = Binary;
}

-- the column at a place names a row of a table by a column of its
abbrev pub refers_to : ℕ → List ℕ → List ℕ → Reference
refers_to place parent column = record {
  columns = place ∷ [];
  parent = parent;
  parent_columns = column ∷ [];
  on_delete = NoAction;
  on_update = NoAction;
  is_deferred = false;
}

-- by its number
abbrev pub refers : ℕ → List ℕ → Reference
refers place parent = refers_to place parent (codes "id")

-- what distinguishes one table of ours from another
pub record Layout : Type 0 where
  pub name : List ℕ
  pub tree : ℕ
  pub columns : List Column
  pub key : Option ℕ
  pub primary : List ℕ
  pub uniques : List (List ℕ)
  pub references : List Reference

abbrev pub table_of : Layout → Table
table_of t = record {
  name = t.name;
  tree = t.tree;
  columns = t.columns;
  key = t.key;
  primary = t.primary;
  uniques = t.uniques;
  orders = map (λ _. plain) t.uniques;
  checks = [];
  references = t.references;
  computed = [];
  stamps = record { places = []; terms = []; formats = [] };
  is_counted = false;
}

-- a table whose row has its number as rowid
abbrev pub numbered : List ℕ → ℕ → List Column → List (List ℕ) → List Reference → Layout
numbered name tree columns uniques references = record {
  name = name;
  tree = tree;
  columns = columns;
  key = Some 0;
  primary = 0 ∷ [];
  uniques = uniques;
  references = references;
}

-- a table whose primary key is of some columns
abbrev pub keyed : List ℕ → ℕ → List Column → List ℕ → List Reference → Layout
keyed name tree columns key references = record {
  name = name;
  tree = tree;
  columns = columns;
  key = None;
  primary = key;
  uniques = key ∷ [];
  references = references;
}

abbrev pub index_on : List ℕ → ℕ → ℕ → List ℕ → Index
index_on name tree table columns = record {
  name = name;
  tree = tree;
  table = table;
  columns = columns;
  order = plain;
  is_unique = false;
}

abbrev pub house_layout : Layout
house_layout = numbered (codes "house") 0
    (strict (codes "id") Integer false ∷ strict (codes "version") Integer true
    ∷ strict (codes "clock") Integer true ∷ strict (codes "rate") Integer true
    ∷ strict (codes "zone") Text true ∷ [])
    ([]) ([])

abbrev pub house_table : Table
house_table = table_of house_layout

abbrev pub band_layout : Layout
band_layout = numbered (codes "band") 1
    (strict (codes "at") Integer false ∷ strict (codes "step") Integer true ∷ [])
    ([]) ([])

abbrev pub band_table : Table
band_table = table_of band_layout

abbrev pub member_layout : Layout
member_layout = numbered (codes "member") 2
    (strict (codes "id") Integer false ∷ strict (codes "name") Text true ∷ [])
    ((2 ∷ []) ∷ []) ([])

abbrev pub member_table : Table
member_table = table_of member_layout

abbrev pub category_layout : Layout
category_layout = numbered (codes "category") 4
    (strict (codes "id") Integer false ∷ strict (codes "name") Text true ∷ [])
    ((2 ∷ []) ∷ []) ([])

abbrev pub category_table : Table
category_table = table_of category_layout

abbrev pub item_layout : Layout
item_layout = numbered (codes "item") 6
    (strict (codes "id") Integer false ∷ strict (codes "seller") Integer true
    ∷ strict (codes "category") Integer true ∷ strict (codes "lot") Text true
    ∷ strict (codes "title") Text true ∷ strict (codes "body") Text true
    ∷ strict (codes "start") Integer true ∷ strict (codes "buy_now") Integer false
    ∷ strict (codes "ending") Integer true ∷ strict (codes "state") Integer true
    ∷ strict (codes "closed") Integer false ∷ strict (codes "price") Integer true
    ∷ strict (codes "leader") Integer false ∷ strict (codes "top") Integer false
    ∷ strict (codes "second") Integer false ∷ strict (codes "count") Integer true ∷ [])
    ((2 ∷ 4 ∷ []) ∷ []) (refers 2 (codes "member") ∷ refers 3 (codes "category") ∷ refers 13 (codes "member") ∷ [])

abbrev pub item_table : Table
item_table = table_of item_layout

abbrev pub bid_layout : Layout
bid_layout = keyed (codes "bid") 8
    (strict (codes "item") Integer true ∷ strict (codes "no") Integer true
    ∷ strict (codes "member") Integer true ∷ strict (codes "maximum") Integer true ∷ [])
    (1 ∷ 2 ∷ []) (refers 1 (codes "item") ∷ refers 3 (codes "member") ∷ [])

abbrev pub bid_table : Table
bid_table = table_of bid_layout

abbrev pub watch_layout : Layout
watch_layout = keyed (codes "watch") 10
    (strict (codes "member") Integer true ∷ strict (codes "item") Integer true ∷ [])
    (1 ∷ 2 ∷ []) (refers 1 (codes "member") ∷ refers 2 (codes "item") ∷ [])

abbrev pub watch_table : Table
watch_table = table_of watch_layout

abbrev pub question_layout : Layout
question_layout = keyed (codes "question") 12
    (strict (codes "item") Integer true ∷ strict (codes "asker") Integer true
    ∷ strict (codes "n") Integer true ∷ strict (codes "body") Text true
    ∷ strict (codes "answer") Text false ∷ [])
    (1 ∷ 2 ∷ 3 ∷ []) (refers 1 (codes "item") ∷ refers 2 (codes "member") ∷ [])

abbrev pub question_table : Table
question_table = table_of question_layout

abbrev pub feedback_layout : Layout
feedback_layout = keyed (codes "feedback") 14
    (strict (codes "item") Integer true ∷ strict (codes "giver") Integer true
    ∷ strict (codes "receiver") Integer true ∷ strict (codes "rating") Integer true
    ∷ strict (codes "body") Text true ∷ [])
    (1 ∷ 2 ∷ []) (refers 1 (codes "item") ∷ refers 2 (codes "member") ∷ refers 3 (codes "member") ∷ [])

abbrev pub feedback_table : Table
feedback_table = table_of feedback_layout

-- the tables that version 2 adds

abbrev pub reserve_layout : Layout
reserve_layout = numbered (codes "reserve") 23
    (strict (codes "item") Integer false ∷ strict (codes "amount") Integer true ∷ [])
    ([]) (refers 0 (codes "item") ∷ [])

abbrev pub reserve_table : Table
reserve_table = table_of reserve_layout

abbrev pub edition_layout : Layout
edition_layout = numbered (codes "edition") 24
    (strict (codes "edition") Integer false ∷ strict (codes "first") Integer true ∷ [])
    ([]) ([])

abbrev pub edition_table : Table
edition_table = table_of edition_layout

abbrev pub later_band_layout : Layout
later_band_layout = keyed (codes "later_band") 25
    (strict (codes "edition") Integer true ∷ strict (codes "at") Integer true
    ∷ strict (codes "step") Integer true ∷ [])
    (1 ∷ 2 ∷ []) (refers_to 1 (codes "edition") (codes "edition") ∷ [])

abbrev pub later_band_table : Table
later_band_table = table_of later_band_layout

abbrev pub item_by_category : Index
item_by_category = index_on (codes "item_by_category") 16 6 (3 ∷ 0 ∷ [])

abbrev pub item_by_seller : Index
item_by_seller = index_on (codes "item_by_seller") 17 6 (2 ∷ 0 ∷ [])

abbrev pub item_by_leader : Index
item_by_leader = index_on (codes "item_by_leader") 18 6 (13 ∷ 0 ∷ [])

abbrev pub item_by_end : Index
item_by_end = index_on (codes "item_by_end") 19 6 (10 ∷ 9 ∷ [])

abbrev pub bid_by_member : Index
bid_by_member = index_on (codes "bid_by_member") 20 8 (3 ∷ 1 ∷ [])

abbrev pub question_by_asker : Index
question_by_asker = index_on (codes "question_by_asker") 21 12 (2 ∷ 1 ∷ 3 ∷ [])

abbrev pub feedback_by_receiver : Index
feedback_by_receiver = index_on (codes "feedback_by_receiver") 22 14 (3 ∷ 1 ∷ 2 ∷ [])

-- Watches by their item: an index that older houses lack.
abbrev pub watch_by_item : Index
watch_by_item = index_on (codes "watch_by_item") 27 10 (2 ∷ 1 ∷ [])

-- the schema of a house that has the index of watches by item, or of an older one that has not
abbrev pub house_by : Bool → Schema
house_by is_indexed = record {
  tables = house_table ∷ band_table ∷ member_table ∷ category_table ∷ item_table ∷ bid_table
      ∷ watch_table ∷ question_table ∷ feedback_table ∷ reserve_table ∷ edition_table ∷ later_band_table ∷ [];
  indexes = automatic member_table 0 (2 ∷ []) 3
      ∷ automatic category_table 0 (2 ∷ []) 5
      ∷ automatic item_table 0 (2 ∷ 4 ∷ []) 7
      ∷ automatic bid_table 0 (1 ∷ 2 ∷ []) 9
      ∷ automatic watch_table 0 (1 ∷ 2 ∷ []) 11
      ∷ automatic question_table 0 (1 ∷ 2 ∷ 3 ∷ []) 13
      ∷ automatic feedback_table 0 (1 ∷ 2 ∷ []) 15
      ∷ item_by_category
      ∷ item_by_seller
      ∷ item_by_leader
      ∷ item_by_end
      ∷ bid_by_member
      ∷ question_by_asker
      ∷ feedback_by_receiver
      ∷ automatic later_band_table 0 (1 ∷ 2 ∷ []) 26 ∷ cond is_indexed (watch_by_item ∷ []) [];
  views = [];
}

-- the schema of a new house
abbrev pub house_schema : Schema
house_schema = house_by true

-- what a file of version 1 has: the first nine tables, and their indexes
abbrev pub first_schema : Schema
first_schema = record { tables = take 9 house_schema.tables; indexes = take 14 house_schema.indexes; views = [] }

abbrev pub no_schema : Schema
no_schema = record { tables = []; indexes = []; views = [] }
