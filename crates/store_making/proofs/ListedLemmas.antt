-- The trees of a list of objects are found by their names.
use Rattle.std.proofs.Common.{◌≡◌, ◌<◌, ◌∙◌, ℕ, suc, pos, true, cond, List, [], ◌∷◌, ◌++◌, map, filter, not, refl, sym, ap, subst, inl, inr, true≢false, is_eq, lt-ltb, add-one, arith}
use Rattle.std.specs.List.{list_any}
use Rattle.std.proofs.lemmas.Bool.{and_parts, cases_Bool}
use Rattle.std.proofs.lemmas.Cmp.{tied_itself}
use Rattle.std.proofs.lemmas.Map.Text.{is_eq-slice_cmp}
use Rattle.std.proofs.lemmas.Slice.Eq.{bytes_eq-Decides}
use Rattle.sqlite_value.specs.declared.value.Value.{Value}
use Rattle.sqlite_value.specs.declared.value.Value.TheVariants.{Null, Int, Real, Text, Blob}
use Rattle.sqlite_value.specs.Order.{Row, bytes, column, value_cmp}
use Rattle.sqlite_value.proofs.OrderLemmas.{value_cmp-Text, value_cmp-apart, value_cmp_total}
use Rattle.sqlite_trees.specs.Sound.{Head, are_in_order, head_at, is_word, may_follow, same_name}
use Rattle.sqlite_trees.specs.Tree.{rowid}
use Rattle.sqlite_catalog.proofs.LayoutLemmas.{zipped_left}
use Rattle.sqlite_catalog.proofs.SoundLemmas.{list_parts, lowered, names_agree}
use Rattle.sqlite_catalog.specs.Listing.{AreListed, IsIndexRow, IsTableRow, is_index_row, is_table_row}
use Rattle.sqlite_rules.proofs.ListLemmas.{has_filtered, has_left, has_right, some_from}
use Rattle.sqlite_rules.specs.Lists.{Has}
use Rattle.sqlite_schema.specs.declared.schema.Index.{Index}
use Rattle.sqlite_schema.specs.declared.schema.Schema.{Schema}
use Rattle.sqlite_schema.specs.declared.schema.Table.{Table}
use Rattle.store_house.specs.Places.{tree_named, tree_or}

-- ---- a name comes once

-- a row that comes after some has none of their names
follows_none : (earlier : List Head) (rows : List Row) → are_in_order earlier (map (head_at 1) rows) ≡ true → (e : Head) → Has earlier e → (r : Row) → Has rows r
    → same_name (bytes e.1) (bytes (column r 2)) ≡ true → ⊥
unfolding may_follow
follows_none earlier [] up e has r none same = none
follows_none earlier (x ∷ rows) up e has r (inl is) same =
    let fresh : not (list_any (λ (y : Head). same_name (bytes y.1) (bytes (column x 2))) earlier) ≡ true = (and_parts _ _ (and_parts _ _ up).0).0 in
    let named : same_name (bytes e.1) (bytes (column x 2)) ≡ true = subst (λ (row : Row). same_name (bytes e.1) (bytes (column row 2)) ≡ true) is same in
    true≢false (sym fresh ∙ ap not (some_from (λ (y : Head). same_name (bytes y.1) (bytes (column x 2))) earlier e has named))
follows_none earlier (x ∷ rows) up e has r (inr more) same =
    follows_none (earlier ++ head_at 1 x ∷ []) rows (and_parts _ _ up).1 e (has_left earlier (head_at 1 x ∷ []) e has) r more same

other_way : (a b : List ℕ) → same_name a b ≡ true → same_name b a ≡ true
other_way a b same = sym (names_agree b a) ∙ (lowered b a).1 (sym ((lowered a b).0 (names_agree a b ∙ same)))

-- so two rows with one name are one row
pub one_by_name : (earlier : List Head) (rows : List Row) → are_in_order earlier (map (head_at 1) rows) ≡ true → (r s : Row) → Has rows r → Has rows s
    → same_name (bytes (column r 2)) (bytes (column s 2)) ≡ true → r ≡ s
one_by_name earlier [] up r s none other same = absurd none
one_by_name earlier (x ∷ rows) up r s (inl p) (inl q) same = p ∙ sym q
one_by_name earlier (x ∷ rows) up r s (inl p) (inr q) same =
    absurd (follows_none (earlier ++ head_at 1 x ∷ []) rows (and_parts _ _ up).1 (head_at 1 x) (has_right earlier (head_at 1 x ∷ []) (head_at 1 x) (inl refl)) s q
    (subst (λ (row : Row). same_name (bytes (column row 2)) (bytes (column s 2)) ≡ true) p same))
one_by_name earlier (x ∷ rows) up r s (inr p) (inl q) same =
    absurd (follows_none (earlier ++ head_at 1 x ∷ []) rows (and_parts _ _ up).1 (head_at 1 x) (has_right earlier (head_at 1 x ∷ []) (head_at 1 x) (inl refl)) r p
    (other_way (bytes (column r 2)) (bytes (column x 2)) (subst (λ (row : Row). same_name (bytes (column r 2)) (bytes (column row 2)) ≡ true) q same)))
one_by_name earlier (x ∷ rows) up r s (inr p) (inr q) same = one_by_name (earlier ++ head_at 1 x ∷ []) rows (and_parts _ _ up).1 r s p q same

same_again : (name : List ℕ) → same_name name name ≡ true
same_again name = sym (names_agree name name) ∙ (lowered name name).1 refl

pub one_named : (rows : List Row) → are_in_order [] (map (head_at 1) rows) ≡ true → (r s : Row) → Has rows r → Has rows s → (name : List ℕ) → column r 2 ≡ Text name → column s 2 ≡ Text name → r ≡ s
one_named rows up r s one other name a b = one_by_name [] rows up r s one other (rw (a, b) (same_again name))

-- ---- the tree of a name

-- a value that is a word is its text
pub text_is : (v : Value) (word : List ℕ) → is_word word v ≡ true → v ≡ Text word
text_is Null word h = absurd (true≢false (sym h ∙ ap is_eq (value_cmp-apart Null (Text word) (λ e. omega arith))))
text_is (Int n) word h = absurd (true≢false (sym h ∙ ap is_eq (value_cmp-apart (Int n) (Text word) (λ e. omega arith))))
text_is (Real x) word h = absurd (true≢false (sym h ∙ ap is_eq (value_cmp-apart (Real x) (Text word) (λ e. omega arith))))
text_is (Text t) word h = ap Text ((bytes_eq-Decides t word).0 (sym (is_eq-slice_cmp t word) ∙ ap is_eq (sym (value_cmp-Text t word)) ∙ h))
text_is (Blob b) word h = absurd (true≢false (sym h ∙ ap is_eq (value_cmp-apart (Blob b) (Text word) (λ e. omega arith))))

pub is_text : (v : Value) (word : List ℕ) → v ≡ Text word → is_word word v ≡ true
is_text v word is = ap (λ x. is_eq (value_cmp x (Text word))) is ∙ ap is_eq (tied_itself value_cmp_total (Text word))

-- of rows whose name is that of a tree, the first has it
named_is : (name : List ℕ) (n other : ℕ) (rows : List Row) → n < 65536
    → ((r : Row) → Has rows r → column r 2 ≡ Text name → rowid r ≡ Int (pos (suc n)))
    → (r : Row) → Has rows r → column r 2 ≡ Text name → tree_named name other rows ≡ n
named_is name n other [] low are r none is = absurd none
named_is name n other (x ∷ rows) low are r has is = elim (cases_Bool (is_word name (column x 2))) [
  | inl yes_it ↦
      let id : column x 0 ≡ Int (pos (suc n)) = are x (inl refl) (text_is (column x 2) name yes_it) in
      ap (λ b. cond b (tree_or other (column x 0)) (tree_named name other rows)) yes_it
      ∙ ap (tree_or other) id ∙ ap (λ b. cond b n other) (lt-ltb n 65536 low)
  | inr no_it ↦
      ap (λ b. cond b (tree_or other (column x 0)) (tree_named name other rows)) no_it
      ∙ elim has [
        | inl same ↦ absurd (true≢false (sym (is_text (column x 2) name (ap (λ (row : Row). column row 2) (sym same) ∙ is)) ∙ no_it))
        | inr more ↦ named_is name n other rows low (λ y h. are y (inr h)) r more is
      ]
]

-- a table of a schema that is listed has the tree that its name finds
pub table_found : (rows : List Row) (schema : Schema) → AreListed rows schema → (t : Table) → Has schema.tables t → (other : ℕ) → tree_named t.name other rows ≡ t.tree
table_found rows schema are t has other =
    let found = zipped_left IsTableRow (filter is_table_row rows) schema.tables t are.tables has in
    let d = found.2.described in
    let there = (has_filtered is_table_row rows found.0 found.1).0 in
    named_is t.name t.tree other rows d.low
    (λ x h is. ap rowid (one_named rows (list_parts rows are.loads).1 x found.0 h there t.name is d.name_is) ∙ d.id ∙ ap (λ n. Int (pos n)) (add-one t.tree))
    found.0 there d.name_is

-- and so has an index
pub index_found : (rows : List Row) (schema : Schema) → AreListed rows schema → (i : Index) → Has schema.indexes i → (other : ℕ) → tree_named i.name other rows ≡ i.tree
index_found rows schema are i has other =
    let found = zipped_left (IsIndexRow schema.tables) (filter is_index_row rows) schema.indexes i are.indexes has in
    let d = found.2.described in
    let there = (has_filtered is_index_row rows found.0 found.1).0 in
    named_is i.name i.tree other rows d.low
    (λ x h is. ap rowid (one_named rows (list_parts rows are.loads).1 x found.0 h there i.name is d.name_is) ∙ d.id ∙ ap (λ n. Int (pos n)) (add-one i.tree))
    found.0 there d.name_is
