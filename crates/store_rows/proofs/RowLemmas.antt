-- From SQL's comparisons and keys to numbers.
use Rattle.std.proofs.Common.{◌≡◌, ℕ, ◌^◌, ◌<◌, ◌≤◌, ℤ, pos, negsuc, Bool, true, false, not, ◌&&◌, cond, nat_lt, eqb, List, [], ◌∷◌, length, map, filter, refl, sym, ap, ◌∙◌, inl, inr, arith, Less, is_eq, int_cmp, IsTrue, true≢false, IsUtf8}
use Rattle.std.specs.List.{AllByRecursion}
use Rattle.std.proofs.lemmas.Int.{ints}
use Rattle.std.proofs.lemmas.Grind.{common_steps}
use Rattle.sqlite_value.specs.declared.value.Value.{Value}
use Rattle.sqlite_value.specs.declared.value.Value.TheVariants.{Null, Int, Real, Text, Blob}
use Rattle.sqlite_value.specs.declared.keys.Collation.TheVariants.{Binary}
use Rattle.sqlite_value.specs.Order.{Row, value_cmp}
use Rattle.sqlite_value.proofs.OrderLemmas.{value_cmp-Int, value_cmp-Text}
use Rattle.sqlite_sql.specs.declared.ops.BinaryOp.TheVariants.{Compare}
use Rattle.sqlite_sql.specs.declared.ops.CompareOp.TheVariants.{Eq}
use Rattle.sqlite_sql.specs.Ops.{binary, is_true, from_truth}
use Rattle.sqlite_trees.specs.Tree.{rowid, IsTable}
use Rattle.sqlite_trees.specs.View.{is_int, IsShaped}
use Rattle.sqlite_trees.specs.declared.store.Shape.TheVariants.{Table}
use Rattle.sqlite_rules.specs.Edit.{id_in}
use Rattle.sqlite_keyed.specs.Keyed.{IsKeyedBy}
use Rattle.sqlite_keyed.proofs.KeyedLemmas.{lt_from_Less}
use Rattle.sqlite_keyed.proofs.RuleLemmas.{at_most_one}
use Rattle.store_rows.specs.Rows.{number_in, text_in}
use Rattle.house_rows.specs.Text.{same_text}
use Rattle.house_rows.proofs.Put.{by_test}
use Rattle.store_rows.proofs.TextLemmas.{other_text}
use Rattle.std.specs.Cmp.Lexicographic.{texts_ties}
use Rattle.sqlite_schema.specs.Rules.{is_of}
use Rattle.sqlite_schema.specs.declared.schema.Kind.TheVariants as kind
use Rattle.sqlite_sql.specs.Ops.{is_null}

abbrev pub is_text : Value → Bool
is_text (Text t) = true
is_text _ = false

pub truth_back : (b : Bool) → is_true (from_truth (Rattle.std.proofs.Common.Some b)) ≡ b
truth_back true = refl
truth_back false = refl

-- a number of 32 bits is reported as it is
pub small : (n : ℕ) → n < 2 ^ 32 → number_in (Int (pos n)) ≡ n
small n low = rw (under n low) refl
  where
    under : (n : ℕ) → n < 2 ^ 32 → nat_lt n (2 ^ 32) ≡ true
    under n low = grind arith

-- and one that is reported below such a number is below it
report_below : (m n : ℕ) → n < 2 ^ 32 → number_in (Int (pos m)) < n → m < n
report_below m n low less = go (nat_lt m (2 ^ 32)) refl less
  where
    go : (b : Bool) → nat_lt m (2 ^ 32) ≡ b → cond b m (2 ^ 64) < n → m < n
    go true e h = h
    go false e h = absurd (omega (arith, h, low))

-- the test of what is reported is the test of the number
pub report_equal : (m n : ℕ) → n < 2 ^ 32 → eqb (number_in (Int (pos m))) n ≡ eqb m n
report_equal m n low = go (nat_lt m (2 ^ 32)) refl
  where
    go : (b : Bool) → nat_lt m (2 ^ 32) ≡ b → eqb (cond b m (2 ^ 64)) n ≡ eqb m n
    go true e = refl
    go false e = grind arith

pub equals_number : (v : Value) (n : ℕ) → is_int v ≡ true → n < 2 ^ 32 → is_true (binary (Compare Eq Binary) v (Int (pos n))) ≡ eqb (number_in v) n
unfolding binary
equals_number Null n is low = absurd (true≢false (sym is))
equals_number (Int (pos m)) n is low = truth_back _ ∙ ap is_eq (value_cmp-Int (pos m) (pos n)) ∙ same_as m n ∙ sym (report_equal m n low)
  where
    same_as : (m n : ℕ) → is_eq (int_cmp (pos m) (pos n)) ≡ eqb m n
    same_as m n = grind (arith, ints, common_steps)
equals_number (Int (negsuc m)) n is low = truth_back _ ∙ ap is_eq (value_cmp-Int (negsuc m) (pos n)) ∙ grind (arith, ints, common_steps)
equals_number (Real x) n is low = absurd (true≢false (sym is))
equals_number (Text t) n is low = absurd (true≢false (sym is))
equals_number (Blob b) n is low = absurd (true≢false (sym is))

pub filter_same_on : {X : Type 0} (P : X → Type 0) (p q : X → Bool) → ((x : X) → P x → p x ≡ q x) → (xs : List X) → AllByRecursion P xs → filter p xs ≡ filter q xs
filter_same_on P p q same [] all = refl
filter_same_on P p q same (x ∷ xs) all = rw (same x all.0) (ap (λ l. cond (q x) (x ∷ l) l) (filter_same_on P p q same xs all.1))

-- of rows that fit where they pass a test those fit that a query keeps by it
pub passing_fit : {T : Type 0} (inside : Row → T) (Fits : T → Type 0) (keep : T → Bool) (P : Row → Type 0) (p : Row → Bool) → ((r : Row) → P r → p r ≡ keep (inside r)) → (rows : List Row)
    → AllByRecursion P rows → AllByRecursion (λ x. keep x ≡ true → Fits x) (map inside rows) → AllByRecursion (λ r. Fits (inside r)) (filter p rows)
passing_fit inside Fits keep P p tests [] are fit = tt
passing_fit inside Fits keep P p tests (r ∷ rows) are fit =
    let rest = passing_fit inside Fits keep P p tests rows are.1 fit.1 in
    elim (by_test (p r)) [
      | inl is ↦ rw is (fit.0 (sym (tests r are.0) ∙ is), rest)
      | inr not ↦ rw not rest
    ]

abbrev pub row_key : Row → ℤ
row_key r = id_in (rowid r)

pub keyed : (rows : List Row) → IsTable rows → AllByRecursion (λ r. IsTrue (is_int (rowid r))) rows → IsKeyedBy row_key rows
keyed [] up ints_all = tt
keyed (r ∷ rows) up all = (above r rows all.0 up.0 all.1, keyed rows up.1 all.1)
  where
    lower : (v w : Value) → IsTrue (is_int v) → IsTrue (is_int w) → value_cmp v w ≡ Less → Rattle.std.specs.Prelude.◌<ℤ◌ (id_in v) (id_in w)
    lower (Int a) (Int b) p q h = lt_from_Less a b (sym (value_cmp-Int a b) ∙ h)
    lower (Int a) Null p q h = absurd (true≢false (sym q))
    lower (Int a) (Real x) p q h = absurd (true≢false (sym q))
    lower (Int a) (Text x) p q h = absurd (true≢false (sym q))
    lower (Int a) (Blob x) p q h = absurd (true≢false (sym q))
    lower Null w p q h = absurd (true≢false (sym p))
    lower (Real x) w p q h = absurd (true≢false (sym p))
    lower (Text x) w p q h = absurd (true≢false (sym p))
    lower (Blob x) w p q h = absurd (true≢false (sym p))

    above : (r : Row) (rows : List Row) → IsTrue (is_int (rowid r)) → AllByRecursion (λ s. value_cmp (rowid r) (rowid s) ≡ Less) rows → AllByRecursion (λ s. IsTrue (is_int (rowid s))) rows
        → AllByRecursion (λ s. Rattle.std.specs.Prelude.◌<ℤ◌ (row_key r) (row_key s)) rows
    above r [] i up all = tt
    above r (s ∷ rows) i up all = (lower (rowid r) (rowid s) i all.0 up.0, above r rows i up.1 all.1)

pub key_of_number : (v : Value) (n : ℕ) → is_int v ≡ true → n < 2 ^ 32 → eqb (number_in v) n ≡ true → Rattle.std.specs.Ordering.int_eq (id_in v) (pos n) ≡ true
key_of_number Null n is low h = absurd (true≢false (sym is))
key_of_number (Int (pos m)) n is low h = go m n (sym (report_equal m n low) ∙ h)
  where
    go : (m n : ℕ) → eqb m n ≡ true → Rattle.std.specs.Ordering.int_eq (pos m) (pos n) ≡ true
    go m n h = grind (arith, ints, common_steps)
key_of_number (Int (negsuc m)) n is low h = grind (arith, ints, common_steps)
key_of_number (Real x) n is low h = absurd (true≢false (sym is))
key_of_number (Text t) n is low h = absurd (true≢false (sym is))
key_of_number (Blob b) n is low h = absurd (true≢false (sym is))

-- one row at most has a rowid
pub one_row : (rows : List Row) (n : ℕ) → IsShaped Table rows → n < 2 ^ 32 → length (filter (λ r. is_int (rowid r) && eqb (number_in (rowid r)) n) rows) ≤ 1
one_row rows n shaped low =
    at_most_one row_key (pos n) (λ r. is_int (rowid r) && eqb (number_in (rowid r)) n) (λ r h. key_of_number (rowid r) n (Rattle.sqlite_keyed.proofs.RuleLemmas.first_of_both _ _ h) low (Rattle.sqlite_keyed.proofs.RuleLemmas.second_of_both _ _ h))
    rows (keyed rows shaped.0 shaped.1)

pub other_key : (v : Value) (n : ℕ) → is_int v ≡ true → n < 2 ^ 32 → eqb (number_in v) n ≡ false → Rattle.std.specs.Ordering.int_eq (id_in v) (pos n) ≡ false
other_key Null n is low h = absurd (true≢false (sym is))
other_key (Int (pos m)) n is low h = go m n (sym (report_equal m n low) ∙ h)
  where
    go : (m n : ℕ) → eqb m n ≡ false → Rattle.std.specs.Ordering.int_eq (pos m) (pos n) ≡ false
    go m n h = grind (arith, ints, common_steps)
other_key (Int (negsuc m)) n is low h = grind (arith, ints, common_steps)
other_key (Real x) n is low h = absurd (true≢false (sym is))
other_key (Text t) n is low h = absurd (true≢false (sym is))
other_key (Blob b) n is low h = absurd (true≢false (sym is))

-- a row's number is below n
pub id_below : (v : Value) (n : ℕ) → is_int v ≡ true → n < 2 ^ 32 → number_in v < n → Rattle.std.specs.Prelude.◌<ℤ◌ (id_in v) (pos n)
id_below Null n is small low = absurd (true≢false (sym is))
id_below (Int (pos m)) n is small low = omega (arith, ints, report_below m n small low)
id_below (Int (negsuc m)) n is small low = omega (arith, ints)
id_below (Real x) n is small low = absurd (true≢false (sym is))
id_below (Text t) n is small low = absurd (true≢false (sym is))
id_below (Blob b) n is small low = absurd (true≢false (sym is))

same_bytes : (s t : List ℕ) → Rattle.std.specs.Ordering.is_eq (Rattle.std.specs.Cmp.Lexicographic.slice_cmp Rattle.std.specs.Ordering.nat_cmp s t) ≡ same_text s t
same_bytes s t = sym (texts_ties s t)

-- = of a text column
pub equals_text : (v : Value) (t : List ℕ) → IsUtf8 t → is_text v ≡ true → is_true (binary (Compare Eq Binary) v (Text t)) ≡ same_text (text_in v) t
unfolding binary
equals_text Null t u is = absurd (true≢false (sym is))
equals_text (Int m) t u is = absurd (true≢false (sym is))
equals_text (Real x) t u is = absurd (true≢false (sym is))
equals_text (Text s) t u is = truth_back _ ∙ ap Rattle.std.specs.Ordering.is_eq (value_cmp-Text s t) ∙ same_bytes s t ∙ other_text s t u
equals_text (Blob b) t u is = absurd (true≢false (sym is))

-- a value of a NOT NULL INTEGER column
pub int_if : (v : Value) → is_of kind.Integer v ≡ true → not (is_null v) ≡ true → is_int v ≡ true
int_if Null h k = absurd (true≢false (sym k))
int_if (Int n) h k = refl
int_if (Real x) h k = absurd (true≢false (sym h))
int_if (Text x) h k = absurd (true≢false (sym h))
int_if (Blob x) h k = absurd (true≢false (sym h))

-- a value of a NOT NULL TEXT column
pub text_if : (v : Value) → is_of kind.Text v ≡ true → not (is_null v) ≡ true → is_text v ≡ true
text_if Null h k = absurd (true≢false (sym k))
text_if (Int n) h k = absurd (true≢false (sym h))
text_if (Real x) h k = absurd (true≢false (sym h))
text_if (Text x) h k = refl
text_if (Blob x) h k = absurd (true≢false (sym h))

pub alone : (b : Bool) → (b && true) ≡ b
alone true = refl
alone false = refl

pub two : (a b : Bool) → (a && (b && true)) ≡ (a && b)
two a b = ap (λ c. a && c) (alone b)

-- the first of what a test keeps is what it finds first
pub first_is : {X Y : Type 0} (f : X → Y) (p : Y → Bool) (xs : List X) (ys : List Y) → map f xs ≡ filter p ys → Rattle.std.proofs.Common.option_map f (Rattle.std.proofs.Common.slice_get xs 0) ≡ Rattle.std.proofs.Common.find p ys
first_is f p xs ys same = head xs ∙ ap (λ l. Rattle.std.proofs.Common.slice_get l 0) same ∙ Rattle.sqlite_keyed.proofs.ListLemmas.slice_get-filter p ys
  where
    head : (l : List _) → Rattle.std.proofs.Common.option_map f (Rattle.std.proofs.Common.slice_get l 0) ≡ Rattle.std.proofs.Common.slice_get (map f l) 0
    head [] = refl
    head (x ∷ l) = refl

-- and a part of it
pub first_part : {X Y Z : Type 0} (f : X → Z) (part : Y → Z) (p : Y → Bool) (xs : List X) (ys : List Y) → map f xs ≡ map part (filter p ys)
    → Rattle.std.proofs.Common.option_map f (Rattle.std.proofs.Common.slice_get xs 0) ≡ Rattle.std.proofs.Common.option_map part (Rattle.std.proofs.Common.find p ys)
first_part f part p xs ys same =
    head f xs ∙ ap (λ l. Rattle.std.proofs.Common.slice_get l 0) same ∙ sym (head part (filter p ys)) ∙ ap (Rattle.std.proofs.Common.option_map part) (Rattle.sqlite_keyed.proofs.ListLemmas.slice_get-filter p ys)
  where
    head : {A B : Type 0} (g : A → B) (l : List A) → Rattle.std.proofs.Common.option_map g (Rattle.std.proofs.Common.slice_get l 0) ≡ Rattle.std.proofs.Common.slice_get (map g l) 0
    head g [] = refl
    head g (x ∷ l) = refl
