-- What the answer of a question writes: one question at most has a key.
use Rattle.std.proofs.Common.{◌≡◌, ◌≤◌, ◌<◌, ◌^◌, ℕ, pos, negsuc, ◌<ℤ◌, true, not, ◌&&◌, codes, List, [], ◌∷◌, map, filter, length, drop, Ok, None, eqb, refl, sym, ap, subst, ◌∙◌, arith, IsTrue, true≢false, IsUtf8, Bool}
use Rattle.std.specs.List.{AllByRecursion}
use Rattle.sqlite_value.specs.declared.value.Value.{Value}
use Rattle.sqlite_value.specs.declared.value.Value.TheVariants.{Null, Int, Real, Text, Blob}
use Rattle.sqlite_value.specs.Keys as keys
use Rattle.sqlite_value.specs.Keys.{first_key}
use Rattle.sqlite_value.specs.Order.{Row, column}
use Rattle.sqlite_sql.specs.Term.{Term}
use Rattle.sqlite.specs.Term.{col}
use Rattle.sqlite.specs.Command.TheVariants.{Update}
use Rattle.sqlite.specs.Listing.{understood}
use Rattle.sqlite.specs.Effect.{Database}
use Rattle.sqlite.specs.State.{State, Executes}
use Rattle.sqlite.proofs.Callers.{IsPlain, command_of}
use Rattle.sqlite_tied.specs.Compute.{everything}
use Rattle.sqlite_trees.specs.Tree.{rowid}
use Rattle.sqlite_trees.specs.View.{is_int}
use Rattle.sqlite_rules.specs.Lists.{Has}
use Rattle.sqlite_rules.specs.Cast.{cast, cast_row}
use Rattle.sqlite_rules.proofs.TableLemmas.{int_is}
use Rattle.sqlite_rules.proofs.ListLemmas.{some_from}
use Rattle.sqlite_schema.specs.Rules.{are_typed, has_computed, agree, clashes, differ}
use Rattle.sqlite_schema.specs.declared.schema.Constraint.TheVariants.{Datatype, Unique}
use Rattle.sqlite_schema.specs.declared.schema.Kind.TheVariants as kind
use Rattle.sqlite_catalog.specs.Listing.{IsSound}
use Rattle.sqlite_keyed.proofs.ListLemmas.{all_weaker}
use Rattle.sqlite_keyed.proofs.RuleLemmas.{first_of_both, second_of_both}
use Rattle.house_rows.specs.Changed.{with_answer}
use Rattle.house_rows.specs.Questions.{is_question}
use Rattle.store_rows.specs.Plain.{plain_query, passes}
use Rattle.store_rows.specs.Rows.{number_in, question_in}
use Rattle.store_rows.specs.Schema.{house_by, question_layout, question_table}
use Rattle.store_rows.specs.House.{IsHouse}
use Rattle.store_talk.specs.Answers.{SetsAnswer}
use Rattle.store_rows.proofs.RowLemmas.{row_key, keyed, equals_number, report_equal}
use Rattle.store_rows.proofs.TextLemmas.{text_back, same_number}
use Rattle.store_rows.proofs.Insert.{cast_int}
use Rattle.store_rows.proofs.Update.{stays_all}
use Rattle.store_rows.proofs.UpdateOne.{all_has, at_most_one_of, typed_where_set, updates_one}
use Rattle.store_talk.proofs.TalkMeaning.{by_question}
use Rattle.store_talk.proofs.TalkReads.{IsTalk, are_questions, three}
use Rattle.store_rows.proofs.Wrote.{still_house}
use Rattle.store_rows.proofs.Comparing.{both_true, differs, self_equal}

abbrev pub answer_text : List ℕ
answer_text = codes "UPDATE question SET answer = ?4 WHERE item = ?1 AND asker = ?2 AND n = ?3"

-- the whole new row
abbrev answer_set : List Term
answer_set = col 1 0 ∷ col 1 1 ∷ col 1 2 ∷ col 1 3 ∷ col 1 4 ∷ col 0 3 ∷ []

answer_is : (b : Bool) → (command_of (understood (house_by b) answer_text) ≡ Update 7 (record { lets = []; body = plain_query 12 by_question (col 1 0 ∷ answer_set) [] })) × IsPlain (understood (house_by b) answer_text)
unfolding understood everything
answer_is b = (refl, (refl, refl))

-- ---- comparisons

-- a column with this number is the number
is_number : (v : Value) (n : ℕ) → is_int v ≡ true → n < 2 ^ 32 → eqb (number_in v) n ≡ true → v ≡ Int (pos n)
is_number (Int (pos m)) n is low h = ap (λ k. Int (pos k)) (same_number m n (sym (report_equal m n low) ∙ h))
is_number (Int (negsuc m)) n is low h = let e = same_number (2 ^ 64) n h in absurd (omega (arith, low, e))
is_number Null n is low h = absurd (true≢false (sym is))
is_number (Real x) n is low h = absurd (true≢false (sym is))
is_number (Text x) n is low h = absurd (true≢false (sym is))
is_number (Blob x) n is low h = absurd (true≢false (sym is))

abbrev key : List ℕ
key = 1 ∷ 2 ∷ 3 ∷ []

pub agree_at : (r s : Row) (a b d : ℕ) → a < 2 ^ 32 → b < 2 ^ 32 → d < 2 ^ 32 → column r 1 ≡ Int (pos a) → column r 2 ≡ Int (pos b) → column r 3 ≡ Int (pos d)
    → column s 1 ≡ Int (pos a) → column s 2 ≡ Int (pos b) → column s 3 ≡ Int (pos d) → agree keys.plain key r key s ≡ true
unfolding first_key
agree_at r s a b d low small less r1 r2 r3 s1 s2 s3 = rw (r1, r2, r3, s1, s2, s3, self_equal a low, self_equal b small, self_equal d less) refl

-- ---- one question at most

module _ (item asker number : ℕ) (more : Row) (low : item < 2 ^ 32) (small : asker < 2 ^ 32) (less : number < 2 ^ 32) where
  abbrev params : Row
  params = Int (pos item) ∷ Int (pos asker) ∷ Int (pos number) ∷ more

  pub same_test : (r : Row) → IsTalk r → passes by_question params r ≡ is_question item asker number (question_in r)
  same_test r is = rw (equals_number (column r 1) item is.first low, equals_number (column r 2) asker is.second small, equals_number (column r 3) number is.third less) (three (eqb (number_in (column r 1)) item) (eqb (number_in (column r 2)) asker) (eqb (number_in (column r 3)) number))

  pub record HasKey (r : Row) : Type 0 where
    pub first : column r 1 ≡ Int (pos item)
    pub second : column r 2 ≡ Int (pos asker)
    pub third : column r 3 ≡ Int (pos number)

  has_key : (r : Row) → IsTalk r → passes by_question params r ≡ true → HasKey r
  has_key r is h =
      let e = sym (same_test r is) ∙ h in
      let rest = second_of_both (eqb (number_in (column r 1)) item) _ e in
      record {
        first = is_number (column r 1) item is.first low (first_of_both (eqb (number_in (column r 1)) item) _ e);
        second = is_number (column r 2) asker is.second small (first_of_both (eqb (number_in (column r 2)) asker) _ rest);
        third = is_number (column r 3) number is.third less (second_of_both (eqb (number_in (column r 2)) asker) _ rest);
      }

  module _ (db : Database) (house : IsHouse db) where
    abbrev rows : List Row
    rows = db.trees 12

    apart : AllByRecursion (λ s. not (clashes keys.plain key rows s) ≡ true) rows
    apart =
        let sound = subst (λ h. IsSound h db.trees) house.schema house.sound in
        all_weaker _ (λ s. not (clashes keys.plain key rows s) ≡ true) (λ s h. first_of_both (not (clashes keys.plain key rows s)) _ h) rows (sound.obeys.rules Unique).1.1.1.1.1.1.1.0

    clash : (r s : Row) → Has rows r → Has rows s → passes by_question params r ≡ true → passes by_question params s ≡ true → row_key r <ℤ row_key s → ⊥
    clash r s has_r has_s p q rises =
        let r_is = has_key r (all_has IsTalk rows r (are_questions db house) has_r) p in
        let s_is = has_key s (all_has IsTalk rows s (are_questions db house) has_s) q in
        let r_int = all_has (λ x. IsTrue (is_int (rowid x))) rows r house.shaped.1.1.1.1.1.1.1.0.1 has_r in
        let s_int = all_has (λ x. IsTrue (is_int (rowid x))) rows s house.shaped.1.1.1.1.1.1.1.0.1 has_s in
        let agrees = agree_at r s item asker number low small less r_is.first r_is.second r_is.third s_is.first s_is.second s_is.third in
        let apart_now = differs (rowid r) (rowid s) r_int s_int rises in
        let some = some_from (λ other. agree keys.plain key other key s && differ (rowid other) (rowid s)) rows r has_r (both_true _ _ agrees apart_now) in
        let none = all_has (λ x. not (clashes keys.plain key rows x) ≡ true) rows s apart has_s in
        true≢false (sym (sym (ap not some) ∙ none))

    pub one_question : length (filter (passes by_question params) rows) ≤ 1
    one_question = at_most_one_of (passes by_question params) rows (keyed rows house.shaped.1.1.1.1.1.1.1.0.0 house.shaped.1.1.1.1.1.1.1.0.1) clash

-- ---- the answer

abbrev IsTyped : Row → Type 0
IsTyped r = are_typed None 0 question_table.columns (drop 1 r) ≡ true

abbrev answered : List ℕ → Row → Row
answered text r = column r 0 ∷ column r 1 ∷ column r 2 ∷ column r 3 ∷ column r 4 ∷ Text text ∷ []

casts : (text : List ℕ) (r : Row) → IsTyped r → IsTrue (is_int (rowid r)) → cast_row question_table (answered text r) ≡ answered text r
casts text r typed int =
    let id : cast kind.Integer (column r 0) ≡ column r 0 = rw (int_is (rowid r) int) (cast_int (row_key r)) in
    let kept = stays_all None question_table.columns r ((refl, tt), ((refl, tt), ((refl, tt), ((refl, tt), ((refl, tt), tt))))) typed in
    let item : cast kind.Integer (column r 1) ≡ column r 1 = kept.0 in
    let asker : cast kind.Integer (column r 2) ≡ column r 2 = kept.1.0 in
    let number : cast kind.Integer (column r 3) ≡ column r 3 = kept.1.1.0 in
    let body : cast kind.Text (column r 4) ≡ column r 4 = kept.1.1.1.0 in
    rw (id, item, asker, number, body) refl

pub sets_answer : (old new : State) (item asker number : ℕ) (text : List ℕ) (count : ℕ) → IsUtf8 text → IsHouse old.now → item < 2 ^ 32 → asker < 2 ^ 32 → number < 2 ^ 32
    → Executes answer_text (Int (pos item) ∷ Int (pos asker) ∷ Int (pos number) ∷ Text text ∷ []) old new (Ok count) → SetsAnswer item asker number text old.now new.now
sets_answer old new item asker number text count u house low small less h =
    let params = Int (pos item) ∷ Int (pos asker) ∷ Int (pos number) ∷ Text text ∷ [] in
    let rows = old.now.trees 12 in
    let sound = subst (λ s. IsSound s old.now.trees) house.schema house.sound in
    let typed = all_weaker _ IsTyped (λ r. first_of_both (are_typed None 0 question_table.columns (drop 1 r)) (has_computed question_table r)) rows (sound.obeys.rules Datatype).1.1.1.1.1.1.1.0 in
    let w = updates_one _ answer_text 7 question_layout by_question answer_set params refl (λ db. refl) (answer_is _).0 (answer_is _).1 (answered text) (λ r. refl) (λ r. refl) IsTyped (casts text)
    old new count house.schema house.shaped.1.1.1.1.1.1.1.0 typed (one_question item asker number (Text text ∷ []) low small less old.now house) h in
    record {
      house = still_house 12 _ old.now new.now house w.0 w.1;
      schema = w.0.schema;
      others = w.0.others;
      questions = ap (map question_in) w.0.rows_are ∙ typed_where_set question_in (with_answer item asker number text) (passes by_question params) (answered text) IsTalk rows (are_questions old.now house)
          (λ r is e. rw (sym (same_test item asker number (Text text ∷ []) low small less r is) ∙ e, text_back text u) refl) (λ r is e. rw (sym (same_test item asker number (Text text ∷ []) low small less r is) ∙ e) refl);
    }
