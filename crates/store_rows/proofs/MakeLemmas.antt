-- What the statements that make the tables leave.
use Rattle.std.proofs.Common.{IsTrue, ◌≡◌, ◌<◌, ◌≤◌, ◌+◌, ℕ, drop, zero, suc, List, [], ◌∷◌, ◌++◌, Ok, Some, None, slice_get, refl, sym, ap, subst, ◌∙◌, true, false, arith}
use Rattle.std.specs.List.{AllByRecursion}
use Rattle.sqlite_trees.specs.Tree.{Trees}
use Rattle.sqlite_trees.specs.View.{IsShaped}
use Rattle.sqlite_trees.specs.declared.store.Shape.TheVariants as shape
use Rattle.sqlite_schema.specs.declared.schema.Table.{Table}
use Rattle.sqlite_schema.specs.declared.schema.Index.{Index}
use Rattle.sqlite_schema.specs.declared.schema.Schema.{Schema}
use Rattle.sqlite_schema.specs.declared.command.Command.TheVariants.{CreateTable, CreateIndex}
use Rattle.sqlite_catalog.specs.Change.{created, indexed, next_tree, KeepsRows}
use Rattle.sqlite_resolve.specs.Compile.{index_defined_by}
use Rattle.sqlite.specs.Compile.{table_defined_by}
use Rattle.sqlite.specs.Effect.{Database, IsDatabase}
use Rattle.sqlite.specs.Does.{Tally, Does, AtPlace, Defines, MakesIndex, lacks_sequence}
use Rattle.sqlite.specs.Listing.{understood}
use Rattle.sqlite.specs.State.{State, Writes, Executes, mode_of}
use Rattle.sqlite.proofs.Callers.{IsPlain, command_of, statement_of, runs_as}
use Rattle.sqlite_tied.specs.Compute.{everything}
use Rattle.store_rows.specs.Schema.{band_table, bid_by_member, bid_table, category_table, edition_table, feedback_by_receiver, feedback_table, first_schema, house_schema, house_table, item_by_category, item_by_end, item_by_leader, item_by_seller, item_table, later_band_table, member_table, no_schema, question_by_asker, question_table, reserve_table, watch_by_item, watch_table}
use Rattle.store_rows.specs.Texts.{make_house, make_band, make_member, make_category, make_item, make_bid, make_watch, make_question, make_feedback, make_item_by_category, make_item_by_seller, make_item_by_leader, make_item_by_end, make_bid_by_member, make_question_by_asker, make_feedback_by_receiver, make_reserve, make_edition, make_later_band, make_watch_by_item}
use Rattle.store_rows.specs.House.{AddsTables, IsFirstHouse, IsInside}
use Rattle.store_rows.proofs.BegunLemmas.{is_inner, wrote_inside}
use Rattle.store_rows.specs.Begun.{IsInner, StaysInside}
use Rattle.store_rows.specs.Making.{making_at, made_by, IsMade, IsGrown}
use Rattle.store_rows.proofs.Making.{house_defined, band_defined, member_defined, category_defined, item_defined, bid_defined, watch_defined, question_defined, feedback_defined, item_by_category_defined, item_by_seller_defined, item_by_leader_defined, item_by_end_defined, bid_by_member_defined, question_by_asker_defined, feedback_by_receiver_defined, reserve_defined, edition_defined, later_band_defined, watch_by_item_defined}
use Rattle.store_rows.proofs.Wrote.{went, same_value}

-- ---- lists of tables

keep_empty : (old new : Trees) (tables : List Table) → KeepsRows tables old new → AllByRecursion (λ t. old t.tree ≡ []) tables → AllByRecursion (λ t. new t.tree ≡ []) tables
keep_empty old new [] same empty = tt
keep_empty old new (t ∷ tables) same empty = (same.0 ∙ empty.0, keep_empty old new tables same.1 empty.1)

one_more : (P : Table → Type 0) (tables : List Table) (t : Table) → AllByRecursion P tables → P t → AllByRecursion P (tables ++ t ∷ [])
one_more P [] t all last = (last, tt)
one_more P (s ∷ tables) t all last = (all.0, one_more P tables t all.1 last)

-- ---- one statement

-- one more table, which has no row; the others have the rows that they had
record AddsTable (n : ℕ) (old new : Database) : Type 0 where
  schema : new.schema ≡ made_by (n + 1)
  kept : KeepsRows (made_by n).tables old.trees new.trees
  empty : new.trees (next_tree (made_by n)) ≡ []
  sound : IsDatabase new

table_added : (n : ℕ) (old new : State) (sql : List ℕ) (table : Table) (count : ℕ) → command_of (understood (made_by n) sql) ≡ CreateTable → statement_of sql (understood (made_by n) sql) ≡ sql → IsPlain (understood (made_by n) sql)
    → table_defined_by sql ≡ Ok table → created (made_by n) table ≡ made_by (n + 1) → lacks_sequence (made_by (n + 1)) ≡ false → old.now.schema ≡ made_by n → Executes sql [] old new (Ok count) → AddsTable n old.now new.now
table_added n old new sql table count command text plain defined made_is no_sequence was h =
    let w = subst (λ t. Writes old new None CreateTable t [] count) text (runs_as sql [] old new (made_by n) was CreateTable command plain count h) in
    let all = went w.changed in
    let first = went all.1 in
    let made_now = first.1 in
    let both : Ok made_now.table ≡ Ok table = sym made_now.defined ∙ defined in
    let same : made_now.table ≡ table = cc in
    let schema : first.0.schema ≡ made_by (n + 1) = made_now.is ∙ ap (λ s. created s made_now.table) was ∙ ap (created (made_by n)) same ∙ made_is in
    let plain_now : lacks_sequence first.0.schema ≡ false = ap lacks_sequence schema ∙ no_sequence in
    let now : new.now ≡ first.0 = ap (λ (p : Tally × Database). p.1) (same_value all.2) ∙ same_value (rw plain_now at first.2) in
    let empty : first.0.trees (next_tree (made_by n)) ≡ [] = subst (λ s. first.0.trees (next_tree s) ≡ []) was made_now.empty in
    let others : KeepsRows (made_by n).tables old.now.trees first.0.trees = subst (λ (s : Schema). KeepsRows s.tables old.now.trees first.0.trees) was made_now.others in
    record {
      schema = ap (λ (d : Database). d.schema) now ∙ schema;
      kept = subst (λ (d : Database). KeepsRows (made_by n).tables old.now.trees d.trees) (sym now) others;
      empty = subst (λ (d : Database). d.trees (next_tree (made_by n)) ≡ []) (sym now) empty;
      sound = w.sound;
    }

table_made : (n : ℕ) (old new : State) (sql : List ℕ) (table : Table) (count : ℕ) → command_of (understood (made_by n) sql) ≡ CreateTable → statement_of sql (understood (made_by n) sql) ≡ sql → IsPlain (understood (made_by n) sql)
    → table_defined_by sql ≡ Ok table → created (made_by n) table ≡ made_by (n + 1) → lacks_sequence (made_by (n + 1)) ≡ false → IsMade n old.now → Executes sql [] old new (Ok count) → IsMade (n + 1) new.now
table_made n old new sql table count command text plain defined made_is no_sequence was h =
    let w = table_added n old new sql table count command text plain defined made_is no_sequence was.schema h in
    let each = one_more (λ t. new.now.trees t.tree ≡ []) (made_by n).tables (record table { tree = next_tree (made_by n) }) (keep_empty old.now.trees new.now.trees (made_by n).tables w.kept was.empty) w.empty in
    record {
      schema = w.schema;
      empty = subst (λ (s : Schema). AllByRecursion (λ t. new.now.trees t.tree ≡ []) s.tables) made_is each;
      sound = λ _. w.sound;
    }

-- one more index, over the rows that there were
record AddsIndex (n : ℕ) (old new : Database) : Type 0 where
  schema : new.schema ≡ made_by (n + 1)
  kept : KeepsRows (made_by n).tables old.trees new.trees
  sound : IsDatabase new

index_added : (n : ℕ) (old new : State) (sql : List ℕ) (at : ℕ) (table : Table) (index : Index) (count : ℕ) → command_of (understood (made_by n) sql) ≡ CreateIndex at → statement_of sql (understood (made_by n) sql) ≡ sql → IsPlain (understood (made_by n) sql)
    → slice_get (made_by n).tables at ≡ Some table → index_defined_by table sql ≡ Ok index → indexed (made_by n) table index ≡ made_by (n + 1) → old.now.schema ≡ made_by n → Executes sql [] old new (Ok count) → AddsIndex n old.now new.now
index_added n old new sql at table index count command text plain found defined made_is was h =
    let w = subst (λ t. Writes old new None (CreateIndex at) t [] count) text (runs_as sql [] old new (made_by n) was (CreateIndex at) command plain count h) in
    let on = subst (λ s. Does old.step_limit (mode_of old) [] (record old.now { schema = s }) sql None (CreateIndex at) (Ok (w.tally, new.now))) was w.changed in
    let placed = subst (λ o. AtPlace (λ t. Defines (mode_of old) (MakesIndex sql (record old.now { schema = made_by n }) t)) o (Ok (w.tally, new.now))) found on in
    let all = went placed in
    let made_now = all.1 in
    let both : Ok made_now.index ≡ Ok index = sym made_now.defined ∙ defined in
    let same : made_now.index ≡ index = cc in
    let schema : all.0.schema ≡ made_by (n + 1) = made_now.is ∙ ap (indexed (made_by n) table) same ∙ made_is in
    let now : new.now ≡ all.0 = ap (λ (p : Tally × Database). p.1) (same_value all.2) in
    let rows : KeepsRows (made_by n).tables old.now.trees all.0.trees = made_now.rows in
    record {
      schema = ap (λ (d : Database). d.schema) now ∙ schema;
      kept = subst (λ (d : Database). KeepsRows (made_by n).tables old.now.trees d.trees) (sym now) rows;
      sound = w.sound;
    }

index_made : (n : ℕ) (old new : State) (sql : List ℕ) (at : ℕ) (table : Table) (index : Index) (count : ℕ) → command_of (understood (made_by n) sql) ≡ CreateIndex at → statement_of sql (understood (made_by n) sql) ≡ sql → IsPlain (understood (made_by n) sql)
    → slice_get (made_by n).tables at ≡ Some table → index_defined_by table sql ≡ Ok index → indexed (made_by n) table index ≡ made_by (n + 1) → IsMade n old.now → Executes sql [] old new (Ok count) → IsMade (n + 1) new.now
index_made n old new sql at table index count command text plain found defined made_is was h =
    let w = index_added n old new sql at table index count command text plain found defined made_is was.schema h in
    let each = keep_empty old.now.trees new.now.trees (made_by n).tables w.kept was.empty in
    record {
      schema = w.schema;
      empty = subst (λ (s : Schema). AllByRecursion (λ t. new.now.trees t.tree ≡ []) s.tables) made_is each;
      sound = λ _. w.sound;
    }

-- ---- what each means

house_is : (command_of (understood (made_by 0) make_house) ≡ CreateTable) × (statement_of make_house (understood (made_by 0) make_house) ≡ make_house) × IsPlain (understood (made_by 0) make_house)
unfolding understood everything
house_is = (refl, refl, (refl, refl))

band_is : (command_of (understood (made_by 1) make_band) ≡ CreateTable) × (statement_of make_band (understood (made_by 1) make_band) ≡ make_band) × IsPlain (understood (made_by 1) make_band)
unfolding understood everything
band_is = (refl, refl, (refl, refl))

member_is : (command_of (understood (made_by 2) make_member) ≡ CreateTable) × (statement_of make_member (understood (made_by 2) make_member) ≡ make_member) × IsPlain (understood (made_by 2) make_member)
unfolding understood everything
member_is = (refl, refl, (refl, refl))

category_is : (command_of (understood (made_by 3) make_category) ≡ CreateTable) × (statement_of make_category (understood (made_by 3) make_category) ≡ make_category) × IsPlain (understood (made_by 3) make_category)
unfolding understood everything
category_is = (refl, refl, (refl, refl))

item_is : (command_of (understood (made_by 4) make_item) ≡ CreateTable) × (statement_of make_item (understood (made_by 4) make_item) ≡ make_item) × IsPlain (understood (made_by 4) make_item)
unfolding understood everything
item_is = (refl, refl, (refl, refl))

bid_is : (command_of (understood (made_by 5) make_bid) ≡ CreateTable) × (statement_of make_bid (understood (made_by 5) make_bid) ≡ make_bid) × IsPlain (understood (made_by 5) make_bid)
unfolding understood everything
bid_is = (refl, refl, (refl, refl))

watch_is : (command_of (understood (made_by 6) make_watch) ≡ CreateTable) × (statement_of make_watch (understood (made_by 6) make_watch) ≡ make_watch) × IsPlain (understood (made_by 6) make_watch)
unfolding understood everything
watch_is = (refl, refl, (refl, refl))

question_is : (command_of (understood (made_by 7) make_question) ≡ CreateTable) × (statement_of make_question (understood (made_by 7) make_question) ≡ make_question) × IsPlain (understood (made_by 7) make_question)
unfolding understood everything
question_is = (refl, refl, (refl, refl))

feedback_is : (command_of (understood (made_by 8) make_feedback) ≡ CreateTable) × (statement_of make_feedback (understood (made_by 8) make_feedback) ≡ make_feedback) × IsPlain (understood (made_by 8) make_feedback)
unfolding understood everything
feedback_is = (refl, refl, (refl, refl))

item_by_category_is : (command_of (understood (made_by 9) make_item_by_category) ≡ CreateIndex 4) × (statement_of make_item_by_category (understood (made_by 9) make_item_by_category) ≡ make_item_by_category) × IsPlain (understood (made_by 9) make_item_by_category)
unfolding understood everything
item_by_category_is = (refl, refl, (refl, refl))

item_by_seller_is : (command_of (understood (made_by 10) make_item_by_seller) ≡ CreateIndex 4) × (statement_of make_item_by_seller (understood (made_by 10) make_item_by_seller) ≡ make_item_by_seller) × IsPlain (understood (made_by 10) make_item_by_seller)
unfolding understood everything
item_by_seller_is = (refl, refl, (refl, refl))

item_by_leader_is : (command_of (understood (made_by 11) make_item_by_leader) ≡ CreateIndex 4) × (statement_of make_item_by_leader (understood (made_by 11) make_item_by_leader) ≡ make_item_by_leader) × IsPlain (understood (made_by 11) make_item_by_leader)
unfolding understood everything
item_by_leader_is = (refl, refl, (refl, refl))

item_by_end_is : (command_of (understood (made_by 12) make_item_by_end) ≡ CreateIndex 4) × (statement_of make_item_by_end (understood (made_by 12) make_item_by_end) ≡ make_item_by_end) × IsPlain (understood (made_by 12) make_item_by_end)
unfolding understood everything
item_by_end_is = (refl, refl, (refl, refl))

bid_by_member_is : (command_of (understood (made_by 13) make_bid_by_member) ≡ CreateIndex 5) × (statement_of make_bid_by_member (understood (made_by 13) make_bid_by_member) ≡ make_bid_by_member) × IsPlain (understood (made_by 13) make_bid_by_member)
unfolding understood everything
bid_by_member_is = (refl, refl, (refl, refl))

question_by_asker_is : (command_of (understood (made_by 14) make_question_by_asker) ≡ CreateIndex 7) × (statement_of make_question_by_asker (understood (made_by 14) make_question_by_asker) ≡ make_question_by_asker) × IsPlain (understood (made_by 14) make_question_by_asker)
unfolding understood everything
question_by_asker_is = (refl, refl, (refl, refl))

feedback_by_receiver_is : (command_of (understood (made_by 15) make_feedback_by_receiver) ≡ CreateIndex 8) × (statement_of make_feedback_by_receiver (understood (made_by 15) make_feedback_by_receiver) ≡ make_feedback_by_receiver) × IsPlain (understood (made_by 15) make_feedback_by_receiver)
unfolding understood everything
feedback_by_receiver_is = (refl, refl, (refl, refl))

pub reserve_is : (command_of (understood (made_by 16) make_reserve) ≡ CreateTable) × (statement_of make_reserve (understood (made_by 16) make_reserve) ≡ make_reserve) × IsPlain (understood (made_by 16) make_reserve)
unfolding understood everything
reserve_is = (refl, refl, (refl, refl))

pub edition_is : (command_of (understood (made_by 17) make_edition) ≡ CreateTable) × (statement_of make_edition (understood (made_by 17) make_edition) ≡ make_edition) × IsPlain (understood (made_by 17) make_edition)
unfolding understood everything
edition_is = (refl, refl, (refl, refl))

pub later_band_is : (command_of (understood (made_by 18) make_later_band) ≡ CreateTable) × (statement_of make_later_band (understood (made_by 18) make_later_band) ≡ make_later_band) × IsPlain (understood (made_by 18) make_later_band)
unfolding understood everything
later_band_is = (refl, refl, (refl, refl))

watch_by_item_is : (command_of (understood (made_by 19) make_watch_by_item) ≡ CreateIndex 6) × (statement_of make_watch_by_item (understood (made_by 19) make_watch_by_item) ≡ make_watch_by_item) × IsPlain (understood (made_by 19) make_watch_by_item)
unfolding understood everything
watch_by_item_is = (refl, refl, (refl, refl))

-- ---- all of them

pub makes_step : (n : ℕ) → n < 20 → (old new : State) (count : ℕ) → IsMade n old.now → Executes (making_at n) [] old new (Ok count) → IsMade (n + 1) new.now
makes_step zero low old new count was h = table_made 0 old new make_house (record house_table { tree = 0 }) count house_is.0 house_is.1 house_is.2 house_defined refl refl was h
makes_step (suc zero) low old new count was h = table_made 1 old new make_band (record band_table { tree = 0 }) count band_is.0 band_is.1 band_is.2 band_defined refl refl was h
makes_step (suc (suc zero)) low old new count was h = table_made 2 old new make_member (record member_table { tree = 0 }) count member_is.0 member_is.1 member_is.2 member_defined refl refl was h
makes_step (suc (suc (suc zero))) low old new count was h = table_made 3 old new make_category (record category_table { tree = 0 }) count category_is.0 category_is.1 category_is.2 category_defined refl refl was h
makes_step (suc (suc (suc (suc zero)))) low old new count was h = table_made 4 old new make_item (record item_table { tree = 0 }) count item_is.0 item_is.1 item_is.2 item_defined refl refl was h
makes_step (suc (suc (suc (suc (suc zero))))) low old new count was h = table_made 5 old new make_bid (record bid_table { tree = 0 }) count bid_is.0 bid_is.1 bid_is.2 bid_defined refl refl was h
makes_step (suc (suc (suc (suc (suc (suc zero)))))) low old new count was h = table_made 6 old new make_watch (record watch_table { tree = 0 }) count watch_is.0 watch_is.1 watch_is.2 watch_defined refl refl was h
makes_step (suc (suc (suc (suc (suc (suc (suc zero))))))) low old new count was h = table_made 7 old new make_question (record question_table { tree = 0 }) count question_is.0 question_is.1 question_is.2 question_defined refl refl was h
makes_step (suc (suc (suc (suc (suc (suc (suc (suc zero)))))))) low old new count was h = table_made 8 old new make_feedback (record feedback_table { tree = 0 }) count feedback_is.0 feedback_is.1 feedback_is.2 feedback_defined refl refl was h
makes_step (suc (suc (suc (suc (suc (suc (suc (suc (suc zero))))))))) low old new count was h = index_made 9 old new make_item_by_category 4 item_table (record item_by_category { tree = 0 }) count item_by_category_is.0 item_by_category_is.1 item_by_category_is.2 refl item_by_category_defined refl was h
makes_step (suc (suc (suc (suc (suc (suc (suc (suc (suc (suc zero)))))))))) low old new count was h = index_made 10 old new make_item_by_seller 4 item_table (record item_by_seller { tree = 0 }) count item_by_seller_is.0 item_by_seller_is.1 item_by_seller_is.2 refl item_by_seller_defined refl was h
makes_step (suc (suc (suc (suc (suc (suc (suc (suc (suc (suc (suc zero))))))))))) low old new count was h = index_made 11 old new make_item_by_leader 4 item_table (record item_by_leader { tree = 0 }) count item_by_leader_is.0 item_by_leader_is.1 item_by_leader_is.2 refl item_by_leader_defined refl was h
makes_step (suc (suc (suc (suc (suc (suc (suc (suc (suc (suc (suc (suc zero)))))))))))) low old new count was h = index_made 12 old new make_item_by_end 4 item_table (record item_by_end { tree = 0 }) count item_by_end_is.0 item_by_end_is.1 item_by_end_is.2 refl item_by_end_defined refl was h
makes_step (suc (suc (suc (suc (suc (suc (suc (suc (suc (suc (suc (suc (suc zero))))))))))))) low old new count was h = index_made 13 old new make_bid_by_member 5 bid_table (record bid_by_member { tree = 0 }) count bid_by_member_is.0 bid_by_member_is.1 bid_by_member_is.2 refl bid_by_member_defined refl was h
makes_step (suc (suc (suc (suc (suc (suc (suc (suc (suc (suc (suc (suc (suc (suc zero)))))))))))))) low old new count was h = index_made 14 old new make_question_by_asker 7 question_table (record question_by_asker { tree = 0 }) count question_by_asker_is.0 question_by_asker_is.1 question_by_asker_is.2 refl question_by_asker_defined refl was h
makes_step (suc (suc (suc (suc (suc (suc (suc (suc (suc (suc (suc (suc (suc (suc (suc zero))))))))))))))) low old new count was h = index_made 15 old new make_feedback_by_receiver 8 feedback_table (record feedback_by_receiver { tree = 0 }) count feedback_by_receiver_is.0 feedback_by_receiver_is.1 feedback_by_receiver_is.2 refl feedback_by_receiver_defined refl was h
makes_step (suc (suc (suc (suc (suc (suc (suc (suc (suc (suc (suc (suc (suc (suc (suc (suc zero)))))))))))))))) low old new count was h = table_made 16 old new make_reserve (record reserve_table { tree = 0 }) count reserve_is.0 reserve_is.1 reserve_is.2 reserve_defined refl refl was h
makes_step (suc (suc (suc (suc (suc (suc (suc (suc (suc (suc (suc (suc (suc (suc (suc (suc (suc zero))))))))))))))))) low old new count was h = table_made 17 old new make_edition (record edition_table { tree = 0 }) count edition_is.0 edition_is.1 edition_is.2 edition_defined refl refl was h
makes_step (suc (suc (suc (suc (suc (suc (suc (suc (suc (suc (suc (suc (suc (suc (suc (suc (suc (suc zero)))))))))))))))))) low old new count was h = table_made 18 old new make_later_band (record later_band_table { tree = 0 }) count later_band_is.0 later_band_is.1 later_band_is.2 later_band_defined refl refl was h
makes_step (suc (suc (suc (suc (suc (suc (suc (suc (suc (suc (suc (suc (suc (suc (suc (suc (suc (suc (suc zero))))))))))))))))))) low old new count was h = index_made 19 old new make_watch_by_item 6 watch_table (record watch_by_item { tree = 0 }) count watch_by_item_is.0 watch_by_item_is.1 watch_by_item_is.2 refl watch_by_item_defined refl was h
makes_step (suc (suc (suc (suc (suc (suc (suc (suc (suc (suc (suc (suc (suc (suc (suc (suc (suc (suc (suc (suc n)))))))))))))))))))) low old new count was h = absurd (omega (arith, low))

-- none are made
pub blank_made : (db : Database) → db.schema ≡ no_schema → IsMade 0 db
blank_made db blank = record { schema = blank; empty = tt; sound = λ less. absurd (omega (arith, less)) }

-- ---- the last four, over the rows of a house of version 1

keep_twice : (first old new : Trees) (tables : List Table) → KeepsRows tables first old → KeepsRows tables old new → KeepsRows tables first new
keep_twice first old new [] one two = tt
keep_twice first old new (t ∷ tables) one two = (two.0 ∙ one.0, keep_twice first old new tables one.1 two.1)

parts : (P : Table → Type 0) (xs ys : List Table) → AllByRecursion P (xs ++ ys) → AllByRecursion P xs × AllByRecursion P ys
parts P [] ys all = (tt, all)
parts P (x ∷ xs) ys all = let more = parts P xs ys all.1 in ((all.0, more.0), more.1)

grown_by : (n : ℕ) (first : Trees) (old new : Database) (table : Table) → (made_by n).tables ≡ first_schema.tables ++ drop 9 (made_by n).tables
    → drop 9 (made_by (n + 1)).tables ≡ drop 9 (made_by n).tables ++ record table { tree = next_tree (made_by n) } ∷ [] → IsGrown n first old → AddsTable n old new → IsGrown (n + 1) first new
grown_by n first old new table split more was w =
    let kept = parts (λ t. new.trees t.tree ≡ old.trees t.tree) first_schema.tables (drop 9 (made_by n).tables) (subst (λ l. KeepsRows l old.trees new.trees) split w.kept) in
    let empty = keep_empty old.trees new.trees (drop 9 (made_by n).tables) kept.1 was.empty in
    record {
      schema = w.schema;
      kept = keep_twice first old.trees new.trees first_schema.tables was.kept kept.0;
      empty = subst (AllByRecursion (λ t. new.trees t.tree ≡ [])) (sym more) (one_more (λ t. new.trees t.tree ≡ []) (drop 9 (made_by n).tables) (record table { tree = next_tree (made_by n) }) empty w.empty);
      sound = w.sound;
    }

grown_on : (first : Trees) (old new : Database) → IsGrown 19 first old → AddsIndex 19 old new → IsGrown 20 first new
grown_on first old new was w =
    let kept = parts (λ t. new.trees t.tree ≡ old.trees t.tree) first_schema.tables (drop 9 (made_by 19).tables) w.kept in
    record {
      schema = w.schema;
      kept = keep_twice first old.trees new.trees first_schema.tables was.kept kept.0;
      empty = keep_empty old.trees new.trees (drop 9 (made_by 19).tables) kept.1 was.empty;
      sound = w.sound;
    }

pub grows_step : (n : ℕ) → 16 ≤ n → n < 20 → (first : Trees) (old new : State) (count : ℕ) → IsGrown n first old.now → Executes (making_at n) [] old new (Ok count) → IsGrown (n + 1) first new.now
grows_step zero low high first old new count was h = absurd (omega (arith, low))
grows_step (suc zero) low high first old new count was h = absurd (omega (arith, low))
grows_step (suc (suc zero)) low high first old new count was h = absurd (omega (arith, low))
grows_step (suc (suc (suc zero))) low high first old new count was h = absurd (omega (arith, low))
grows_step (suc (suc (suc (suc zero)))) low high first old new count was h = absurd (omega (arith, low))
grows_step (suc (suc (suc (suc (suc zero))))) low high first old new count was h = absurd (omega (arith, low))
grows_step (suc (suc (suc (suc (suc (suc zero)))))) low high first old new count was h = absurd (omega (arith, low))
grows_step (suc (suc (suc (suc (suc (suc (suc zero))))))) low high first old new count was h = absurd (omega (arith, low))
grows_step (suc (suc (suc (suc (suc (suc (suc (suc zero)))))))) low high first old new count was h = absurd (omega (arith, low))
grows_step (suc (suc (suc (suc (suc (suc (suc (suc (suc zero))))))))) low high first old new count was h = absurd (omega (arith, low))
grows_step (suc (suc (suc (suc (suc (suc (suc (suc (suc (suc zero)))))))))) low high first old new count was h = absurd (omega (arith, low))
grows_step (suc (suc (suc (suc (suc (suc (suc (suc (suc (suc (suc zero))))))))))) low high first old new count was h = absurd (omega (arith, low))
grows_step (suc (suc (suc (suc (suc (suc (suc (suc (suc (suc (suc (suc zero)))))))))))) low high first old new count was h = absurd (omega (arith, low))
grows_step (suc (suc (suc (suc (suc (suc (suc (suc (suc (suc (suc (suc (suc zero))))))))))))) low high first old new count was h = absurd (omega (arith, low))
grows_step (suc (suc (suc (suc (suc (suc (suc (suc (suc (suc (suc (suc (suc (suc zero)))))))))))))) low high first old new count was h = absurd (omega (arith, low))
grows_step (suc (suc (suc (suc (suc (suc (suc (suc (suc (suc (suc (suc (suc (suc (suc zero))))))))))))))) low high first old new count was h = absurd (omega (arith, low))
grows_step (suc (suc (suc (suc (suc (suc (suc (suc (suc (suc (suc (suc (suc (suc (suc (suc zero)))))))))))))))) low high first old new count was h = grown_by 16 first old.now new.now (record reserve_table { tree = 0 }) refl refl was (table_added 16 old new make_reserve (record reserve_table { tree = 0 }) count reserve_is.0 reserve_is.1 reserve_is.2 reserve_defined refl refl was.schema h)
grows_step (suc (suc (suc (suc (suc (suc (suc (suc (suc (suc (suc (suc (suc (suc (suc (suc (suc zero))))))))))))))))) low high first old new count was h = grown_by 17 first old.now new.now (record edition_table { tree = 0 }) refl refl was (table_added 17 old new make_edition (record edition_table { tree = 0 }) count edition_is.0 edition_is.1 edition_is.2 edition_defined refl refl was.schema h)
grows_step (suc (suc (suc (suc (suc (suc (suc (suc (suc (suc (suc (suc (suc (suc (suc (suc (suc (suc zero)))))))))))))))))) low high first old new count was h = grown_by 18 first old.now new.now (record later_band_table { tree = 0 }) refl refl was (table_added 18 old new make_later_band (record later_band_table { tree = 0 }) count later_band_is.0 later_band_is.1 later_band_is.2 later_band_defined refl refl was.schema h)
grows_step (suc (suc (suc (suc (suc (suc (suc (suc (suc (suc (suc (suc (suc (suc (suc (suc (suc (suc (suc zero))))))))))))))))))) low high first old new count was h = grown_on first old.now new.now was (index_added 19 old new make_watch_by_item 6 watch_table (record watch_by_item { tree = 0 }) count watch_by_item_is.0 watch_by_item_is.1 watch_by_item_is.2 refl watch_by_item_defined refl was.schema h)
grows_step (suc (suc (suc (suc (suc (suc (suc (suc (suc (suc (suc (suc (suc (suc (suc (suc (suc (suc (suc (suc n)))))))))))))))))))) low high first old new count was h = absurd (omega (arith, high))

pub none_grown : (db : Database) → IsFirstHouse db → IsGrown 16 db.trees db
none_grown db house = record { schema = house.schema; kept = same first_schema.tables; empty = tt; sound = house.sound }
  where
    same : (tables : List Table) → KeepsRows tables db.trees db.trees
    same [] = tt
    same (t ∷ tables) = (refl, same tables)

pub all_grown : (first db : Database) → IsFirstHouse first → IsGrown 20 first.trees db → AddsTables first db
all_grown first db house grown = record {
  house = record {
    is_indexed = true;
    schema = grown.schema;
    shaped = both (λ t. IsShaped shape.Table (db.trees t.tree)) first_schema.tables (drop 9 house_schema.tables) (kept first_schema.tables grown.kept house.shaped) (none (drop 9 house_schema.tables) grown.empty);
    sound = grown.sound;
  };
  indexed = grown.schema;
  kept = grown.kept;
  reserves = grown.empty.0;
  editions = grown.empty.1.0;
  later_bands = grown.empty.1.1.0;
}
  where
    both : (P : Table → Type 0) (xs ys : List Table) → AllByRecursion P xs → AllByRecursion P ys → AllByRecursion P (xs ++ ys)
    both P [] ys one two = two
    both P (x ∷ xs) ys one two = (one.0, both P xs ys one.1 two)

    kept : (tables : List Table) → KeepsRows tables first.trees db.trees → AllByRecursion (λ t. IsShaped shape.Table (first.trees t.tree)) tables → AllByRecursion (λ t. IsShaped shape.Table (db.trees t.tree)) tables
    kept [] same shaped = tt
    kept (t ∷ tables) same shaped = (subst (IsShaped shape.Table) (sym same.0) shaped.0, kept tables same.1 shaped.1)

    none : (tables : List Table) → AllByRecursion (λ t. db.trees t.tree ≡ []) tables → AllByRecursion (λ t. IsShaped shape.Table (db.trees t.tree)) tables
    none [] empty = tt
    none (t ∷ tables) empty = (subst (IsShaped shape.Table) (sym empty.0) (tt, tt), none tables empty.1)

create_is_inner : IsInner CreateTable
create_is_inner = ((λ e. absurd (let x = e in cc)), (λ name e. absurd (let x = e in cc)))

table_is_inner : (n : ℕ) (sql : List ℕ) → command_of (understood (made_by n) sql) ≡ CreateTable → (schema : Schema) → schema ≡ made_by n → StaysInside (understood schema sql)
table_is_inner n sql is schema has = subst (λ s. StaysInside (understood s sql)) (sym has) (is_inner CreateTable (understood (made_by n) sql) is create_is_inner)

create_index_is_inner : (at : ℕ) → IsInner (CreateIndex at)
create_index_is_inner at = ((λ e. absurd (let x = e in cc)), (λ name e. absurd (let x = e in cc)))

index_is_inner : (schema : Schema) → schema ≡ made_by 19 → StaysInside (understood schema make_watch_by_item)
index_is_inner schema has = subst (λ s. StaysInside (understood s make_watch_by_item)) (sym has) (is_inner (CreateIndex 6) (understood (made_by 19) make_watch_by_item) watch_by_item_is.0 (create_index_is_inner 6))

pub step_is_inner : (n : ℕ) → 16 ≤ n → n < 20 → (schema : Schema) → schema ≡ made_by n → StaysInside (understood schema (making_at n))
step_is_inner zero low high schema has = absurd (omega (arith, low))
step_is_inner (suc zero) low high schema has = absurd (omega (arith, low))
step_is_inner (suc (suc zero)) low high schema has = absurd (omega (arith, low))
step_is_inner (suc (suc (suc zero))) low high schema has = absurd (omega (arith, low))
step_is_inner (suc (suc (suc (suc zero)))) low high schema has = absurd (omega (arith, low))
step_is_inner (suc (suc (suc (suc (suc zero))))) low high schema has = absurd (omega (arith, low))
step_is_inner (suc (suc (suc (suc (suc (suc zero)))))) low high schema has = absurd (omega (arith, low))
step_is_inner (suc (suc (suc (suc (suc (suc (suc zero))))))) low high schema has = absurd (omega (arith, low))
step_is_inner (suc (suc (suc (suc (suc (suc (suc (suc zero)))))))) low high schema has = absurd (omega (arith, low))
step_is_inner (suc (suc (suc (suc (suc (suc (suc (suc (suc zero))))))))) low high schema has = absurd (omega (arith, low))
step_is_inner (suc (suc (suc (suc (suc (suc (suc (suc (suc (suc zero)))))))))) low high schema has = absurd (omega (arith, low))
step_is_inner (suc (suc (suc (suc (suc (suc (suc (suc (suc (suc (suc zero))))))))))) low high schema has = absurd (omega (arith, low))
step_is_inner (suc (suc (suc (suc (suc (suc (suc (suc (suc (suc (suc (suc zero)))))))))))) low high schema has = absurd (omega (arith, low))
step_is_inner (suc (suc (suc (suc (suc (suc (suc (suc (suc (suc (suc (suc (suc zero))))))))))))) low high schema has = absurd (omega (arith, low))
step_is_inner (suc (suc (suc (suc (suc (suc (suc (suc (suc (suc (suc (suc (suc (suc zero)))))))))))))) low high schema has = absurd (omega (arith, low))
step_is_inner (suc (suc (suc (suc (suc (suc (suc (suc (suc (suc (suc (suc (suc (suc (suc zero))))))))))))))) low high schema has = absurd (omega (arith, low))
step_is_inner (suc (suc (suc (suc (suc (suc (suc (suc (suc (suc (suc (suc (suc (suc (suc (suc zero)))))))))))))))) low high schema has = table_is_inner 16 make_reserve reserve_is.0 schema has
step_is_inner (suc (suc (suc (suc (suc (suc (suc (suc (suc (suc (suc (suc (suc (suc (suc (suc (suc zero))))))))))))))))) low high schema has = table_is_inner 17 make_edition edition_is.0 schema has
step_is_inner (suc (suc (suc (suc (suc (suc (suc (suc (suc (suc (suc (suc (suc (suc (suc (suc (suc (suc zero)))))))))))))))))) low high schema has = table_is_inner 18 make_later_band later_band_is.0 schema has
step_is_inner (suc (suc (suc (suc (suc (suc (suc (suc (suc (suc (suc (suc (suc (suc (suc (suc (suc (suc (suc zero))))))))))))))))))) low high schema has = index_is_inner schema has
step_is_inner (suc (suc (suc (suc (suc (suc (suc (suc (suc (suc (suc (suc (suc (suc (suc (suc (suc (suc (suc (suc n)))))))))))))))))))) low high schema has = absurd (omega (arith, high))

table_inside : (n : ℕ) (old new : State) (sql : List ℕ) (count : ℕ) → command_of (understood (made_by n) sql) ≡ CreateTable → IsPlain (understood (made_by n) sql) → old.now.schema ≡ made_by n → IsTrue old.in_transaction
    → Executes sql [] old new (Ok count) → IsInside old new
table_inside n old new sql count command plain was begun h = wrote_inside old new None CreateTable _ [] count begun (runs_as sql [] old new (made_by n) was CreateTable command plain count h)

index_inside : (old new : State) (count : ℕ) → old.now.schema ≡ made_by 19 → IsTrue old.in_transaction → Executes make_watch_by_item [] old new (Ok count) → IsInside old new
index_inside old new count was begun h =
    wrote_inside old new None (CreateIndex 6) _ [] count begun (runs_as make_watch_by_item [] old new (made_by 19) was (CreateIndex 6) watch_by_item_is.0 watch_by_item_is.2 count h)

pub step_inside : (n : ℕ) → 16 ≤ n → n < 20 → (old new : State) (count : ℕ) → old.now.schema ≡ made_by n → IsTrue old.in_transaction → Executes (making_at n) [] old new (Ok count) → IsInside old new
step_inside zero low high old new count was begun h = absurd (omega (arith, low))
step_inside (suc zero) low high old new count was begun h = absurd (omega (arith, low))
step_inside (suc (suc zero)) low high old new count was begun h = absurd (omega (arith, low))
step_inside (suc (suc (suc zero))) low high old new count was begun h = absurd (omega (arith, low))
step_inside (suc (suc (suc (suc zero)))) low high old new count was begun h = absurd (omega (arith, low))
step_inside (suc (suc (suc (suc (suc zero))))) low high old new count was begun h = absurd (omega (arith, low))
step_inside (suc (suc (suc (suc (suc (suc zero)))))) low high old new count was begun h = absurd (omega (arith, low))
step_inside (suc (suc (suc (suc (suc (suc (suc zero))))))) low high old new count was begun h = absurd (omega (arith, low))
step_inside (suc (suc (suc (suc (suc (suc (suc (suc zero)))))))) low high old new count was begun h = absurd (omega (arith, low))
step_inside (suc (suc (suc (suc (suc (suc (suc (suc (suc zero))))))))) low high old new count was begun h = absurd (omega (arith, low))
step_inside (suc (suc (suc (suc (suc (suc (suc (suc (suc (suc zero)))))))))) low high old new count was begun h = absurd (omega (arith, low))
step_inside (suc (suc (suc (suc (suc (suc (suc (suc (suc (suc (suc zero))))))))))) low high old new count was begun h = absurd (omega (arith, low))
step_inside (suc (suc (suc (suc (suc (suc (suc (suc (suc (suc (suc (suc zero)))))))))))) low high old new count was begun h = absurd (omega (arith, low))
step_inside (suc (suc (suc (suc (suc (suc (suc (suc (suc (suc (suc (suc (suc zero))))))))))))) low high old new count was begun h = absurd (omega (arith, low))
step_inside (suc (suc (suc (suc (suc (suc (suc (suc (suc (suc (suc (suc (suc (suc zero)))))))))))))) low high old new count was begun h = absurd (omega (arith, low))
step_inside (suc (suc (suc (suc (suc (suc (suc (suc (suc (suc (suc (suc (suc (suc (suc zero))))))))))))))) low high old new count was begun h = absurd (omega (arith, low))
step_inside (suc (suc (suc (suc (suc (suc (suc (suc (suc (suc (suc (suc (suc (suc (suc (suc zero)))))))))))))))) low high old new count was begun h = table_inside 16 old new make_reserve count reserve_is.0 reserve_is.2 was begun h
step_inside (suc (suc (suc (suc (suc (suc (suc (suc (suc (suc (suc (suc (suc (suc (suc (suc (suc zero))))))))))))))))) low high old new count was begun h = table_inside 17 old new make_edition count edition_is.0 edition_is.2 was begun h
step_inside (suc (suc (suc (suc (suc (suc (suc (suc (suc (suc (suc (suc (suc (suc (suc (suc (suc (suc zero)))))))))))))))))) low high old new count was begun h = table_inside 18 old new make_later_band count later_band_is.0 later_band_is.2 was begun h
step_inside (suc (suc (suc (suc (suc (suc (suc (suc (suc (suc (suc (suc (suc (suc (suc (suc (suc (suc (suc zero))))))))))))))))))) low high old new count was begun h = index_inside old new count was begun h
step_inside (suc (suc (suc (suc (suc (suc (suc (suc (suc (suc (suc (suc (suc (suc (suc (suc (suc (suc (suc (suc n)))))))))))))))))))) low high old new count was begun h = absurd (omega (arith, high))
