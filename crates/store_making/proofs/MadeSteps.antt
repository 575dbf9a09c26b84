-- What the statements leave that make a house after its first nine tables.
use Rattle.std.proofs.Common.{◌≡◌, ◌<◌, ◌+◌, ◌-◌, ℕ, zero, suc, List, [], ◌∷◌, ◌++◌, Ok, Some, None, slice_get, refl, sym, ap, subst, ◌∙◌, false, arith}
use Rattle.std.specs.List.{AllByRecursion}
use Rattle.sqlite_trees.specs.Tree.{Trees}
use Rattle.sqlite_schema.specs.declared.schema.Table.{Table}
use Rattle.sqlite_schema.specs.declared.schema.Index.{Index}
use Rattle.sqlite_schema.specs.declared.schema.Schema.{Schema}
use Rattle.sqlite_schema.specs.declared.command.Command.TheVariants.{CreateTable, CreateIndex}
use Rattle.sqlite_catalog.specs.Change.{created, indexed, next_tree, KeepsRows}
use Rattle.sqlite_resolve.specs.Compile.{index_defined_by}
use Rattle.sqlite.specs.Compile.{table_defined_by}
use Rattle.sqlite.specs.Effect.{Database}
use Rattle.sqlite.specs.Does.{Tally, Does, AtPlace, Defines, MakesIndex, lacks_sequence}
use Rattle.sqlite.specs.Listing.{understood}
use Rattle.sqlite.specs.State.{State, Writes, Executes, mode_of}
use Rattle.sqlite.proofs.Callers.{IsPlain, command_of, statement_of, runs_as}
use Rattle.sqlite_tied.specs.Compute.{everything}
use Rattle.store_rows.specs.Making.{IsMade, making_at}
use Rattle.store_rows.specs.Schema.{item_table, bid_table, watch_table, question_table, feedback_table, reserve_table, edition_table, later_band_table}
use Rattle.store_rows.specs.Schema.{item_by_category, item_by_seller, item_by_leader, item_by_end, bid_by_member, question_by_asker, feedback_by_receiver, watch_by_item}
use Rattle.store_rows.specs.Texts.{make_reserve, make_edition, make_later_band}
use Rattle.store_rows.specs.Texts.{make_item_by_category, make_item_by_seller, make_item_by_leader, make_item_by_end, make_bid_by_member, make_question_by_asker, make_feedback_by_receiver, make_watch_by_item}
use Rattle.store_rows.proofs.Making.{reserve_defined, edition_defined, later_band_defined}
use Rattle.store_rows.proofs.Making.{item_by_category_defined, item_by_seller_defined, item_by_leader_defined, item_by_end_defined, bid_by_member_defined, question_by_asker_defined, feedback_by_receiver_defined, watch_by_item_defined}
use Rattle.store_rows.proofs.Wrote.{went, same_value}
use Rattle.store_making.specs.Made.{IsMadeWith, later_making_at, made_with}

-- ---- lists of tables

keep_empty : (old new : Trees) (tables : List Table) → KeepsRows tables old new → AllByRecursion (λ t. old t.tree ≡ []) tables → AllByRecursion (λ t. new t.tree ≡ []) tables
keep_empty old new [] same empty = tt
keep_empty old new (t ∷ tables) same empty = (same.0 ∙ empty.0, keep_empty old new tables same.1 empty.1)

one_more : (P : Table → Type 0) (tables : List Table) (t : Table) → AllByRecursion P tables → P t → AllByRecursion P (tables ++ t ∷ [])
one_more P [] t all last = (last, tt)
one_more P (s ∷ tables) t all last = (all.0, one_more P tables t all.1 last)

-- ---- one statement

table_made : (n : ℕ) (old new : State) (sql : List ℕ) (table : Table) (count : ℕ) → command_of (understood (made_with n) sql) ≡ CreateTable → statement_of sql (understood (made_with n) sql) ≡ sql → IsPlain (understood (made_with n) sql)
    → table_defined_by sql ≡ Ok table → created (made_with n) table ≡ made_with (n + 1) → lacks_sequence (made_with (n + 1)) ≡ false → IsMadeWith n old.now → Executes sql [] old new (Ok count) → IsMadeWith (n + 1) new.now
table_made n old new sql table count command text plain defined made_is no_sequence was h =
    let w = subst (λ t. Writes old new None CreateTable t [] count) text (runs_as sql [] old new (made_with n) was.schema CreateTable command plain count h) in
    let all = went w.changed in
    let first = went all.1 in
    let made_now = first.1 in
    let both : Ok made_now.table ≡ Ok table = sym made_now.defined ∙ defined in
    let same : made_now.table ≡ table = cc in
    let schema : first.0.schema ≡ made_with (n + 1) = made_now.is ∙ ap (λ s. created s made_now.table) was.schema ∙ ap (created (made_with n)) same ∙ made_is in
    let plain_now : lacks_sequence first.0.schema ≡ false = ap lacks_sequence schema ∙ no_sequence in
    let now : new.now ≡ first.0 = ap (λ (p : Tally × Database). p.1) (same_value all.2) ∙ same_value (rw plain_now at first.2) in
    let trees : first.0.trees ≡ new.now.trees = ap (λ (d : Database). d.trees) (sym now) in
    let kept : KeepsRows (made_with n).tables old.now.trees new.now.trees =
    subst (λ t. KeepsRows (made_with n).tables old.now.trees t) trees (subst (λ (s : Schema). KeepsRows s.tables old.now.trees first.0.trees) was.schema made_now.others) in
    let empty : new.now.trees (next_tree (made_with n)) ≡ [] =
    subst (λ (t : Trees). t (next_tree (made_with n)) ≡ []) trees (subst (λ s. first.0.trees (next_tree s) ≡ []) was.schema made_now.empty) in
    let each = one_more (λ t. new.now.trees t.tree ≡ []) (made_with n).tables (record table { tree = next_tree (made_with n) }) (keep_empty old.now.trees new.now.trees (made_with n).tables kept was.empty) empty in
    record {
      schema = ap (λ (d : Database). d.schema) now ∙ schema;
      empty = subst (λ (s : Schema). AllByRecursion (λ t. new.now.trees t.tree ≡ []) s.tables) made_is each;
      sound = w.sound;
    }

index_made : (n : ℕ) (old new : State) (sql : List ℕ) (at : ℕ) (table : Table) (index : Index) (count : ℕ) → command_of (understood (made_with n) sql) ≡ CreateIndex at → statement_of sql (understood (made_with n) sql) ≡ sql → IsPlain (understood (made_with n) sql)
    → slice_get (made_with n).tables at ≡ Some table → index_defined_by table sql ≡ Ok index → indexed (made_with n) table index ≡ made_with (n + 1) → IsMadeWith n old.now → Executes sql [] old new (Ok count) → IsMadeWith (n + 1) new.now
index_made n old new sql at table index count command text plain found defined made_is was h =
    let w = subst (λ t. Writes old new None (CreateIndex at) t [] count) text (runs_as sql [] old new (made_with n) was.schema (CreateIndex at) command plain count h) in
    let on = subst (λ s. Does old.step_limit (mode_of old) [] (record old.now { schema = s }) sql None (CreateIndex at) (Ok (w.tally, new.now))) was.schema w.changed in
    let placed = subst (λ o. AtPlace (λ t. Defines (mode_of old) (MakesIndex sql (record old.now { schema = made_with n }) t)) o (Ok (w.tally, new.now))) found on in
    let all = went placed in
    let made_now = all.1 in
    let both : Ok made_now.index ≡ Ok index = sym made_now.defined ∙ defined in
    let same : made_now.index ≡ index = cc in
    let schema : all.0.schema ≡ made_with (n + 1) = made_now.is ∙ ap (indexed (made_with n) table) same ∙ made_is in
    let now : new.now ≡ all.0 = ap (λ (p : Tally × Database). p.1) (same_value all.2) in
    let each = keep_empty old.now.trees all.0.trees (made_with n).tables made_now.rows was.empty in
    record {
      schema = ap (λ (d : Database). d.schema) now ∙ schema;
      empty = subst (λ (d : Database). AllByRecursion (λ t. d.trees t.tree ≡ []) (made_with (n + 1)).tables) (sym now) (subst (λ (s : Schema). AllByRecursion (λ t. all.0.trees t.tree ≡ []) s.tables) made_is each);
      sound = w.sound;
    }

-- ---- what each means

reserve_is : (command_of (understood (made_with 0) make_reserve) ≡ CreateTable) × (statement_of make_reserve (understood (made_with 0) make_reserve) ≡ make_reserve) × IsPlain (understood (made_with 0) make_reserve)
unfolding understood everything
reserve_is = (refl, refl, (refl, refl))

edition_is : (command_of (understood (made_with 1) make_edition) ≡ CreateTable) × (statement_of make_edition (understood (made_with 1) make_edition) ≡ make_edition) × IsPlain (understood (made_with 1) make_edition)
unfolding understood everything
edition_is = (refl, refl, (refl, refl))

later_band_is : (command_of (understood (made_with 2) make_later_band) ≡ CreateTable) × (statement_of make_later_band (understood (made_with 2) make_later_band) ≡ make_later_band) × IsPlain (understood (made_with 2) make_later_band)
unfolding understood everything
later_band_is = (refl, refl, (refl, refl))

item_by_category_is : (command_of (understood (made_with 3) make_item_by_category) ≡ CreateIndex 4) × (statement_of make_item_by_category (understood (made_with 3) make_item_by_category) ≡ make_item_by_category) × IsPlain (understood (made_with 3) make_item_by_category)
unfolding understood everything
item_by_category_is = (refl, refl, (refl, refl))

item_by_seller_is : (command_of (understood (made_with 4) make_item_by_seller) ≡ CreateIndex 4) × (statement_of make_item_by_seller (understood (made_with 4) make_item_by_seller) ≡ make_item_by_seller) × IsPlain (understood (made_with 4) make_item_by_seller)
unfolding understood everything
item_by_seller_is = (refl, refl, (refl, refl))

item_by_leader_is : (command_of (understood (made_with 5) make_item_by_leader) ≡ CreateIndex 4) × (statement_of make_item_by_leader (understood (made_with 5) make_item_by_leader) ≡ make_item_by_leader) × IsPlain (understood (made_with 5) make_item_by_leader)
unfolding understood everything
item_by_leader_is = (refl, refl, (refl, refl))

item_by_end_is : (command_of (understood (made_with 6) make_item_by_end) ≡ CreateIndex 4) × (statement_of make_item_by_end (understood (made_with 6) make_item_by_end) ≡ make_item_by_end) × IsPlain (understood (made_with 6) make_item_by_end)
unfolding understood everything
item_by_end_is = (refl, refl, (refl, refl))

bid_by_member_is : (command_of (understood (made_with 7) make_bid_by_member) ≡ CreateIndex 5) × (statement_of make_bid_by_member (understood (made_with 7) make_bid_by_member) ≡ make_bid_by_member) × IsPlain (understood (made_with 7) make_bid_by_member)
unfolding understood everything
bid_by_member_is = (refl, refl, (refl, refl))

question_by_asker_is : (command_of (understood (made_with 8) make_question_by_asker) ≡ CreateIndex 7) × (statement_of make_question_by_asker (understood (made_with 8) make_question_by_asker) ≡ make_question_by_asker) × IsPlain (understood (made_with 8) make_question_by_asker)
unfolding understood everything
question_by_asker_is = (refl, refl, (refl, refl))

feedback_by_receiver_is : (command_of (understood (made_with 9) make_feedback_by_receiver) ≡ CreateIndex 8) × (statement_of make_feedback_by_receiver (understood (made_with 9) make_feedback_by_receiver) ≡ make_feedback_by_receiver) × IsPlain (understood (made_with 9) make_feedback_by_receiver)
unfolding understood everything
feedback_by_receiver_is = (refl, refl, (refl, refl))

watch_by_item_is : (command_of (understood (made_with 10) make_watch_by_item) ≡ CreateIndex 6) × (statement_of make_watch_by_item (understood (made_with 10) make_watch_by_item) ≡ make_watch_by_item) × IsPlain (understood (made_with 10) make_watch_by_item)
unfolding understood everything
watch_by_item_is = (refl, refl, (refl, refl))

-- ---- all of them

pub makes_later : (n : ℕ) → n < 11 → (old new : State) (count : ℕ) → IsMadeWith n old.now → Executes (later_making_at n) [] old new (Ok count) → IsMadeWith (n + 1) new.now
makes_later zero low old new count was h = table_made 0 old new make_reserve (record reserve_table { tree = 0 }) count reserve_is.0 reserve_is.1 reserve_is.2 reserve_defined refl refl was h
makes_later (suc zero) low old new count was h = table_made 1 old new make_edition (record edition_table { tree = 0 }) count edition_is.0 edition_is.1 edition_is.2 edition_defined refl refl was h
makes_later (suc (suc zero)) low old new count was h = table_made 2 old new make_later_band (record later_band_table { tree = 0 }) count later_band_is.0 later_band_is.1 later_band_is.2 later_band_defined refl refl was h
makes_later (suc (suc (suc zero))) low old new count was h = index_made 3 old new make_item_by_category 4 item_table (record item_by_category { tree = 0 }) count item_by_category_is.0 item_by_category_is.1 item_by_category_is.2 refl item_by_category_defined refl was h
makes_later (suc (suc (suc (suc zero)))) low old new count was h = index_made 4 old new make_item_by_seller 4 item_table (record item_by_seller { tree = 0 }) count item_by_seller_is.0 item_by_seller_is.1 item_by_seller_is.2 refl item_by_seller_defined refl was h
makes_later (suc (suc (suc (suc (suc zero))))) low old new count was h = index_made 5 old new make_item_by_leader 4 item_table (record item_by_leader { tree = 0 }) count item_by_leader_is.0 item_by_leader_is.1 item_by_leader_is.2 refl item_by_leader_defined refl was h
makes_later (suc (suc (suc (suc (suc (suc zero)))))) low old new count was h = index_made 6 old new make_item_by_end 4 item_table (record item_by_end { tree = 0 }) count item_by_end_is.0 item_by_end_is.1 item_by_end_is.2 refl item_by_end_defined refl was h
makes_later (suc (suc (suc (suc (suc (suc (suc zero))))))) low old new count was h = index_made 7 old new make_bid_by_member 5 bid_table (record bid_by_member { tree = 0 }) count bid_by_member_is.0 bid_by_member_is.1 bid_by_member_is.2 refl bid_by_member_defined refl was h
makes_later (suc (suc (suc (suc (suc (suc (suc (suc zero)))))))) low old new count was h = index_made 8 old new make_question_by_asker 7 question_table (record question_by_asker { tree = 0 }) count question_by_asker_is.0 question_by_asker_is.1 question_by_asker_is.2 refl question_by_asker_defined refl was h
makes_later (suc (suc (suc (suc (suc (suc (suc (suc (suc zero))))))))) low old new count was h = index_made 9 old new make_feedback_by_receiver 8 feedback_table (record feedback_by_receiver { tree = 0 }) count feedback_by_receiver_is.0 feedback_by_receiver_is.1 feedback_by_receiver_is.2 refl feedback_by_receiver_defined refl was h
makes_later (suc (suc (suc (suc (suc (suc (suc (suc (suc (suc zero)))))))))) low old new count was h = index_made 10 old new make_watch_by_item 6 watch_table (record watch_by_item { tree = 0 }) count watch_by_item_is.0 watch_by_item_is.1 watch_by_item_is.2 refl watch_by_item_defined refl was h
makes_later (suc (suc (suc (suc (suc (suc (suc (suc (suc (suc (suc n))))))))))) low old new count was h = absurd (omega (arith, low))

-- the first nine tables are those of a house
pub first_made : (db : Database) → IsMade 9 db → IsMadeWith 0 db
first_made db made = record { schema = made.schema; empty = made.empty; sound = made.sound (omega arith) }

-- ---- which step of a house's own order each is

pub table_is : (n : ℕ) → n < 3 → making_at (16 + n) ≡ later_making_at n
table_is zero low = refl
table_is (suc zero) low = refl
table_is (suc (suc zero)) low = refl
table_is (suc (suc (suc n))) low = absurd (omega (arith, low))

pub index_is : (n : ℕ) → ¬ (n < 3) → n < 10 → making_at (9 + n - 3) ≡ later_making_at n
index_is zero late low = absurd (late (omega arith))
index_is (suc zero) late low = absurd (late (omega arith))
index_is (suc (suc zero)) late low = absurd (late (omega arith))
index_is (suc (suc (suc zero))) late low = refl
index_is (suc (suc (suc (suc zero)))) late low = refl
index_is (suc (suc (suc (suc (suc zero))))) late low = refl
index_is (suc (suc (suc (suc (suc (suc zero)))))) late low = refl
index_is (suc (suc (suc (suc (suc (suc (suc zero))))))) late low = refl
index_is (suc (suc (suc (suc (suc (suc (suc (suc zero)))))))) late low = refl
index_is (suc (suc (suc (suc (suc (suc (suc (suc (suc zero))))))))) late low = refl
index_is (suc (suc (suc (suc (suc (suc (suc (suc (suc (suc n)))))))))) late low = absurd (omega (arith, low))

pub last_is : (n : ℕ) → ¬ (n < 10) → n < 11 → making_at 19 ≡ later_making_at n
last_is zero late low = absurd (late (omega arith))
last_is (suc zero) late low = absurd (late (omega arith))
last_is (suc (suc zero)) late low = absurd (late (omega arith))
last_is (suc (suc (suc zero))) late low = absurd (late (omega arith))
last_is (suc (suc (suc (suc zero)))) late low = absurd (late (omega arith))
last_is (suc (suc (suc (suc (suc zero))))) late low = absurd (late (omega arith))
last_is (suc (suc (suc (suc (suc (suc zero)))))) late low = absurd (late (omega arith))
last_is (suc (suc (suc (suc (suc (suc (suc zero))))))) late low = absurd (late (omega arith))
last_is (suc (suc (suc (suc (suc (suc (suc (suc zero)))))))) late low = absurd (late (omega arith))
last_is (suc (suc (suc (suc (suc (suc (suc (suc (suc zero))))))))) late low = absurd (late (omega arith))
last_is (suc (suc (suc (suc (suc (suc (suc (suc (suc (suc zero)))))))))) late low = refl
last_is (suc (suc (suc (suc (suc (suc (suc (suc (suc (suc (suc n))))))))))) late low = absurd (omega (arith, low))
