use Rattle.std.proofs.Common.{◌≡◌, ◌<◌, ℕ, List, length, filter, get_or, ap, sym, ◌∙◌, arith, refl, Bool, true, false, None}
use Rattle.std.specs.Prelude.{◌==◌, Vec, position}
use Rattle.std.specs.List.{position_or_len}
use Rattle.house_rows.specs.History.{Key, is_less, put_by}
use Rattle.list_rows.specs.Blocks.{IsBlocked, rows_of, same_key}
use Rattle.list_rows.proofs.Making.{makes_damaged, makes_memory, makes_ok, put_blocked, put_rows, same_blocked, same_rows, shown_block, shown_free, shown_rises, shown_taken}
use Rattle.list_rows.proofs.Placed.{place_within}
use Rattle.list_rows.proofs.blocks.put.Goals as goal

pub search-requires : goal.search-requires
search-requires g c = record { rising = shown_rises g.R.Keyed.key _ c.args.blocks.now.items c.block.result.now c.requires (rw c.deref.ensures.value at c.block.ensures) }

both : {P : Type 0} (b : Bool) → b ≡ true → b ≡ false → P
both b is not = absurd (let e : true ≡ false = sym is ∙ not in cc)

pub returns-in_default-clause-made : goal.returns-in_default-clause-made
returns-in_default-clause-made g c =
    let shown = rw (c.deref.ensures.value, c.first.ensures, c.row_key-key.ensures) at c.block.ensures in
    let found = rw c.row_key-key.ensures at c.in_default.ensures.found in
    makes_damaged (rows_of c.args.blocks.now.items) (rows_of c.args.blocks.now.items) _ _
    (λ free. both _ (shown_taken g.R.Keyed.key (g.R.Keyed.key c.args.row) c.args.blocks.now.items c.block.result.now c.in_default.field-0 c.requires shown found) free) refl

pub returns-in_default-grow-clause-made : goal.returns-in_default-grow-clause-made
returns-in_default-grow-clause-made g c =
    let shown = rw (c.deref.ensures.value, c.first.ensures, c.row_key-key.ensures) at c.block.ensures in
    let none = rw c.row_key-key.ensures at c.in-Err.ensures.absent in
    makes_memory _ _ _ _ (shown_free g.R.Keyed.key (g.R.Keyed.key c.args.row) c.args.blocks.now.items c.block.result.now c.requires shown none) c.grow.ensures.rows

-- the block is as it was when its rows were looked at
same_block : {A Z : Type 0} (key : A → Key) (first n : ℕ) (old blocks : List (Vec A Z)) (block : Vec A Z) (shown : List A) → IsBlocked key blocks → n < length blocks → block ≡ get_or blocks n block
    → n ≡ first → rows_of blocks ≡ rows_of old → shown ≡ filter (λ row. (key row).first == first) (rows_of old) → block.items ≡ shown
same_block key first n old blocks block shown are lt there number rows is = shown_block key n blocks block shown are lt there (rw (number, rows) is)

pub insert-requires : goal.insert-requires
insert-requires g c =
    let lt : c.first-number.result < length c.grow.new.blocks.items = omega (arith, c.in-Ok.ensures.there, c.grow.new.blocks.ok.0) in
    let shown = rw c.deref.ensures.value at c.block.ensures in
    let same : c.index_mut.result.now.items ≡ c.block.result.now =
    same_block g.R.Keyed.key c.first.result c.first-number.result c.args.blocks.now.items c.grow.new.blocks.items c.index_mut.result.now c.block.result.now c.grow.ensures.blocked lt c.index_mut.ensures.value
    (c.first-number.ensures ∙ sym c.first.ensures) c.grow.ensures.rows shown in
    let within = place_within (λ row. is_less c.row_key-key.result (g.R.Keyed.key row)) c.block.result.now in
    let long : length c.index_mut.result.now.items ≡ length c.block.result.now = ap length same in
    omega (arith, within, c.in-Err.ensures.place, long, c.index_mut.result.now.ok.0)

pub returns-in_default-insert-clause-made : goal.returns-in_default-insert-clause-made
returns-in_default-insert-clause-made g c =
    let lt : c.first-number.result < length c.grow.new.blocks.items = omega (arith, c.in-Ok.ensures.there, c.grow.new.blocks.ok.0) in
    let shown = rw (c.deref.ensures.value, c.first.ensures, c.row_key-key.ensures) at c.block.ensures in
    let none = rw c.row_key-key.ensures at c.in-Err.ensures.absent in
    makes_memory _ _ _ _ (shown_free g.R.Keyed.key (g.R.Keyed.key c.args.row) c.args.blocks.now.items c.block.result.now c.requires shown none)
    (same_rows c.grow.new.blocks.items c.first-number.result c.index_mut.result.now c.insert.new.self lt c.index_mut.ensures.value c.in_default-insert.ensures.items ∙ c.grow.ensures.rows)

pub returns-in_default-insert-clause-blocked : goal.returns-in_default-insert-clause-blocked
returns-in_default-insert-clause-blocked g c =
    let lt : c.first-number.result < length c.grow.new.blocks.items = omega (arith, c.in-Ok.ensures.there, c.grow.new.blocks.ok.0) in
    same_blocked g.R.Keyed.key c.grow.new.blocks.items c.first-number.result c.index_mut.result.now c.insert.new.self c.grow.ensures.blocked lt c.index_mut.ensures.value c.in_default-insert.ensures.items

pub returns-clause-made : goal.returns-clause-made
returns-clause-made g c =
    let lt : c.first-number.result < length c.grow.new.blocks.items = omega (arith, c.in-Ok.ensures.there, c.grow.new.blocks.ok.0) in
    let number : c.first-number.result ≡ (g.R.Keyed.key c.args.row).first = c.first-number.ensures ∙ ap (λ (k : Key). k.first) c.row_key-key.ensures in
    let seen = rw c.deref.ensures.value at c.block.ensures in
    let same : c.index_mut.result.now.items ≡ c.block.result.now =
    same_block g.R.Keyed.key c.first.result c.first-number.result c.args.blocks.now.items c.grow.new.blocks.items c.index_mut.result.now c.block.result.now c.grow.ensures.blocked lt c.index_mut.ensures.value
    (c.first-number.ensures ∙ sym c.first.ensures) c.grow.ensures.rows seen in
    let shown = rw (c.deref.ensures.value, c.first.ensures, c.row_key-key.ensures) at c.block.ensures in
    let none = rw c.row_key-key.ensures at c.in-Err.ensures.absent in
    let place : c.in-Err.place ≡ position_or_len (λ row. is_less (g.R.Keyed.key c.args.row) (g.R.Keyed.key row)) c.index_mut.result.now.items = rw (c.row_key-key.ensures, ← same) at c.in-Err.ensures.place in
    makes_ok _ _ _ _ (shown_free g.R.Keyed.key (g.R.Keyed.key c.args.row) c.args.blocks.now.items c.block.result.now c.requires shown none)
    (put_rows g.R.Keyed.key c.args.row c.grow.new.blocks.items c.first-number.result c.index_mut.result.now c.insert.new.self c.in-Err.place c.grow.ensures.blocked number lt c.index_mut.ensures.value place c.in-Ok-insert.ensures.items
    ∙ ap (put_by g.R.Keyed.key c.args.row) c.grow.ensures.rows)

pub returns-clause-blocked : goal.returns-clause-blocked
returns-clause-blocked g c =
    let lt : c.first-number.result < length c.grow.new.blocks.items = omega (arith, c.in-Ok.ensures.there, c.grow.new.blocks.ok.0) in
    let number : c.first-number.result ≡ (g.R.Keyed.key c.args.row).first = c.first-number.ensures ∙ ap (λ (k : Key). k.first) c.row_key-key.ensures in
    let seen = rw c.deref.ensures.value at c.block.ensures in
    let same : c.index_mut.result.now.items ≡ c.block.result.now =
    same_block g.R.Keyed.key c.first.result c.first-number.result c.args.blocks.now.items c.grow.new.blocks.items c.index_mut.result.now c.block.result.now c.grow.ensures.blocked lt c.index_mut.ensures.value
    (c.first-number.ensures ∙ sym c.first.ensures) c.grow.ensures.rows seen in
    let none : position (λ row. same_key (g.R.Keyed.key row) (g.R.Keyed.key c.args.row)) c.index_mut.result.now.items ≡ None = rw (c.row_key-key.ensures, ← same) at c.in-Err.ensures.absent in
    let place : c.in-Err.place ≡ position_or_len (λ row. is_less (g.R.Keyed.key c.args.row) (g.R.Keyed.key row)) c.index_mut.result.now.items = rw (c.row_key-key.ensures, ← same) at c.in-Err.ensures.place in
    put_blocked g.R.Keyed.key c.args.row c.grow.new.blocks.items c.first-number.result c.index_mut.result.now c.insert.new.self c.in-Err.place c.grow.ensures.blocked number lt c.index_mut.ensures.value none place c.in-Ok-insert.ensures.items
