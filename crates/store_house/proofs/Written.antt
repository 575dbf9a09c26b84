-- What a registration and a new category make of the tables.
use Rattle.std.proofs.Common.{Bor, ◌≡◌, ◌+◌, ℕ, List, [], ◌∷◌, ◌++◌, length, refl, ◌∙◌, arith}
use Rattle.sqlite.specs.Effect.{Database}
use Rattle.house_rows.specs.Changed.{changed}
use Rattle.house_rows.specs.declared.change.Change.TheVariants.{AddCategory, Register}
use Rattle.house_rows.specs.declared.people.Category.{Category}
use Rattle.house_rows.specs.declared.people.Member.{Member}
use Rattle.store_rows.specs.House.{AddsCategory, AddsMember, SetsClock}
use Rattle.store_rows.specs.Rows.{members_in, categories_in}
use Rattle.store_rows.specs.Tables.{IsNumbered, Changes, house_row_in, settings_in, tables_in}
use Rattle.store_rows.proofs.Made.{Makes, houses_then_clock, makes_both, other, all_below, still_numbered, same_later_bands, same_reserves, sets_clock, version_then_clock}

pub adds_member : (number : ℕ) (name : List ℕ) (old new : Database) → IsNumbered old.trees → number ≡ length (members_in old.trees) + 1 → AddsMember number name old new
    → Makes (λ t. record t { members = t.members ++ record { member = length t.members + 1; name = name } ∷ [] }) old new
unfolding house_row_in settings_in tables_in
adds_member number name old new was next w =
    let x : Member = record { member = number; name = name } in
    let h = w.others.0 (other 0 2 refl) in
    let b = w.others.1.0 (other 1 2 refl) in
    let k = w.others.1.1.1.0 (other 4 2 refl) in
    let i = w.others.1.1.1.1.0 (other 6 2 refl) in
    let d = w.others.1.1.1.1.1.0 (other 8 2 refl) in
    let v = w.others.1.1.1.1.1.1.0 (other 10 2 refl) in
    let q = w.others.1.1.1.1.1.1.1.0 (other 12 2 refl) in
    let f = w.others.1.1.1.1.1.1.1.1.0 (other 14 2 refl) in
    let r = w.others.1.1.1.1.1.1.1.1.1.0 (other 23 2 refl) in
    let es = w.others.1.1.1.1.1.1.1.1.1.1.0 (other 24 2 refl) in
    let ls = w.others.1.1.1.1.1.1.1.1.1.1.1.0 (other 25 2 refl) in
    let rows = w.members (all_below (λ m. m.member) (members_in old.trees) x next was.members) in
    record {
      house = w.house;
      schema = w.schema;
      numbered = record {
        house = rw h was.house;
        members = rw rows (still_numbered (λ m. m.member) (members_in old.trees) x next was.members);
        categories = rw k was.categories;
        items = rw (i, r) was.items;
        reserves = rw (i, r) was.reserves;
        editions = rw es was.editions;
        later_bands = rw (es, ls) was.later_bands;
      };
      tables = rw (h, b, k, i, r, d, v, q, f, es, ls, rows, next) refl;
    }

pub adds_category : (number : ℕ) (name : List ℕ) (old new : Database) → IsNumbered old.trees → number ≡ length (categories_in old.trees) + 1 → AddsCategory number name old new
    → Makes (λ t. record t { categories = t.categories ++ record { category = length t.categories + 1; name = name } ∷ [] }) old new
unfolding house_row_in settings_in tables_in
adds_category number name old new was next w =
    let x : Category = record { category = number; name = name } in
    let h = w.others.0 (other 0 4 refl) in
    let b = w.others.1.0 (other 1 4 refl) in
    let m = w.others.1.1.0 (other 2 4 refl) in
    let i = w.others.1.1.1.1.0 (other 6 4 refl) in
    let d = w.others.1.1.1.1.1.0 (other 8 4 refl) in
    let v = w.others.1.1.1.1.1.1.0 (other 10 4 refl) in
    let q = w.others.1.1.1.1.1.1.1.0 (other 12 4 refl) in
    let f = w.others.1.1.1.1.1.1.1.1.0 (other 14 4 refl) in
    let r = w.others.1.1.1.1.1.1.1.1.1.0 (other 23 4 refl) in
    let es = w.others.1.1.1.1.1.1.1.1.1.1.0 (other 24 4 refl) in
    let ls = w.others.1.1.1.1.1.1.1.1.1.1.1.0 (other 25 4 refl) in
    let rows = w.categories (all_below (λ k. k.category) (categories_in old.trees) x next was.categories) in
    record {
      house = w.house;
      schema = w.schema;
      numbered = record {
        house = rw h was.house;
        members = rw m was.members;
        categories = rw rows (still_numbered (λ k. k.category) (categories_in old.trees) x next was.categories);
        items = rw (i, r) was.items;
        reserves = rw (i, r) was.reserves;
        editions = rw es was.editions;
        later_bands = rw (es, ls) was.later_bands;
      };
      tables = rw (h, b, m, i, r, d, v, q, f, es, ls, rows, next) refl;
    }

pub registers : (number moment : ℕ) (name : Bor (List ℕ)) (old mid new : Database) → IsNumbered old.trees → number ≡ length (members_in old.trees) + 1 → AddsMember number name.now old mid → SetsClock moment mid new
    → Changes (Register moment name) old new
unfolding changed
registers number moment name old mid new was next one two =
    let put = adds_member number name.now old mid was next one in
    let it = makes_both _ _ old mid new put (sets_clock moment mid new put.numbered two) in
    record { house = it.house; schema = it.schema; numbered = it.numbered; version = version_then_clock 2 moment old mid new (omega arith) one.others two; other_houses = houses_then_clock 2 moment old mid new (omega arith) one.others two; tables = it.tables; reserves = same_reserves 0 mid new (omega arith) two.others ∙ same_reserves 2 old mid (omega arith) one.others; later_bands = same_later_bands 0 mid new (omega arith) two.others ∙ same_later_bands 2 old mid (omega arith) one.others }

pub adds_category_named : (number moment : ℕ) (name : Bor (List ℕ)) (old mid new : Database) → IsNumbered old.trees → number ≡ length (categories_in old.trees) + 1 → AddsCategory number name.now old mid → SetsClock moment mid new
    → Changes (AddCategory moment name) old new
unfolding changed
adds_category_named number moment name old mid new was next one two =
    let put = adds_category number name.now old mid was next one in
    let it = makes_both _ _ old mid new put (sets_clock moment mid new put.numbered two) in
    record { house = it.house; schema = it.schema; numbered = it.numbered; version = version_then_clock 4 moment old mid new (omega arith) one.others two; other_houses = houses_then_clock 4 moment old mid new (omega arith) one.others two; tables = it.tables; reserves = same_reserves 0 mid new (omega arith) two.others ∙ same_reserves 4 old mid (omega arith) one.others; later_bands = same_later_bands 0 mid new (omega arith) two.others ∙ same_later_bands 4 old mid (omega arith) one.others }
