-- The items of a member's watches, by their numbers.
use Rattle.std.proofs.Common.{◌≡◌, ℕ, ◌+◌, ◌≤◌, List, [], ◌∷◌, filter, map, take, length, true, refl, ◌∙◌, ap, sym, arith, inl, inr}
use Rattle.std.specs.Prelude.{◌==◌}
use Rattle.std.specs.List.{AllByRecursion, list_any}
use Rattle.std.proofs.lemmas.Bool.Decides.{nat_tests}
use Rattle.house_rows.specs.History.{is_less}
use Rattle.house_rows.specs.Tables.{ItemRow}
use Rattle.house_rows.specs.Watches.{WatchRow, is_watch, watch_key}
use Rattle.house_rows.specs.declared.item.Item.{Item}
use Rattle.list_rows.proofs.Growing.{whole_filter}
use Rattle.house_rows.proofs.Every.{every_both}
use Rattle.house_rows.proofs.Put.{by_test}
use Rattle.list_items.specs.Indexed.{number_of}
use Rattle.list_items.specs.Rising.{HasAll, IsRising, IsRisingFrom, is_among}
use Rattle.list_rows.specs.Blocks.{IsRising as AreInOrder}

abbrev pub items_of : List WatchRow → List ℕ
items_of rows = map (λ (w : WatchRow). w.item) rows

later : (v w : WatchRow) → v.member ≡ w.member → is_less (watch_key v) (watch_key w) ≡ true → v.item + 1 ≤ w.item
later v w same less = grind (arith, nat_tests, same, less)

rise_from : (member least : ℕ) (rows : List WatchRow) → AllByRecursion (λ w. w.member ≡ member) rows → AllByRecursion (λ w. least ≤ w.item) rows → AreInOrder watch_key rows → IsRisingFrom least (items_of rows)
rise_from member least [] of_member above rising = tt
rise_from member least (w ∷ rows) of_member above rising =
    let here : w.member ≡ member = of_member.0 in (
      above.0,
      rise_from member (w.item + 1) rows of_member.1
          (every_both (λ (v : WatchRow). v.member ≡ member) (λ (v : WatchRow). is_less (watch_key w) (watch_key v) ≡ true) (λ (v : WatchRow). w.item + 1 ≤ v.item) rows
          (λ v same less. later w v (here ∙ sym same) less) of_member.1 rising.0) rising.1,
    )

all_of : (member : ℕ) (rows : List WatchRow) → AllByRecursion (λ w. w.member ≡ member) (filter (λ w. w.member == member) rows)
all_of member [] = tt
all_of member (w ∷ rows) = elim (by_test (w.member == member)) [ inl is ↦ rw is (grind (arith, nat_tests, is), all_of member rows) | inr not ↦ rw not (all_of member rows) ]

at_least : (rows : List WatchRow) → AllByRecursion (λ w. 0 ≤ w.item) rows
at_least [] = tt
at_least (w ∷ rows) = (omega arith, at_least rows)

-- the numbers of what a member watches rise
pub numbers_rise : (member : ℕ) (rows seen : List WatchRow) → seen ≡ filter (λ w. w.member == member) rows → AreInOrder watch_key seen → IsRising (items_of seen)
numbers_rise member rows seen is rising =
    rise_from member 0 seen (rw is (all_of member rows)) (at_least seen) rising

watched_among : (member n : ℕ) (rows : List WatchRow) → list_any (is_watch member n) rows ≡ true → is_among (items_of (filter (λ w. w.member == member) rows)) n ≡ true
watched_among member n [] any = any
watched_among member n (w ∷ rows) any =
    elim (by_test (w.member == member)) [
      | inl is ↦ rw is (elim (by_test (w.item == n)) [
        | inl here ↦ rw here refl
        | inr other ↦ rw other (watched_among member n rows (rw (is, other) at any))
      ])
      | inr not ↦ rw not (watched_among member n rows (rw not at any))
    ]

-- each item that a member watches has its number among them
pub numbers_have : (member : ℕ) (watches : List WatchRow) (rows : List ItemRow) → HasAll number_of (λ row. list_any (is_watch member row.item.terms.item) watches) (items_of (filter (λ w. w.member == member) watches)) rows
numbers_have member watches [] = tt
numbers_have member watches (row ∷ rows) = (λ any. watched_among member row.item.terms.item watches any, numbers_have member watches rows)

-- as many as there are items leave none out
pub shown_all : (member : ℕ) (watches : List WatchRow) (rows seen : List ItemRow) (most : ℕ) → most ≡ length seen → seen ≡ rows
    → take most (filter (λ (it : Item). list_any (is_watch member it.terms.item) watches) (map (λ (row : ItemRow). row.item) rows)) ≡ filter (λ (it : Item). list_any (is_watch member it.terms.item) watches) (map (λ (row : ItemRow). row.item) rows)
shown_all member watches rows seen most is same = whole_filter (λ (row : ItemRow). row.item) (λ (it : Item). list_any (is_watch member it.terms.item) watches) rows most (is ∙ ap length same)
