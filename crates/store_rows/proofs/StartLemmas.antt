-- What the first rows of an answer say of all of it.
use Rattle.std.proofs.Common.{◌≡◌, ℕ, zero, suc, List, [], ◌∷◌, ◌++◌, length, map, take, refl, sym, ap, subst, ◌∙◌, arith, inl, inr, ◌⊎◌, ◌<◌, ◌≤◌, Ok, Err, Result, OnOk}
use Rattle.sqlite_value.specs.Order.{Row}
use Rattle.sqlite_schema.specs.declared.command.Command.{Command}
use Rattle.sqlite_schema.specs.declared.command.Command.TheVariants.{Select}
use Rattle.sqlite_schema.specs.Program.{let_in}
use Rattle.sqlite_sql.specs.Program.{Ends}
use Rattle.sqlite_resolve.specs.declared.compiled.Compiled.{Compiled}
use Rattle.sqlite.specs.Clock.{timed}
use Rattle.sqlite.specs.Effect.{Database}
use Rattle.sqlite.specs.Listing.{understood, reads_listing, IsSourceOf}
use Rattle.sqlite.specs.State.{State, IsUnchanged, IsStatement, Shown, ShowsRows, Begins}
use Rattle.sqlite.proofs.Callers.{IsPlain, EndsIn, begins_shown, unchanged_then}
use Rattle.store_rows.specs.House.{IsHouse}
use Rattle.store_rows.specs.Statements.{AlwaysFinite, AlwaysPlain}
use Rattle.store_rows.specs.First.{HasNoWith, IsFinite, ShowsFirst}

module _ (sql : List ℕ) (params : Row) (old mid : State) (same : IsUnchanged old mid) where
  as_before : (c : Compiled) → IsStatement mid sql params c → IsStatement old sql params c
  as_before c it = record { is = subst (λ (d : Database). understood d.schema sql ≡ Ok c) same.0.now_is it.is; whole = it.whole; given = it.given; now = it.now }

  -- what is shown after nothing has changed was to be shown before
  pub shown_before : (new : State) (rows : List Row) → IsPlain (understood old.now.schema sql) → Shown sql params mid new rows → Shown sql params old new rows
  unfolding Shown as_before
  shown_before new rows plain h =
      let it = as_before h.0 h.1 in
      let none = (subst IsPlain it.is plain).0 in
      let full = timed params h.0.formats h.1.now in
      let was = subst (ShowsRows mid new sql h.0 full rows) none h.2 in (
        h.0,
        it,
        subst (ShowsRows old new sql h.0 full rows) (sym none)
            (was.0, subst (λ (d : Database). IsSourceOf (reads_listing d.schema sql) d was.0) same.0.now_is was.1, was.2, unchanged_then old mid new same was.3),
      )

  pub begins_before : (rows : List Row) → Begins sql params mid rows → Begins sql params old rows
  unfolding Begins as_before
  begins_before rows h =
      (h.0, as_before h.0 h.1, h.2, h.3, subst (λ (d : Database). IsSourceOf (reads_listing d.schema sql) d h.3) same.0.now_is h.4, h.5)

-- what was shown before nothing changed
pub shown_after : (sql : List ℕ) (params : Row) (old mid new : State) (rows : List Row) → IsPlain (understood old.now.schema sql) → IsUnchanged old new → Shown sql params old mid rows → Shown sql params old new rows
unfolding Shown
shown_after sql params old mid new rows plain same h =
    let none = (subst IsPlain h.1.is plain).0 in
    let full = timed params h.0.formats h.1.now in
    let was = subst (ShowsRows old mid sql h.0 full rows) none h.2 in
    (h.0, h.1, subst (ShowsRows old new sql h.0 full rows) (sym none) (was.0, was.1, was.2, same))

pub first_before : (most : ℕ) (sql : List ℕ) (params : Row) (old mid new : State) (rows : List Row) → IsPlain (understood old.now.schema sql) → IsUnchanged old mid → ShowsFirst most sql params mid new rows → ShowsFirst most sql params old new rows
first_before most sql params old mid new rows plain same first = record { all = first.all; shown = shown_before sql params old mid same new first.all plain first.shown; are = first.are }

pub on_ok_then : {T E P Q : Type 0} (r : Result T E) → OnOk r P → (P → Q) → OnOk r Q
on_ok_then (Ok x) h f = f h
on_ok_then (Err e) h f = h

ends_in : (command : Command) (db : Database) (params : Row) → HasNoWith command → EndsIn command db params
ends_in (Select program names) db params none = subst (λ lets. Ends db.trees params [] (map let_in lets)) (sym none) tt
ends_in _ db params none = absurd none

taken_all : {A : Type 0} (n : ℕ) (xs : List A) → length xs < n → xs ≡ take n xs
taken_all zero xs few = absurd (omega (arith, few))
taken_all (suc n) [] few = refl
taken_all (suc n) (x ∷ xs) few = ap (λ l. x ∷ l) (taken_all n xs (omega (arith, few)))

taken_front : {A : Type 0} (n : ℕ) (xs ys : List A) → length xs ≡ n → xs ≡ take n (xs ++ ys)
taken_front zero [] ys is = refl
taken_front zero (x ∷ xs) ys is = absurd (omega (arith, is))
taken_front (suc n) [] ys is = absurd (omega (arith, is))
taken_front (suc n) (x ∷ xs) ys is = ap (λ l. x ∷ l) (taken_front n xs ys (omega (arith, is)))

pub shows_first : (most : ℕ) (sql : List ℕ) (params : Row) (old new : State) (rows : List Row) → IsHouse old.now → AlwaysPlain sql → AlwaysFinite sql
    → IsUnchanged old new → Begins sql params new rows → length rows ≤ most → (length rows < most → Shown sql params old new rows) → ShowsFirst most sql params old new rows
shows_first most sql params old new rows house plain finite same begins few whole = elim (either (length rows) most few) [
  | inl less ↦ record { all = rows; shown = whole less; are = taken_all most rows less }
  | inr full ↦ (let more = begins_shown sql params old new rows (begins_before sql params old new same rows begins) same ending in
      record { all = rows ++ more.0; shown = more.1; are = taken_front most rows more.0 full })
]
  where
    either : (m n : ℕ) → m ≤ n → (m < n) ⊎ (m ≡ n)
    either m n low = elim (Rattle.house_rows.proofs.Put.by_test (Rattle.std.specs.Prelude.nat_lt m n)) [ inl less ↦ inl (grind (arith, Rattle.std.proofs.lemmas.Bool.Decides.nat_tests)) | inr not ↦ inr (grind (arith, Rattle.std.proofs.lemmas.Bool.Decides.nat_tests)) ]

    ending : (c : Compiled) (db : Database) (it : IsStatement old sql params c) → IsSourceOf (reads_listing old.now.schema sql) old.now db → EndsIn c.command db (timed params c.formats it.now)
    ending c db it source =
        let known = sym (ap (λ s. understood s sql) house.schema) ∙ it.is in
        ends_in c.command db (timed params c.formats it.now) (subst IsFinite known (finite house.is_indexed))
