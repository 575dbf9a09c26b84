-- Records that were reached in a text are the first of all its records.
use Rattle.std.proofs.Common.{◌≡◌, ℕ, zero, suc, ◌-◌, ◌<◌, ◌≤◌, List, [], ◌∷◌, ◌++◌, length, refl, sym, ap, ◌∙◌, arith, inl, inr, ◌⊎◌, Bool, true, false, Option, Some, None}
use Rattle.std.specs.Prelude.{if◌then◌else◌, ◌==◌, ◌||◌}
use Rattle.std.proofs.lemmas.Bool.{false≢true}
use Rattle.csv.specs.Machine.{Read, after_end, ends_at_end, field_after, fields_after, in_field, is_end, next_record, start_field, start_record, step}
use Rattle.csv.specs.Reading.{Reached, default_config, records_from}
use Rattle.csv.specs.declared.parser.Action.{Action}
use Rattle.csv.specs.declared.parser.Action.TheVariants as act
use Rattle.csv.specs.declared.parser.Terminator.TheVariants as term
use Rattle.csv.specs.declared.parser.State.{State}
use Rattle.csv.specs.declared.parser.State.TheVariants as st

-- the states between two records, at which the end of the text ends none
abbrev pub IsBetween : State → Type 0
IsBetween s = (s ≡ st.StartRecord) ⊎ (s ≡ st.AfterCr)

-- a step that ends a record leaves such a state
abbrev Lands : State × Action → Type 0
Lands q = is_end q.1 ≡ true → IsBetween q.0

lands_if : (test : Bool) (p q : State × Action) → Lands p → Lands q → Lands (if test then p else q)
lands_if true p q f g = f
lands_if false p q f g = g

after_lands : (test : Bool) → IsBetween (if test then st.AfterCr else st.StartRecord)
after_lands true = inr refl
after_lands false = inl refl

-- a step that goes on in a record, or between two
goes : (s : State) (a : Action) → is_end a ≡ false → Lands (s, a)
goes s a none e = absurd (false≢true (sym none ∙ e))

field_lands : (c : ℕ) → Lands (in_field default_config c)
field_lands c =
    lands_if (c == 44) (st.StartField, act.EndField) (if (c == 13) || (c == 10) then (after_end term.CRLF c, act.EndRecord) else (st.InField, act.Copy))
    (goes st.StartField act.EndField refl)
    (lands_if ((c == 13) || (c == 10)) (after_end term.CRLF c, act.EndRecord) (st.InField, act.Copy) (λ e. after_lands (c == 13)) (goes st.InField act.Copy refl))

start_lands : (c : ℕ) → Lands (start_field default_config c)
start_lands c = lands_if (c == 34) (st.InQuoted, act.Skip) (in_field default_config c) (goes st.InQuoted act.Skip refl) (field_lands c)

record_lands : (c : ℕ) → Lands (start_record default_config c)
record_lands c = lands_if ((c == 13) || (c == 10)) (st.StartRecord, act.Skip) (start_field default_config c) (goes st.StartRecord act.Skip refl) (start_lands c)

step_lands : (s : State) (c : ℕ) → Lands (step default_config s c)
step_lands st.StartRecord c = record_lands c
step_lands st.StartField c = start_lands c
step_lands st.InField c = field_lands c
step_lands st.InQuoted c = lands_if (c == 34) (st.AfterQuote, act.Skip) (st.InQuoted, act.Copy) (goes st.AfterQuote act.Skip refl) (goes st.InQuoted act.Copy refl)
step_lands st.InEscape c = goes st.InQuoted act.Copy refl
step_lands st.AfterQuote c = lands_if (c == 34) (st.InQuoted, act.Copy) (in_field default_config c) (goes st.InQuoted act.Copy refl) (field_lands c)
step_lands st.InComment c = lands_if (c == 10) (st.StartRecord, act.Skip) (st.InComment, act.Skip) (goes st.StartRecord act.Skip refl) (goes st.InComment act.Skip refl)
step_lands st.AfterCr c = lands_if (c == 10) (st.StartRecord, act.Skip) (start_record default_config c) (goes st.StartRecord act.Skip refl) (record_lands c)

-- a record leaves such a state, and takes a byte where there is one
leaves : (s : State) (fields : List (List ℕ)) (field xs : List ℕ) (p : Read) → next_record default_config s fields field xs ≡ Some p
    → IsBetween p.1 × (length p.2 ≤ length xs - 1)
unfolding next_record
leaves s fields field [] p e = by (ends_at_end s) e
  where
    by : (test : Bool) → (if test then Some (fields ++ (field ∷ []), st.StartRecord, []) else None) ≡ Some p → IsBetween p.1 × (length p.2 ≤ 0 - 1)
    by true e =
        let state : st.StartRecord ≡ p.1 = cc e in
        let none : [] ≡ p.2 = cc e in
        (inl (sym state), omega (arith, ap length none))
    by false e = cc e
leaves s fields field (c ∷ rest) p e =
    by (is_end (step default_config s c).1) _ refl e (leaves (step default_config s c).0 (fields_after (step default_config s c).1 fields field) (field_after (step default_config s c).1 c field) rest p)
  where
    by : (test : Bool) (next : Option Read) → is_end (step default_config s c).1 ≡ test
        → (if test then Some (fields_after (step default_config s c).1 fields field, (step default_config s c).0, rest) else next) ≡ Some p
        → (next ≡ Some p → IsBetween p.1 × (length p.2 ≤ length rest - 1))
        → IsBetween p.1 × (length p.2 ≤ length (c ∷ rest) - 1)
    by true next is e more =
        let state : (step default_config s c).0 ≡ p.1 = cc e in
        let left : rest ≡ p.2 = cc e in
        (rw state at (step_lands s c is), omega (arith, ap length left))
    by false next is e more = let h = more e in let fewer = h.1 in (h.0, omega arith)

-- from between two records a record takes a byte or more
takes : (s : State) (xs : List ℕ) (p : Read) → IsBetween s → next_record default_config s [] [] xs ≡ Some p → IsBetween p.1 × (length p.2 < length xs)
unfolding next_record
takes s [] p (inl start) e = absurd (none s start e)
  where
    none : (s : State) → s ≡ st.StartRecord → (if ends_at_end s then Some ([] ++ ([] ∷ []), st.StartRecord, []) else None) ≡ Some p → ⊥
    none s start e = let h = rw start at e in cc h
takes s [] p (inr cr) e = absurd (none s cr e)
  where
    none : (s : State) → s ≡ st.AfterCr → (if ends_at_end s then Some ([] ++ ([] ∷ []), st.StartRecord, []) else None) ≡ Some p → ⊥
    none s cr e = let h = rw cr at e in cc h
takes s (c ∷ rest) p between e = let h = leaves s [] [] (c ∷ rest) p e in let fewer = h.1 in (h.0, omega arith)

-- what was reached, and then the records that are left
pub reached_records : (n : ℕ) (s s2 : State) (xs y : List ℕ) (rows : List (List (List ℕ))) → IsBetween s → length xs < n → Reached default_config s xs rows s2 y
    → (m : ℕ) × (length y < m) × (records_from default_config n s xs ≡ rows ++ records_from default_config m s2 y)
unfolding Reached records_from
reached_records n s s2 xs y [] between small h = (n, rw h.1 at small, rw (h.0, h.1) refl)
reached_records zero s s2 xs y (r ∷ rows) between small h = absurd (omega arith)
reached_records (suc n) s s2 xs y (r ∷ rows) between small (p, next, first, rest) =
    let left = takes s xs p between next in
    let fewer = left.1 in
    let (m, more, all) = reached_records n p.1 s2 p.2 y rows left.0 (omega arith) rest in
    (m, more, rw (next, first, all) refl)
