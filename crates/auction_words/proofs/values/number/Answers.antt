use Rattle.std.proofs.Common.{◌≡◌, ◌<◌, ◌^◌, ◌∙◌, arith, ℕ, Option, Some, None, Result, refl, subst, sym}
use Rattle.std.specs.Str.Parse.{ExplainsUnsignedError, HasUnsignedDigitsIfOk, ParsesUnsigned}
use Rattle.std.specs.declared.num.ParseIntError.{ParseIntError}
use Rattle.clap.specs.Matches.{ReadsOne, found_of, one_text}
use Rattle.clap.specs.Walk.{Text, rows_of}
use Rattle.clap.specs.declared.parser.matches.Found.{Found}
use Rattle.clap.proofs.WalkLemmas.{one_text-rows}
use Rattle.auction_words.specs.Tasks.{IsNumberOf}
use Rattle.auction_words.proofs.values.number.Goals as goal
use Rattle.auction_words.proofs.values.number.Goals.{in_default-via-in-Some+then-least-number+else-number-most, in_default-via-in-Some+else-least-number, in_default-via-in_default}

-- what `u64::from_str` gives of a text
abbrev Gives : Text → Result ℕ ParseIntError → Type 0
Gives text r = ParsesUnsigned 64 10 text r × ExplainsUnsignedError 10 text r × HasUnsignedDigitsIfOk text r

-- what `get_one` gives of an argument
module _ (f : Found) (name : Text) where
  some_number : (text : Option Text) (n : ℕ) → one_text f name ≡ text → (text ≡ None → Some n ≡ None)
      → ((t : Text) → text ≡ Some t → ReadsOne Gives t (Some n)) → IsNumberOf name (rows_of f) n
  some_number None n is none value = let bad = none refl in cc
  some_number (Some t) n is none value =
      let read = value t refl in
      (t, sym (one_text-rows f name) ∙ is, read.0.0.0, sym read.0.1)

  read_number : (o : Option ℕ) (n : ℕ) → ((t : Text) → one_text f name ≡ Some t → ReadsOne Gives t o) → n < 2 ^ 64
      → IsNumberOf name (rows_of f) n → o ≡ Some n
  read_number None n value small (t, is, numeral, number) =
      let read = value t (one_text-rows f name ∙ is) in
      absurd (read.1.0 (numeral, rw number small))
  read_number (Some m) n value small (t, is, numeral, number) =
      let read = value t (one_text-rows f name ∙ is) in
      let same : m ≡ n = read.0.1 ∙ number in
      cc

pub returns-in-Some-clause-value : goal.returns-in-Some-clause-value
returns-in-Some-clause-value c =
    let is = c.in-Some.is in
    let e = c.get_one.ensures in
    some_number (found_of c.args.words.now) c.args.name.now _ c.in-Some.number refl
    (λ none. sym is ∙ e.none none) (λ t h. subst (λ (o : Option ℕ). ReadsOne Gives t o) is (e.value t h))

pub returns-in-Some-clause-within : goal.returns-in-Some-clause-within
returns-in-Some-clause-within c = (omega arith, omega arith)

pub returns-in_default-clause-missing : goal.returns-in_default-clause-missing
returns-in_default-clause-missing c = λ n given within.
    let small : n < 2 ^ 64 = omega arith in
    let is = read_number (found_of c.args.words.now) c.args.name.now _ n c.get_one.ensures.value small given in
    elim c.in_default.branch [
      | in_default-via-in-Some+then-least-number+else-number-most w ↦
          let same : w.in-Some.number ≡ n = let e = sym w.in-Some.is ∙ is in cc in
          absurd (omega arith)
      | in_default-via-in-Some+else-least-number w ↦
          let same : w.in-Some.number ≡ n = let e = sym w.in-Some.is ∙ is in cc in
          absurd (omega arith)
      | in_default-via-in_default w ↦ w.in_default.not-Some n is
    ]
