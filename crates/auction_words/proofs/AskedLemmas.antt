-- What the matches of a subcommand ask for.
use Rattle.std.proofs.Common.{◌≡◌, ◌∙◌, Bool, Bor, List, None, Some, Result, Ok, Err, codes, false, refl, true}
use Rattle.std.proofs.lemmas.Slice.Eq.{bytes_eq-Decides}
use Rattle.std.specs.Result.{IfErr}
use Rattle.std.specs.Str.{bytes_eq}
use Rattle.clap.specs.Matches.{one_text}
use Rattle.clap.specs.Walk.{Row, Text, rows_of}
use Rattle.clap.specs.declared.parser.matches.Found.{Found}
use Rattle.clap.proofs.WalkLemmas.{one_text-rows}
use Rattle.auction_words.specs.Tasks.{Asks, AsksForNone, IsFlag, IsWithin}
use Rattle.auction_words.specs.declared.command_line.AuditWords.{AuditWords}
use Rattle.auction_words.specs.declared.command_line.BandsWords.{BandsWords}
use Rattle.auction_words.specs.declared.command_line.Beginning.{Beginning}
use Rattle.auction_words.specs.declared.command_line.ImportWords.{ImportWords}
use Rattle.auction_words.specs.declared.command_line.Serve.{Serve as ServeWords}
use Rattle.auction_words.specs.declared.command_line.StatementWords.{StatementWords}
use Rattle.auction_words.specs.declared.command_line.SurplusWords.{SurplusWords}
use Rattle.auction_words.specs.declared.command_line.Task.TheVariants.{Audit, Bands, Import, Serve, Statement, Surplus}

-- what `get_flag` gives
pub flag_read : (found : Found) (name : Text) (is_set : Bool) → (one_text found name ≡ None → is_set ≡ false)
    → (one_text found name ≡ Some (codes "true") → is_set ≡ true)
    → (one_text found name ≡ Some (codes "false") → is_set ≡ false) → IsFlag name (rows_of found) is_set
flag_read found name is_set none given left_out = record {
  given = λ e. given (one_text-rows found name ∙ e);
  left_out = λ e. left_out (one_text-rows found name ∙ e);
  missing = λ e. none (one_text-rows found name ∙ e);
}

-- what is said of an error whatever it is
pub on_err : {T E : Type 0} (r : Result T E) (P : Type 0) → P → IfErr r (λ _. P)
on_err (Ok x) P p = tt
on_err (Err e) P p = p

-- names that a test tells apart
differ : (a b : Text) → bytes_eq a b ≡ false → a ≡ b → ⊥
differ a b apart same = let equal = (bytes_eq-Decides a b).1 same in cc

-- a subcommand that doesn't ask for its own task asks for none
module _ (rows : List Row) where
  pub only_serve : ((file : Bor Text) (asked : ServeWords) → Asks (codes "serve") rows (Serve file asked) → IsWithin (Serve file asked) → ⊥)
      → AsksForNone (codes "serve") rows
  only_serve none (Serve file asked) asks within = none file asked asks within
  only_serve none _ asks within = absurd (differ _ _ refl asks.0)

  pub only_import : ((file : Bor Text) (asked : ImportWords) → Asks (codes "import") rows (Import file asked) → IsWithin (Import file asked) → ⊥)
      → AsksForNone (codes "import") rows
  only_import none (Import file asked) asks within = none file asked asks within
  only_import none _ asks within = absurd (differ _ _ refl asks.0)

  pub only_statement : ((file : Bor Text) (asked : StatementWords) → Asks (codes "statement") rows (Statement file asked) → IsWithin (Statement file asked) → ⊥)
      → AsksForNone (codes "statement") rows
  only_statement none (Statement file asked) asks within = none file asked asks within
  only_statement none _ asks within = absurd (differ _ _ refl asks.0)

  pub only_bands : ((file : Bor Text) (asked : BandsWords) → Asks (codes "bands") rows (Bands file asked) → IsWithin (Bands file asked) → ⊥)
      → AsksForNone (codes "bands") rows
  only_bands none (Bands file asked) asks within = none file asked asks within
  only_bands none _ asks within = absurd (differ _ _ refl asks.0)

  pub only_audit : ((begun : Beginning) (asked : AuditWords) → Asks (codes "audit") rows (Audit begun asked) → IsWithin (Audit begun asked) → ⊥)
      → AsksForNone (codes "audit") rows
  only_audit none (Audit begun asked) asks within = none begun asked asks within
  only_audit none _ asks within = absurd (differ _ _ refl asks.0)

  pub only_surplus : ((begun : Beginning) (asked : SurplusWords) → Asks (codes "surplus") rows (Surplus begun asked) → IsWithin (Surplus begun asked) → ⊥)
      → AsksForNone (codes "surplus") rows
  only_surplus none (Surplus begun asked) asks within = none begun asked asks within
  only_surplus none _ asks within = absurd (differ _ _ refl asks.0)
