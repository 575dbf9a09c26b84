-- The fields of a record by their places, the head of a lot file, and how its reader fails.
use Rattle.std.proofs.Common.{◌≡◌, ℕ, List, [], ◌∷◌, length, arith, Some, sym, ◌∙◌, refl, Option, codes, inl, inr, false}
use Rattle.csv.specs.Reading.{ExplainsRead}
use Rattle.csv.specs.Records.{field_at}
use Rattle.csv.specs.declared.error.ErrorKind.{ErrorKind}
use Rattle.csv.specs.declared.error.ErrorKind.TheVariants as kind
use Rattle.csv.specs.declared.reader.Reader.{Reader}
use Rattle.steps.specs.Reading.{HasRead, IsPlain, records_of}
use Rattle.steps.proofs.ReadLemmas.{read_first}
use Rattle.office.specs.Faults.{reading_fault}
use Rattle.office.specs.Imports.{IsReading}
use Rattle.office.specs.Lots.{head}

-- a record of seven fields is the list of them
pub seven : (fields : List (List ℕ)) (a b c d e f g : List ℕ) → length fields ≡ 7
    → field_at fields 0 ≡ Some a → field_at fields 1 ≡ Some b → field_at fields 2 ≡ Some c
    → field_at fields 3 ≡ Some d → field_at fields 4 ≡ Some e → field_at fields 5 ≡ Some f
    → field_at fields 6 ≡ Some g → fields ≡ a ∷ b ∷ c ∷ d ∷ e ∷ f ∷ g ∷ []
unfolding field_at
seven [] a b c d e f g is p q r s t u v = absurd (omega arith)
seven (_ ∷ []) a b c d e f g is p q r s t u v = absurd (omega arith)
seven (_ ∷ _ ∷ []) a b c d e f g is p q r s t u v = absurd (omega arith)
seven (_ ∷ _ ∷ _ ∷ []) a b c d e f g is p q r s t u v = absurd (omega arith)
seven (_ ∷ _ ∷ _ ∷ _ ∷ []) a b c d e f g is p q r s t u v = absurd (omega arith)
seven (_ ∷ _ ∷ _ ∷ _ ∷ _ ∷ []) a b c d e f g is p q r s t u v = absurd (omega arith)
seven (_ ∷ _ ∷ _ ∷ _ ∷ _ ∷ _ ∷ []) a b c d e f g is p q r s t u v = absurd (omega arith)
seven (x ∷ y ∷ z ∷ w ∷ o ∷ m ∷ n ∷ []) a b c d e f g is p q r s t u v = cc
seven (_ ∷ _ ∷ _ ∷ _ ∷ _ ∷ _ ∷ _ ∷ _ ∷ more) a b c d e f g is p q r s t u v = absurd (omega arith)

-- the fields of the head by their places
pub named : (fields : List (List ℕ)) → fields ≡ head
    → (field_at fields 0 ≡ Some (codes "lot")) × (field_at fields 1 ≡ Some (codes "category"))
    × (field_at fields 2 ≡ Some (codes "title")) × (field_at fields 3 ≡ Some (codes "text"))
    × (field_at fields 4 ≡ Some (codes "start")) × (field_at fields 5 ≡ Some (codes "buy_now"))
    × (field_at fields 6 ≡ Some (codes "end"))
unfolding field_at
named fields e = rw e (refl, refl, refl, refl, refl, refl, refl)

first_is : {x y : List (List ℕ)} {xs ys : List (List (List ℕ))} → x ∷ xs ≡ y ∷ ys → x ≡ y
first_is e = cc

-- where the first record is not the head, the records don't begin with it
pub other_head : {R : Type 0} (rem : R → Option (List ℕ)) (reader : Reader R)
    (fields : List (List ℕ)) (text : List ℕ) → HasRead rem reader (fields ∷ []) text
    → ¬ (fields ≡ head) → (rows : List (List (List ℕ))) → ¬ (records_of text ≡ head ∷ rows)
other_head rem reader fields text has other rows is =
    let (rest, all) = read_first rem reader (fields ∷ []) text has in
    other (first_is (sym all ∙ is))

-- a plain reader fails for the reader underneath or for memory alone
pub reading_fails : {R : Type 0} (rem : R → Option (List ℕ)) (a b : Reader R) (k : ErrorKind)
    → IsPlain a → ExplainsRead rem a b false k → IsReading (reading_fault k)
reading_fails rem a b (kind.Io e) plain why = inr refl
reading_fails rem a b kind.OutOfMemory plain why = inl refl
reading_fails rem a b (kind.Utf8 pos err) plain why = cc why.0
reading_fails rem a b (kind.UnequalLengths pos expected len) plain why = cc (why.0, plain.flexible)
reading_fails rem a b (kind.Serialize text) plain why = absurd why
reading_fails rem a b (kind.Deserialize pos err) plain why = absurd why
