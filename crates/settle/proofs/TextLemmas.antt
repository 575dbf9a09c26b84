-- How the texts of records are put together.
use Rattle.std.proofs.Common.{◌≡◌, ◌∙◌, sym, ap, refl, ℕ, ◌+◌, ◌<◌, List, [], ◌∷◌, ◌++◌, append_assoc, append-nil, length, get_or, take, drop, Result, Ok, Err, OnOk, false}
use Rattle.std.proofs.lemmas.List.{take_more, take-append-drop}
use Rattle.settle.specs.Text.{fields_of, record_text, records_text}
use Rattle.settle.specs.declared.columns.Form.{Form}
use Rattle.settle.specs.declared.line.Line.{Line}
use Rattle.std.specs.Result.{is_err}

-- what holds where a call goes well holds where it did
pub ok_holds : {T E : Type 0} (r : Result T E) (P : Type 0) → is_err r ≡ false → OnOk r P → P
ok_holds (Ok x) P e h = h
ok_holds (Err x) P e h = cc

-- the parts of a record in columns, as they are appended
pub padded_is : (d i r o p f n s t : List ℕ)
    → (((((((d ++ (s ++ i)) ++ s) ++ r) ++ (s ++ o)) ++ (s ++ p)) ++ (s ++ f)) ++ (s ++ n)) ++ t
    ≡ d ++ s ++ i ++ s ++ r ++ s ++ o ++ s ++ p ++ s ++ f ++ s ++ n ++ t
padded_is d i r o p f n s t = simp append_assoc

-- the parts of the totals, as a format gives them
pub totals_are : (w x y z a b c d : List ℕ)
    → w ++ (a ++ (10 ∷ (x ++ (b ++ (10 ∷ (y ++ (c ++ (10 ∷ (z ++ (d ++ 10 ∷ []))))))))))
    ≡ (w ++ a ++ 10 ∷ []) ++ (x ++ b ++ 10 ∷ []) ++ (y ++ c ++ 10 ∷ []) ++ (z ++ d ++ 10 ∷ [])
totals_are w x y z a b c d = simp append_assoc

records-append : (form : Form) (xs ys : List Line) → records_text form (xs ++ ys) ≡ records_text form xs ++ records_text form ys
unfolding records_text
records-append form [] ys = refl
records-append form (x ∷ xs) ys =
    rw (records-append form xs ys) (sym (append_assoc (record_text form (fields_of x)) (records_text form xs) (records_text form ys)))

records-one : (form : Form) (x : Line) → records_text form (x ∷ []) ≡ record_text form (fields_of x)
unfolding records_text
records-one form x = append-nil (record_text form (fields_of x))

-- one more record
pub records_more : (form : Form) (rows : List Line) (i : ℕ) (d : Line) → i < length rows
    → records_text form (take (i + 1) rows) ≡ records_text form (take i rows) ++ record_text form (fields_of (get_or rows i d))
records_more form rows i d within =
    rw (take_more rows i d within, records-append form (take i rows) (get_or rows i d ∷ []), records-one form (get_or rows i d)) refl

-- the records up to a place, and those from there on
pub records_split : (form : Form) (rows : List Line) (i : ℕ) → records_text form (take i rows) ++ records_text form (drop i rows) ≡ records_text form rows
records_split form rows i = sym (records-append form (take i rows) (drop i rows)) ∙ ap (records_text form) (take-append-drop i rows)
