-- What spells an amount, and that a text spells one amount at most.
use Rattle.std.proofs.Common.{◌≡◌, ◌≢◌, ℕ, ◌+◌, ◌-◌, ◌*◌, ◌/◌, ◌%◌, ◌^◌, ◌<◌, ◌≤◌, List, [], ◌∷◌, ◌++◌, length, get_or, refl, sym, ap, subst, ◌∙◌, arith, inl, inr, ◌⊎◌, append_assoc, length-append, take, drop, Result, Ok, Option, Some, None, min, IfSome}
use Rattle.std.specs.Prelude.{codes, decimal, IsErrOf, ◌↔◌}
use Rattle.std.specs.Str.Parse.{IsNumeral, digits_value}
use Rattle.std.specs.Option.{IsSome, ok_or}
use Rattle.std.proofs.lemmas.Bool.{cases_lt, false≢true}
use Rattle.std.proofs.lemmas.Int.Digits.{digits_value-lt}
use Rattle.std.proofs.lemmas.List.{get_or_at, take-append-drop}
use Rattle.cents.specs.declared.digits.TheConstants.{PLENTY}
use Rattle.std.proofs.lemmas.Fmt.{decimal_is_IsNumeral}
use Rattle.cents.specs.Spelling.{IsSpelling, amount_text, two_digits}
use Rattle.cents.specs.declared.amount.TheConstants.{LIMIT}
use Rattle.cents.specs.declared.fault.CentsFault.{CentsFault}
use Rattle.cents.specs.declared.fault.CentsFault.TheVariants.{Form, TooLarge}
use Rattle.cents.proofs.DigitLemmas.{not_digit, two_digits_numeral}

-- two texts with ends of one length are equal only part by part
same_parts : (v w x y : List ℕ) → length x ≡ length y → v ++ x ≡ w ++ y → (v ≡ w) × (x ≡ y)
same_parts [] [] x y size e = (refl, e)
same_parts [] (b ∷ w) x y size e = absurd (omega (arith, ap length e, length-append w y))
same_parts (a ∷ v) [] x y size e = absurd (omega (arith, ap length e, length-append v x))
same_parts (a ∷ v) (b ∷ w) x y size e =
    let rest = same_parts v w x y size (cc) in
    let front : v ≡ w = rest.0 in
    (cc, rest.1)

-- what the text spells, it spells with these digits for the whole coins and these for the cents
pub record AreParts (text whole cents : List ℕ) : Type 0 where
  pub spelled : IsNumeral 10 whole → IsNumeral 10 cents → IsSpelling text (100 * digits_value 10 whole + digits_value 10 cents)
  pub only : (n : ℕ) → IsSpelling text n → IsNumeral 10 whole × IsNumeral 10 cents × (n ≡ 100 * digits_value 10 whole + digits_value 10 cents)

-- a point is no digit
no_point : (text whole cents : List ℕ) → text ≡ whole ++ 46 ∷ cents → ¬ (IsNumeral 10 text)
no_point text whole cents parts digits =
    let at_point : get_or text (length whole) 0 ≡ 46 = rw parts (get_or_at whole 46 cents 0 (length whole) refl) in
    let within : length whole < length text = omega (arith, ap length parts, length-append whole (46 ∷ cents)) in
    not_digit text (length whole) within (rw at_point refl) digits

-- the point alone, before the two digits
point_first : (text whole cents : List ℕ) → text ≡ whole ++ codes "." ++ cents → text ≡ whole ++ 46 ∷ cents
point_first text whole cents parts = parts ∙ append_assoc whole (46 ∷ []) cents

-- the ends of a text, cut before its last two bytes
cut_parts : (text front cents : List ℕ) → front ≡ take (length text - 2) text → cents ≡ drop (length text - 2) text → text ≡ front ++ cents
cut_parts text front cents f c = sym (rw (f, c) (take-append-drop (length text - 2) text))

-- where the part before them ends in a point
pub point_found : (text front cents whole : List ℕ) → front ≡ take (length text - 2) text → cents ≡ drop (length text - 2) text → length front + 2 ≡ length text
    → front ≡ whole ++ 46 ∷ [] → (text ≡ whole ++ 46 ∷ cents) × (length cents ≡ 2)
point_found text front cents whole f c size point =
    let whole_text = cut_parts text front cents f c in
    (whole_text ∙ ap (λ (t : List ℕ). t ++ cents) point ∙ append_assoc whole (46 ∷ []) cents, omega (arith, ap length whole_text, length-append front cents))

-- and where it does not
pub point_missing : (text front cents : List ℕ) → front ≡ take (length text - 2) text → cents ≡ drop (length text - 2) text → length front + 2 ≡ length text
    → ((f : List ℕ) → front ≢ f ++ 46 ∷ []) → (w e : List ℕ) → length e ≡ 2 → text ≢ w ++ 46 ∷ e
point_missing text front cents f c size none w e two is =
    let whole_text = cut_parts text front cents f c in
    let cents_two : length cents ≡ 2 = omega (arith, ap length whole_text, length-append front cents) in
    none w (same_parts front (w ++ 46 ∷ []) cents e (cents_two ∙ sym two) (sym whole_text ∙ is ∙ sym (append_assoc w (46 ∷ []) e))).0

-- a text with a point before its last two bytes
pub pointed_parts : (text whole cents : List ℕ) → text ≡ whole ++ 46 ∷ cents → length cents ≡ 2 → AreParts text whole cents
pointed_parts text whole cents parts two = record {
  spelled = λ w c. inr (record {
    whole = whole;
    cents = cents;
    parts = parts ∙ sym (append_assoc whole (46 ∷ []) cents);
    whole_digits = w;
    cents_digits = c;
    two = two;
    amount = refl;
  });
  only = only;
}
  where
    only : (n : ℕ) → IsSpelling text n → IsNumeral 10 whole × IsNumeral 10 cents × (n ≡ 100 * digits_value 10 whole + digits_value 10 cents)
    only n (inl s) = absurd (no_point text whole cents parts s.digits)
    only n (inr s) =
        let size : length (46 ∷ s.cents) ≡ length (46 ∷ cents) = omega (arith, s.two, two) in
        let same = same_parts s.whole whole (46 ∷ s.cents) (46 ∷ cents) size (sym (point_first text s.whole s.cents s.parts) ∙ parts) in
        let w : s.whole ≡ whole = same.0 in
        let c : s.cents ≡ cents = cc same.1 in
        (rw w at s.whole_digits, rw c at s.cents_digits, rw (w, c) at s.amount)

plain_parts : (text : List ℕ) → ((whole cents : List ℕ) → length cents ≡ 2 → text ≢ whole ++ 46 ∷ cents) → AreParts text text (48 ∷ 48 ∷ [])
plain_parts text none = record {
  spelled = λ w c. inl (record { digits = w; amount = omega arith });
  only = only;
}
  where
    only : (n : ℕ) → IsSpelling text n → IsNumeral 10 text × IsNumeral 10 (48 ∷ 48 ∷ []) × (n ≡ 100 * digits_value 10 text + digits_value 10 (48 ∷ 48 ∷ []))
    only n (inl s) = (s.digits, (omega arith, (omega arith, (omega arith, tt))), omega (arith, s.amount))
    only n (inr s) = absurd (none s.whole s.cents s.two (point_first text s.whole s.cents s.parts))

-- a text with no such point
pub no_point_parts : (text whole : List ℕ) → whole ≡ text → ((w cents : List ℕ) → length cents ≡ 2 → whole ≢ w ++ 46 ∷ cents) → AreParts text whole (48 ∷ 48 ∷ [])
no_point_parts text whole is none = subst (λ (w : List ℕ). AreParts text w (48 ∷ 48 ∷ [])) (sym is) (plain_parts text (rw is at none))

-- a text spells one amount at most
pub one_spelling : (text : List ℕ) (m n : ℕ) → IsSpelling text m → IsSpelling text n → m ≡ n
one_spelling text m n (inl s) (inl t) = s.amount ∙ sym t.amount
one_spelling text m n (inr s) t =
    let parts = pointed_parts text s.whole s.cents (point_first text s.whole s.cents s.parts) s.two in
    (parts.only m (inr s)).2 ∙ sym (parts.only n t).2
one_spelling text m n (inl s) (inr t) =
    let parts = pointed_parts text t.whole t.cents (point_first text t.whole t.cents t.parts) t.two in
    (parts.only m (inl s)).2 ∙ sym (parts.only n (inr t)).2

-- the text that shows an amount spells it
pub shown_spells : (n : ℕ) → n < 2 ^ 64 → IsSpelling (amount_text n) n
shown_spells n small =
    let whole = decimal_is_IsNumeral (n / 100) (omega arith) in
    let cents = two_digits_numeral (n % 100) (omega arith) in
    inr (record {
      whole = decimal (n / 100);
      cents = two_digits (n % 100);
      parts = refl;
      whole_digits = whole.0;
      cents_digits = cents.0;
      two = refl;
      amount = omega (arith, whole.1, cents.1);
    })

-- from the parts of a text to the text: it is read as an amount
pub parts_ok : (text whole cents : List ℕ) (r : Result ℕ CentsFault) → AreParts text whole cents
    → ((n : ℕ) → (r ≡ Ok n) ↔ (IsNumeral 10 whole × IsNumeral 10 cents × n ≡ 100 * digits_value 10 whole + digits_value 10 cents × n ≤ LIMIT))
    → (n : ℕ) → (r ≡ Ok n) ↔ (IsSpelling text n × n ≤ LIMIT)
parts_ok text whole cents r parts ok n = (
  (λ e. let h = (ok n).0 e in (subst (IsSpelling text) (sym h.2) (parts.spelled h.0 h.1), h.3)),
  (λ s. let h = parts.only n s.0 in (ok n).1 (h.0, h.1, h.2, s.1)),
)

-- it has not the form
pub parts_form : (text whole cents : List ℕ) (r : Result ℕ CentsFault) → AreParts text whole cents → text ≢ []
    → IsErrOf r Form ↔ ¬ (IsNumeral 10 whole × IsNumeral 10 cents)
    → IsErrOf r Form ↔ ((text ≢ []) × ((n : ℕ) → ¬ (IsSpelling text n)))
parts_form text whole cents r parts some form = (
  (λ e. (some, λ n s. let h = parts.only n s in form.0 e (h.0, h.1))),
  (λ s. form.1 (λ h. s.1 _ (parts.spelled h.0 h.1))),
)

-- it has the form, and the amount is over the limit
pub parts_too_large : (text whole cents : List ℕ) (r : Result ℕ CentsFault) → AreParts text whole cents
    → IsErrOf r TooLarge ↔ (IsNumeral 10 whole × IsNumeral 10 cents × LIMIT < 100 * digits_value 10 whole + digits_value 10 cents)
    → IsErrOf r TooLarge ↔ ((n : ℕ) × IsSpelling text n × LIMIT < n)
parts_too_large text whole cents r parts large = (
  (λ e. let h = large.0 e in (100 * digits_value 10 whole + digits_value 10 cents, parts.spelled h.0 h.1, h.2)),
  (λ s. let h = parts.only s.0 s.1 in let same = h.2 in let over : LIMIT < s.0 = s.2 in large.1 (h.0, h.1, omega (arith, same, over))),
)

-- counts that stop at plenty make the amount that is spelled, or one over the limit as it is
counted : (v m c k : ℕ) → m ≡ min v PLENTY → k ≡ min c PLENTY → c < 100 → (100 * m + k ≡ 100 * v + c) ⊎ ((LIMIT < 100 * m + k) × (LIMIT < 100 * v + c))
counted v m c k whole cents small = elim (cases_lt v PLENTY) [ inl few ↦ inl (omega arith) | inr plenty ↦ inr (omega arith, omega arith) ]

-- what becomes of an amount that was made
pub record IsMade (r : Result ℕ CentsFault) (real : ℕ) : Type 0 where
  pub ok : (n : ℕ) → (r ≡ Ok n) ↔ ((n ≡ real) × (n ≤ LIMIT))
  pub too_large : IsErrOf r TooLarge ↔ (LIMIT < real)

-- an amount or none, from a sum that is the real one or over the limit as it is
made : (o : Option ℕ) (r : Result ℕ CentsFault) (sum real : ℕ) → (IsSome o ↔ (sum ≤ LIMIT)) → IfSome o (λ c. c ≡ sum) → r ≡ ok_or o TooLarge
    → (sum ≡ real) ⊎ ((LIMIT < sum) × (LIMIT < real)) → IsMade r real
made None r sum real within value is (inl same) =
    let over : LIMIT < real = elim (cases_lt LIMIT sum) [ inl over ↦ omega arith | inr under ↦ absurd (false≢true (within.1 under)) ] in
    record { ok = λ n. ((λ e. cc), (λ h. let n_is : n ≡ real = h.0 in let small : n ≤ LIMIT = h.1 in absurd (omega arith))); too_large = ((λ _. over), (λ _. is)) }
made None r sum real within value is (inr over) =
    record { ok = λ n. ((λ e. cc), (λ h. let n_is : n ≡ real = h.0 in let small : n ≤ LIMIT = h.1 in absurd (omega (arith, over.1)))); too_large = ((λ _. over.1), (λ _. is)) }
made (Some x) r sum real within value is (inl same) =
    let small : sum ≤ LIMIT = within.0 refl in
    record {
      ok = λ n. ((λ e. let n_is : n ≡ x = cc in (n_is ∙ value ∙ same, omega arith)), (λ h. let n_is : n ≡ x = h.0 ∙ sym same ∙ sym value in is ∙ ap (λ (k : ℕ). Ok k) (sym n_is)));
      too_large = ((λ e. cc), (λ h. absurd (omega (arith, h))));
    }
made (Some x) r sum real within value is (inr over) = absurd (let small : sum ≤ LIMIT = within.0 refl in omega (arith, over.0))

-- whole coins and cents whose digits were counted
pub amount_made : (whole cents : List ℕ) (m k : ℕ) (o : Option ℕ) (r : Result ℕ CentsFault) → length cents ≡ 2 → IsNumeral 10 cents
    → m ≡ min (digits_value 10 whole) PLENTY → k ≡ min (digits_value 10 cents) PLENTY
    → (IsSome o ↔ (100 * m + k ≤ LIMIT)) → IfSome o (λ c. c ≡ 100 * m + k) → r ≡ ok_or o TooLarge
    → IsMade r (100 * digits_value 10 whole + digits_value 10 cents)
amount_made whole cents m k o r two numeral whole_is cents_is within value is =
    let small : digits_value 10 cents < 10 ^ 2 = rw two at (digits_value-lt 10 cents numeral.1) in
    made o r (100 * m + k) (100 * digits_value 10 whole + digits_value 10 cents) within value is
    (counted (digits_value 10 whole) m (digits_value 10 cents) k whole_is cents_is (omega (arith, small)))

-- the amount of two numerals that were counted
pub amount_ok : (whole cents : List ℕ) (r : Result ℕ CentsFault) → IsNumeral 10 whole → IsNumeral 10 cents → IsMade r (100 * digits_value 10 whole + digits_value 10 cents)
    → (n : ℕ) → (r ≡ Ok n) ↔ (IsNumeral 10 whole × IsNumeral 10 cents × n ≡ 100 * digits_value 10 whole + digits_value 10 cents × n ≤ LIMIT)
amount_ok whole cents r w c made n = ((λ e. let h = (made.ok n).0 e in (w, c, h.0, h.1)), (λ h. (made.ok n).1 (h.2, h.3)))

-- and where it is over the limit
pub amount_too_large : (whole cents : List ℕ) (r : Result ℕ CentsFault) → IsNumeral 10 whole → IsNumeral 10 cents → IsMade r (100 * digits_value 10 whole + digits_value 10 cents)
    → IsErrOf r TooLarge ↔ (IsNumeral 10 whole × IsNumeral 10 cents × LIMIT < 100 * digits_value 10 whole + digits_value 10 cents)
amount_too_large whole cents r w c made = ((λ e. (w, c, made.too_large.0 e)), (λ h. made.too_large.1 h.2))
