-- The day that a text spells is found by looking at every day.
use Rattle.std.proofs.Common.{◌≡◌, ◌≢◌, ℕ, zero, suc, ◌<◌, ◌≤◌, List, Bool, true, false, refl, sym, ap, ◌∙◌, arith, Some, None, bytes_eq, inl, inr}
use Rattle.std.specs.Prelude.{if◌then◌else◌, IsUtf8}
use Rattle.std.specs.Str.{is_utf8}
use Rattle.std.proofs.lemmas.Bool.{cases_Bool}
use Rattle.std.proofs.lemmas.Slice.Eq.{bytes_eq-Decides}
use Rattle.std.proofs.lemmas.Str.{IsUtf8-from_is_utf8, is_utf8-from_IsUtf8}
use Rattle.settle.specs.Calendar.{day_text}
use Rattle.site_request.specs.Days.{day_among, day_in}

-- one more day is looked at
more : (n d : ℕ) (text : List ℕ) → (d < n → day_among n text ≡ Some d) → d < suc n
    → (bytes_eq text (day_text n) ≡ true → n ≡ d) → (d ≡ n → bytes_eq text (day_text n) ≡ true)
    → (b : Bool) → bytes_eq text (day_text n) ≡ b → (if b then Some n else day_among n text) ≡ Some d
more n d text before lt only here true is = ap Some (only is)
more n d text before lt only here false is =
    let other : d ≢ n = λ e. let f : true ≡ false = sym (here e) ∙ is in cc in
    before (omega arith)

pub found : (n d : ℕ) (text : List ℕ) → d < n → text ≡ day_text d → ((e : ℕ) → e < n → text ≡ day_text e
    → e ≡ d) → day_among n text ≡ Some d
unfolding day_among
found zero d text lt is only = absurd (omega arith)
found (suc n) d text lt is only =
    more n d text (λ small. found n d text small is (λ e le. only e (omega arith))) lt
    (λ same. only n (omega arith) ((bytes_eq-Decides text (day_text n)).0 same))
    (λ e. (bytes_eq-Decides text (day_text n)).1 (is ∙ ap day_text e))
    (bytes_eq text (day_text n)) refl

none_more : (n : ℕ) (text : List ℕ) → day_among n text ≡ None → text ≢ day_text n → (b : Bool)
    → bytes_eq text (day_text n) ≡ b → (if b then Some n else day_among n text) ≡ None
none_more n text before other true is = absurd (other ((bytes_eq-Decides text (day_text n)).0 is))
none_more n text before other false is = before

pub none_found : (n : ℕ) (text : List ℕ) → ((d : ℕ) → d < n → text ≢ day_text d) → day_among n text ≡ None
unfolding day_among
none_found zero text others = refl
none_found (suc n) text others =
    none_more n text (none_found n text (λ d lt. others d (omega arith))) (others n (omega arith))
    (bytes_eq text (day_text n)) refl

-- ---- as a text is read

pub day_is : (text spelt : List ℕ) (d : ℕ) → spelt ≡ text → IsUtf8 text → d ≤ 47846 → spelt ≡ day_text d
    → ((e : ℕ) → e ≤ 47846 → spelt ≡ day_text e → e ≡ d) → Some d ≡ day_in text
unfolding day_in
day_is text spelt d same utf8 le is only =
    let test : is_utf8 text ≡ true = is_utf8-from_IsUtf8 text utf8 in
    rw test (sym (found 47847 d text (omega arith) (sym same ∙ is) (λ e lt at'. only e (omega arith) (same ∙ at'))))

pub no_day : (text spelt : List ℕ) → spelt ≡ text → IsUtf8 text → ((d : ℕ) → d ≤ 47846 → spelt ≢ day_text d)
    → None ≡ day_in text
unfolding day_in
no_day text spelt same utf8 others =
    let test : is_utf8 text ≡ true = is_utf8-from_IsUtf8 text utf8 in
    rw test (sym (none_found 47847 text (λ d lt at'. others d (omega arith) (same ∙ at'))))

pub no_text : (text : List ℕ) → ¬ IsUtf8 text → None ≡ day_in text
unfolding day_in
no_text text not = elim (cases_Bool (is_utf8 text)) [
  | inl good ↦ absurd (not (IsUtf8-from_is_utf8 text good))
  | inr bad ↦ rw bad refl
]
