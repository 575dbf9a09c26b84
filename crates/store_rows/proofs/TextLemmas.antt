-- Texts that are UTF-8, as columns hold them.
use Rattle.std.proofs.Common.{◌≡◌, ◌≢◌, ℕ, Bool, true, false, List, [], ◌∷◌, cond, refl, sym, ap, ap₂, ◌∙◌, arith, true≢false, eqb, IsUtf8}
use Rattle.std.proofs.lemmas.Str.{IsUtf8-from_is_utf8, is_utf8-from_IsUtf8, lead_after_ascii}
use Rattle.std.specs.Str.{is_utf8}
use Rattle.sqlite_value.specs.declared.value.Value.TheVariants.{Text}
use Rattle.sqlite_keyed.proofs.RuleLemmas.{first_of_both, second_of_both}
use Rattle.house_rows.specs.Text.{same_text}
use Rattle.store_rows.specs.Rows.{no_text, text_in}

-- what was written is read back
pub text_back : (t : List ℕ) → IsUtf8 t → text_in (Text t) ≡ t
text_back t u = rw (is_utf8-from_IsUtf8 t u) refl

pub same_number : (a b : ℕ) → eqb a b ≡ true → a ≡ b
same_number a b h = grind arith

pub same_texts : (a b : List ℕ) → same_text a b ≡ true → a ≡ b
same_texts [] [] h = refl
same_texts [] (y ∷ b) h = absurd (true≢false (sym h))
same_texts (x ∷ a) [] h = absurd (true≢false (sym h))
same_texts (x ∷ a) (y ∷ b) h = ap₂ ◌∷◌ (same_number x y (first_of_both _ _ h)) (same_texts a b (second_of_both (eqb x y) _ h))

-- a byte that follows another cannot follow an ASCII one
no_text_is : is_utf8 no_text ≡ false
no_text_is = go (is_utf8 no_text) refl
  where
    go : (b : Bool) → is_utf8 no_text ≡ b → b ≡ false
    go true e = absurd (omega (arith, lead_after_ascii no_text 0 (IsUtf8-from_is_utf8 no_text e) (omega arith) (omega arith) (omega arith)))
    go false e = refl

-- the test that a text is this one, where it is no UTF-8
pub other_text : (s t : List ℕ) → IsUtf8 t → same_text s t ≡ same_text (text_in (Text s)) t
other_text s t u = go (is_utf8 s) refl
  where
    none : (x : List ℕ) → is_utf8 x ≡ false → (b : Bool) → same_text x t ≡ b → same_text x t ≡ false
    none x e true h = absurd (true≢false (sym (is_utf8-from_IsUtf8 t u) ∙ ap is_utf8 (sym (same_texts x t h)) ∙ e))
    none x e false h = h

    go : (b : Bool) → is_utf8 s ≡ b → same_text s t ≡ same_text (cond b s no_text) t
    go true e = refl
    go false e = none s e _ refl ∙ sym (none no_text no_text_is _ refl)
