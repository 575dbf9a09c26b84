-- A keep that is being filled.
use Rattle.std.proofs.Common.{◌≡◌, ◌⊎◌, ◌∙◌, ap, sym, inl, inr, List, [], ◌∷◌, ◌++◌, Bool, true, false, refl, Result, Ok, Err}
use Rattle.std.specs.Prelude.{OnErr}
use Rattle.house_rows.specs.declared.change.Change.{Change}
use Rattle.house_rows.specs.Asks.{IsFree}
use Rattle.house_rows.specs.Changed.{changed}
use Rattle.house_rows.specs.Keeping.{AreSound}
use Rattle.house_rows.specs.Making.{ChangeRowsFit}
use Rattle.house_rows.specs.Tables.{Tables}
use Rattle.house_rows.proofs.SoundAfter.{sound_after}
use Rattle.house.specs.Filled.{AreFreeInTurn, FitInTurn, IsBegun, RowsFitInTurn, after}

-- some changes are made, whose keys were free, and the rest fits
pub record IsUnderWay {K : Type 0} (content : K → Tables) (is_failed : K → Bool) (is_honest : K → Type 0) (may_leave : K → Tables → Type 0) (old now : K) (made rest : List Change) : Type 0 where
  pub leads : is_honest now → content now ≡ after (content old) made
  pub fits : is_honest now → FitInTurn (content now) rest
  pub sound : is_honest now → AreSound (content old) → AreSound (content now)
  pub free : is_honest now → AreFreeInTurn (content old) made
  pub honest : is_honest now → is_honest old
  pub going : is_failed old ≡ false → is_failed now ≡ false
  pub stays : is_failed old ≡ true → is_failed now ≡ true
  pub crash : is_honest now → (t : Tables) → may_leave now t → may_leave old t ⊎ IsBegun (content old) (made ++ rest) t

pub after_more : (t : Tables) (made : List Change) (x : Change) → after t (made ++ x ∷ []) ≡ changed (after t made) x
after_more t [] x = refl
after_more t (y ∷ made) x = after_more (changed t y) made x

one_more : (made : List Change) (x : Change) (rest : List Change) → (made ++ x ∷ []) ++ rest ≡ made ++ x ∷ rest
one_more [] x rest = refl
one_more (y ∷ made) x rest = ap (λ l. y ∷ l) (one_more made x rest)

-- where the keys of changes were free, and that of one more is, all were
free_more : (t : Tables) (made : List Change) (x : Change) → AreFreeInTurn t made → IsFree (after t made) x → AreFreeInTurn t (made ++ x ∷ [])
free_more t [] x made_free free = (free, tt)
free_more t (y ∷ made) x made_free free = (made_free.0, free_more (changed t y) made x made_free.1 free)

-- of free keys that of the change after those made
pub free_next : (t : Tables) (made : List Change) (x : Change) (rest : List Change) → AreFreeInTurn t (made ++ x ∷ rest) → IsFree (after t made) x
free_next t [] x rest free = free.0
free_next t (y ∷ made) x rest free = free_next (changed t y) made x rest free.1

-- and of rows that fit those that it takes
pub rows_next : (t : Tables) (made : List Change) (x : Change) (rest : List Change) → RowsFitInTurn t (made ++ x ∷ rest) → ChangeRowsFit (after t made) x
rows_next t [] x rest fit = fit.0
rows_next t (y ∷ made) x rest fit = rows_next (changed t y) made x rest fit.1

-- and with one change more
pub one_made : {K : Type 0} (content : K → Tables) (is_failed : K → Bool) (is_honest : K → Type 0) (may_leave : K → Tables → Type 0) (old now new : K) (made rest : List Change) (x : Change)
    → IsUnderWay content is_failed is_honest may_leave old now made (x ∷ rest)
    → (is_honest new → content new ≡ changed (content now) x) → (is_honest new → IsFree (content now) x) → (is_honest new → is_honest now)
    → (is_failed now ≡ false → is_failed new ≡ false) → (is_failed now ≡ true → is_failed new ≡ true)
    → (is_honest new → (t : Tables) → may_leave new t → t ≡ content new)
    → IsUnderWay content is_failed is_honest may_leave old new (made ++ x ∷ []) rest
one_made content is_failed is_honest may_leave old now new made rest x way changes was_free honest going stays kept = record {
  leads = λ h. leads h;
  fits = λ h. rw (changes h) (way.fits (honest h)).1;
  sound = λ h old_sound. rw (changes h) (sound_after (content now) x (way.sound (honest h) old_sound) (way.fits (honest h)).0);
  free = λ h. free_more (content old) made x (way.free (honest h)) (rw (← way.leads (honest h)) (was_free h));
  honest = λ h. way.honest (honest h);
  going = λ e. going (way.going e);
  stays = λ e. stays (way.stays e);
  crash = λ h t may. inr (record { made = made ++ x ∷ []; rest = rest; parts = refl; leads = kept h t may ∙ leads h });
} where
  leads : is_honest new → content new ≡ after (content old) (made ++ x ∷ [])
  leads h = changes h ∙ ap (λ t. changed t x) (way.leads (honest h)) ∙ sym (after_more (content old) made x)

-- a crash in the change that was not made
pub crash_now : {K : Type 0} (content : K → Tables) (is_failed : K → Bool) (is_honest : K → Type 0) (may_leave : K → Tables → Type 0) (old now : K) (made rest : List Change) (x : Change) (t : Tables) (F G : Type 0)
    → IsUnderWay content is_failed is_honest may_leave old now made (x ∷ rest) → is_honest now
    → may_leave now t ⊎ (F × G × (t ≡ changed (content now) x)) → may_leave old t ⊎ IsBegun (content old) (made ++ x ∷ rest) t
crash_now content is_failed is_honest may_leave old now made rest x t F G way honest may = elim may [
  | inl before ↦ way.crash honest t before
  | inr then ↦ inr (record {
    made = made ++ x ∷ [];
    rest = rest;
    parts = sym (one_more made x rest);
    leads = then.2 ∙ ap (λ t. changed t x) (way.leads honest) ∙ sym (after_more (content old) made x);
  })
]

pub on_err : {A E : Type 0} (r : Result A E) (X : Type 0) → X → OnErr r X
on_err (Ok a) X x = tt
on_err (Err e) X x = x

pub not_failed : (b : Bool) → (b ≡ true → ⊥) → b ≡ false
not_failed true never = absurd (never refl)
not_failed false never = refl
