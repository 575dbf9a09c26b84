-- What holds of an answer of the other store, of the answer as it is told.
use Rattle.std.proofs.Common.{◌≡◌, ℕ, ◌≤◌, true, false, List, [], ◌∷◌, length, Option, Result, Ok, Err, true≢false, refl, sym, ◌∙◌, subst, arith, inl, inr, IsTrue}
use Rattle.std.specs.Prelude.{◌⊎◌, IfErr, OnOk, IsOk, IsErrAnd}
use Rattle.sqlite_trees.specs.declared.error.StoreError.{StoreError}
use Rattle.sqlite_trees.specs.declared.error.StoreError.TheVariants.{OutOfMemory, Io, Corrupt, Full, Broken, Unstorable}
use Rattle.sqlite_trees.specs.View.{View, IsFailure, HasCause, Tells, is_fault}
use Rattle.tree_order.specs.Told.{told}

pub passed_ok : {T P Q : Type 0} (done result : Result T StoreError) → (P → Q) → OnOk result (IsOk done) → OnOk done P → OnOk result Q
passed_ok (Ok x) (Ok y) f h p = f p
passed_ok (Err e) (Ok y) f h p = absurd (true≢false (sym h))
passed_ok (Ok x) (Err d) f h p = tt
passed_ok (Err e) (Err d) f h p = tt

pub passed_err : {T : Type 0} (P Q : StoreError → Type 0) (numbers : List ℕ) (done result : Result T StoreError) → ((e : StoreError) → P e → Q (told numbers e))
    → IfErr result (λ error. IsErrAnd done (λ cause. error ≡ told numbers cause)) → IfErr done P → IfErr result Q
passed_err P Q numbers (Ok x) (Ok y) f h p = tt
passed_err P Q numbers (Err e) (Ok y) f h p = tt
passed_err P Q numbers (Ok x) (Err d) f h p = absurd h
passed_err P Q numbers (Err e) (Err d) f h p = subst Q (sym h) (f e p)

pub told_cases : (numbers : List ℕ) (e : StoreError) → (told numbers e ≡ OutOfMemory) ⊎ (told numbers e ≡ e)
told_cases [] e = inr refl
told_cases (n ∷ numbers) OutOfMemory = inl refl
told_cases (n ∷ numbers) Io = inr refl
told_cases (n ∷ numbers) Corrupt = inr refl
told_cases (n ∷ numbers) Full = inr refl
told_cases (n ∷ numbers) Broken = inr refl
told_cases (n ∷ numbers) Unstorable = inl refl

no_refusal : {G : Type 0} (e : StoreError) → e ≡ OutOfMemory → (e ≡ Unstorable) ⊎ (e ≡ Broken) → G
no_refusal e none why = elim why [ inl a ↦ absurd (cc) | inr b ↦ absurd (cc) ]

pub failure_told : (numbers : List ℕ) (old new : View) (e : StoreError) → IsFailure old new e → IsFailure old new (told numbers e)
failure_told numbers old new e h = record {
  kept = h.kept;
  unchanged = h.unchanged;
  refused = λ clean why. elim (told_cases numbers e) [
    | inl none ↦ no_refusal (told numbers e) none why
    | inr same ↦ h.refused clean (elim why [ inl a ↦ inl (sym same ∙ a) | inr b ↦ inr (sym same ∙ b) ])
  ];
}

no_fault : {G : Type 0} (e : StoreError) → e ≡ OutOfMemory → IsTrue (is_fault e) → G
no_fault e none fault = absurd (true≢false (sym (subst (λ x. IsTrue (is_fault x)) none fault)))

pub tells_told : (numbers : List ℕ) (blamed : Option StoreError) (e : StoreError) → Tells blamed e → Tells blamed (told numbers e)
tells_told numbers blamed e h = λ kind is fault. elim (told_cases numbers e) [
  | inl none ↦ no_fault (told numbers e) none fault
  | inr same ↦ same ∙ h kind is (subst (λ x. IsTrue (is_fault x)) same fault)
]

pub names_told : (numbers : List ℕ) (names : StoreError → Type 0) (e : StoreError) → names e → (told numbers e ≡ OutOfMemory) ⊎ names (told numbers e)
names_told numbers names e h = elim (told_cases numbers e) [ inl none ↦ inl none | inr same ↦ inr (subst names (sym same) h) ]

pub cause_told : (numbers : List ℕ) (old new : View) (fault why why' : Type 0) (e : StoreError) → (IsTrue old.is_broken → IsTrue new.is_broken) → (length numbers ≤ 0 → why → why')
    → HasCause old fault why e → HasCause new fault why' (told numbers e)
cause_told [] old new fault why why' OutOfMemory b f h = tt
cause_told [] old new fault why why' Io b f h = h
cause_told [] old new fault why why' Corrupt b f h = h
cause_told [] old new fault why why' Full b f h = h
cause_told [] old new fault why why' Broken b f h = b h
cause_told [] old new fault why why' Unstorable b f h = f (omega arith) h
cause_told (n ∷ numbers) old new fault why why' OutOfMemory b f h = tt
cause_told (n ∷ numbers) old new fault why why' Io b f h = h
cause_told (n ∷ numbers) old new fault why why' Corrupt b f h = h
cause_told (n ∷ numbers) old new fault why why' Full b f h = h
cause_told (n ∷ numbers) old new fault why why' Broken b f h = b h
cause_told (n ∷ numbers) old new fault why why' Unstorable b f h = tt
