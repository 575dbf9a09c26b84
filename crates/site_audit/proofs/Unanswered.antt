-- What the houses have where two lists part at texts that were not answered.
use Rattle.std.proofs.Common.{◌≡◌, ◌∙◌, ◌+◌, ◌-◌, ◌++◌, ◌∷◌, [], ℕ, List, take, sym, ap, subst, arith}
use Rattle.std.specs.List.{AllZip}
use Rattle.house_rows.specs.declared.settings.Settings.{Settings}
use Rattle.house_rows.specs.History.{History}
use Rattle.house_rows.specs.Runs.{next}
use Rattle.house_rows.specs.Tables.{Tables}
use Rattle.settle.specs.declared.zone.Zone.{Zone}
use Rattle.site_audit.specs.AuditsFrom.{AreTwinTextsFrom, IsUnanswered, heard_history}
use Rattle.site_audit.specs.Places.{ArePaired, Have, Heard, IsHeard, heard_message}
use Rattle.site_audit.proofs.Lists.{zip_take}
use Rattle.site_audit.proofs.Runs.{BeginWith, Compared, next_heard}

-- one more place of lists that belong together
zip_more : {A B : Type 0} (R : A → B → Type 0) (xs : List A) (x : A) (ys : List B) (y : B)
    → AllZip R xs ys → R x y → AllZip R (xs ++ x ∷ []) (ys ++ y ∷ [])
zip_more R [] x [] y all here = (here, tt)
zip_more R [] x (b ∷ ys) y all here = absurd all
zip_more R (a ∷ xs) x [] y all here = absurd all
zip_more R (a ∷ xs) x (b ∷ ys) y all here = (all.0, zip_more R xs x ys y all.1 here)

-- in each place of twin runs the texts may be there
twins_paired : (settings : Settings) (c : ℕ) (h k : History) (lefts rights : List Heard)
    → AreTwinTextsFrom settings c h k lefts rights → AllZip (ArePaired c) lefts rights
twins_paired settings c h k [] [] twins = tt
twins_paired settings c h k [] (y ∷ rights) twins = absurd twins
twins_paired settings c h k (x ∷ lefts) [] twins = absurd twins
twins_paired settings c h k (x ∷ lefts) (y ∷ rights) twins = (
  twins.0,
  twins_paired settings c (next settings h (heard_message x)) (next settings k (heard_message y))
      lefts rights twins.2,
)

-- so far the keeps have the tables of the texts before the next place
reached : {K : Type 0} (content : K → Tables) (is_honest : K → Type 0) (zone : Zone) (c : ℕ)
    (first first' : K) (texts others : List (List ℕ)) (n : ℕ) (replies : List (List ℕ))
    (left right : K)
    → Compared content is_honest zone c first first' texts others n replies left right
    → is_honest left → is_honest right → (settings : Settings) (h k : History)
    → BeginWith content settings h k first first'
    → (lefts rights : List Heard) → AllZip IsHeard texts lefts → AllZip IsHeard others rights
    → Have content settings (heard_history settings h (take ((n + 1) - 1) lefts))
    (heard_history settings k (take ((n + 1) - 1) rights)) left right
reached content is_honest zone c first first' texts others n replies left right so honest honest'
    settings h k begin lefts rights are others_are =
    let one : (n + 1) - 1 ≡ n = omega arith in
    subst (λ m. Have content settings (heard_history settings h (take m lefts))
    (heard_history settings k (take m rights)) left right) (sym one)
    (so honest honest' settings h k begin (take n lefts) (take n rights)
    (zip_take IsHeard n texts lefts are) (zip_take IsHeard n others rights others_are)).have

-- so nothing was answered in a place that one list doesn't reach
pub ended : {K : Type 0} (content : K → Tables) (is_honest : K → Type 0) (zone : Zone) (c : ℕ)
    (first first' : K) (texts others : List (List ℕ)) (n : ℕ) (replies : List (List ℕ))
    (left right : K)
    → Compared content is_honest zone c first first' texts others n replies left right
    → is_honest left → is_honest right → (settings : Settings) (h k : History)
    → BeginWith content settings h k first first'
    → (lefts rights : List Heard) → AllZip IsHeard texts lefts → AllZip IsHeard others rights
    → IsUnanswered content settings c h k lefts rights (n + 1) left right
ended content is_honest zone c first first' texts others n replies left right so honest honest'
    settings h k begin lefts rights are others_are = λ unpaired.
    reached content is_honest zone c first first' texts others n replies left right so honest honest'
    settings h k begin lefts rights are others_are

-- texts that may not be there were not answered
pub unanswered : {K : Type 0} (content : K → Tables) (is_honest : K → Type 0) (zone : Zone) (c : ℕ)
    (first first' : K) (texts others : List (List ℕ)) (n : ℕ) (t o : List ℕ)
    (replies : List (List ℕ)) (left right left_new right_new : K)
    → Compared content is_honest zone c first first' texts others n replies left right
    → (is_honest left_new → is_honest left) → (is_honest right_new → is_honest right)
    → take (n + 1) texts ≡ take n texts ++ t ∷ [] → take (n + 1) others ≡ take n others ++ o ∷ []
    → ((x y : Heard) → IsHeard t x → IsHeard o y → ¬ (ArePaired c x y)
    → (left_new ≡ left) × (right_new ≡ right))
    → is_honest left_new → is_honest right_new → (settings : Settings) (h k : History)
    → BeginWith content settings h k first first'
    → (lefts rights : List Heard) → AllZip IsHeard texts lefts → AllZip IsHeard others rights
    → IsUnanswered content settings c h k lefts rights (n + 1) left_new right_new
unanswered content is_honest zone c first first' texts others n t o replies left right left_new
    right_new so was was' more more' stays honest honest' settings h k begin lefts rights are
    others_are = λ unpaired.
    let (fs, x, e, fs_are, is) = next_heard n texts t lefts are more in
    let (gs, y, d, gs_are, is') = next_heard n others o rights others_are more' in
    let run = so (was honest) (was' honest') settings h k begin fs gs fs_are gs_are in
    let same = stays x y is is' (λ paired. unpaired
    (subst (λ l. AllZip (ArePaired c) l (take (n + 1) rights)) (sym e)
    (subst (λ l. AllZip (ArePaired c) (fs ++ x ∷ []) l) (sym d)
    (zip_more (ArePaired c) fs x gs y (twins_paired settings c h k fs gs run.twins) paired)))) in
    let had = reached content is_honest zone c first first' texts others n replies left right so
    (was honest) (was' honest') settings h k begin lefts rights are others_are in
    record {
      left_has = ap content same.0 ∙ had.left_has;
      right_has = ap content same.1 ∙ had.right_has;
    }
