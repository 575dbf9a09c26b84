-- A list of texts in which one is raised.
use Rattle.std.proofs.Common.{◌≡◌, ℕ, zero, suc, ◌-◌, Bool, List, [], ◌∷◌, ◌++◌, take, drop}
use Rattle.std.specs.List.{AllByRecursion, AllZip}
use Rattle.steps.specs.Table.{IsBandTable}
use Rattle.house_laws.specs.Covered.{Sealed, raised}
use Rattle.house_laws.proofs.CoveredRuns.{covered_twins}
use Rattle.house_rows.specs.declared.settings.Settings.{Settings}
use Rattle.house_rows.specs.Tables.{Tables, tables_of}
use Rattle.settle.specs.declared.zone.Zone.{Zone}
use Rattle.site_request.specs.Asked.{IsAsked}
use Rattle.site_request.specs.declared.asked.Asked.{Asked}
use Rattle.site_replies.specs.Texts.{IsServed}
use Rattle.site.specs.Replies.{IsStep}
use Rattle.site.specs.Runs.{IsCoveredRun, IsHidden, Raises, TwinRuns, meant, replies_to}
use Rattle.site.proofs.Isolated.{isolated, run_isolated}
use Rattle.site.proofs.Turns.{Turns}

zip_take : {A B : Type 0} (R : A → B → Type 0) (n : ℕ) (xs : List A) (ys : List B) → AllZip R xs ys → AllZip R (take n xs) (take n ys)
zip_take R zero xs ys h = tt
zip_take R (suc n) [] [] h = tt
zip_take R (suc n) [] (y ∷ ys) h = absurd h
zip_take R (suc n) (x ∷ xs) [] h = absurd h
zip_take R (suc n) (x ∷ xs) (y ∷ ys) h = (h.0, zip_take R n xs ys h.1)

zip_drop : {A B : Type 0} (R : A → B → Type 0) (n : ℕ) (xs : List A) (ys : List B) → AllZip R xs ys → AllZip R (drop n xs) (drop n ys)
zip_drop R zero xs ys h = h
zip_drop R (suc n) [] [] h = tt
zip_drop R (suc n) [] (y ∷ ys) h = absurd h
zip_drop R (suc n) (x ∷ xs) [] h = absurd h
zip_drop R (suc n) (x ∷ xs) (y ∷ ys) h = zip_drop R n xs ys h.1

zip_append : {A B : Type 0} (R : A → B → Type 0) (xs more : List A) (ys others : List B) → AllZip R xs ys → AllZip R more others → AllZip R (xs ++ more) (ys ++ others)
zip_append R [] more [] others h also = also
zip_append R [] more (y ∷ ys) others h also = absurd h
zip_append R (x ∷ xs) more [] others h also = absurd h
zip_append R (x ∷ xs) more (y ∷ ys) others h also = (h.0, zip_append R xs more ys others h.1 also)

-- what the list with another text in a place asks
pub zip_raised : {A B : Type 0} (R : A → B → Type 0) (place : ℕ) (xs : List A) (ys : List B) (x : A) (y : B) → AllZip R xs ys → R x y → AllZip R (raised place x xs) (raised place y ys)
zip_raised R place xs ys x y h here =
    zip_append R (take (place - 1) xs) (x ∷ drop place xs) (take (place - 1) ys) (y ∷ drop place ys) (zip_take R (place - 1) xs ys h) (here, zip_drop R place xs ys h)

pub texts_raised : (texts : List (List ℕ)) (run : List Asked) (place : ℕ) (text : List ℕ) (other : Asked) → AllZip IsAsked texts run → IsAsked text other
    → AllZip IsAsked (raised place text texts) (raised place other run)
texts_raised texts run place text other are is = zip_raised IsAsked place texts run text other are is

pub raised_twins : (settings : Settings) (c place y : ℕ) (b : Sealed) (run : List Asked) (other : Asked) → IsBandTable settings.bands
    → IsCoveredRun settings c place y b run → Raises y b other → TwinRuns settings c run (raised place other run)
raised_twins settings c place y b run other valid covered raises = covered_twins meant settings c place y b run other valid covered raises

pub raised_replies : (settings : Settings) (zone : Zone) (c place y : ℕ) (b : Sealed) (run : List Asked) (other : Asked) → IsBandTable settings.bands
    → IsCoveredRun settings c place y b run → Raises y b other → replies_to settings zone c run ≡ replies_to settings zone c (raised place other run)
raised_replies settings zone c place y b run other valid covered raises =
    isolated settings zone c run (raised place other run) (raised_twins settings c place y b run other valid covered raises)

-- on a run that was served
pub run_hides : {K : Type 0} (content : K → Tables) (is_failed : K → Bool)
    (is_honest : K → Type 0) (may_leave : K → Tables → Type 0)
    (settings : Settings) (zone : Zone) (texts rs : List (List ℕ)) (old new : K)
    → Turns (IsStep content is_failed is_honest may_leave zone) texts rs old new → is_honest new
    → IsBandTable settings.bands → content old ≡ tables_of settings [] → AllByRecursion IsServed rs
    → (c place y : ℕ) (b : Sealed) (asked : List Asked) (text : List ℕ) (other : Asked) → AllZip IsAsked texts asked
    → IsCoveredRun settings c place y b asked → IsAsked text other → Raises y b other
    → IsHidden settings zone c place texts asked text other rs
run_hides content is_failed is_honest may_leave settings zone texts rs old new turns honest valid e served c place y b asked text other are covered is raises =
    let twins = raised_twins settings c place y b asked other valid covered raises in
    record {
      asks = texts_raised texts asked place text other are is;
      twins = twins;
      same = run_isolated content is_failed is_honest may_leave settings zone texts rs old new turns honest e served c asked (raised place other asked) are twins;
    }
