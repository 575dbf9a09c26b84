-- What is kept stays so, and what a change promises once it is made.
use Rattle.std.proofs.Common.{◌≡◌, ◌∙◌, ap, sym, subst, Result, Ok, Err}
use Rattle.std.specs.Prelude.{IsErrAnd, OnOk}
use Rattle.house_rows.specs.declared.change.Change.{Change}
use Rattle.house_rows.specs.declared.fault.KeepFault.{KeepFault}
use Rattle.house_rows.specs.declared.fault.KeepFault.TheVariants.{Store, Damaged}
use Rattle.house_rows.specs.Asks.{ChangeFits, IsFree}
use Rattle.house_rows.specs.Changed.{changed}
use Rattle.house_rows.specs.Keeping.{AreSound}
use Rattle.house_rows.specs.Tables.{Tables}
use Rattle.store_list.specs.Kept.{IsKept}
use Rattle.list_rows.specs.Makes.{Makes}
use Rattle.house_rows.proofs.SoundAfter.{sound_after}
use Rattle.store_list.proofs.Led.{led_after}

-- a change that fits the tables of a keep fits those that its fields are
pub fits_here : (old t : Tables) (change : Change) → t ≡ old → AreSound t → (AreSound old → ChangeFits old change) → ChangeFits t change
fits_here old t change same sound fits = subst (λ (x : Tables). ChangeFits x change) (sym same) (fits (subst AreSound same sound))

pub kept_after : (old t u : Tables) (change : Change) → t ≡ old → IsKept t → (AreSound old → ChangeFits old change) → IsFree t change → u ≡ changed t change → IsKept u
kept_after old t u change same kept fits free made = subst IsKept (sym made) (record {
  sound = sound_after t change kept.sound (fits_here old t change same kept.sound fits);
  led = led_after t change kept.sound kept.led (fits_here old t change same kept.sound fits);
})

-- what is known anyway is known of an answer
pub always_ok : {A E P : Type 0} (r : Result A E) → P → OnOk r P
always_ok (Ok a) known = known
always_ok (Err e) known = tt

no_error : (fault : KeepFault) → Ok (tt {0}) ≡ Err fault → ⊥
no_error fault e = cc

pub makes_ok : (old t u : Tables) (change : Change) → t ≡ old → IsFree t change → u ≡ changed t change → Makes (Ok tt) old u (changed old change) (IsFree old change)
makes_ok old t u change same free made = record {
  ok = made ∙ ap (λ (x : Tables). changed x change) same;
  err = tt;
  free = subst (λ (x : Tables). IsFree x change) same free;
  damaged = λ e free. no_error Damaged e;
  taken = λ not_free. absurd (not_free (subst (λ (x : Tables). IsFree x change) same free));
  store = no_error Store;
}

-- a change that was not made left its table, and so all
pub makes_not : {X : Type 0} (r : Result (Unit {0}) KeepFault) (fault : KeepFault) (x y z : X) (old t u : Tables) (change : Change) → t ≡ old → IsErrAnd r (λ e. e ≡ fault) → Makes (Err fault) x y z (IsFree t change) → u ≡ t
    → Makes r old u (changed old change) (IsFree old change)
makes_not (Ok done) fault x y z old t u change same is makes left = absurd is
makes_not (Err e) fault x y z old t u change same is makes left = subst (λ (v : Tables). Makes (Err e) v u (changed v change) (IsFree v change)) same (rw is (record {
  ok = tt;
  err = left;
  free = tt;
  damaged = makes.damaged;
  taken = makes.taken;
  store = makes.store;
}))

-- what is made of one table is made of all
pub makes_in : {X : Type 0} (f : X → Tables) (r : Result (Unit {0}) KeepFault) (x y z : X) (old : Tables) (change : Change) → f x ≡ old → f z ≡ changed (f x) change → Makes r x y z (IsFree (f x) change)
    → Makes r old (f y) (changed old change) (IsFree old change)
makes_in f (Ok done) x y z old change same made makes = makes_ok old (f x) (f y) change same makes.free (ap f makes.ok ∙ made)
makes_in f (Err e) x y z old change same made makes = subst (λ (v : Tables). Makes (Err e) v (f y) (changed v change) (IsFree v change)) same (record {
  ok = tt;
  err = ap f makes.err;
  free = tt;
  damaged = makes.damaged;
  taken = makes.taken;
  store = makes.store;
})

-- and it stays kept
pub kept_in : {X : Type 0} (f : X → Tables) (r : Result (Unit {0}) KeepFault) (x y z : X) (old : Tables) (change : Change) → f x ≡ old → IsKept (f x) → (AreSound old → ChangeFits old change) → f z ≡ changed (f x) change
    → Makes r x y z (IsFree (f x) change) → IsKept (f y)
kept_in f (Ok done) x y z old change same kept fits made makes = kept_after old (f x) (f y) change same kept fits makes.free (ap f makes.ok ∙ made)
kept_in f (Err e) x y z old change same kept fits made makes = subst IsKept (sym (ap f makes.err)) kept
