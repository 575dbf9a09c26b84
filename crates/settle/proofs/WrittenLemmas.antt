-- Texts written one after another.
use Rattle.std.proofs.Common.{◌≡◌, ℕ, ◌+◌, List, [], ◌++◌, length, take, Option, Bool, true, false, Result, Ok, Err, OnOk, inr, refl, sym, ◌∙◌, arith, length-append}
use Rattle.std.proofs.lemmas.List.{take-append-le}
use Rattle.std.proofs.Math.Seq.{take-append-add}
use Rattle.std.specs.Io.KnownBytes.{Appends}
use Rattle.std.proofs.KnownBytes.{Appends-trans, Appends-nil}
use Rattle.device.specs.Given.{AppendsBeginning}
use Rattle.settle.specs.Written.{IsWritten}
use Rattle.settle.specs.declared.fault.SettleFault.{SettleFault}
use Rattle.settle.specs.declared.fault.SettleFault.TheVariants.{Memory}

-- a beginning of a front is a beginning of the whole
front_begins : (a b : Option (List ℕ)) (s t : List ℕ) → AppendsBeginning a b s → AppendsBeginning a b (s ++ t)
front_begins a b s t (n, within, h) = (n, omega (arith, within, length-append s t), rw (take-append-le n s t within) h)

-- a front, and then a beginning of the rest
then_begins : (a b c : Option (List ℕ)) (s t : List ℕ) → Appends a b s → AppendsBeginning b c t → AppendsBeginning a c (s ++ t)
then_begins a b c s t h (n, within, k) =
    (length s + n, omega (arith, within, length-append s t), rw (take-append-add s t n) (Appends-trans a b c s (take n t) h k))

-- nothing was written, because it was out of memory
pub none_written : (a : Option (List ℕ)) (p : Bool) (text : List ℕ) → IsWritten a a p p (Err Memory) text
none_written a p text = record {
  whole = tt;
  going = tt;
  part = (0, omega arith, Appends-nil a);
  write = λ e. cc;
  memory = λ e. refl;
  only = inr refl;
  stays = λ e. e;
}

-- nothing was to be written, to a sink that goes
pub empty_written : (a : Option (List ℕ)) (p : Bool) → p ≡ false → IsWritten a a p p (Ok tt) []
empty_written a p going = record {
  whole = Appends-nil a;
  going = going;
  part = (0, omega arith, Appends-nil a);
  write = λ e. cc;
  memory = λ e. refl;
  only = tt;
  stays = λ e. e;
}

-- a front that stopped
pub stopped : (a b : Option (List ℕ)) (p q : Bool) (fault : SettleFault) (s t : List ℕ) → IsWritten a b p q (Err fault) s → IsWritten a b p q (Err fault) (s ++ t)
stopped a b p q fault s t h = record {
  whole = tt;
  going = tt;
  part = front_begins a b s t h.part;
  write = h.write;
  memory = h.memory;
  only = h.only;
  stays = h.stays;
}

not_failed : (p q : Bool) → (p ≡ true → q ≡ true) → q ≡ false → p ≡ false
not_failed true q stays going = cc (stays refl)
not_failed false q stays going = refl

both_whole : (a b c : Option (List ℕ)) (res : Result (Unit {0}) SettleFault) (s t : List ℕ) → Appends a b s → OnOk res (Appends b c t) → OnOk res (Appends a c (s ++ t))
both_whole a b c (Ok u) s t h k = Appends-trans a b c s t h k
both_whole a b c (Err e) s t h k = tt

-- a front, and then the rest
pub then_written : (a b c : Option (List ℕ)) (p q r : Bool) (res : Result (Unit {0}) SettleFault) (s t : List ℕ)
    → IsWritten a b p q (Ok tt) s → IsWritten b c q r res t → IsWritten a c p r res (s ++ t)
then_written a b c p q r res s t h k = record {
  whole = both_whole a b c res s t h.whole k.whole;
  going = k.going;
  part = then_begins a b c s t h.whole k.part;
  write = k.write;
  memory = λ e. k.memory e ∙ h.going ∙ sym (not_failed p q h.stays h.going);
  only = k.only;
  stays = λ e. k.stays (h.stays e);
}
