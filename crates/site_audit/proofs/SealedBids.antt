-- The bid in a place of a list, and the list in which it is raised.
use Rattle.std.proofs.Common.{◌≡◌, ◌∙◌, ◌<◌, ◌+◌, ◌++◌, ◌∷◌, [], ℕ, zero, suc, List, get_or, length, length-append, map, ap, refl, sym, arith, Option, Some, None, Result, Ok, Err}
use Rattle.std.specs.List.{AllZip}
use Rattle.house_laws.specs.Covered.{Sealed, bid_message, with_maximum}
use Rattle.house_rows.specs.declared.command.Command.TheVariants.{Register, AddCategory, List as Listed, Bid, Buy, Close, Settle, Watch, Unwatch, Ask, Answer, Feedback, SetBands}
use Rattle.house_rows.specs.declared.message.Message.{Message}
use Rattle.house_rows.specs.declared.message.Message.TheVariants.{Write, Read, Broken}
use Rattle.site_request.specs.Asked.{IsAsked, asked_of}
use Rattle.site_request.specs.declared.asked.Asked.{Asked}
use Rattle.site_audit.specs.declared.fault.AuditFault.{AuditFault}
use Rattle.site_audit.specs.declared.fault.AuditFault.TheVariants.{Memory, Store, NotNew}
use Rattle.site_audit.specs.Places.{Heard, heard_message}
use Rattle.site_audit.specs.SealedBids.{IsBidAt, IsBidFound, IsBidRead, IsRaise, sealed_in}
use Rattle.site_bids.specs.Spelt.{IsSent, bid_text}
use Rattle.site_bids.proofs.BidTexts.{text_asks}
use Rattle.wire.proofs.OneFrame.{one_frame}
use Rattle.wire.proofs.SomeFrame.{some_frame}

-- the bid of a message is the one that its message is made of
sealed_is : {F : Type 0} (m : Message F) (b : Sealed) → Some b ≡ sealed_in m → m ≡ bid_message b
sealed_is (Write t d (Bid i x)) b e = let same : b ≡ record { moment = t; member = d; item = i; maximum = x } = cc in rw same refl
sealed_is (Write t d (Register name)) b e = cc
sealed_is (Write t d (AddCategory name)) b e = cc
sealed_is (Write t d (Listed category lot title text start buy_now end reserve)) b e = cc
sealed_is (Write t d (Buy j)) b e = cc
sealed_is (Write t d Close) b e = cc
sealed_is (Write t d (Settle j)) b e = cc
sealed_is (Write t d (Watch j)) b e = cc
sealed_is (Write t d (Unwatch j)) b e = cc
sealed_is (Write t d (Ask j text)) b e = cc
sealed_is (Write t d (Answer j asker n text)) b e = cc
sealed_is (Write t d (Feedback j rating text)) b e = cc
sealed_is (Write t d (SetBands table)) b e = cc
sealed_is (Read d query) b e = cc
sealed_is (Broken caller fault) b e = cc

-- a message is of one bid
one_bid : {F : Type 0} (m : Message F) (b d : Sealed) → m ≡ bid_message b → m ≡ bid_message d → b ≡ d
one_bid m b d is also =
    let e : Some b ≡ Some d = sym (ap sealed_in is) ∙ ap sealed_in also in cc

-- a list parted at one place is parted at one element
split_same : {A : Type 0} (before later before' later' : List A) (here here' : A) → before ++ here ∷ later ≡ before' ++ here' ∷ later' → length before ≡ length before' → here ≡ here'
split_same [] later [] later' here here' e same = cc
split_same [] later (b ∷ before') later' here here' e same = absurd (omega (arith, same))
split_same (a ∷ before) later [] later' here here' e same = absurd (omega (arith, same))
split_same (a ∷ before) later (b ∷ before') later' here here' e same =
    split_same before later before' later' here here' (let f : before ++ here ∷ later ≡ before' ++ here' ∷ later' = cc in f) (omega (arith, same))

place_same : (n m place : ℕ) → place ≡ n + 1 → place ≡ m + 1 → n ≡ m
place_same n m place e f = omega (arith, e, f)

-- at one place is one bid
pub one_bid_at : (place : ℕ) (b d : Sealed) (heards : List Heard) → IsBidAt place b heards → IsBidAt place d heards → b ≡ d
one_bid_at place b d heards is also =
    let same : is.here ≡ also.here = split_same is.before is.later also.before also.later is.here also.here (sym is.parts ∙ also.parts)
    (place_same (length is.before) (length also.before) place is.placed also.placed) in
    one_bid (heard_message is.here) b d is.means (ap heard_message same ∙ also.means)

-- what was read of the element in a place
pub found_at : (place : ℕ) (before : List Heard) (here : Heard) (later heards : List Heard) (result : Result (Option Sealed) AuditFault) → heards ≡ before ++ here ∷ later
    → place ≡ length before + 1 → IsBidRead (heard_message here) result → IsBidFound place heards result
found_at place before here later heards (Ok (Some b)) parts placed read =
    record { before = before; here = here; later = later; parts = parts; placed = placed; means = sealed_is (heard_message here) b read }
found_at place before here later heards (Ok None) parts placed read = λ b at'.
    let same : here ≡ at'.here = split_same before later at'.before at'.later here at'.here (sym parts ∙ at'.parts)
    (place_same (length before) (length at'.before) place placed at'.placed) in
    let e : None ≡ Some b = read ∙ ap sealed_in (ap heard_message same ∙ at'.means) in
    cc
found_at place before here later heards (Err Memory) parts placed read = tt
found_at place before here later heards (Err Store) parts placed read = absurd read
found_at place before here later heards (Err NotNew) parts placed read = absurd read

-- after the end of the list is none, and in place 0 is none
pub none_at : (place : ℕ) (heards : List Heard) → length heards < place → IsBidFound place heards (Ok None)
none_at place heards past = λ b at'.
    let long : length heards ≡ length at'.before + length (at'.here ∷ at'.later) = ap length at'.parts ∙ length-append at'.before (at'.here ∷ at'.later) in
    let placed = at'.placed in
    omega (arith, long, placed, past)

pub none_first : (place : ℕ) (heards : List Heard) → place ≡ 0 → IsBidFound place heards (Ok None)
none_first place heards zero' = λ b at'. let placed = at'.placed in omega (arith, placed, zero')

-- lists that belong together, parted at a place
pub record Parted {A B : Type 0} (R : A → B → Type 0) (i : ℕ) (x : A) (ys : List B) : Type 0 where
  pub before : List B
  pub here : B
  pub later : List B
  pub parts : ys ≡ before ++ here ∷ later
  pub placed : length before ≡ i
  pub belongs : R x here

pub parted_at : {A B : Type 0} (R : A → B → Type 0) (xs : List A) (ys : List B) (i : ℕ) (d : A) → AllZip R xs ys → i < length xs → Parted R i (get_or xs i d) ys
parted_at R [] ys i d h lt = absurd (omega (arith, lt))
parted_at R (x ∷ xs) [] i d h lt = absurd h
parted_at R (x ∷ xs) (y ∷ ys) zero d h lt = record { before = []; here = y; later = ys; parts = refl; placed = refl; belongs = h.0 }
parted_at R (x ∷ xs) (y ∷ ys) (suc i) d h lt =
    let rest = parted_at R xs ys i d h.1 (omega (arith, lt)) in
    record { before = y ∷ rest.before; here = rest.here; later = rest.later; parts = ap (λ l. y ∷ l) rest.parts; placed = ap suc rest.placed; belongs = rest.belongs }

-- the same of lists that were read
pub parted_map : {A B C : Type 0} (f : A → B) (R : B → C → Type 0) (xs : List A) (ys : List C) (i : ℕ) (d : A) → AllZip R (map f xs) ys → i < length xs → Parted R i (f (get_or xs i d)) ys
parted_map f R [] ys i d h lt = absurd (omega (arith, lt))
parted_map f R (x ∷ xs) [] i d h lt = absurd h
parted_map f R (x ∷ xs) (y ∷ ys) zero d h lt = record { before = []; here = y; later = ys; parts = refl; placed = refl; belongs = h.0 }
parted_map f R (x ∷ xs) (y ∷ ys) (suc i) d h lt =
    let rest = parted_map f R xs ys i d h.1 (omega (arith, lt)) in
    record { before = y ∷ rest.before; here = rest.here; later = rest.later; parts = ap (λ l. y ∷ l) rest.parts; placed = ap suc rest.placed; belongs = rest.belongs }

pub one_meaning : (text : List ℕ) (m n : Asked) → IsAsked text m → IsAsked text n → m ≡ n
one_meaning text m n (f, is, e) (g, also, d) = e ∙ ap asked_of (one_frame text f g is also) ∙ sym d

some_meaning : (text : List ℕ) → (asked : Asked) × IsAsked text asked
some_meaning text = let (frame, is) = some_frame text in (asked_of frame, (frame, is, refl))

-- the text that raises a bid, as it is heard
pub raise_of : (y : ℕ) (b : Sealed) → IsSent (with_maximum y b) → (text : Heard) × IsRaise y b text
raise_of y b sent =
    let meaning = some_meaning (bid_text (with_maximum y b)) in
    let heard : Heard = record { text = bid_text (with_maximum y b); asked = meaning.0 } in (
      heard,
      record {
        spelt = record { same = refl; asks = meaning.1 };
        asks = text_asks (with_maximum y b) meaning.0 sent meaning.1;
      },
    )
