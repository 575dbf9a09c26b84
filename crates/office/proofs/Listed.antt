-- The order of a lot that a row spells asks for its listing.
use Rattle.std.proofs.Common.{◌≡◌, ℕ, ◌<◌, ◌≤◌, ◌+◌, ◌*◌, ◌-◌, ◌^◌, List, [], ◌∷◌, length, Bool, true, false, refl, sym, ap, ◌∙◌, subst, arith, Option, Some, None, Ok}
use Rattle.std.specs.Prelude.{IfSome, nat_le, nat_lt, option_and_then, if◌then◌else◌, ◌&&◌}
use Rattle.std.specs.Char.{is_ascii_digit, digit_value}
use Rattle.std.specs.Int.{IsInRange}
use Rattle.std.specs.Str.{all_ascii_digits}
use Rattle.std.specs.Str.Parse.{digits_value_after}
use Rattle.std.proofs.lemmas.Bool.{and_parts, leb-true, ltb-false}
use Rattle.std.proofs.lemmas.Str.{digit_value_digit}
use Rattle.std.proofs.lemmas.Str.Parse.{digits_value_short}
use Rattle.csv.specs.Records.{field_at}
use Rattle.pages_json.specs.Words.{object_of, text_of}
use Rattle.site_request.specs.Asked.{IsAsked, asked_of}
use Rattle.site_request.specs.declared.asked.Asked.{Asked}
use Rattle.site_digits.specs.Digits.{digits_after}
use Rattle.site_request.specs.Commands.{command_of}
use Rattle.site_request.specs.declared.command_path.CommandPath.TheVariants as command_path
use Rattle.office.specs.Listings.{CanList, IsListable, IsOrderOf, listing_by, listing_of}
use Rattle.office.specs.Lots.{IsChoiceAt, Spells, digits_in}
use Rattle.office.specs.Orders.{body_of, message_of, order_text, tree_with}
use Rattle.office.specs.declared.lot.Lot.{Lot}
use Rattle.office.specs.declared.lister.Lister.{Lister}
use Rattle.wire.proofs.OneFrame.{one_frame}
use Rattle.office.proofs.OrderAsks.{order_asks}
use Rattle.office.proofs.OrderBodies.{listing_read, members_with}
use Rattle.office.proofs.ReadNumbers.{digits_own}

-- ---- what a row spells is in range

-- what was read after n is digits, and they write it
after_are : (n m : ℕ) (s : List ℕ) → digits_after n s ≡ Some m
    → (all_ascii_digits s ≡ true) × (digits_value_after 10 n s ≡ m)
after_are n m [] e = (refl, cc)
after_are n m (b ∷ bs) e = go (after_are (n * 10 + (b - 48)) m bs) (is_ascii_digit b) refl e where
  go : (digits_after (n * 10 + (b - 48)) bs ≡ Some m
      → (all_ascii_digits bs ≡ true) × (digits_value_after 10 (n * 10 + (b - 48)) bs ≡ m))
      → (digit : Bool) → is_ascii_digit b ≡ digit
      → (if digit then digits_after (n * 10 + (b - 48)) bs else None) ≡ Some m
      → (all_ascii_digits (b ∷ bs) ≡ true) × (digits_value_after 10 n (b ∷ bs) ≡ m)
  go rest false is e = cc
  go rest true is e =
      let range : IsInRange 48 57 b = grind (arith, is) in
      let value : digit_value b ≡ b - 48 = omega (arith, digit_value_digit b range) in
      (rw (is, (rest e).0) refl, rw value (rest e).1)

few_digits : (s : List ℕ) (n : ℕ) (few : Bool) → (nat_le 1 (length s) && nat_le (length s) 10) ≡ few
    → (if few then digits_after 0 s else None) ≡ Some n → n < 2 ^ 64
few_digits s n false is e = cc
few_digits s n true is e =
    let read = after_are 0 n s e in
    let few : length s ≤ 10 = leb-true (length s) 10 (and_parts (nat_le 1 (length s)) (nat_le (length s) 10) is).1 in
    let small = digits_value_short digits_own s 10 read.0 few in
    omega (arith, small, read.1)

number_fits : (field : Option (List ℕ)) (n : ℕ) → option_and_then digits_in field ≡ Some n → n < 2 ^ 64
number_fits None n e = cc
number_fits (Some s) n e = few_digits s n (nat_le 1 (length s) && nat_le (length s) 10) refl e

choice_fits : (fields : List (List ℕ)) (i : ℕ) (choice : Option ℕ) → IsChoiceAt fields i choice
    → IfSome choice (λ n. n < 2 ^ 64)
choice_fits fields i None is = tt
choice_fits fields i (Some n) is = omega (arith, is.within)

pub spelled_listable : (fields : List (List ℕ)) (lot : Lot) → Spells fields lot → IsListable lot
spelled_listable fields lot is = record {
  category = number_fits (field_at fields 1) lot.category is.category;
  code = is.code.utf8;
  title = is.title.utf8;
  text = is.text.utf8;
  start = omega (arith, is.start.within);
  buy_now = choice_fits fields 5 lot.buy_now is.buy_now;
  end = number_fits (field_at fields 6) lot.end is.end;
}

-- ---- its order

tree_is : (lot : Lot) (price : Option ℕ)
    → tree_with lot price
    ≡ object_of (members_with price lot.category lot.lot.now lot.title.now lot.text.now lot.start lot.end)
tree_is lot None = refl
tree_is lot (Some n) = refl

body_lists : (lot : Lot) → IsListable lot → command_of command_path.List (body_of lot) ≡ Ok (listing_of lot)
body_lists lot is =
    ap (λ tree. command_of command_path.List (text_of tree)) (tree_is lot lot.buy_now)
    ∙ listing_read lot.buy_now lot.category lot.lot.now lot.title.now lot.text.now lot.start lot.end
    is.buy_now is.category is.code is.title is.text is.start is.end

written : (long : Bool) (made text : List ℕ) → (if long then None else Some made) ≡ Some text
    → (long ≡ false) × (made ≡ text)
written true made text e = cc
written false made text e = (refl, cc)

pub order_lists : (by : Lister) (lot : Lot) (text : List ℕ) → CanList by → IsListable lot
    → message_of by lot ≡ Some text → IsAsked text (listing_by by lot)
order_lists by lot text can is made =
    let whole = written (nat_lt 16384 (length (body_of lot))) (order_text by lot) text made in
    let few : length (body_of lot) ≤ 16384 = ltb-false 16384 (length (body_of lot)) whole.0 in
    subst (λ t. IsAsked t (listing_by by lot)) whole.1
    (order_asks by.member by.moment (body_of lot) (listing_of lot) can.member can.moment few
    (body_lists lot is))

one_meaning : (text : List ℕ) (asked other : Asked) → IsAsked text asked → IsAsked text other → asked ≡ other
one_meaning text asked other (frame, is, same) (again, also, there) =
    same ∙ ap asked_of (one_frame text frame again is also) ∙ sym there

pub order_of : (by : Lister) (lot : Lot) (text : List ℕ) (asked : Asked) → IsListable lot
    → message_of by lot ≡ Some text → IsAsked text asked → IsOrderOf by lot asked
order_of by lot text asked is made here =
    let whole = written (nat_lt 16384 (length (body_of lot))) (order_text by lot) text made in
    record {
      by_text = subst (λ t. IsAsked t asked) (sym whole.1) here;
      listing = λ can. one_meaning text asked (listing_by by lot) here (order_lists by lot text can is made);
    }
