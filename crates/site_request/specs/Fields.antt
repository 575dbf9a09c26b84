-- The fields of a body, each by its kind, or what is wrong with it.
use Rattle.std.specs.Prelude.{◌≡◌, ℕ, zero, suc, ℤ, pos, negsuc, List, codes, Option, Some, None, Result, Ok, Err}
use Rattle.serde_json.specs.Data.{Members}
use Rattle.house_rows.specs.declared.rating.Rating.{Rating}
use Rattle.house_rows.specs.declared.rating.Rating.TheVariants as rating
use Rattle.site_bodies.specs.Fields as bodies
use Rattle.site_bodies.specs.Pairs.{pairs_at}
use Rattle.site_request.specs.declared.unread.Unread.{Unread}
use Rattle.site_request.specs.declared.unread.Unread.TheVariants as unread
use Rattle.site_request.specs.declared.unread.Wrong.{Wrong}
use Rattle.site_request.specs.declared.unread.Wrong.TheVariants as wrong
use Rattle.site_request.specs.declared.field.Field.{Field}
use Rattle.site_request.specs.declared.field.Field.TheVariants as field

-- the key of a field
abbrev pub name_of : Field → List ℕ
name_of field.Name = codes "name"
name_of field.Category = codes "category"
name_of field.Lot = codes "lot"
name_of field.Title = codes "title"
name_of field.Text = codes "text"
name_of field.Start = codes "start"
name_of field.BuyNow = codes "buy_now"
name_of field.End = codes "end"
name_of field.Reserve = codes "reserve"
name_of field.Maximum = codes "maximum"
name_of field.Rating = codes "rating"
name_of field.Bands = codes "bands"

-- what is read after what is right
infixl 10 ◌>>=◌
abbrev pub ◌>>=◌ : {A B E : Type 0} → Result A E → (A → Result B E) → Result B E
(Ok x) >>= f = f x
(Err e) >>= f = Err e

abbrev pub or_wrong : {A : Type 0} → Field → Option A → Result A Wrong
or_wrong f None = Err (wrong.Field f)
or_wrong f (Some x) = Ok x

-- a number
unfoldable pub number_at : Field → Members → Result ℕ Wrong
number_at f ms = or_wrong f (bodies.whole_at (name_of f) ms)

-- an optional number
unfoldable pub optional_at : Field → Members → Result (Option ℕ) Wrong
optional_at f ms = or_wrong f (bodies.maybe_whole_at (name_of f) ms)

-- a number with a sign
unfoldable pub integer_at : Field → Members → Result ℤ Wrong
integer_at f ms = or_wrong f (bodies.integer_at (name_of f) ms)

-- a text
unfoldable pub text_at : Field → Members → Result (List ℕ) Wrong
text_at f ms = or_wrong f (bodies.text_at (name_of f) ms)

-- the rows of a band table, each an object with the numbers `at` and `step`
unfoldable pub rows_at : Field → Members → Result (List (ℕ × ℕ)) Wrong
rows_at f ms = or_wrong f (pairs_at (codes "at") (codes "step") (name_of f) ms)

-- the rating that a number is, if it is one
abbrev pub rating_of : ℤ → Option Rating
rating_of (pos zero) = Some rating.Zero
rating_of (pos (suc zero)) = Some rating.Plus
rating_of (pos (suc (suc n))) = None
rating_of (negsuc zero) = Some rating.Minus
rating_of (negsuc (suc n)) = None

-- what was read is what is meant, unless memory ran out
abbrev pub Gives : {A : Type 0} → Result A Unread → Result A Wrong → Type 0
Gives (Ok x) meant = meant ≡ Ok x
Gives (Err (unread.Wrong w)) meant = meant ≡ Err w
Gives (Err unread.Memory) meant = Unit {0}
