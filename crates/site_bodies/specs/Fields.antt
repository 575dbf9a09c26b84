-- The fields of an object by their names. None: the field is absent or of another kind.
use Rattle.std.specs.Prelude.{ℕ, ℤ, List, Option}
use Rattle.serde_json.specs.Data.{Members}
use Rattle.serde_json.specs.Find.{get_member}
use Rattle.site_bodies.specs.Values.{integer_in, maybe_whole_in, text_in, whole_in}

unfoldable pub whole_at : List ℕ → Members → Option ℕ
whole_at name ms = whole_in (get_member name ms)

unfoldable pub integer_at : List ℕ → Members → Option ℤ
integer_at name ms = integer_in (get_member name ms)

unfoldable pub text_at : List ℕ → Members → Option (List ℕ)
text_at name ms = text_in (get_member name ms)

-- a number that may be absent
unfoldable pub maybe_whole_at : List ℕ → Members → Option (Option ℕ)
maybe_whole_at name ms = maybe_whole_in (get_member name ms)
