use Rattle.std.specs.Prelude.{◌≡◌, true}
use Rattle.std.specs.Str.{is_utf8}
use Rattle.std.proofs.Common.{refl, inl, inr}
use Rattle.std.proofs.lemmas.Bool.{cases_Bool}
use Rattle.std.proofs.lemmas.Str.{IsUtf8-from_is_utf8, is_utf8-from_IsUtf8}
use Rattle.site_request.specs.Routes.{path_in}
use Rattle.site_request.specs.Table.{path_of}
use Rattle.site_request.proofs.routes.Routes.path_in.Goals as goal

pub returns-in-Ok-at : goal.returns-in-Ok-at
unfolding path_in path_of
returns-in-Ok-at c =
    let text = c.in-Ok.ensures.cases in
    let test : is_utf8 c.args.target.now ≡ true = is_utf8-from_IsUtf8 c.args.target.now text.1 in
    let found = rw (text.0, c.args.self.now.whole) at c.in-Ok-at.ensures.found in
    rw (test, found) refl

pub returns-in-Err : goal.returns-in-Err
unfolding path_in path_of
returns-in-Err c =
    let text = c.in-Ok.ensures.cases in
    let test : is_utf8 c.args.target.now ≡ true = is_utf8-from_IsUtf8 c.args.target.now text.1 in
    let missing = rw (text.0, c.args.self.now.whole) at c.in-Err.ensures.missing in
    rw (test, missing) refl

pub returns-in_default : goal.returns-in_default
unfolding path_in
returns-in_default c =
    let text = c.in_default.ensures.cases in
    elim (cases_Bool (is_utf8 c.args.target.now)) [
      | inl good ↦ absurd (text.0 (IsUtf8-from_is_utf8 c.args.target.now good))
      | inr bad ↦ rw bad refl
    ]
