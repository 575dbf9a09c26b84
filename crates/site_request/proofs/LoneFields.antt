-- A body that is one text alone gives its command.
use Rattle.std.proofs.Common.{◌≡◌, ℕ, List, true, refl, ap, ◌∙◌, sym, Option, Some, None, Ok, codes}
use Rattle.std.specs.Prelude.{IfSome, option_map}
use Rattle.std.specs.Borrow.{Bor}
use Rattle.serde_json.specs.Data.{no_members, put, string}
use Rattle.site_bodies.specs.LoneString.{IsLoneText}
use Rattle.site_bodies.proofs.Alone.{text_lone}
use Rattle.house_rows.specs.declared.command.Command.TheVariants as command
use Rattle.site_request.specs.declared.field.Field.TheVariants as field
use Rattle.site_request.specs.declared.command_path.CommandPath.{CommandPath}
use Rattle.site_request.specs.declared.command_path.CommandPath.TheVariants as command_path
use Rattle.site_request.specs.Commands.{answer_in, category_in, command_of, fields_in, has_fields, object_at, or_no_object, question_in, register_in, text_in}
use Rattle.site_request.specs.Fields.{◌>>=◌, or_wrong, text_at}

-- the text, under that key, is what the path means with the body
abbrev pub IsText : CommandPath → List ℕ → List ℕ → Type 0
IsText order body text = option_map Ok (text_in order text) ≡ Some (command_of order body)

by_fields : (o : CommandPath) (body key text : List ℕ) → has_fields o ≡ true → IsLoneText body key text
    → command_of o body ≡ fields_in o (put key (string text) no_members)
unfolding command_of object_at
by_fields o body key text has lone = rw has (ap (λ found. or_no_object found >>= fields_in o) lone)

register_is : (text : List ℕ) → fields_in command_path.Register (put (codes "name") (string text) no_members) ≡ Ok (command.Register text)
unfolding fields_in register_in text_at
register_is text = ap (λ o. or_wrong field.Name o >>= (λ name. Ok (command.Register name))) (text_lone (codes "name") text)

category_is : (text : List ℕ) → fields_in command_path.AddCategory (put (codes "name") (string text) no_members) ≡ Ok (command.AddCategory text)
unfolding fields_in category_in text_at
category_is text = ap (λ o. or_wrong field.Name o >>= (λ name. Ok (command.AddCategory name))) (text_lone (codes "name") text)

question_is : (item : ℕ) (text : List ℕ) → fields_in (command_path.Ask item) (put (codes "text") (string text) no_members) ≡ Ok (command.Ask item text)
unfolding fields_in question_in text_at
question_is item text = ap (λ o. or_wrong field.Text o >>= (λ t. Ok (command.Ask item t))) (text_lone (codes "text") text)

answer_is : (item asker number : ℕ) (text : List ℕ)
    → fields_in (command_path.Answer item asker number) (put (codes "text") (string text) no_members) ≡ Ok (command.Answer item asker number text)
unfolding fields_in answer_in text_at
answer_is item asker number text = ap (λ o. or_wrong field.Text o >>= (λ t. Ok (command.Answer item asker number t))) (text_lone (codes "text") text)

-- ---- a text that may be there

report : (o : CommandPath) (body key : List ℕ) → has_fields o ≡ true
    → ((text : List ℕ) → Some (fields_in o (put key (string text) no_members)) ≡ option_map Ok (text_in o text))
    → (found : Option (Bor (List ℕ))) → IfSome found (λ text. IsLoneText body key text.now)
    → IfSome found (λ text. IsText o body text.now)
report o body key has is None lone = tt
report o body key has is (Some text) lone = sym (is text.now) ∙ ap Some (sym (by_fields o body key text.now has lone))

pub register_reported : (body : List ℕ) (found : Option (Bor (List ℕ))) → IfSome found (λ text. IsLoneText body (codes "name") text.now)
    → IfSome found (λ text. IsText command_path.Register body text.now)
register_reported body = report command_path.Register body (codes "name") refl (λ text. ap Some (register_is text))

pub category_reported : (body : List ℕ) (found : Option (Bor (List ℕ))) → IfSome found (λ text. IsLoneText body (codes "name") text.now)
    → IfSome found (λ text. IsText command_path.AddCategory body text.now)
category_reported body = report command_path.AddCategory body (codes "name") refl (λ text. ap Some (category_is text))

pub question_reported : (item : ℕ) (body : List ℕ) (found : Option (Bor (List ℕ))) → IfSome found (λ text. IsLoneText body (codes "text") text.now)
    → IfSome found (λ text. IsText (command_path.Ask item) body text.now)
question_reported item body = report (command_path.Ask item) body (codes "text") refl (λ text. ap Some (question_is item text))

pub answer_reported : (item asker number : ℕ) (body : List ℕ) (found : Option (Bor (List ℕ)))
    → IfSome found (λ text. IsLoneText body (codes "text") text.now)
    → IfSome found (λ text. IsText (command_path.Answer item asker number) body text.now)
answer_reported item asker number body = report (command_path.Answer item asker number) body (codes "text") refl
    (λ text. ap Some (answer_is item asker number text))
