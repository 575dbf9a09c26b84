-- A body with the rows of a band table gives its command.
use Rattle.std.proofs.Common.{◌≡◌, ℕ, List, ap, ◌∙◌, sym, Option, Some, None, Ok, Err, codes}
use Rattle.serde_json.specs.Data.{Members}
use Rattle.site_bodies.specs.Members.{body_of}
use Rattle.site_bodies.specs.Pairs.{pairs_at}
use Rattle.house_rows.specs.declared.command.Command.TheVariants as command
use Rattle.site_request.specs.declared.unread.Wrong.TheVariants as wrong
use Rattle.site_request.specs.declared.field.Field.TheVariants as field
use Rattle.site_request.specs.declared.command_path.CommandPath.TheVariants as command_path
use Rattle.site_request.specs.Commands.{command_of, fields_in, object_at, or_no_object, table_in}
use Rattle.site_request.specs.Fields.{◌>>=◌, or_wrong, rows_at}

by_rows : (bytes : List ℕ) (ms : Members) (rows : Option (List (ℕ × ℕ))) → body_of bytes ≡ Some ms
    → rows ≡ pairs_at (codes "at") (codes "step") (codes "bands") ms
    → command_of command_path.SetBands bytes ≡ (or_wrong field.Bands rows >>= (λ bands. Ok (command.SetBands bands)))
unfolding command_of object_at fields_in table_in rows_at
by_rows bytes ms rows is report =
    ap (λ o. or_no_object o >>= fields_in command_path.SetBands) is
    ∙ ap (λ o. or_wrong field.Bands o >>= (λ bands. Ok (command.SetBands bands))) (sym report)

pub rows_given : (bytes : List ℕ) (ms : Members) (rows : List (ℕ × ℕ)) → body_of bytes ≡ Some ms
    → Some rows ≡ pairs_at (codes "at") (codes "step") (codes "bands") ms
    → command_of command_path.SetBands bytes ≡ Ok (command.SetBands rows)
rows_given bytes ms rows is report = by_rows bytes ms (Some rows) is report

pub no_rows : (bytes : List ℕ) (ms : Members) → body_of bytes ≡ Some ms
    → None ≡ pairs_at (codes "at") (codes "step") (codes "bands") ms
    → command_of command_path.SetBands bytes ≡ Err (wrong.Field field.Bands)
no_rows bytes ms is report = by_rows bytes ms None is report

pub no_object : (bytes : List ℕ) → body_of bytes ≡ None → command_of command_path.SetBands bytes ≡ Err wrong.NoObject
unfolding command_of object_at
no_object bytes is = ap (λ o. or_no_object o >>= fields_in command_path.SetBands) is
