-- A post to the items is the route that lists.
use Rattle.std.proofs.Common.{◌≡◌, refl, codes, Some, Ok, ap, true}
use Rattle.std.specs.Str.{is_utf8}
use Rattle.std.proofs.lemmas.Str.{is_utf8-from_IsUtf8}
use Rattle.json.proofs.Printed.Utf8.{IsUtf8-are_ascii}
use Rattle.matchit.specs.Route.{scan}
use Rattle.matchit.specs.Seek.{param_step, seek}
use Rattle.site_request.specs.Numbers.{command_path_in}
use Rattle.site_request.specs.Routes.{path_in, route_at, route_of}
use Rattle.site_request.specs.Table.{path_of, rows, table}
use Rattle.site_request.specs.declared.command_path.CommandPath.TheVariants as command_path
use Rattle.site_request.specs.declared.path.Path.TheVariants.{Post}
use Rattle.site_request.specs.declared.route.Route.TheVariants as route

items_path : path_of (codes "/items") ≡ Some (Post command_path.List)
unfolding path_of rows table scan seek param_step
items_path = refl

items_text : is_utf8 (codes "/items") ≡ true
items_text = is_utf8-from_IsUtf8 (codes "/items") (IsUtf8-are_ascii (codes "/items") refl)

in_table : path_in (codes "/items") ≡ Some (Post command_path.List)
unfolding path_in
in_table = rw items_text items_path

pub items_route : route_of (codes "POST") (codes "/items") ≡ Ok (route.Post command_path.List)
unfolding route_of command_path_in
items_route = ap (λ path. route_at path (codes "POST") (codes "/items")) in_table
