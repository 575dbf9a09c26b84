-- The route of a method and a target.
use Rattle.std.specs.Prelude.{ℕ, List, codes, Bool, Option, Some, None, Result, Ok, Err, if◌then◌else◌}
use Rattle.std.specs.Str.{bytes_eq, is_utf8}
use Rattle.house_rows.specs.declared.query.Query.{Query}
use Rattle.house_rows.specs.declared.query.Query.TheVariants as query
use Rattle.wire.specs.declared.methods.Methods.{Methods}
use Rattle.wire.specs.declared.methods.Methods.TheVariants as methods
use Rattle.site_request.specs.Numbers.{command_path_in, read_in}
use Rattle.site_request.specs.Table.{path_of}
use Rattle.site_request.specs.declared.command_path.CommandPath.{CommandPath}
use Rattle.site_request.specs.declared.command_path.CommandPath.TheVariants as command_path
use Rattle.site_request.specs.declared.unrouted.RouteFault.{RouteFault}
use Rattle.site_request.specs.declared.unrouted.RouteFault.TheVariants as fault
use Rattle.site_request.specs.declared.path.Path.{Path}
use Rattle.site_request.specs.declared.path.Path.TheVariants as path
use Rattle.site_request.specs.declared.route.Route.{Route}
use Rattle.site_request.specs.declared.route.Route.TheVariants as route

-- the path of a target; one that isn't UTF-8 has none
unfoldable pub path_in : List ℕ → Option Path
path_in target = if is_utf8 target then path_of target else None

-- a route, if the method is its own; where a number of the path can't be read there is no such path
abbrev pub by_method : Option Route → Bool → Methods → Result Route RouteFault
by_method None is_method methods = Err fault.Path
by_method (Some route) is_method methods = if is_method then Ok route else Err (fault.Method methods)

-- of a path with both methods
abbrev pub by_both : Query → CommandPath → List ℕ → Result Route RouteFault
by_both q o method =
    if bytes_eq method (codes "GET") then Ok (route.Read q)
    else by_method (Some (route.Post o)) (bytes_eq method (codes "POST")) methods.GetAndPost

-- the route of a method and a target, by the path of the target
abbrev pub route_at : Option Path → List ℕ → List ℕ → Result Route RouteFault
route_at None method target = Err fault.Path
route_at (Some (path.Get r)) method target = by_method (read_in r target) (bytes_eq method (codes "GET")) methods.Get
route_at (Some (path.Post o)) method target = by_method (command_path_in o target) (bytes_eq method (codes "POST")) methods.Post
route_at (Some path.Categories) method target = by_both query.Categories command_path.AddCategory method
route_at (Some path.Bands) method target = by_both query.Bands command_path.SetBands method

-- the route of a method and a target, or the first of these that holds: no path, no number, another method
unfoldable pub route_of : List ℕ → List ℕ → Result Route RouteFault
route_of method target = route_at (path_in target) method target
