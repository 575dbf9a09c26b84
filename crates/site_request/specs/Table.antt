-- The patterns of the paths, and which path a text has by them, as `matchit` says. Start here.
use Rattle.std.specs.Prelude.{ℕ, List, [], ◌∷◌, Option, option_map, codes, Result, Ok, Err}
use Rattle.matchit.specs.Rows.{RowsOf}
use Rattle.matchit.specs.Order.{placed}
use Rattle.matchit.specs.Route.{Scan, parse_route}
use Rattle.matchit.specs.Router.{RouteOf, route_from}
use Rattle.matchit.specs.Seek.{first}
use Rattle.matchit.specs.declared.error.InsertError.{InsertError}
use Rattle.site_request.specs.declared.command_path.CommandPath.TheVariants as command_path
use Rattle.site_request.specs.declared.path.Path.{Path}
use Rattle.site_request.specs.declared.path.Path.TheVariants.{Get, Post, Categories, Bands}
use Rattle.site_request.specs.declared.path.Read.TheVariants as read

-- the patterns, and for what each path is, with 0 for each number of a path; what is in braces
-- fits any segment
unfoldable pub table : List (List ℕ × Path)
table =
    (codes "/members", Post command_path.Register)
    ∷ (codes "/categories", Categories)
    ∷ (codes "/items", Post command_path.List)
    ∷ (codes "/items/{item}/bids", Post (command_path.Bid 0))
    ∷ (codes "/items/{item}/purchase", Post (command_path.Buy 0))
    ∷ (codes "/close", Post command_path.Close)
    ∷ (codes "/items/{item}/settle", Post (command_path.Settle 0))
    ∷ (codes "/items/{item}/watch", Post (command_path.Watch 0))
    ∷ (codes "/items/{item}/unwatch", Post (command_path.Unwatch 0))
    ∷ (codes "/items/{item}/questions", Post (command_path.Ask 0))
    ∷ (codes "/items/{item}/questions/{asker}/{number}/answer", Post (command_path.Answer 0 0 0))
    ∷ (codes "/items/{item}/feedback", Post (command_path.Feedback 0))
    ∷ (codes "/house", Get read.House)
    ∷ (codes "/bands", Bands)
    ∷ (codes "/bands/{edition}", Get read.BandsOf)
    ∷ (codes "/categories/{category}/items/{from}", Get read.ItemsIn)
    ∷ (codes "/items/{item}", Get read.Item)
    ∷ (codes "/items/{item}/questions/{from}", Get read.Questions)
    ∷ (codes "/members/{member}", Get read.Member)
    ∷ (codes "/members/{member}/feedback/{from}", Get read.FeedbackTo)
    ∷ (codes "/me/bids/{from}", Get read.MyBids)
    ∷ (codes "/me/reserves/{from}", Get read.MyReserves)
    ∷ (codes "/me/watches", Get read.MyWatches)
    ∷ (codes "/me/questions/{from}", Get read.MyQuestions)
    ∷ (codes "/me/waiting", Get read.MyWaiting)
    ∷ (codes "/me/statement/{from}/{to}", Get read.MyStatement)
    ∷ []

-- the rows with the path of a pattern that was read
abbrev pub added_scan : Result Scan InsertError → Path → RowsOf (RouteOf Path) → RowsOf (RouteOf Path)
added_scan (Ok s) path rows = placed (s.pattern, route_from s path) rows
added_scan (Err e) path rows = rows

-- the rows with the path of this pattern
abbrev pub added_one : List ℕ → Path → RowsOf (RouteOf Path) → RowsOf (RouteOf Path)
added_one pattern path rows = added_scan (parse_route pattern) path rows

-- the rows with the paths of these patterns, put in one after another
abbrev pub added : List (List ℕ × Path) → RowsOf (RouteOf Path) → RowsOf (RouteOf Path)
added [] rows = rows
added (p ∷ ps) rows = added ps (added_one p.0 p.1 rows)

-- what a router of the table holds
unfoldable pub rows : RowsOf (RouteOf Path)
rows = added table []

-- the path whose pattern a text fits
unfoldable pub path_of : List ℕ → Option Path
path_of text = option_map (λ (r : RouteOf Path). r.value) (first rows text)
