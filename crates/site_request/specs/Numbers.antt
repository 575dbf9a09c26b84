-- The route of each path, with the numbers that are in the segments of a target.
use Rattle.std.specs.Prelude.{ℕ, List, Option, Some, None}
use Rattle.house_rows.specs.declared.query.Query.TheVariants as query
use Rattle.site_request.specs.Segments.{number_at, segment_at}
use Rattle.site_request.specs.declared.command_path.CommandPath.{CommandPath}
use Rattle.site_request.specs.declared.command_path.CommandPath.TheVariants as command_path
use Rattle.site_request.specs.declared.path.Read.{Read as TheRead}
use Rattle.site_request.specs.declared.path.Read.TheVariants as read
use Rattle.site_request.specs.declared.route.Route.{Route}
use Rattle.site_request.specs.declared.route.Route.TheVariants.{Post, Read, Statement}

infixl 10 ◌>>=◌
abbrev pub ◌>>=◌ : {A B : Type 0} → Option A → (A → Option B) → Option B
None >>= f = None
(Some x) >>= f = f x

-- the route of a command's path; none where no number is in the place of one
unfoldable pub command_path_in : CommandPath → List ℕ → Option Route
command_path_in command_path.Register target = Some (Post command_path.Register)
command_path_in command_path.AddCategory target = Some (Post command_path.AddCategory)
command_path_in command_path.List target = Some (Post command_path.List)
command_path_in (command_path.Bid _) target = do
  item ← number_at 2 target
  Some (Post (command_path.Bid item))
command_path_in (command_path.Buy _) target = do
  item ← number_at 2 target
  Some (Post (command_path.Buy item))
command_path_in command_path.Close target = Some (Post command_path.Close)
command_path_in (command_path.Settle _) target = do
  item ← number_at 2 target
  Some (Post (command_path.Settle item))
command_path_in (command_path.Watch _) target = do
  item ← number_at 2 target
  Some (Post (command_path.Watch item))
command_path_in (command_path.Unwatch _) target = do
  item ← number_at 2 target
  Some (Post (command_path.Unwatch item))
command_path_in (command_path.Ask _) target = do
  item ← number_at 2 target
  Some (Post (command_path.Ask item))
command_path_in (command_path.Answer _ _ _) target = do
  item ← number_at 2 target
  asker ← number_at 4 target
  number ← number_at 5 target
  Some (Post (command_path.Answer item asker number))
command_path_in (command_path.Feedback _) target = do
  item ← number_at 2 target
  Some (Post (command_path.Feedback item))
command_path_in command_path.SetBands target = Some (Post command_path.SetBands)

-- the route of a read's path; none where no number is in the place of one
unfoldable pub read_in : TheRead → List ℕ → Option Route
read_in read.House target = Some (Read query.House)
read_in read.BandsOf target = do
  edition ← number_at 2 target
  Some (Read (query.BandsOf edition))
read_in read.ItemsIn target = do
  category ← number_at 2 target
  from ← number_at 4 target
  Some (Read (query.ItemsIn category from))
read_in read.Item target = do
  item ← number_at 2 target
  Some (Read (query.Item item))
read_in read.Questions target = do
  item ← number_at 2 target
  from ← number_at 4 target
  Some (Read (query.Questions item from))
read_in read.Member target = do
  member ← number_at 2 target
  Some (Read (query.Member member))
read_in read.FeedbackTo target = do
  member ← number_at 2 target
  from ← number_at 4 target
  Some (Read (query.FeedbackTo member from))
read_in read.MyBids target = do
  from ← number_at 3 target
  Some (Read (query.MyBids from))
read_in read.MyReserves target = do
  from ← number_at 3 target
  Some (Read (query.MyReserves from))
read_in read.MyWatches target = Some (Read query.MyWatches)
read_in read.MyQuestions target = do
  from ← number_at 3 target
  Some (Read (query.MyQuestions from))
read_in read.MyWaiting target = Some (Read query.MyWaiting)
read_in read.MyStatement target = do
  from ← segment_at 3 target
  to ← segment_at 4 target
  Some (Statement from to)
