-- What everybody sees, what a member has of its own, and what waits for it.
use Rattle.std.specs.Prelude.{if◌then◌else◌, ℕ, List, [], ◌∷◌, ◌++◌, ◌==◌, filter}
use Rattle.steps.specs.Table.{Band}
use Rattle.house_rows.specs.declared.command.Command.{Command}
use Rattle.house_rows.specs.declared.command.Command.TheVariants.{Bid}
use Rattle.house_rows.specs.declared.item.ItemShown.{ItemShown}
use Rattle.house_rows.specs.declared.people.Category.{Category}
use Rattle.house_rows.specs.declared.people.Member.{Member}
use Rattle.house_rows.specs.declared.settings.Settings.{Settings}
use Rattle.house_rows.specs.declared.talk.Feedback.{Feedback}
use Rattle.house_rows.specs.declared.talk.Question.{Question}
use Rattle.house_rows.specs.History.{History, clock}
use Rattle.house_rows.specs.Listings.{tables_set}
use Rattle.house_rows.specs.People.{categories, members}
use Rattle.house_rows.specs.Listings.{Listing, ReserveRow, listings, reserve_rows}
use Rattle.house_rows.specs.Items.{items_shown}
use Rattle.house_rows.specs.Questions.{Asked, asked, published}
use Rattle.house_rows.specs.Ratings.{feedback}
use Rattle.house_rows.specs.Watches.{WatchRow, watches}

-- the public view: what the public record shows
pub record Public : Type 0 where
  pub settings : Settings
  pub clock : ℕ
  pub members : List Member
  pub categories : List Category
  pub items : List ItemShown
  pub questions : List Question
  pub feedback : List Feedback
  -- the band tables that were set, in order
  pub tables : List (List Band)

-- the public view of a history
abbrev pub public_view : Settings → History → Public
public_view settings h = record {
  settings = settings;
  clock = clock h;
  members = members h;
  categories = categories h;
  items = items_shown settings h;
  questions = published h;
  feedback = feedback h;
  tables = tables_set h;
}

-- a member's own maximum on an item
pub record OwnMaximum : Type 0 where
  pub item : ℕ
  pub maximum : ℕ

-- the maximum of a command, if it is a bid of that member
abbrev pub own_maximum : ℕ → ℕ → Command → List OwnMaximum
own_maximum c caller (Bid i maximum) = if caller == c then record { item = i; maximum = maximum } ∷ [] else []
own_maximum c caller _ = []

-- a member's own maxima, in order
unfoldable pub own_maxima : History → ℕ → List OwnMaximum
own_maxima [] c = []
own_maxima (e ∷ h) c = own_maxima h c ++ own_maximum c e.caller e.command

-- what a member watches, by item
unfoldable pub own_watches : History → ℕ → List WatchRow
own_watches h c = filter (λ w. w.member == c) (watches h)

-- a member's own questions without their answers, by item and number
unfoldable pub own_questions : History → ℕ → List Asked
own_questions h c = filter (λ q. q.asker == c) (asked h)

-- a member's own listings, in order
abbrev pub own_listings : History → ℕ → List Listing
own_listings h c = filter (λ l. l.seller == c) (listings h)

-- a member's reserves, by item
unfoldable pub own_reserves : History → ℕ → List ReserveRow
own_reserves h c = reserve_rows (own_listings h c)

-- the own view: what a member has bid, its reserves, what it watches and what it has asked
pub record Own : Type 0 where
  pub maxima : List OwnMaximum
  pub reserves : List ReserveRow
  pub watches : List WatchRow
  pub questions : List Asked

-- the own view of a member
abbrev pub own_view : History → ℕ → Own
own_view h c = record { maxima = own_maxima h c; reserves = own_reserves h c; watches = own_watches h c; questions = own_questions h c }
