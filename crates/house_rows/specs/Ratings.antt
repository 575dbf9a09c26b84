-- Feedback between the two parties of a sale.
use Rattle.std.specs.Prelude.{if◌then◌else◌, ℕ, List, [], ◌∷◌, ◌==◌, Bool, true, false, Option, Some, None, unwrap_or}
use Rattle.house_rows.specs.declared.command.Command.{Command}
use Rattle.house_rows.specs.declared.command.Command.TheVariants.{Feedback}
use Rattle.house_rows.specs.declared.rating.Rating.{Rating}
use Rattle.house_rows.specs.declared.rating.Rating.TheVariants.{Minus, Zero, Plus}
use Rattle.house_rows.specs.declared.talk.Feedback as row
use Rattle.house_rows.specs.History.{History, Key, put_by}
use Rattle.house_rows.specs.Listings.{Listing, listing_at, listings}
use Rattle.house_rows.specs.Items.{leader_of}

-- feedback goes by item and giver
abbrev pub feedback_key : row.Feedback → Key
feedback_key f = record { first = f.item; second = f.from; third = 0 }

-- the other party of a sale
abbrev pub other_party : ℕ → Option ℕ → ℕ → ℕ
other_party seller leader c = if seller == c then unwrap_or leader 0 else seller

-- to whom feedback on a listed item goes: the other party, or 0 where nothing was listed
abbrev pub party_against : History → Option Listing → ℕ → ℕ
party_against h None c = 0
party_against h (Some l) c = other_party l.seller (leader_of h l) c

-- feedback puts its row; a command whose rating is none puts none
abbrev pub with_feedback : History → List row.Feedback → ℕ → Command → List row.Feedback
with_feedback h rows caller (Feedback i (Some rating) text) = put_by feedback_key (record {
  item = i;
  from = caller;
  to = party_against h (listing_at (listings h) i) caller;
  rating = rating;
  text = text;
}) rows
with_feedback h rows caller _ = rows

-- all feedback, by item and giver
abbrev pub feedback : History → List row.Feedback
feedback [] = []
feedback (e ∷ h) = with_feedback h (feedback h) e.caller e.command

-- whether a rating is a plus
abbrev pub is_plus : Rating → Bool
is_plus Plus = true
is_plus _ = false

-- whether a rating is a zero
abbrev pub is_zero : Rating → Bool
is_zero Zero = true
is_zero _ = false

-- whether a rating is a minus
abbrev pub is_minus : Rating → Bool
is_minus Minus = true
is_minus _ = false
