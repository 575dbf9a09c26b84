-- The text by which a bid is sent.
use Rattle.std.specs.Prelude.{ℕ, ◌≤◌, ◌<◌, ◌^◌, List, ◌++◌, length, decimal, codes}
use Rattle.house_laws.specs.Covered.{Sealed}
use Rattle.house_rows.specs.Limits.{last_moment}

-- the body of a bid
unfoldable pub bid_body : ℕ → List ℕ
bid_body maximum = codes "{\"maximum\":" ++ decimal maximum ++ codes "}"

-- the text of a bid, with no field but those that it needs
unfoldable pub bid_text : Sealed → List ℕ
bid_text b =
    codes "POST /items/" ++ decimal b.item ++ codes "/bids HTTP/1.1\r\nhost: h\r\nx-member: " ++ decimal b.member
    ++ codes "\r\nx-moment: " ++ decimal b.moment ++ codes "\r\ncontent-length: " ++ decimal (length (bid_body b.maximum))
    ++ codes "\r\n\r\n" ++ bid_body b.maximum

-- a bid whose numbers can be sent: of ten digits at most, and the moment not past the last
pub record IsSent (b : Sealed) : Type 0 where
  pub item : (1 ≤ b.item) × (b.item < 10 ^ 10)
  pub member : b.member < 10 ^ 10
  pub moment : b.moment ≤ last_moment
  pub maximum : (1 ≤ b.maximum) × (b.maximum < 10 ^ 10)
