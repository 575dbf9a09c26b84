-- Lists of accepted bids.
use Rattle.std.specs.Prelude.{◌≡◌, ◌+◌, List, ◌∷◌, ◌++◌, length, None}
use Rattle.steps.specs.Table.{Band}
use Rattle.proxy.specs.declared.bid.Bid.{Bid}
use Rattle.proxy.specs.Opening.{Opening}
use Rattle.proxy.specs.Bids.{refusal}

-- a bid was accepted over those before it, and took the next number
pub record IsAccepted (bands : List Band) (opening : Opening) (before : List Bid) (bid : Bid) : Type 0 where
  pub accepted : refusal bands opening before bid.member bid.maximum ≡ None
  pub numbered : bid.no ≡ length before + 1

-- each bid of a list was accepted over those before it
abbrev pub AreAccepted : List Band → Opening → List Bid → Type 0
AreAccepted bands opening bids =
    (before : List Bid) (bid : Bid) (later : List Bid) → bids ≡ before ++ bid ∷ later → IsAccepted bands opening before bid
