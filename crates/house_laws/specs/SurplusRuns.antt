-- A run with a covered surplus, and what the premises of that are for.
use Rattle.std.specs.Prelude.{ℕ, List, [], ◌∷◌, ◌++◌}
use Rattle.house_rows.specs.declared.command.Command.TheVariants.{Bid}
use Rattle.house_rows.specs.declared.message.Message.{Message}
use Rattle.house_rows.specs.declared.message.Message.TheVariants.{Write, Read}
use Rattle.house_rows.specs.declared.query.Query.TheVariants as query
use Rattle.house_rows.specs.Runs.{Twin}
use Rattle.house_laws.specs.Covered.{IsCovered, Sealed}
use Rattle.house_laws.specs.Examples.{settings}
use Rattle.house_laws.specs.ReserveRows.{lists_reserved}
use Rattle.house_laws.specs.TwinRuns.{run_with, setup_messages}

-- Cid's bid, after Ben's of 10.00
abbrev pub cids_bid : ℕ → Sealed
cids_bid amount = record { moment = 1002; member = 3; item = 1; maximum = amount }

-- Cid's 30.00 lie a step over Ben's 10.00, so to Ben 80.00 may be in their place
abbrev pub SurplusIsCovered : Type 0 → Type 0
SurplusIsCovered F = IsCovered {A = Message F} (λ m. m) settings 2 7 8000 (cids_bid 3000) (run_with 3000)

-- 10.40 don't, and the price would show it
abbrev pub LessThanAStepMakesNoTwin : Type 0 → Type 0
LessThanAStepMakesNoTwin F = Twin {F = F} settings 2 (run_with 1040) (run_with 8000) → ⊥

-- Cid bids an amount, and then 50.00
abbrev pub run_then : {F : Type 0} → ℕ → List (Message F)
run_then amount = setup_messages ++ (Write 1001 2 (Bid 1 1000) ∷ Write 1002 3 (Bid 1 amount) ∷ Write 1003 3 (Bid 1 5000) ∷ [])

-- after 80.00 these are refused, and the count of bids would show it
abbrev pub BidThatIsNotTheLastMakesNoTwin : Type 0 → Type 0
BidThatIsNotTheLastMakesNoTwin F = Twin {F = F} settings 2 (run_then 3000) (run_then 8000) → ⊥

-- Cid bids an amount, and then Ben 31.00
abbrev pub run_under : {F : Type 0} → ℕ → List (Message F)
run_under amount = setup_messages ++ (Write 1001 2 (Bid 1 1000) ∷ Write 1002 3 (Bid 1 amount) ∷ Write 1003 2 (Bid 1 3100) ∷ [])

-- who leads in the end would show it
abbrev pub LeaderWhoIsOvertakenMakesNoTwin : Type 0 → Type 0
LeaderWhoIsOvertakenMakesNoTwin F = Twin {F = F} settings 2 (run_under 3000) (run_under 8000) → ⊥

-- Ana lists item 2 with a reserve of 9.00, Ben bids an amount on it, and Cid reads it
abbrev pub run_reserved_for : {F : Type 0} → ℕ → List (Message F)
run_reserved_for amount = setup_messages ++
    (Write 1000 1 (lists_reserved 900) ∷ Write 1001 2 (Bid 2 amount) ∷ Read 3 (query.Item 2) ∷ [])

-- Ben's bid on it
abbrev pub bens_bid : ℕ → Sealed
bens_bid amount = record { moment = 1001; member = 2; item = 2; maximum = amount }

-- Ben's 9.00 meet it, so to Cid 80.00 may be in their place
abbrev pub MetReserveIsCovered : Type 0 → Type 0
MetReserveIsCovered F =
    IsCovered {A = Message F} (λ m. m) settings 3 7 8000 (bens_bid 900) (run_reserved_for 900)

-- 7.00 don't, and the price would show it
abbrev pub MaximumUnderTheReserveMakesNoTwin : Type 0 → Type 0
MaximumUnderTheReserveMakesNoTwin F =
    Twin {F = F} settings 3 (run_reserved_for 700) (run_reserved_for 8000) → ⊥
