-- Two runs that differ and are twins, and pairs that aren't.
use Rattle.std.specs.Prelude.{◌≡◌, ◌≢◌, ℕ, List, [], ◌∷◌, ◌++◌, Some, None, codes}
use Rattle.house_rows.specs.declared.command.Command.TheVariants.{Register, AddCategory, Bid}
use Rattle.house_rows.specs.declared.query.Query.TheVariants as query
use Rattle.house_rows.specs.declared.state.State.TheVariants.{Open}
use Rattle.house_rows.specs.declared.page.Page.TheVariants.{OneItem}
use Rattle.house_rows.specs.declared.reply.Reply.TheVariants.{Done, Shows}
use Rattle.house_rows.specs.declared.message.Message.{Message}
use Rattle.house_rows.specs.declared.message.Message.TheVariants.{Write, Read}
use Rattle.house_rows.specs.Runs.{Twin, replies_to}
use Rattle.house_rows.specs.declared.command_result.CommandResult.TheVariants.{Placed}
use Rattle.house_laws.specs.Examples.{and_bid, lists, settings, setup}
use Rattle.house_laws.specs.WorkedRows.{Tells}

-- the house registers Ana, Ben and Cid and adds Books, and Ana lists item 1 from 5.00 until 5000
abbrev pub setup_messages : {F : Type 0} → List (Message F)
setup_messages =
    Write 1000 0 (Register (codes "Ana"))
    ∷ Write 1000 0 (Register (codes "Ben"))
    ∷ Write 1000 0 (Register (codes "Cid"))
    ∷ Write 1000 0 (AddCategory (codes "Books"))
    ∷ Write 1000 1 (lists (codes "A1") 500 None) ∷ []

-- Ben bids 10.00, Cid bids an amount, and Ben reads the item
abbrev pub run_with : {F : Type 0} → ℕ → List (Message F)
run_with amount = setup_messages ++
    (Write 1001 2 (Bid 1 1000) ∷ Write 1002 3 (Bid 1 amount) ∷ Read 2 (query.Item 1) ∷ [])

-- Ben can't know whether Cid bid 30.00 or 80.00: the price is 10.50 in both runs
abbrev pub SealedMaximaMakeTwins : Type 0 → Type 0
SealedMaximaMakeTwins F =
    (run_with {F = F} 3000 ≢ run_with 8000)
    × Twin {F = F} settings 2 (run_with 3000) (run_with 8000)

-- the replies to Ben in both: its bid leads at 5.00, and later Cid leads at 10.50
abbrev pub TwinsGetTheseReplies : Type 0 → Type 0
TwinsGetTheseReplies F = replies_to {F = F} settings 2 (run_with 8000) ≡
    Done (Placed 1 550 (Some 2) 500)
    ∷ Shows (OneItem (record {
      item = record {
        terms = record {
          item = 1;
          seller = 1;
          category = 1;
          start = 500;
          buy_now = None;
          end = 5000;
          state = Open;
          closed = None;
          price = 1050;
          leader = Some 3;
          count = 2;
          met = None;
        };
        lot = codes "A1";
        title = codes "Atlas";
        text = [];
      };
      edition = 1;
      floor = Some 1100;
    })) ∷ []

-- one step over Ben's 10.00 is 10.50, and a maximum of 10.40 caps the price there
abbrev pub LowMaximumCapsThePrice : Type 0
LowMaximumCapsThePrice =
    Tells (and_bid 1001 2 1000 setup) 1002 3 (Bid 1 3000) (Placed 2 1100 (Some 3) 1050)
    × Tells (and_bid 1001 2 1000 setup) 1002 3 (Bid 1 1040) (Placed 2 1090 (Some 3) 1040)

-- so Ben can distinguish 10.40 from 30.00: everybody sees the price
abbrev pub CappedPriceMakesNoTwin : Type 0 → Type 0
CappedPriceMakesNoTwin F = Twin {F = F} settings 2 (run_with 3000) (run_with 1040) → ⊥

-- to Cid, whose own message differs, the runs are no twins
abbrev pub OwnMessageMakesNoTwin : Type 0 → Type 0
OwnMessageMakesNoTwin F = Twin {F = F} settings 3 (run_with 3000) (run_with 8000) → ⊥
