-- Lists of two lives that differ and are twins, and pairs that aren't.
use Rattle.std.specs.Prelude.{◌≡◌, ◌≢◌, ℕ, List, [], ◌∷◌, Bool, true, false, Option, Some, None, codes}
use Rattle.house_rows.specs.declared.command.Command.TheVariants.{Bid, Watch}
use Rattle.house_rows.specs.declared.item.ItemShown.{ItemShown}
use Rattle.house_rows.specs.declared.message.Message.{Message}
use Rattle.house_rows.specs.declared.message.Message.TheVariants.{Write, Read}
use Rattle.house_rows.specs.declared.page.Page.TheVariants.{Items, OneItem}
use Rattle.house_rows.specs.declared.query.Query.TheVariants as query
use Rattle.house_rows.specs.declared.reply.Reply.{Reply}
use Rattle.house_rows.specs.declared.reply.Reply.TheVariants.{Done, Shows}
use Rattle.house_rows.specs.declared.state.State.TheVariants.{Open}
use Rattle.house_rows.specs.declared.command_result.CommandResult.TheVariants.{Placed}
use Rattle.house_laws.specs.Examples.{settings, setup}
use Rattle.house_laws.specs.Lives.{AreTwinLives, Life, LivesLookAlike, replies_in_lives}

-- two lives: messages are answered, and then one is in flight, which is in or out; in the second
-- life a read is answered
abbrev pub two_lives : {F : Type 0} → List (Message F) → Message F → Bool → Message F
    → List (Life (Message F))
two_lives answered in_flight is_in read =
    record { answered = answered; in_flight = Some (record { element = in_flight; is_in = is_in }) }
    ∷ record { answered = read ∷ []; in_flight = None } ∷ []

-- from the setup on they look alike to Ben, and are twins for Ben
abbrev pub LookAlikeToBen : {F : Type 0} → List (Life (Message F)) → List (Life (Message F))
    → Type 0
LookAlikeToBen left right = LivesLookAlike (λ m. m) settings 2 setup setup left right

abbrev pub AreTwinsForBen : {F : Type 0} → List (Life (Message F)) → List (Life (Message F))
    → Type 0
AreTwinsForBen left right = AreTwinLives (λ m. m) settings 2 setup setup left right

-- the replies to Ben in them
abbrev pub replies_to_ben : {F : Type 0} → List (Life (Message F)) → List (List (Reply F))
replies_to_ben lives = replies_in_lives settings 2 setup lives

-- Ana's item while it is open, at a price, with a leader, so many bids and a floor
abbrev pub atlas_at : ℕ → Option ℕ → ℕ → ℕ → ItemShown
atlas_at price leader count floor = record {
  item = record {
    terms = record {
      item = 1;
      seller = 1;
      category = 1;
      start = 500;
      buy_now = None;
      end = 5000;
      state = Open;
      closed = None;
      price = price;
      leader = leader;
      count = count;
      met = None;
    };
    lot = codes "A1";
    title = codes "Atlas";
    text = [];
  };
  edition = 1;
  floor = Some floor;
}

-- Ben bids 10.00 and Cid an amount, Cid's watch is in flight, and in the second life Ben reads the
-- item
abbrev pub others_watch : {F : Type 0} → ℕ → Bool → List (Life (Message F))
others_watch amount is_in = two_lives
    (Write 1001 2 (Bid 1 1000) ∷ Write 1002 3 (Bid 1 amount) ∷ [])
    (Write 1003 3 (Watch 1)) is_in (Read 2 (query.Item 1))

-- Ben can't know whether Cid bid 30.00 or 80.00, nor whether the crash kept Cid's watch
abbrev pub SealedLivesAreTwins : Type 0 → Type 0
SealedLivesAreTwins F =
    (others_watch {F = F} 3000 true ≢ others_watch 8000 false)
    × AreTwinsForBen {F = F} (others_watch 3000 true) (others_watch 8000 false)

-- the replies to Ben in both: its bid leads at 5.00, and in the second life Cid leads at 10.50
abbrev pub TwinLivesGetTheseReplies : Type 0 → Type 0
TwinLivesGetTheseReplies F = replies_to_ben {F = F} (others_watch 8000 false) ≡
    (Done (Placed 1 550 (Some 2) 500) ∷ [])
    ∷ (Shows (OneItem (atlas_at 1050 (Some 3) 2 1100)) ∷ []) ∷ []

-- Ben's own watch is in flight, and in the second life Ben reads what it watches
abbrev pub own_watch : {F : Type 0} → Bool → List (Life (Message F))
own_watch is_in = two_lives [] (Write 1001 2 (Watch 1)) is_in (Read 2 query.MyWatches)

-- nobody else can see whether the crash kept the watch. So lives in which it did and didn't look
-- alike, and yet Ben gets other replies: that the choice on its own message is the same has to be
-- asked
abbrev pub OwnChoiceIsAnswered : Type 0 → Type 0
OwnChoiceIsAnswered F =
    LookAlikeToBen {F = F} (own_watch true) (own_watch false)
    × (replies_to_ben {F = F} (own_watch true)
    ≡ [] ∷ (Shows (Items (atlas_at 500 None 0 500 ∷ [])) ∷ []) ∷ [])
    × (replies_to_ben {F = F} (own_watch false) ≡ [] ∷ (Shows (Items []) ∷ []) ∷ [])

abbrev pub OwnChoiceMakesNoTwin : Type 0 → Type 0
OwnChoiceMakesNoTwin F = AreTwinsForBen {F = F} (own_watch true) (own_watch false) → ⊥

-- Cid's bid is in flight: whether the crash kept it, the count of bids shows to everybody
abbrev pub others_bid : {F : Type 0} → Bool → List (Life (Message F))
others_bid is_in = two_lives [] (Write 1001 3 (Bid 1 1000)) is_in (Read 2 (query.Item 1))

abbrev pub KeptBidMakesNoTwin : Type 0 → Type 0
KeptBidMakesNoTwin F = AreTwinsForBen {F = F} (others_bid true) (others_bid false) → ⊥
