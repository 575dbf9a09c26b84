-- The verdict on a command by the tables, whatever history they are of, if of any.
use Rattle.std.specs.Prelude.{◌==◌, ◌+◌, ◌++◌, ◌&&◌, ◌||◌, ℕ, List, [], ◌∷◌, Option, length, nat_lt, not, option_and_then, option_map, unwrap_or}
use Rattle.std.specs.List.{list_any}
use Rattle.proxy.specs.Kept.{Kept}
use Rattle.proxy.specs.Rules.{first_failing}
use Rattle.house_rows.specs.declared.command.Command.{Command}
use Rattle.house_rows.specs.declared.command.Command.TheVariants as command
use Rattle.house_rows.specs.declared.item.ItemShown.{ItemShown}
use Rattle.house_rows.specs.declared.item.Terms.{Terms}
use Rattle.house_rows.specs.declared.refusal.Refusal.{Refusal}
use Rattle.house_rows.specs.declared.refusal.Refusal.TheVariants.{Limit, SellerOnly}
use Rattle.house_rows.specs.declared.talk.Question.{Question}
use Rattle.house_rows.specs.Found.{ask_count, is_given, is_watched, question_at, row_at, standing_at, terms_at, watch_count}
use Rattle.house_rows.specs.Items.{shown}
use Rattle.house_rows.specs.Limits.{most_watches}
use Rattle.house_rows.specs.Tables.{ItemRow, Tables, bands_for, edition_for}
use Rattle.house_rows.specs.Text.{same_text}
use Rattle.house_rows.specs.Verdict.{Rule, are_terms, bid_rules, category_rules, feedback_rules, is_house_command, listing_rules, of_item, purchase_rules, question_rules, register_rules, settlement_rules, table_rules}
use Rattle.house.specs.Decided.{of_terms}
use Rattle.house.specs.Judged.{first_rules}
use Rattle.house.specs.Waiting.{waiting_rules}

-- an item as everybody sees it, by its row
abbrev pub row_shown : Tables → ItemRow → ItemShown
row_shown t row = shown (edition_for t row.item.terms.item) (bands_for t row.item.terms.item) row.item

-- the greatest maximum on an item, which is its leader's own, or 0
abbrev pub top_at : Tables → ℕ → ℕ
top_at t i = unwrap_or (option_and_then (λ (kept : Kept). kept.top) (standing_at t i)) 0

-- of a watch, which takes room unless the caller watches the item
abbrev pub room_rules : Tables → ℕ → ℕ → Terms → List Rule
room_rules t caller item terms =
    (not (is_watched t caller item || nat_lt (watch_count t caller) most_watches), Limit) ∷ []

-- of an answer, by the question that is found
abbrev pub reply_rules : ℕ → List ℕ → Option Question → Terms → List Rule
reply_rules caller text question terms =
    (not (terms.seller == caller), SellerOnly) ∷ waiting_rules question text

-- each command's own rules; a bid's go by the standing that the item's row keeps
abbrev pub own_rules : Tables → ℕ → ℕ → Command → List Rule
own_rules t moment caller (command.Register name) = register_rules name t.members
own_rules t moment caller (command.AddCategory name) = category_rules name t.categories
own_rules t moment caller (command.List category lot title text start buy_now end reserve) = listing_rules lot
    (list_any (λ row. (row.item.terms.seller == caller) && same_text row.item.lot lot) t.items)
    (are_terms moment title text start buy_now end reserve)
    (list_any (λ k. k.category == category) t.categories)
    (length t.items)
own_rules t moment caller (command.Bid item maximum) =
    of_item (option_map (row_shown t) (row_at t item)) (bid_rules moment caller maximum (top_at t item))
own_rules t moment caller (command.Buy item) = of_terms (terms_at t item) (purchase_rules moment caller)
own_rules t moment caller command.Close = []
own_rules t moment caller (command.Settle item) = of_terms (terms_at t item) settlement_rules
own_rules t moment caller (command.Watch item) = of_terms (terms_at t item) (room_rules t caller item)
own_rules t moment caller (command.Unwatch item) = of_terms (terms_at t item) (λ terms. [])
own_rules t moment caller (command.Ask item text) =
    of_terms (terms_at t item) (question_rules moment caller text (ask_count t caller item))
own_rules t moment caller (command.Answer item asker number text) =
    of_terms (terms_at t item) (reply_rules caller text (question_at t item asker number))
own_rules t moment caller (command.Feedback item rating text) =
    of_terms (terms_at t item) (feedback_rules caller rating text (is_given t item caller))
own_rules t moment caller (command.SetBands bands) = table_rules bands (length t.editions + 1)

-- all its rules, in order
abbrev pub rules_by : Tables → ℕ → ℕ → Command → List Rule
rules_by t moment caller command =
    first_rules t moment caller (is_house_command command) ++ own_rules t moment caller command

-- the verdict: none where the command is accepted
unfoldable pub verdict_by : Tables → ℕ → ℕ → Command → Option Refusal
verdict_by t moment caller command = first_failing (rules_by t moment caller command)
