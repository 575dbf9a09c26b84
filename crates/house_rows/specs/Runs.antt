-- Runs: the next history, replies, and two runs that look alike to one member.
use Rattle.std.specs.Prelude.{if◌then◌else◌, ◌≡◌, ◌⊎◌, ℕ, List, [], ◌∷◌, ◌++◌, Bool, false, ◌==◌, Option, Some, None}
use Rattle.house_rows.specs.declared.command.Command.{Command}
use Rattle.house_rows.specs.declared.message.Message.{Message}
use Rattle.house_rows.specs.declared.message.Message.TheVariants.{Write, Read, Broken}
use Rattle.house_rows.specs.declared.refusal.Refusal.{Refusal}
use Rattle.house_rows.specs.declared.reply.Reply.{Reply}
use Rattle.house_rows.specs.declared.reply.Reply.TheVariants.{Done, Denied, Shows, Faulty}
use Rattle.house_rows.specs.declared.settings.Settings.{Settings}
use Rattle.house_rows.specs.declared.command_result.CommandResult.{CommandResult}
use Rattle.house_rows.specs.History.{Entry, History}
use Rattle.house_rows.specs.Pages.{page_of}
use Rattle.house_rows.specs.Questions.{waiting}
use Rattle.house_rows.specs.CommandResult.{result_of}
use Rattle.house_rows.specs.Verdict.{verdict}
use Rattle.house_rows.specs.Views.{public_view}

-- an entry of these parts
abbrev pub entry : ℕ → ℕ → Command → Entry
entry moment caller command = record { moment = moment; caller = caller; command = command }

-- an accepted command is entered, a refused one changes nothing
abbrev pub entered : Option Refusal → Entry → History → History
entered None e h = e ∷ h
entered (Some refusal) e h = h

-- the next history
unfoldable pub next : {F : Type 0} → Settings → History → Message F → History
next settings h (Write moment caller command) = entered (verdict settings h moment caller command) (entry moment caller command) h
next settings h (Read caller query) = h
next settings h (Broken caller fault) = h

-- the history after a list of messages
abbrev pub history_from : {F : Type 0} → Settings → History → List (Message F) → History
history_from settings h [] = h
history_from settings h (m ∷ ms) = history_from settings (next settings h m) ms

-- the history that a list of messages makes of a new house
abbrev pub history_of : {F : Type 0} → Settings → List (Message F) → History
history_of settings ms = history_from settings [] ms

-- the result of an accepted command, or the refusal
abbrev pub reply_if : {F : Type 0} → Option Refusal → CommandResult → Reply F
reply_if None result_of = Done result_of
reply_if (Some refusal) result_of = Denied refusal

-- the reply to a message
unfoldable pub reply : {F : Type 0} → Settings → History → Message F → Reply F
reply settings h (Write moment caller command) =
    reply_if (verdict settings h moment caller command) (result_of settings (entry moment caller command ∷ h) moment caller command h)
reply settings h (Read caller query) = Shows (page_of settings h caller query)
reply settings h (Broken caller fault) = Faulty fault

-- whether a caller that may be none is that member
abbrev pub is_caller : Option ℕ → ℕ → Bool
is_caller None c = false
is_caller (Some caller) c = caller == c

-- whose a message is
abbrev pub is_of : {F : Type 0} → ℕ → Message F → Bool
is_of c (Write moment caller command) = caller == c
is_of c (Read caller query) = caller == c
is_of c (Broken caller fault) = is_caller caller c

-- a run is a list of elements of which each means a message, and has the reply to it rendered: as bytes, or as it is.
-- The rendered replies to one member, from a history on
abbrev pub rendered_from : {A B F : Type 0} → (A → Message F) → (A → Reply F → B) → Settings → ℕ → History → List A → List B
rendered_from meant rendered settings c h [] = []
rendered_from meant rendered settings c h (x ∷ xs) =
    (if is_of c (meant x) then rendered x (reply settings h (meant x)) ∷ [] else [])
    ++ rendered_from meant rendered settings c (next settings h (meant x)) xs

-- the rendered replies to one member, from a new house on
abbrev pub rendered_to : {A B F : Type 0} → (A → Message F) → (A → Reply F → B) → Settings → ℕ → List A → List B
rendered_to meant rendered settings c xs = rendered_from meant rendered settings c [] xs

-- the replies themselves, along a list of messages
abbrev pub replies_to : {F : Type 0} → Settings → ℕ → List (Message F) → List (Reply F)
replies_to settings c ms = rendered_to (λ m. m) (λ m r. r) settings c ms

-- what is public and what waits for a member agree
pub record Agrees (settings : Settings) (c : ℕ) (h k : History) : Type 0 where
  pub public : public_view settings h ≡ public_view settings k
  pub waiting : waiting h c ≡ waiting k c

-- twin runs, from two histories on: of equal length; at each place the elements are equal, or neither is the member's; and after
-- each place what is public and what waits for the member agree
abbrev pub AreTwinsFrom : {A F : Type 0} → (A → Message F) → Settings → ℕ → History → History → List A → List A → Type 0
AreTwinsFrom meant settings c h k [] [] = Unit {0}
AreTwinsFrom meant settings c h k (x ∷ xs) (y ∷ ys) =
    ((x ≡ y) ⊎ ((is_of c (meant x) ≡ false) × (is_of c (meant y) ≡ false)))
    × Agrees settings c (next settings h (meant x)) (next settings k (meant y))
    × AreTwinsFrom meant settings c (next settings h (meant x)) (next settings k (meant y)) xs ys
AreTwinsFrom meant settings c h k [] (y ∷ ys) = ⊥
AreTwinsFrom meant settings c h k (x ∷ xs) [] = ⊥

-- twin runs from a new house on
abbrev pub AreTwins : {A F : Type 0} → (A → Message F) → Settings → ℕ → List A → List A → Type 0
AreTwins meant settings c left right = AreTwinsFrom meant settings c [] [] left right

-- twin runs of messages, which mean themselves
abbrev pub Twin : {F : Type 0} → Settings → ℕ → List (Message F) → List (Message F) → Type 0
Twin settings c left right = AreTwins (λ m. m) settings c left right
