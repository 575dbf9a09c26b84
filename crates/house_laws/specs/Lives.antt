-- The lives of a house. A life ends by a stop or a crash, and the next one goes on from what it
-- leaves.
use Rattle.std.specs.Prelude.{if◌then◌else◌, ◌≡◌, ◌⊎◌, ℕ, List, [], ◌∷◌, Bool, true, false, Option, Some, None, map}
use Rattle.std.specs.List.{AllZip}
use Rattle.house_rows.specs.declared.message.Message.{Message}
use Rattle.house_rows.specs.declared.reply.Reply.{Reply}
use Rattle.house_rows.specs.declared.settings.Settings.{Settings}
use Rattle.house_rows.specs.History.{History}
use Rattle.house_rows.specs.Runs.{Agrees, AreTwinsFrom, history_from, is_of, next, rendered_from}

-- what was in flight in the end, which nobody was answered, and the choice: it is in or it is out
pub record InFlight (A : Type 0) : Type 0 where
  pub element : A
  pub is_in : Bool

-- a life: what was answered, in order, and what was in flight in the end, if anything was. As in
-- runs each element means a message. Answered is what got the reply of the definitions, and no
-- report that memory or the store failed
pub record Life (A : Type 0) : Type 0 where
  pub answered : List A
  pub in_flight : Option (InFlight A)

-- the history after what was answered
abbrev pub answered_history : {A F : Type 0} → (A → Message F) → Settings → History → Life A
    → History
answered_history meant settings h life = history_from settings h (map meant life.answered)

-- the history that a choice leaves: what is in has its verdict, and is entered where that accepts
-- it; what is out leaves nothing
abbrev pub chosen_history : {A F : Type 0} → (A → Message F) → Settings → History
    → Option (InFlight A) → History
chosen_history meant settings h None = h
chosen_history meant settings h (Some x) =
    if x.is_in then next settings h (meant x.element) else h

-- the history after a life, with which the next one begins
abbrev pub life_history : {A F : Type 0} → (A → Message F) → Settings → History → Life A → History
life_history meant settings h life =
    chosen_history meant settings (answered_history meant settings h life) life.in_flight

-- the history after lives, one after another
abbrev pub lives_history : {A F : Type 0} → (A → Message F) → Settings → History → List (Life A)
    → History
lives_history meant settings h [] = h
lives_history meant settings h (life ∷ lives) =
    lives_history meant settings (life_history meant settings h life) lives

-- the rendered replies to one member at its answered places, a list for each life
abbrev pub rendered_in_lives : {A B F : Type 0} → (A → Message F) → (A → Reply F → B) → Settings
    → ℕ → History → List (Life A) → List (List B)
rendered_in_lives meant rendered settings c h [] = []
rendered_in_lives meant rendered settings c h (life ∷ lives) =
    rendered_from meant rendered settings c h life.answered
    ∷ rendered_in_lives meant rendered settings c (life_history meant settings h life) lives

-- the replies themselves, over lives of messages
abbrev pub replies_in_lives : {F : Type 0} → Settings → ℕ → History → List (Life (Message F))
    → List (List (Reply F))
replies_in_lives settings c h lives = rendered_in_lives (λ m. m) (λ m r. r) settings c h lives

-- two ends of lives look alike to a member: nothing was in flight in either; or in both something
-- was, equal or not the member's, and after the two choices what is public and what waits for the
-- member agree
abbrev pub EndsLookAlike : {A F : Type 0} → (A → Message F) → Settings → ℕ → History → History
    → Option (InFlight A) → Option (InFlight A) → Type 0
EndsLookAlike meant settings c h k None None = Unit {0}
EndsLookAlike meant settings c h k (Some x) (Some y) =
    ((x.element ≡ y.element)
    ⊎ ((is_of c (meant x.element) ≡ false) × (is_of c (meant y.element) ≡ false)))
    × Agrees settings c (chosen_history meant settings h (Some x))
    (chosen_history meant settings k (Some y))
EndsLookAlike meant settings c h k None (Some y) = ⊥
EndsLookAlike meant settings c h k (Some x) None = ⊥

-- lives from two histories on look alike to a member: there are as many; what was answered in them
-- are twin runs; and their ends look alike
abbrev pub LivesLookAlike : {A F : Type 0} → (A → Message F) → Settings → ℕ → History → History
    → List (Life A) → List (Life A) → Type 0
LivesLookAlike meant settings c h k [] [] = Unit {0}
LivesLookAlike meant settings c h k (life ∷ lives) (other ∷ others) =
    AreTwinsFrom meant settings c h k life.answered other.answered
    × EndsLookAlike meant settings c (answered_history meant settings h life)
    (answered_history meant settings k other) life.in_flight other.in_flight
    × LivesLookAlike meant settings c (life_history meant settings h life)
    (life_history meant settings k other) lives others
LivesLookAlike meant settings c h k [] (other ∷ others) = ⊥
LivesLookAlike meant settings c h k (life ∷ lives) [] = ⊥

-- where a message of the member itself was in flight, it is in after both lives or out after both
abbrev pub IsSameChoice : {A F : Type 0} → (A → Message F) → ℕ → Option (InFlight A)
    → Option (InFlight A) → Type 0
IsSameChoice meant c (Some x) (Some y) = is_of c (meant x.element) ≡ true → x.is_in ≡ y.is_in
IsSameChoice meant c _ _ = Unit {0}

-- the same of each two of two lists of lives
abbrev pub HaveSameChoices : {A F : Type 0} → (A → Message F) → ℕ → List (Life A)
    → List (Life A) → Type 0
HaveSameChoices meant c left right =
    AllZip (λ life other. IsSameChoice meant c life.in_flight other.in_flight) left right

-- twin lives for a member, from two histories on: they look alike to it, and of its own messages in
-- flight the same are in
pub record AreTwinLives {A F : Type 0} (meant : A → Message F) (settings : Settings) (c : ℕ)
    (h k : History) (left right : List (Life A)) : Type 0 where
  pub look : LivesLookAlike meant settings c h k left right
  pub choices : HaveSameChoices meant c left right
