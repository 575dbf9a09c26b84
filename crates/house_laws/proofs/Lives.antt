-- Lives that are twins give a member the same replies, and leave histories that are alike.
use Rattle.std.proofs.Common.{◌≡◌, ◌⊎◌, ◌∙◌, ◌∷◌, [], ℕ, List, map, Bool, true, false, refl, sym, inl, inr, Option, Some, None}
use Rattle.house_rows.specs.declared.message.Message.{Message}
use Rattle.house_rows.specs.declared.reply.Reply.{Reply}
use Rattle.house_rows.specs.declared.settings.Settings.{Settings}
use Rattle.house_rows.specs.History.{History}
use Rattle.house_rows.specs.Runs.{history_from, is_of, next}
use Rattle.house_rows.specs.Verdict.{IsHistory}
use Rattle.house_rows.specs.Views.{own_view}
use Rattle.house_rows.proofs.Next.{next_is_history}
use Rattle.house_rows.proofs.Put.{by_test}
use Rattle.house_laws.specs.Alike.{AreAlike}
use Rattle.house_laws.specs.Lives.{AreTwinLives, EndsLookAlike, HaveSameChoices, InFlight, IsSameChoice, Life, LivesLookAlike, answered_history, chosen_history, life_history, lives_history, rendered_in_lives}
use Rattle.house_laws.proofs.Alike.{alike_again, own_next, own_other, rendered_same}

-- what is another's leaves a member's own view, whether it is in or out
own_chosen : {A F : Type 0} (meant : A → Message F) (settings : Settings) (c : ℕ) (h : History) (x : A) (is_in : Bool)
    → is_of c (meant x) ≡ false → own_view (chosen_history meant settings h (Some (record { element = x; is_in = is_in }))) c ≡ own_view h c
own_chosen meant settings c h x true other = own_other settings c h (meant x) other
own_chosen meant settings c h x false other = refl

-- what is the member's own changes it equally, where the choice is the same
own_same : {A F : Type 0} (meant : A → Message F) (settings : Settings) (c : ℕ) (h k : History) (x : A) (is_in : Bool) → AreAlike settings c h k
    → own_view (chosen_history meant settings h (Some (record { element = x; is_in = is_in }))) c ≡ own_view (chosen_history meant settings k (Some (record { element = x; is_in = is_in }))) c
own_same meant settings c h k x true alike = own_next settings c h k (meant x) (meant x) (inl refl) alike
own_same meant settings c h k x false alike = alike.own

own_ends : {A F : Type 0} (meant : A → Message F) (settings : Settings) (c : ℕ) (h k : History) (x y : A) (left right : Bool) → AreAlike settings c h k
    → (x ≡ y) ⊎ ((is_of c (meant x) ≡ false) × (is_of c (meant y) ≡ false)) → (is_of c (meant x) ≡ true → left ≡ right)
    → own_view (chosen_history meant settings h (Some (record { element = x; is_in = left }))) c ≡ own_view (chosen_history meant settings k (Some (record { element = y; is_in = right }))) c
own_ends meant settings c h k x y left right alike (inl e) choice =
    rw (← e) (elim (by_test (is_of c (meant x))) [
      | inl is ↦ rw (choice is) (own_same meant settings c h k x right alike)
      | inr other ↦ own_chosen meant settings c h x left other ∙ alike.own ∙ sym (own_chosen meant settings c k x right other)
    ])
own_ends meant settings c h k x y left right alike (inr others) choice =
    own_chosen meant settings c h x left others.0 ∙ alike.own ∙ sym (own_chosen meant settings c k y right others.1)

-- the histories are alike after the choices
alike_chosen : {A F : Type 0} (meant : A → Message F) (settings : Settings) (c : ℕ) (h k : History) (x y : Option (InFlight A)) → AreAlike settings c h k
    → EndsLookAlike meant settings c h k x y → IsSameChoice meant c x y
    → AreAlike settings c (chosen_history meant settings h x) (chosen_history meant settings k y)
alike_chosen meant settings c h k None None alike look choice = alike
alike_chosen meant settings c h k None (Some y) alike look choice = absurd look
alike_chosen meant settings c h k (Some x) None alike look choice = absurd look
alike_chosen meant settings c h k (Some x) (Some y) alike look choice = record {
  public = look.1.public;
  own = own_ends meant settings c h k x.element y.element x.is_in y.is_in alike look.0 choice;
  waiting = look.1.waiting;
}

-- and after two lives
alike_life : {A F : Type 0} (meant : A → Message F) (settings : Settings) (c : ℕ) (h k : History) (life other : Life A) (lives others : List (Life A)) → AreAlike settings c h k
    → LivesLookAlike meant settings c h k (life ∷ lives) (other ∷ others) → IsSameChoice meant c life.in_flight other.in_flight
    → AreAlike settings c (life_history meant settings h life) (life_history meant settings k other)
alike_life meant settings c h k life other lives others alike look choice =
    alike_chosen meant settings c (answered_history meant settings h life) (answered_history meant settings k other) life.in_flight other.in_flight
    (alike_again meant settings c h k life.answered other.answered alike look.0) look.1 choice

same_lives : {A B F : Type 0} (meant : A → Message F) (rendered : A → Reply F → B) (settings : Settings) (c : ℕ) (h k : History) (left right : List (Life A))
    → AreAlike settings c h k → LivesLookAlike meant settings c h k left right → HaveSameChoices meant c left right
    → rendered_in_lives meant rendered settings c h left ≡ rendered_in_lives meant rendered settings c k right
same_lives meant rendered settings c h k [] [] alike look choices = refl
same_lives meant rendered settings c h k [] (other ∷ others) alike look choices = absurd look
same_lives meant rendered settings c h k (life ∷ lives) [] alike look choices = absurd look
same_lives meant rendered settings c h k (life ∷ lives) (other ∷ others) alike look choices =
    rw (
      rendered_same meant rendered settings c h k life.answered other.answered alike look.0,
      same_lives meant rendered settings c (life_history meant settings h life) (life_history meant settings k other) lives others
          (alike_life meant settings c h k life other lives others alike look choices.0) look.2 choices.1,
    ) refl

after_lives : {A F : Type 0} (meant : A → Message F) (settings : Settings) (c : ℕ) (h k : History) (left right : List (Life A))
    → AreAlike settings c h k → LivesLookAlike meant settings c h k left right → HaveSameChoices meant c left right
    → AreAlike settings c (lives_history meant settings h left) (lives_history meant settings k right)
after_lives meant settings c h k [] [] alike look choices = alike
after_lives meant settings c h k [] (other ∷ others) alike look choices = absurd look
after_lives meant settings c h k (life ∷ lives) [] alike look choices = absurd look
after_lives meant settings c h k (life ∷ lives) (other ∷ others) alike look choices =
    after_lives meant settings c (life_history meant settings h life) (life_history meant settings k other) lives others
    (alike_life meant settings c h k life other lives others alike look choices.0) look.2 choices.1

-- all rendered replies to a member over twin lives are the same
pub rendered_lives : {A B F : Type 0} (meant : A → Message F) (rendered : A → Reply F → B) (settings : Settings) (c : ℕ) (h k : History) (left right : List (Life A))
    → AreAlike settings c h k → AreTwinLives meant settings c h k left right
    → rendered_in_lives meant rendered settings c h left ≡ rendered_in_lives meant rendered settings c k right
rendered_lives meant rendered settings c h k left right alike twin = same_lives meant rendered settings c h k left right alike twin.look twin.choices

-- and the histories after them are alike again
pub alike_after_lives : {A F : Type 0} (meant : A → Message F) (settings : Settings) (c : ℕ) (h k : History) (left right : List (Life A))
    → AreAlike settings c h k → AreTwinLives meant settings c h k left right
    → AreAlike settings c (lives_history meant settings h left) (lives_history meant settings k right)
alike_after_lives meant settings c h k left right alike twin = after_lives meant settings c h k left right alike twin.look twin.choices

-- every entry of a history after messages was accepted, where those before it were
run_is_history : {F : Type 0} (settings : Settings) (h : History) (ms : List (Message F)) → IsHistory settings h → IsHistory settings (history_from settings h ms)
run_is_history settings h [] is = is
run_is_history settings h (m ∷ ms) is = run_is_history settings (next settings h m) ms (next_is_history settings h m is)

chosen_is_history : {A F : Type 0} (meant : A → Message F) (settings : Settings) (h : History) (x : A) (is_in : Bool) → IsHistory settings h
    → IsHistory settings (chosen_history meant settings h (Some (record { element = x; is_in = is_in })))
chosen_is_history meant settings h x true is = next_is_history settings h (meant x) is
chosen_is_history meant settings h x false is = is

end_is_history : {A F : Type 0} (meant : A → Message F) (settings : Settings) (h : History) (o : Option (InFlight A)) → IsHistory settings h → IsHistory settings (chosen_history meant settings h o)
end_is_history meant settings h None is = is
end_is_history meant settings h (Some x) is = chosen_is_history meant settings h x.element x.is_in is

pub lives_are_histories : {A F : Type 0} (meant : A → Message F) (settings : Settings) (h : History) (lives : List (Life A)) → IsHistory settings h
    → IsHistory settings (lives_history meant settings h lives)
lives_are_histories meant settings h [] is = is
lives_are_histories meant settings h (life ∷ lives) is =
    lives_are_histories meant settings (life_history meant settings h life) lives
    (end_is_history meant settings (answered_history meant settings h life) life.in_flight (run_is_history settings h (map meant life.answered) is))
