-- Two runs that look alike to a member give it the same replies.
use Rattle.std.proofs.Common.{◌≡◌, ℕ, List, [], ◌∷◌, true, false, refl, ◌∙◌, ap, sym, arith, inl, inr, map, ◌⊎◌, Option, Some, None}
use Rattle.std.specs.Prelude.{◌==◌, if◌then◌else◌}
use Rattle.std.proofs.lemmas.Bool.Decides.{nat_tests}
use Rattle.house_rows.specs.declared.command.Command.{Command}
use Rattle.house_rows.specs.declared.message.Message.{Message}
use Rattle.house_rows.specs.declared.message.Message.TheVariants.{Broken, Write, Read}
use Rattle.house_rows.specs.declared.query.Query.{Query}
use Rattle.house_rows.specs.declared.refusal.Refusal.{Refusal}
use Rattle.house_rows.specs.declared.reply.Reply.{Reply}
use Rattle.house_rows.specs.declared.reply.Reply.TheVariants.{Shows}
use Rattle.house_rows.specs.declared.settings.Settings.{Settings}
use Rattle.house_rows.specs.declared.command_result.CommandResult.{CommandResult}
use Rattle.house_rows.specs.History.{Entry, History}
use Rattle.house_rows.specs.Runs.{Agrees, AreTwins, AreTwinsFrom, Twin, entered, entry, history_from, is_of, next, rendered_from, rendered_to, replies_to, reply, reply_if}
use Rattle.house_rows.specs.CommandResult.{result_of}
use Rattle.house_rows.specs.Verdict.{verdict}
use Rattle.house_rows.specs.Views.{own_view, public_view}
use Rattle.house_laws.specs.Alike.{AreAlike}
use Rattle.house_rows.proofs.Put.{by_test}
use Rattle.house_rows.proofs.Own.{own_local}
use Rattle.house_laws.proofs.Output.{own_steps, report_same, verdict_same}
use Rattle.house_laws.proofs.Shown.{page_same}

-- the result of a command once it is entered
pub report_after : (settings : Settings) (c : ℕ) (h k : History) (t : ℕ) (command : Command) → AreAlike settings c h k
    → public_view settings (entry t c command ∷ h) ≡ public_view settings (entry t c command ∷ k)
    → result_of settings (entry t c command ∷ h) t c command h ≡ result_of settings (entry t c command ∷ k) t c command k
report_after settings c h k t command alike after =
    report_same settings c h k (entry t c command ∷ h) (entry t c command ∷ k) t command alike.public after (own_steps settings c h k t command alike)

-- and where it is accepted
report_if : {F : Type 0} (settings : Settings) (c : ℕ) (h k : History) (t : ℕ) (command : Command) (v : Option Refusal) → AreAlike settings c h k
    → public_view settings (entered v (entry t c command) h) ≡ public_view settings (entered v (entry t c command) k)
    → reply_if {F = F} v (result_of settings (entry t c command ∷ h) t c command h) ≡ reply_if {F = F} v (result_of settings (entry t c command ∷ k) t c command k)
report_if settings c h k t command None alike after =
    ap (λ (t : CommandResult). reply_if None t) (report_after settings c h k t command alike after)
report_if settings c h k t command (Some refusal) alike after = refl

order_same : {F : Type 0} (settings : Settings) (c : ℕ) (h k : History) (t : ℕ) (command : Command) → AreAlike settings c h k
    → public_view settings (next {F = F} settings h (Write t c command)) ≡ public_view settings (next {F = F} settings k (Write t c command))
    → reply {F = F} settings h (Write t c command) ≡ reply {F = F} settings k (Write t c command)
unfolding reply next
order_same {F = F} settings c h k t command alike after =
    let v : verdict settings h t c command ≡ verdict settings k t c command = verdict_same settings c h k t command alike in
    let p : public_view settings (entered (verdict settings k t c command) (entry t c command) h) ≡ public_view settings (entered (verdict settings k t c command) (entry t c command) k) = rw v at after in
    rw v (report_if {F = F} settings c h k t command (verdict settings k t c command) alike p)

read_same : {F : Type 0} (settings : Settings) (c : ℕ) (h k : History) (q : Query) → AreAlike settings c h k → reply {F = F} settings h (Read c q) ≡ reply {F = F} settings k (Read c q)
unfolding reply
read_same settings c h k q alike = ap (λ p. Shows p) (page_same settings c h k q alike)

broken_same : {F : Type 0} (settings : Settings) (h k : History) (caller : Option ℕ) (fault : F) → reply settings h (Broken caller fault) ≡ reply settings k (Broken caller fault)
unfolding reply
broken_same settings h k caller fault = refl

-- Output: the reply to a member's message depends on the three views before it, and where the message is accepted on the public view after it
pub reply_same : {F : Type 0} (settings : Settings) (c : ℕ) (h k : History) (m : Message F) → is_of c m ≡ true → AreAlike settings c h k
    → public_view settings (next settings h m) ≡ public_view settings (next settings k m) → reply settings h m ≡ reply settings k m
reply_same {F = F} settings c h k (Write t caller command) is alike after =
    let me : caller ≡ c = grind (arith, nat_tests) in
    let after' : public_view settings (next {F = F} settings h (Write t c command)) ≡ public_view settings (next {F = F} settings k (Write t c command)) = rw me at after in
    rw me (order_same {F = F} settings c h k t command alike after')
reply_same {F = F} settings c h k (Read caller q) is alike after =
    let me : caller ≡ c = grind (arith, nat_tests) in
    rw me (read_same {F = F} settings c h k q alike)
reply_same settings c h k (Broken caller fault) is alike after = broken_same settings h k caller fault

-- another's message leaves a member's own view
entered_other : (v : Option Refusal) (c : ℕ) (h : History) (e : Entry) → (e.caller == c) ≡ false → own_view (entered v e h) c ≡ own_view h c
entered_other None c h e other = own_local c h e other
entered_other (Some refusal) c h e other = refl

entered_own : (settings : Settings) (v : Option Refusal) (c : ℕ) (h k : History) (t : ℕ) (command : Command) → AreAlike settings c h k → own_view (entered v (entry t c command) h) c ≡ own_view (entered v (entry t c command) k) c
entered_own settings None c h k t command alike = own_steps settings c h k t command alike
entered_own settings (Some refusal) c h k t command alike = alike.own

-- and so does the message itself
pub own_other : {F : Type 0} (settings : Settings) (c : ℕ) (h : History) (m : Message F) → is_of c m ≡ false → own_view (next settings h m) c ≡ own_view h c
unfolding next
own_other settings c h (Write t caller command) other = entered_other (verdict settings h t caller command) c h (entry t caller command) other
own_other settings c h (Read caller q) other = refl
own_other settings c h (Broken caller fault) other = refl

own_mine : {F : Type 0} (settings : Settings) (c : ℕ) (h k : History) (m : Message F) → is_of c m ≡ true → AreAlike settings c h k → own_view (next settings h m) c ≡ own_view (next settings k m) c
unfolding next
own_mine settings c h k (Write t caller command) is alike =
    let me : caller ≡ c = grind (arith, nat_tests) in
    let v : verdict settings h t c command ≡ verdict settings k t c command = verdict_same settings c h k t command alike in
    rw (me, v) (entered_own settings (verdict settings k t c command) c h k t command alike)
own_mine settings c h k (Read caller q) is alike = alike.own
own_mine settings c h k (Broken caller fault) is alike = alike.own

-- the member's own view stays equal
own_kept : {F : Type 0} (settings : Settings) (c : ℕ) (h k : History) (m : Message F) → AreAlike settings c h k → own_view (next settings h m) c ≡ own_view (next settings k m) c
own_kept settings c h k m alike =
    elim (by_test (is_of c m)) [ inl is ↦ own_mine settings c h k m is alike | inr other ↦ own_other settings c h m other ∙ alike.own ∙ sym (own_other settings c k m other) ]

pub own_next : {F : Type 0} (settings : Settings) (c : ℕ) (h k : History) (m n : Message F) → (m ≡ n) ⊎ ((is_of c m ≡ false) × (is_of c n ≡ false)) → AreAlike settings c h k
    → own_view (next settings h m) c ≡ own_view (next settings k n) c
own_next settings c h k m n same alike =
    elim same [ inl e ↦ rw (← e) (own_kept settings c h k m alike) | inr others ↦ own_other settings c h m others.0 ∙ alike.own ∙ sym (own_other settings c k n others.1) ]

-- the same of elements, by the messages that they mean
meant_alike : {A F : Type 0} (meant : A → Message F) (c : ℕ) (x y : A) → (x ≡ y) ⊎ ((is_of c (meant x) ≡ false) × (is_of c (meant y) ≡ false))
    → (meant x ≡ meant y) ⊎ ((is_of c (meant x) ≡ false) × (is_of c (meant y) ≡ false))
meant_alike meant c x y (inl e) = inl (ap meant e)
meant_alike meant c x y (inr others) = inr others

-- what a place adds to the rendered replies
rendered_here : {A B F : Type 0} (meant : A → Message F) (rendered : A → Reply F → B) (settings : Settings) (c : ℕ) (h k : History) (x y : A)
    → (x ≡ y) ⊎ ((is_of c (meant x) ≡ false) × (is_of c (meant y) ≡ false)) → AreAlike settings c h k
    → Agrees settings c (next settings h (meant x)) (next settings k (meant y))
    → (if is_of c (meant x) then rendered x (reply settings h (meant x)) ∷ [] else []) ≡ (if is_of c (meant y) then rendered y (reply settings k (meant y)) ∷ [] else [])
rendered_here meant rendered settings c h k x y same alike after =
    elim same [
      | inl e ↦ rw (← e) (let after' : Agrees settings c (next settings h (meant x)) (next settings k (meant x)) = rw (← e) at after in
          elim (by_test (is_of c (meant x))) [ inl is ↦ rw (is, reply_same settings c h k (meant x) is alike after'.public) refl | inr other ↦ rw other refl ])
      | inr others ↦ rw (others.0, others.1) refl
    ]

-- after elements that are equal or not the member's the histories are alike again, where what is public and what waits agree
pub alike_next : {A F : Type 0} (meant : A → Message F) (settings : Settings) (c : ℕ) (h k : History) (x y : A)
    → (x ≡ y) ⊎ ((is_of c (meant x) ≡ false) × (is_of c (meant y) ≡ false)) → AreAlike settings c h k
    → Agrees settings c (next settings h (meant x)) (next settings k (meant y))
    → AreAlike settings c (next settings h (meant x)) (next settings k (meant y))
alike_next meant settings c h k x y same alike after = record {
  public = after.public;
  own = own_next settings c h k (meant x) (meant y) (meant_alike meant c x y same) alike;
  waiting = after.waiting;
}

-- all rendered replies to a member are the same
pub rendered_same : {A B F : Type 0} (meant : A → Message F) (rendered : A → Reply F → B) (settings : Settings) (c : ℕ) (h k : History) (left right : List A)
    → AreAlike settings c h k → AreTwinsFrom meant settings c h k left right
    → rendered_from meant rendered settings c h left ≡ rendered_from meant rendered settings c k right
rendered_same meant rendered settings c h k [] [] alike twin = refl
rendered_same meant rendered settings c h k [] (y ∷ ys) alike twin = absurd twin
rendered_same meant rendered settings c h k (x ∷ xs) [] alike twin = absurd twin
rendered_same meant rendered settings c h k (x ∷ xs) (y ∷ ys) alike twin =
    let alike' = alike_next meant settings c h k x y twin.0 alike twin.1 in
    rw (
      rendered_here meant rendered settings c h k x y twin.0 alike twin.1,
      rendered_same meant rendered settings c (next settings h (meant x)) (next settings k (meant y)) xs ys alike' twin.2,
    ) refl

-- and the histories after them are alike again
pub alike_again : {A F : Type 0} (meant : A → Message F) (settings : Settings) (c : ℕ) (h k : History) (left right : List A)
    → AreAlike settings c h k → AreTwinsFrom meant settings c h k left right
    → AreAlike settings c (history_from settings h (map meant left)) (history_from settings k (map meant right))
alike_again meant settings c h k [] [] alike twin = alike
alike_again meant settings c h k [] (y ∷ ys) alike twin = absurd twin
alike_again meant settings c h k (x ∷ xs) [] alike twin = absurd twin
alike_again meant settings c h k (x ∷ xs) (y ∷ ys) alike twin =
    alike_again meant settings c (next settings h (meant x)) (next settings k (meant y)) xs ys
    (alike_next meant settings c h k x y twin.0 alike twin.1) twin.2

pub isolation : {A B F : Type 0} (meant : A → Message F) (rendered : A → Reply F → B) (settings : Settings) (c : ℕ) (left right : List A)
    → AreTwins meant settings c left right → rendered_to meant rendered settings c left ≡ rendered_to meant rendered settings c right
isolation meant rendered settings c left right twin =
    rendered_same meant rendered settings c [] [] left right (record { public = refl; own = refl; waiting = refl }) twin

-- messages mean themselves, and their replies are as they are
pub message_isolation : {F : Type 0} (settings : Settings) (c : ℕ) (left right : List (Message F)) → Twin settings c left right
    → replies_to settings c left ≡ replies_to settings c right
message_isolation settings c left right twin = isolation (λ m. m) (λ m r. r) settings c left right twin
