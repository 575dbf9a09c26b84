-- What members are told in lives.
use Rattle.std.proofs.Common.{if◌then◌else◌, ◌≡◌, ◌∙◌, ◌⊎◌, ◌≤◌, ℕ, Bool, true, false, List, [], ◌∷◌, ◌++◌, length, ap, arith, inl, inr, refl, subst, sym}
use Rattle.std.specs.Prelude.{Option, Some, None, drop, get_or}
use Rattle.std.proofs.lemmas.List.{append_assoc}
use Rattle.house_laws.specs.Lives.{InFlight, Life, life_history, rendered_in_lives}
use Rattle.house_rows.specs.declared.command.Command.TheVariants.{SetBands}
use Rattle.house_rows.specs.declared.settings.Settings.{Settings}
use Rattle.house_rows.specs.declared.fault.KeepFault.TheVariants as fault
use Rattle.house_rows.specs.History.{History}
use Rattle.house_rows.specs.Runs.{reply}
use Rattle.house_rows.specs.Verdict.{verdict}
use Rattle.settle.specs.declared.zone.Zone.{Zone}
use Rattle.site.specs.Lives.{IsLifeOf, replies_to_from, served_among, served_replies}
use Rattle.site.specs.Runs.{at_places, is_from, meant, rendered}
use Rattle.site_request.specs.declared.asked.Asked.{Asked}
use Rattle.site_replies.specs.Texts.{fault_text, is_refusal_of_memory}
use Rattle.lives.specs.Lives.{Answers, AreLivesOf, AreToldAlike, IsLifeIn, IsTold, Run, Sets, life_of, setting}

-- the replies that were served of two parts are those of each
served_of_both : (first rest : List (List ℕ))
    → served_replies (first ++ rest) ≡ served_replies first ++ served_replies rest
served_of_both [] rest = refl
served_of_both (r ∷ rs) rest =
    let one : List (List ℕ) = if is_refusal_of_memory r then [] else r ∷ [] in
    ap (λ served. one ++ served) (served_of_both rs rest)
    ∙ sym (append_assoc one (served_replies rs) (served_replies rest))

-- what comes after enough replies is at nobody's place
places_in_front : (c : ℕ) (asked : List Asked) (first rest : List (List ℕ)) → length asked ≤ length first
    → at_places c asked (first ++ rest) ≡ at_places c asked first
places_in_front c [] first rest enough = refl
places_in_front c (m ∷ ms) [] rest enough = absurd (omega (arith, enough))
places_in_front c (m ∷ ms) (r ∷ rs) rest enough =
    ap (λ more. (if is_from c m then r ∷ [] else []) ++ more)
    (places_in_front c ms rs rest (omega (arith, enough)))

-- there are as many replies that were served as messages
one_more : {A B : Type 0} (is_refused : Bool) (x : A) (y : B) (xs : List A) (ys : List B)
    → length xs ≤ length ys
    → length ((if is_refused then [] else x ∷ []) ++ xs)
    ≤ length ((if is_refused then [] else y ∷ []) ++ ys)
one_more true x y xs ys enough = enough
one_more false x y xs ys enough = omega (arith, enough)

enough_served : (asked : List Asked) (replies : List (List ℕ))
    → length (served_among asked replies) ≤ length (served_replies replies)
enough_served [] replies = omega arith
enough_served (m ∷ ms) [] = omega arith
enough_served (m ∷ ms) (r ∷ rs) =
    one_more (is_refusal_of_memory r) m r (served_among ms rs) (served_replies rs) (enough_served ms rs)

-- what is told in a life is what its history says
told_in : (settings : Settings) (zone : Zone) (c : ℕ) (h : History) (asked : List Asked)
    (replies : List (List ℕ)) (served : List Asked) (flight : Option (InFlight Asked))
    → IsLifeOf settings zone h asked replies served flight
    → IsTold c (Answers asked replies) (record { answered = served; in_flight = flight })
    (replies_to_from settings zone c h served)
told_in settings zone c h asked replies served None answered = sym (answered.report c)
told_in settings zone c h asked replies served (Some x) cut =
    let rest : List (List ℕ) = fault_text fault.Store x.element.closes ∷ cut.later_replies in
    let enough : length served ≤ length (served_replies cut.first_replies) =
    subst (λ (l : List Asked). length l ≤ length (served_replies cut.first_replies))
    (sym cut.answered.are) (enough_served cut.first cut.first_replies) in
    sym (cut.answered.report c)
    ∙ sym (places_in_front c served (served_replies cut.first_replies) (served_replies rest) enough)
    ∙ ap (at_places c served) (sym (served_of_both cut.first_replies rest))
    ∙ ap (λ l. at_places c served (served_replies l)) (sym cut.replied)

-- of a band table that was set
told_of_set : (settings : Settings) (zone : Zone) (c : ℕ) (h : History) (moment : ℕ)
    (bands : List (ℕ × ℕ)) (life : Life Asked)
    → ((life ≡ life_of []) ⊎ ((verdict settings h moment 0 (SetBands bands) ≡ None)
    × (life ≡ life_of (setting moment bands ∷ []))))
    → (unsent : List (List ℕ)) × (length unsent ≡ length life.answered)
    × (replies_to_from settings zone c h life.answered ≡ at_places c life.answered unsent)
told_of_set settings zone c h moment bands life (inl idle) = (
  [],
  sym (ap (λ l. length l.answered) idle),
  ap (λ l. replies_to_from settings zone c h l.answered) idle
      ∙ sym (ap (λ l. at_places c l.answered []) idle),
)
told_of_set settings zone c h moment bands life (inr (none, set)) =
    let text = rendered zone (setting moment bands) (reply settings h (meant (setting moment bands))) in (
      text ∷ [],
      sym (ap (λ l. length l.answered) set),
      ap (λ l. replies_to_from settings zone c h l.answered) set
          ∙ sym (ap (λ l. at_places c l.answered (text ∷ [])) set),
    )

told_by : (settings : Settings) (zone : Zone) (c : ℕ) (h : History) (run : Run) (life : Life Asked)
    → IsLifeIn settings zone h run life
    → IsTold c run life (replies_to_from settings zone c h life.answered)
told_by settings zone c h (Answers asked replies) life is =
    told_in settings zone c h asked replies life.answered life.in_flight is
told_by settings zone c h (Sets moment bands) life is =
    told_of_set settings zone c h moment bands life is

pub told_alike : (settings : Settings) (zone : Zone) (c : ℕ) (h k : History)
    (runs others : List Run) (lives more : List (Life Asked))
    → rendered_in_lives meant (rendered zone) settings c h lives
    ≡ rendered_in_lives meant (rendered zone) settings c k more
    → AreLivesOf settings zone h runs lives → AreLivesOf settings zone k others more
    → AreToldAlike c runs lives others more
told_alike settings zone c h k [] [] [] [] same are also = tt
told_alike settings zone c h k (r ∷ rs) (s ∷ ss) (l ∷ ls) (m ∷ ms) same are also =
    let first : replies_to_from settings zone c h l.answered ≡ replies_to_from settings zone c k m.answered =
    ap (λ all. get_or all 0 []) same in
    let one = told_by settings zone c h r l are.0 in
    let other = told_by settings zone c k s m also.0 in (
      (
        replies_to_from settings zone c h l.answered,
        one,
        subst (IsTold c s m) (sym first) other,
      ),
      told_alike settings zone c (life_history meant settings h l) (life_history meant settings k m)
          rs ss ls ms (ap (drop 1) same) are.1 also.1,
    )
told_alike settings zone c h k [] others (l ∷ ls) more same are also = absurd are
told_alike settings zone c h k (r ∷ rs) others [] more same are also = absurd are
told_alike settings zone c h k runs [] lives (m ∷ ms) same are also = absurd also
told_alike settings zone c h k runs (s ∷ ss) lives [] same are also = absurd also
told_alike settings zone c h k [] (s ∷ ss) [] (m ∷ ms) same are also = absurd (let x = ap (drop 0) same in cc)
told_alike settings zone c h k (r ∷ rs) [] (l ∷ ls) [] same are also = absurd (let x = ap (drop 0) same in cc)

-- two runs that tell a member alike gave it the same replies
pub same_replies : (c : ℕ) (asked other : List Asked) (replies answers : List (List ℕ))
    (life second : Life Asked)
    → AreToldAlike c (Answers asked replies ∷ []) (life ∷ []) (Answers other answers ∷ []) (second ∷ [])
    → at_places c life.answered (served_replies replies)
    ≡ at_places c second.answered (served_replies answers)
same_replies c asked other replies answers life second ((told, one, same), done) = sym one ∙ same
