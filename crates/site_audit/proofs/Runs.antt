-- Two lists, compared place by place.
use Rattle.std.proofs.Common.{◌≡◌, ◌≢◌, ◌∙◌, ◌+◌, ◌-◌, ◌≤◌, ◌++◌, ◌∷◌, [], ℕ, List, Bool, true, false, map, take, length, refl, sym, ap, subst, arith, Ok, Err, Result}
use Rattle.std.specs.Prelude.{IsErr, IsErrAnd}
use Rattle.std.specs.List.{AllZip}
use Rattle.std.proofs.lemmas.List.{map-append, take_all}
use Rattle.house_rows.specs.declared.message.Message.{Message}
use Rattle.house_rows.specs.declared.settings.Settings.{Settings}
use Rattle.house_rows.specs.History.{History}
use Rattle.house_rows.specs.Runs.{history_from}
use Rattle.house_rows.specs.Tables.{Tables, tables_of}
use Rattle.house_rows.specs.Verdict.{IsHistory}
use Rattle.settle.specs.declared.zone.Zone.{Zone}
use Rattle.site.specs.Replies.{next_of, reply_to}
use Rattle.site.specs.declared.engine.Site.{Site}
use Rattle.site.specs.Lives.{TwinRunsFrom, replies_to_from}
use Rattle.site.specs.Runs.{meant, rendered}
use Rattle.house_laws.specs.Alike.{AreAlike}
use Rattle.house_laws.proofs.Alike as laws
use Rattle.site_request.specs.declared.asked.Asked.{Asked}
use Rattle.site_request.specs.declared.fault.RequestFault.{RequestFault}
use Rattle.site_audit.specs.declared.fault.AuditFault.{AuditFault}
use Rattle.site_audit.specs.declared.fault.AuditFault.TheVariants.{Memory, Store, NotNew}
use Rattle.site_audit.specs.declared.verdict.Verdict.{Verdict}
use Rattle.site_audit.specs.declared.verdict.Verdict.TheVariants.{Equal, Apart}
use Rattle.site_audit.specs.Audits.{IsFound, IsVerdict, MayBegin, what_is_asked}
use Rattle.site_audit.specs.AuditsFrom.{AreEqualFrom, ArePartFrom, AreTwinTextsFrom, IsFoundFrom, heard_history}
use Rattle.site_audit.specs.Places.{GoesOn, Have, Heard, IsHeard, IsPlaceReported, IsTwinPlace, IsUsed, heard_message, reply_at}
use Rattle.site_audit.proofs.Places.{next_is}
use Rattle.site_audit.proofs.Lists.{zip_last, zip_length, zip_take}
use Rattle.site_audit.proofs.Twins.{TwinAt, history_more, replies_more, twins_last, twins_length, twins_more, twins_read, twins_take}

-- the texts so far are twin runs, the replies to the caller are kept, and the keeps have the tables
pub record SoFar {K : Type 0} (content : K → Tables) (settings : Settings) (zone : Zone) (c : ℕ)
    (h k : History) (lefts rights : List Heard) (replies : List (List ℕ)) (left right : K)
    : Type 0 where
  pub twins : AreTwinTextsFrom settings c h k lefts rights
  pub kept : replies ≡ replies_to_from settings zone c h (what_is_asked lefts)
  pub have : Have content settings (heard_history settings h lefts)
      (heard_history settings k rights) left right
  pub left_is : IsHistory settings (heard_history settings h lefts)
  pub right_is : IsHistory settings (heard_history settings k rights)

-- a place of twin runs, as twin runs say it
place_at : (settings : Settings) (c : ℕ) (h k : History) (x y : Heard)
    → IsTwinPlace settings c h k x y → TwinAt heard_message settings c h k x y
unfolding next_of
place_at settings c h k x y place = (place.paired, place.agree)

at_place : (settings : Settings) (c : ℕ) (h k : History) (x y : Heard)
    → TwinAt heard_message settings c h k x y → IsTwinPlace settings c h k x y
unfolding next_of
at_place settings c h k x y here = record { paired = here.0; agree = here.1 }

-- isolation, of what is asked
isolated : (settings : Settings) (zone : Zone) (c : ℕ) (h k : History) (left right : List Asked)
    → AreAlike settings c h k → TwinRunsFrom settings c h k left right
    → replies_to_from settings zone c h left ≡ replies_to_from settings zone c k right
isolated settings zone c h k left right alike twin =
    laws.rendered_same meant (rendered zone) settings c h k left right alike twin

-- the history after one more text
heard_more : (settings : Settings) (h : History) (heards : List Heard) (x : Heard)
    → heard_history settings h (heards ++ x ∷ [])
    ≡ next_of settings (heard_history settings h heards) x.asked
unfolding next_of
heard_more settings h heards x =
    ap (history_from settings h) (map-append heard_message heards (x ∷ []))
    ∙ history_more settings h (map heard_message heards) (heard_message x)

asked_more : (heards : List Heard) (x : Heard)
    → what_is_asked (heards ++ x ∷ []) ≡ what_is_asked heards ++ x.asked ∷ []
asked_more heards x = map-append (λ (heard : Heard). heard.asked) heards (x ∷ [])

asked_means : (heards : List Heard) → map meant (what_is_asked heards) ≡ map heard_message heards
asked_means [] = refl
asked_means (x ∷ heards) = ap (λ rest. heard_message x ∷ rest) (asked_means heards)

-- nothing was compared yet
pub so_far_none : {K : Type 0} (content : K → Tables) (settings : Settings) (zone : Zone) (c : ℕ)
    (h k : History) (left right : K) → IsHistory settings h → IsHistory settings k
    → content left ≡ tables_of settings h → content right ≡ tables_of settings k
    → SoFar content settings zone c h k [] [] [] left right
so_far_none content settings zone c h k left right is is' e d = record {
  twins = tt;
  kept = refl;
  have = record { left_has = e; right_has = d };
  left_is = is;
  right_is = is';
}

heard_replies_more : (settings : Settings) (zone : Zone) (c : ℕ) (h : History) (heards : List Heard)
    (x : Heard) → replies_to_from settings zone c h (what_is_asked (heards ++ x ∷ []))
    ≡ replies_to_from settings zone c h (what_is_asked heards)
    ++ reply_at settings zone c (heard_history settings h heards) x.asked
unfolding reply_to
heard_replies_more settings zone c h heards x =
    ap (replies_to_from settings zone c h) (asked_more heards x)
    ∙ replies_more meant (rendered zone) settings c h (what_is_asked heards) x.asked
    ∙ ap (λ (ms : List (Message RequestFault)). replies_to_from settings zone c h (what_is_asked heards)
    ++ reply_at settings zone c (history_from settings h ms) x.asked) (asked_means heards)

-- one more place that goes on
so_far_more : {K : Type 0} (content : K → Tables) (settings : Settings) (zone : Zone) (c : ℕ)
    (h k : History) (lefts rights : List Heard) (x y : Heard) (before after : List (List ℕ))
    (left right left_new right_new : K)
    → SoFar content settings zone c h k lefts rights before left right
    → GoesOn content settings zone c (heard_history settings h lefts)
    (heard_history settings k rights) x y before after left_new right_new
    → SoFar content settings zone c h k (lefts ++ x ∷ []) (rights ++ y ∷ []) after left_new right_new
so_far_more content settings zone c h k lefts rights x y before after left right left_new right_new
    so goes = record {
      twins = twins_more heard_message settings c h k lefts rights x y so.twins
          (place_at settings c _ _ x y goes.twin);
      kept = goes.kept
          ∙ ap (λ rs. rs ++ reply_at settings zone c (heard_history settings h lefts) x.asked)
          so.kept
          ∙ sym (heard_replies_more settings zone c h lefts x);
      have = record {
        left_has = goes.have.left_has
            ∙ ap (tables_of settings) (sym (heard_more settings h lefts x));
        right_has = goes.have.right_has
            ∙ ap (tables_of settings) (sym (heard_more settings k rights y));
      };
      left_is = subst (IsHistory settings) (sym (heard_more settings h lefts x))
          (next_is settings (heard_history settings h lefts) x.asked so.left_is);
      right_is = subst (IsHistory settings) (sym (heard_more settings k rights y))
          (next_is settings (heard_history settings k rights) y.asked so.right_is);
    }

-- the whole of both lists was compared
equal_of : {K : Type 0} (content : K → Tables) (settings : Settings) (zone : Zone) (c : ℕ)
    (h k : History) (lefts rights : List Heard) (replies : List (List ℕ)) (left right : K)
    → AreAlike settings c h k → SoFar content settings zone c h k lefts rights replies left right
    → AreEqualFrom content settings zone c h k lefts rights replies left right
equal_of content settings zone c h k lefts rights replies left right alike so = record {
  twins = so.twins;
  left = so.kept;
  right = so.kept ∙ isolated settings zone c h k (what_is_asked lefts) (what_is_asked rights) alike
      (twins_read (λ (heard : Heard). heard.asked) meant settings c h k lefts rights so.twins);
  left_tables = so.have.left_has;
  right_tables = so.have.right_has;
  alike = laws.alike_again heard_message settings c h k lefts rights alike so.twins;
}

-- the first place at which they are no twin runs
part_of : (settings : Settings) (c n : ℕ) (h k : History) (lefts rights : List Heard)
    → AreTwinTextsFrom settings c h k (take n lefts) (take n rights)
    → ¬ (AreTwinTextsFrom settings c h k (take (n + 1) lefts) (take (n + 1) rights))
    → ArePartFrom settings c h k lefts rights (n + 1)
part_of settings c n h k lefts rights before not =
    let one : (n + 1) - 1 ≡ n = omega arith in
    record {
      before = subst (λ m. AreTwinTextsFrom settings c h k (take m lefts) (take m rights)) (sym one)
          before;
      here = not;
      whole = λ twins. not (twins_take heard_message settings c (n + 1) h k lefts rights twins);
    }

-- the texts so far are twin runs
abbrev pub AreSoFar : ℕ → Settings → ℕ → History → History → List (List ℕ) → List (List ℕ) → Type 0
AreSoFar n settings c h k texts others = (lefts rights : List Heard)
    → AllZip IsHeard (take n texts) lefts → AllZip IsHeard (take n others) rights
    → AreTwinTextsFrom settings c h k lefts rights

-- the text at the next place, as it was heard
pub next_heard : (n : ℕ) (texts : List (List ℕ)) (t : List ℕ) (heards : List Heard)
    → AllZip IsHeard texts heards → take (n + 1) texts ≡ take n texts ++ t ∷ []
    → (front : List Heard) × (x : Heard) × (take (n + 1) heards ≡ front ++ x ∷ [])
    × AllZip IsHeard (take n texts) front × IsHeard t x
next_heard n texts t heards are more =
    zip_last IsHeard (take n texts) t (take (n + 1) heards)
    (subst (λ l. AllZip IsHeard l (take (n + 1) heards)) more
    (zip_take IsHeard (n + 1) texts heards are))

-- a place that is none of twin runs parts them
pub part_place : (settings : Settings) (c n : ℕ) (h k : History) (texts others : List (List ℕ))
    (t o : List ℕ) (lefts rights : List Heard) → AllZip IsHeard texts lefts
    → AllZip IsHeard others rights
    → take (n + 1) texts ≡ take n texts ++ t ∷ [] → take (n + 1) others ≡ take n others ++ o ∷ []
    → AreSoFar n settings c h k texts others
    → ((fs gs : List Heard) → AllZip IsHeard (take n texts) fs → AllZip IsHeard (take n others) gs
    → (x y : Heard) → IsHeard t x → IsHeard o y
    → ¬ (IsTwinPlace settings c (heard_history settings h fs) (heard_history settings k gs) x y))
    → ArePartFrom settings c h k lefts rights (n + 1)
part_place settings c n h k texts others t o lefts rights are others_are more more' so not =
    let (fs, x, e, fs_are, is) = next_heard n texts t lefts are more in
    let (gs, y, d, gs_are, is') = next_heard n others o rights others_are more' in
    part_of settings c n h k lefts rights
    (so (take n lefts) (take n rights) (zip_take IsHeard n texts lefts are)
    (zip_take IsHeard n others rights others_are))
    (λ twins. not fs gs fs_are gs_are x y is is'
    (at_place settings c (heard_history settings h fs) (heard_history settings k gs) x y
    (twins_last heard_message settings c h k fs gs x y (so fs gs fs_are gs_are)
    (subst (λ l. AreTwinTextsFrom settings c h k l (gs ++ y ∷ [])) e
    (subst (λ l. AreTwinTextsFrom settings c h k (take (n + 1) lefts) l) d twins)))))

-- and so does the end of one of them
pub part_end : (settings : Settings) (c n : ℕ) (h k : History) (texts others : List (List ℕ))
    (lefts rights : List Heard) → AllZip IsHeard texts lefts → AllZip IsHeard others rights
    → AreSoFar n settings c h k texts others
    → length (take (n + 1) texts) ≢ length (take (n + 1) others)
    → ArePartFrom settings c h k lefts rights (n + 1)
part_end settings c n h k texts others lefts rights are others_are so not =
    part_of settings c n h k lefts rights
    (so (take n lefts) (take n rights) (zip_take IsHeard n texts lefts are)
    (zip_take IsHeard n others rights others_are))
    (λ twins. not (sym (zip_length IsHeard _ _ (zip_take IsHeard (n + 1) texts lefts are))
    ∙ twins_length heard_message settings c h k _ _ twins
    ∙ zip_length IsHeard _ _ (zip_take IsHeard (n + 1) others rights others_are)))

-- two keeps have the tables of two histories
abbrev pub BeginWith : {K : Type 0} → (K → Tables) → Settings → History → History → K → K → Type 0
BeginWith content settings h k left right = IsHistory settings h × IsHistory settings k
    × (content left ≡ tables_of settings h) × (content right ≡ tables_of settings k)

-- what was compared so far, of houses that had any two histories
abbrev pub Compared : {K : Type 0} → (K → Tables) → (K → Type 0) → Zone → ℕ → K → K
    → List (List ℕ) → List (List ℕ) → ℕ → List (List ℕ) → K → K → Type 0
Compared content is_honest zone c first first' texts others n replies left right =
    is_honest left → is_honest right → (settings : Settings) (h k : History)
    → BeginWith content settings h k first first' → (lefts rights : List Heard)
    → AllZip IsHeard (take n texts) lefts → AllZip IsHeard (take n others) rights
    → SoFar content settings zone c h k lefts rights replies left right

-- the result for the next place
abbrev pub CommandResult : {K : Type 0} → (K → Tables) → (K → Bool) → (K → Type 0) → Zone → ℕ → List ℕ
    → List ℕ → List (List ℕ) → List (List ℕ) → K → K → K → K → Result Bool AuditFault → Type 0
CommandResult content is_failed is_honest zone c t o before after left right left_new right_new result =
    is_honest left_new → is_honest right_new → (settings : Settings) (h k : History)
    → IsHistory settings h → IsHistory settings k → content left ≡ tables_of settings h
    → content right ≡ tables_of settings k → (x y : Heard) → IsHeard t x → IsHeard o y
    → IsPlaceReported content is_failed settings zone c h k x y before after left_new right_new result

pub compared_none : {K : Type 0} (content : K → Tables) (is_honest : K → Type 0) (zone : Zone)
    (c : ℕ) (left right : K) (texts others : List (List ℕ))
    → Compared content is_honest zone c left right texts others 0 [] left right
compared_none content is_honest zone c left right texts others honest honest' settings h k begin
    lefts rights are others_are = none lefts rights are others_are
  where
    none : (lefts rights : List Heard) → AllZip IsHeard [] lefts → AllZip IsHeard [] rights
        → SoFar content settings zone c h k lefts rights [] left right
    none [] [] are others_are =
        so_far_none content settings zone c h k left right begin.0 begin.1 begin.2 begin.3
    none [] (y ∷ rights) are others_are = absurd others_are
    none (x ∷ lefts) rights are others_are = absurd are

-- one more place
pub compared_more : {K : Type 0} (content : K → Tables) (is_failed : K → Bool)
    (is_honest : K → Type 0) (zone : Zone) (c : ℕ) (first first' : K) (texts others : List (List ℕ))
    (n : ℕ) (t o : List ℕ) (before after : List (List ℕ)) (left right left_new right_new : K)
    → Compared content is_honest zone c first first' texts others n before left right
    → (is_honest left_new → is_honest left) → (is_honest right_new → is_honest right)
    → take (n + 1) texts ≡ take n texts ++ t ∷ [] → take (n + 1) others ≡ take n others ++ o ∷ []
    → CommandResult content is_failed is_honest zone c t o before after left right left_new right_new
    (Ok true)
    → Compared content is_honest zone c first first' texts others (n + 1) after left_new right_new
compared_more content is_failed is_honest zone c first first' texts others n t o before after left
    right left_new right_new so was was' more more' report honest honest' settings h k begin lefts
    rights are others_are =
    let (fs, x, p, fs_are, is) = zip_last IsHeard (take n texts) t lefts
    (subst (λ l. AllZip IsHeard l lefts) more are) in
    let (gs, y, q, gs_are, is') = zip_last IsHeard (take n others) o rights
    (subst (λ l. AllZip IsHeard l rights) more' others_are) in
    let run = so (was honest) (was' honest') settings h k begin fs gs fs_are gs_are in
    rw (p, q) (so_far_more content settings zone c h k fs gs x y before after left right left_new
    right_new run
    (report honest honest' settings (heard_history settings h fs) (heard_history settings k gs)
    run.left_is run.right_is run.have.left_has run.have.right_has x y is is'))

-- the next place is none of twin runs
pub found_apart : {K : Type 0} (content : K → Tables) (is_failed : K → Bool)
    (is_honest : K → Type 0) (zone : Zone) (c : ℕ) (first first' : K) (texts others : List (List ℕ))
    (n : ℕ) (t o : List ℕ) (before after : List (List ℕ)) (left right left_new right_new : K)
    → Compared content is_honest zone c first first' texts others n before left right
    → (is_honest left_new → is_honest left) → (is_honest right_new → is_honest right)
    → take (n + 1) texts ≡ take n texts ++ t ∷ [] → take (n + 1) others ≡ take n others ++ o ∷ []
    → CommandResult content is_failed is_honest zone c t o before after left right left_new right_new
    (Ok false)
    → is_honest left_new → is_honest right_new → (settings : Settings) (h k : History)
    → BeginWith content settings h k first first'
    → (lefts rights : List Heard) → AllZip IsHeard texts lefts → AllZip IsHeard others rights
    → ArePartFrom settings c h k lefts rights (n + 1)
found_apart content is_failed is_honest zone c first first' texts others n t o before after left
    right left_new right_new so was was' more more' report honest honest' settings h k begin lefts
    rights are others_are =
    let run = so (was honest) (was' honest') settings h k begin in
    part_place settings c n h k texts others t o lefts rights are others_are more more'
    (λ fs gs fs_are gs_are. (run fs gs fs_are gs_are).twins)
    (λ fs gs fs_are gs_are x y is is'.
    report honest honest' settings (heard_history settings h fs) (heard_history settings k gs)
    (run fs gs fs_are gs_are).left_is (run fs gs fs_are gs_are).right_is
    (run fs gs fs_are gs_are).have.left_has (run fs gs fs_are gs_are).have.right_has x y is is')

-- a fault of the next place
pub found_fault : {K : Type 0} (content : K → Tables) (is_failed : K → Bool)
    (is_honest : K → Type 0) (zone : Zone) (c : ℕ) (first first' : K) (texts others : List (List ℕ))
    (n : ℕ) (t o : List ℕ) (before after : List (List ℕ)) (left right left_new right_new : K)
    (fault : AuditFault)
    → Compared content is_honest zone c first first' texts others n before left right
    → (is_honest left_new → is_honest left) → (is_honest right_new → is_honest right)
    → take (n + 1) texts ≡ take n texts ++ t ∷ [] → take (n + 1) others ≡ take n others ++ o ∷ []
    → CommandResult content is_failed is_honest zone c t o before after left right left_new right_new
    (Err fault)
    → is_honest left_new → is_honest right_new → (settings : Settings) (h k : History)
    → BeginWith content settings h k first first'
    → (lefts rights : List Heard) → AllZip IsHeard texts lefts → AllZip IsHeard others rights
    → IsFoundFrom content is_failed settings zone c h k lefts rights left_new right_new (Err fault)
found_fault content is_failed is_honest zone c first first' texts others n t o before after left
    right left_new right_new fault so was was' more more' report honest honest' settings h k begin
    lefts rights are others_are =
    let (fs, x, p, fs_are, is) = next_heard n texts t lefts are more in
    let (gs, y, q, gs_are, is') = next_heard n others o rights others_are more' in
    let run = so (was honest) (was' honest') settings h k begin fs gs fs_are gs_are in
    by_fault fault (heard_history settings h fs) (heard_history settings k gs) x y
    (report honest honest' settings (heard_history settings h fs) (heard_history settings k gs)
    run.left_is run.right_is run.have.left_has run.have.right_has x y is is')
  where
    by_fault : (fault : AuditFault) (g j : History) (x y : Heard)
        → IsPlaceReported content is_failed settings zone c g j x y before after left_new right_new
        (Err fault)
        → IsFoundFrom content is_failed settings zone c h k lefts rights left_new right_new
        (Err fault)
    by_fault Memory g j x y report = tt
    by_fault Store g j x y report = report
    by_fault NotNew g j x y report = report

-- one list has ended
pub found_end : {K : Type 0} (content : K → Tables) (is_honest : K → Type 0) (zone : Zone) (c : ℕ)
    (first first' : K) (texts others : List (List ℕ)) (n : ℕ) (replies : List (List ℕ))
    (left right : K)
    → Compared content is_honest zone c first first' texts others n replies left right
    → length (take (n + 1) texts) ≢ length (take (n + 1) others)
    → is_honest left → is_honest right → (settings : Settings) (h k : History)
    → BeginWith content settings h k first first'
    → (lefts rights : List Heard) → AllZip IsHeard texts lefts → AllZip IsHeard others rights
    → ArePartFrom settings c h k lefts rights (n + 1)
found_end content is_honest zone c first first' texts others n replies left right so not honest
    honest' settings h k begin lefts rights are others_are =
    part_end settings c n h k texts others lefts rights are others_are
    (λ fs gs fs_are gs_are. (so honest honest' settings h k begin fs gs fs_are gs_are).twins) not

-- both have
pub found_equal : {K : Type 0} (content : K → Tables) (is_honest : K → Type 0) (zone : Zone) (c : ℕ)
    (first first' : K) (texts others : List (List ℕ)) (n : ℕ) (replies : List (List ℕ))
    (left right : K)
    → Compared content is_honest zone c first first' texts others n replies left right
    → length texts ≤ n → length others ≤ n
    → is_honest left → is_honest right → (settings : Settings) (h k : History)
    → BeginWith content settings h k first first' → AreAlike settings c h k
    → (lefts rights : List Heard) → AllZip IsHeard texts lefts → AllZip IsHeard others rights
    → AreEqualFrom content settings zone c h k lefts rights replies left right
found_equal content is_honest zone c first first' texts others n replies left right so few few'
    honest honest' settings h k begin alike lefts rights are others_are =
    equal_of content settings zone c h k lefts rights replies left right alike
    (so honest honest' settings h k begin lefts rights
    (subst (λ l. AllZip IsHeard l lefts) (sym (take_all n texts few)) are)
    (subst (λ l. AllZip IsHeard l rights) (sym (take_all n others few')) others_are))

-- the same, by an equal zone and an equal result
pub report_by : {K : Type 0} (content : K → Tables) (is_failed : K → Bool) (is_honest : K → Type 0)
    (zone zone' : Zone) (c : ℕ) (t o : List ℕ) (before after : List (List ℕ))
    (left right left_new right_new : K) (result result' : Result Bool AuditFault) → zone ≡ zone'
    → result ≡ result'
    → CommandResult content is_failed is_honest zone c t o before after left right left_new right_new result
    → CommandResult content is_failed is_honest zone' c t o before after left right left_new right_new result'
report_by content is_failed is_honest zone zone' c t o before after left right left_new right_new
    result result' e d report =
    subst (λ r. CommandResult content is_failed is_honest zone' c t o before after left right left_new
    right_new r) d
    (subst (λ z. CommandResult content is_failed is_honest z c t o before after left right left_new
    right_new result) e report)

-- the fault that a fault was made into
pub found_gave : {K : Type 0} (content : K → Tables) (is_failed : K → Bool) (settings : Settings)
    (zone : Zone) (c : ℕ) (h k : History) (lefts rights : List Heard) (left right : K)
    (fault : AuditFault) (result : Result Verdict AuditFault)
    → IsErr result × IsErrAnd result (λ report. report ≡ fault)
    → IsFoundFrom content is_failed settings zone c h k lefts rights left right (Err fault)
    → IsFoundFrom content is_failed settings zone c h k lefts rights left right result
found_gave content is_failed settings zone c h k lefts rights left right fault (Ok verdict) gave
    found = absurd gave.1
found_gave content is_failed settings zone c h k lefts rights left right fault (Err report) gave
    found =
    subst (λ f. IsFoundFrom content is_failed settings zone c h k lefts rights left right (Err f))
    (sym gave.1) found

-- a site that was used twice
pub used_twice : {K : Type 0} (is_failed : K → Bool) (is_honest : K → Type 0)
    (first old new : Site K) → IsUsed is_failed is_honest first old
    → IsUsed is_failed is_honest old new → IsUsed is_failed is_honest first new
used_twice is_failed is_honest first old new a b = record {
  honest = λ honest. a.honest (b.honest honest);
  stays = λ failed. b.stays (a.stays failed);
  zone = b.zone ∙ a.zone;
}

-- over new houses it is what is found of new houses
pub found_new : {K : Type 0} (content : K → Tables) (is_failed : K → Bool) (settings : Settings)
    (zone : Zone) (c : ℕ) (lefts rights : List Heard) (left right : K)
    (result : Result Verdict AuditFault)
    → IsFoundFrom content is_failed settings zone c [] [] lefts rights left right result
    → IsFound content is_failed settings zone c lefts rights left right result
found_new content is_failed settings zone c lefts rights left right (Ok (Equal replies)) found =
    record {
      twins = found.twins;
      left = found.left;
      right = found.right;
      left_tables = found.left_tables;
      right_tables = found.right_tables;
    }
found_new content is_failed settings zone c lefts rights left right (Ok (Apart step)) found =
    record { before = found.before; here = found.here; whole = found.whole }
found_new content is_failed settings zone c lefts rights left right (Err Memory) found = tt
found_new content is_failed settings zone c lefts rights left right (Err Store) found = found
found_new content is_failed settings zone c lefts rights left right (Err NotNew) found = found

-- what is found of houses that an audit could begin with is its verdict
pub verdict_of : {K : Type 0} (content : K → Tables) (is_failed : K → Bool) (settings : Settings)
    (zone zone' : Zone) (c : ℕ) (lefts rights : List Heard) (left right left_new right_new : K)
    (result : Result Verdict AuditFault) → MayBegin (content left) (content right) → zone ≡ zone'
    → IsFound content is_failed settings zone c lefts rights left_new right_new result
    → IsVerdict content is_failed settings zone' c lefts rights left right left_new right_new result
verdict_of content is_failed settings zone zone' c lefts rights left right left_new right_new
    (Ok verdict) may e found = (
      may,
      subst (λ z. IsFound content is_failed settings z c lefts rights left_new right_new
          (Ok verdict)) e found,
    )
verdict_of content is_failed settings zone zone' c lefts rights left right left_new right_new
    (Err Memory) may e found = tt
verdict_of content is_failed settings zone zone' c lefts rights left right left_new right_new
    (Err Store) may e found = found
verdict_of content is_failed settings zone zone' c lefts rights left right left_new right_new
    (Err NotNew) may e found = absurd found
