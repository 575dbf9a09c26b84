-- Messages taken off a stream, one after another.
use Rattle.std.proofs.Common.{◌≡◌, ◌≢◌, ℕ, ◌+◌, ◌-◌, ◌<◌, ◌≤◌, List, [], ◌∷◌, ◌++◌, ◌⊎◌, inl, inr, suc, Bool, true, false, length, refl, sym, ap, ◌∙◌, subst, map, arith, append-nil, append_assoc, length-append}
use Rattle.std.specs.Prelude.{MatchBool}
use Rattle.std.specs.List.{concat}
use Rattle.wire.specs.Cut.{Cut, IsRest, Stop, closed, limit, clean, broken}
use Rattle.wire.specs.Fields.{ends_connection}
use Rattle.wire.specs.Frame.{IsMessageAt}
use Rattle.wire.specs.Message.{Message}
use Rattle.wire.specs.Front.{EndsInBody, EndsInHead}
use Rattle.wire.specs.declared.fault.WireFault.TheVariants as fault
use Rattle.wire.proofs.Fronts.{ends_in_head, message_stays}
use Rattle.site.specs.Runs.{InTurn}
use Rattle.site_request.specs.declared.asked.Asked.{Asked}
use Rattle.site_serve.specs.Serving.{heard}

-- whether the connection ends after a message
abbrev pub ends : Message → Bool
ends m = ends_connection m.minor m.fields

-- the bytes are these whole messages, none of which ends the connection, and then the rest
abbrev pub TakenOff : List ℕ → List Message → List ℕ → Type 0
TakenOff bytes [] rest = bytes ≡ rest
TakenOff bytes (m ∷ messages) rest =
    (after : List ℕ) × IsMessageAt bytes m after × (ends m ≡ false) × TakenOff after messages rest

pub off_more : (messages : List Message) (bytes rest more : List ℕ) → TakenOff bytes messages rest → TakenOff (bytes ++ more) messages
    (rest ++ more)
off_more [] bytes rest more e = ap (λ l. l ++ more) e
off_more (m ∷ messages) bytes rest more (after, here, on, off) =
    (after ++ more, message_stays bytes more m after here, on, off_more messages after rest more off)

pub off_push : (messages : List Message) (bytes held after : List ℕ) (m : Message) → TakenOff bytes messages held → IsMessageAt held m after
    → ends m ≡ false
    → TakenOff bytes (messages ++ m ∷ []) after
off_push [] bytes held after m e here on = (after, subst (λ l. IsMessageAt l m after) (sym e) here, on, refl)
off_push (n ∷ messages) bytes held after m (mid, there, also, off) here on = (mid, there, also, off_push messages mid held after m off here on)

goes_on : (t : Bool) (A B : Type 0) → t ≡ false → B → MatchBool t A B
goes_on false A B e b = b
goes_on true A B e b = absurd cc

goes_out : (t : Bool) (A B : Type 0) → t ≡ true → A → MatchBool t A B
goes_out true A B e a = a
goes_out false A B e a = absurd cc

-- where nothing more is taken off, that is the cut
pub cut_of : (messages : List Message) (bytes rest : List ℕ) (most : ℕ) (stop : Stop) → TakenOff bytes messages rest
    → length messages ≤ most
    → IsRest rest (most - length messages) stop → Cut bytes most messages rest stop
cut_of [] bytes rest most stop e few is =
    let all : most - 0 ≡ most = omega arith in (e, subst (λ n. IsRest rest n stop) all is)
cut_of (m ∷ messages) bytes rest most stop (after, here, on, off) few is =
    let less : most - length (m ∷ messages) ≡ most - 1 - length messages = omega arith in (
      omega (arith, few),
      after,
      here,
      goes_on (ends m) _ _ on (cut_of messages after rest (most - 1) stop off (omega (arith, few)) (subst (λ n. IsRest rest n stop) less is)),
    )

-- and so it is after a message that ends the connection
pub cut_closed : (messages : List Message) (bytes held after : List ℕ) (most : ℕ) (m : Message) → TakenOff bytes messages held
    → IsMessageAt held m after → ends m ≡ true
    → length messages < most → Cut bytes most (messages ++ m ∷ []) after closed
cut_closed [] bytes held after most m e here out fewer =
    (omega (arith, fewer), after, subst (λ l. IsMessageAt l m after) (sym e) here, goes_out (ends m) _ _ out (refl, refl, refl))
cut_closed (n ∷ messages) bytes held after most m (mid, there, on, off) here out fewer =
    (omega (arith, fewer), mid, there, goes_on (ends n) _ _ on (cut_closed messages mid held after (most - 1) m off here out (omega (arith, fewer))))

pub turn_push : {K : Type 0} (Step : Asked → List ℕ → K → K → Type 0) (messages : List Message) (replies : List (List ℕ)) (m : Message)
    (r : List ℕ) (old mid new : K)
    → InTurn Step (map heard messages) replies old mid → Step (heard m) r mid new → InTurn Step (map heard (messages ++ m ∷ []))
    (replies ++ r ∷ []) old new
turn_push Step [] [] m r old mid new e step = (new, subst (λ k. Step (heard m) r k new) e step, refl)
turn_push Step [] (s ∷ replies) m r old mid new turn step = absurd turn
turn_push Step (n ∷ messages) [] m r old mid new turn step = absurd turn
turn_push Step (n ∷ messages) (s ∷ replies) m r old mid new (k, first, turn) step = (k, first, turn_push Step messages replies m r k mid new turn step)

pub turn_length : {K : Type 0} (Step : Asked → List ℕ → K → K → Type 0) (messages : List Message) (replies : List (List ℕ)) (old new : K)
    → InTurn Step (map heard messages) replies old new → length replies ≡ length messages
turn_length Step [] [] old new turn = refl
turn_length Step [] (s ∷ replies) old new turn = absurd turn
turn_length Step (n ∷ messages) [] old new turn = absurd turn
turn_length Step (n ∷ messages) (s ∷ replies) old new (k, first, turn) = ap suc (turn_length Step messages replies k new turn)

pub concat_push : (texts : List (List ℕ)) (text : List ℕ) → concat (texts ++ text ∷ []) ≡ concat texts ++ text
concat_push [] text = append-nil text
concat_push (t ∷ texts) text = ap (λ l. t ++ l) (concat_push texts text) ∙ sym (append_assoc t (concat texts) text)

-- the last of some
pub last_of : (texts : List (List ℕ)) → 0 < length texts → (whole : List (List ℕ)) × (last : List ℕ) × (texts ≡ whole ++ last ∷ [])
last_of [] some = absurd (omega arith)
last_of (t ∷ texts) some = rest_after texts t
  where
    rest_after : (texts : List (List ℕ)) (t : List ℕ) → (whole : List (List ℕ)) × (last : List ℕ) × (t ∷ texts ≡ whole ++ last ∷ [])
    rest_after [] t = ([], t, refl)
    rest_after (u ∷ texts) t = let (whole, last, e) = rest_after texts u in (t ∷ whole, last, ap (λ l. t ∷ l) e)

-- the cut after a last message, whether it ends the connection or not
pub cut_last : (messages : List Message) (bytes held after : List ℕ) (m : Message) → TakenOff bytes messages held → IsMessageAt held m after
    → (stop : Stop) × Cut bytes (length messages + 1) (messages ++ m ∷ []) after stop
cut_last messages bytes held after m off here = by_test (ends m) refl
  where
    by_test : (t : Bool) → ends m ≡ t → (stop : Stop) × Cut bytes (length messages + 1) (messages ++ m ∷ []) after stop
    by_test true out = (closed, cut_closed messages bytes held after (length messages + 1) m off here out (omega arith))
    by_test false on =
        let size = length-append messages (m ∷ []) in
        (limit, cut_of (messages ++ m ∷ []) bytes after (length messages + 1) limit (off_push messages bytes held after m off here on) (omega (arith, size)) (omega (arith, size)))

-- why nothing more is taken off bytes that end inside a message, or between two, where more may come
pub by_end : (held : List ℕ) (most : ℕ) → 0 < most → EndsInHead held ⊎ EndsInBody held
    → (stop : Stop) × IsRest held most stop × (stop ≢ closed) × (stop ≢ limit)
by_end [] most more unfinished = (clean, (more, refl), (λ e. cc), (λ e. cc))
by_end (b ∷ held) most more (inl ends) =
    (broken fault.Head, (more, (λ e. cc), ends_in_head (b ∷ held) ends), (λ e. cc), (λ e. cc))
by_end (b ∷ held) most more (inr ends) = (broken fault.End, (more, (λ e. cc), ends.0), (λ e. cc), (λ e. cc))
