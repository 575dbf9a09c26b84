-- Connections that are taken in turn, and the orders of lots, are messages in turn.
use Rattle.std.proofs.Common.{◌≡◌, ◌∙◌, ◌++◌, ℕ, zero, suc, List, [], ◌∷◌, Option, Result, map, inl, inr, ap, arith, append-nil, append_assoc, refl, subst, sym}
use Rattle.std.specs.List.{AllZip, FoldsTo}
use Rattle.device.specs.declared.failure.Failure.{Failure}
use Rattle.device.specs.declared.sink.Sink as sink
use Rattle.device.specs.declared.source.Source as source
use Rattle.house_rows.specs.declared.keep.Keep as keep
use Rattle.office.specs.Imports.{IsOrder}
use Rattle.office.specs.Listings.{IsOrderOf}
use Rattle.office.specs.declared.lot.Lot.{Lot}
use Rattle.office.specs.declared.lister.Lister.{Lister}
use Rattle.settle.specs.declared.zone.Zone.{Zone}
use Rattle.site.specs.Replies.{IsStep}
use Rattle.site.specs.Runs.{InTurn}
use Rattle.site_connections.specs.Turns.{HasTakenSome, Takes, TakesEach, TakesWell}
use Rattle.site_connections.specs.declared.connection.Connection.{Connection}
use Rattle.site_request.specs.declared.asked.Asked.{Asked}
use Rattle.site_serve.specs.Serving.{heard}
use Rattle.site_serve.specs.declared.server.ServeFault.{ServeFault}
use Rattle.site_serve.specs.declared.server.Served.{Served}
use Rattle.lives.specs.Exchanges.{HasExchanged, IsThen, TakesAs, TakesEachAs}
use Rattle.lives.specs.Lives.{AreInTurn}

-- messages in turn, and then others
then_others : {K : Type 0} (Step : Asked → List ℕ → K → K → Type 0) (ms ns : List Asked)
    (rs ss : List (List ℕ)) (old mid new : K) → InTurn Step ms rs old mid → InTurn Step ns ss mid new
    → InTurn Step (ms ++ ns) (rs ++ ss) old new
then_others Step [] ns [] ss old mid new same others =
    subst (λ k. InTurn Step ns ss k new) same others
then_others Step (m ∷ ms) ns (r ∷ rs) ss old mid new (next, one, rest) others =
    (next, one, then_others Step ms ns rs ss next mid new rest others)
then_others Step [] ns (r ∷ rs) ss old mid new differ others = absurd differ
then_others Step (m ∷ ms) ns [] ss old mid new differ others = absurd differ

-- and as much of them
joined : {K : Type 0} (Step : Asked → List ℕ → K → K → Type 0) (old mid new : K)
    → AreInTurn Step old mid → AreInTurn Step mid new → AreInTurn Step old new
joined Step old mid new first later = record {
  asked = first.asked ++ later.asked;
  replies = first.replies ++ later.replies;
  turn = then_others Step first.asked later.asked first.replies later.replies old mid new first.turn
      later.turn;
}

-- the orders of lots, in turn
pub orders_in_turn : {K : Type 0} (Step : Asked → List ℕ → K → K → Type 0) (by : Lister)
    (lots : List Lot) (old new : K) → FoldsTo (IsOrder Step by) old lots new
    → (asked : List Asked) × (replies : List (List ℕ)) × AllZip (IsOrderOf by) lots asked
    × InTurn Step asked replies old new
orders_in_turn Step by [] old new same = ([], [], tt, sym same)
orders_in_turn Step by (lot ∷ lots) old new (mid, one, rest) =
    let (asked, replies, orders, turn) = orders_in_turn Step by lots mid new rest in
    (one.asked ∷ asked, one.reply ∷ replies, (one.order, orders), (mid, one.step, turn))

-- the same messages and replies
same_turn : {K : Type 0} (Step : Asked → List ℕ → K → K → Type 0) (asked others : List Asked)
    (replies answers : List (List ℕ)) (old new : K) → asked ≡ others → replies ≡ answers
    → InTurn Step others answers old new → InTurn Step asked replies old new
same_turn Step asked others replies answers old new same same' turn =
    subst (λ ms. InTurn Step ms replies old new) (sym same)
    (subst (λ rs. InTurn Step others rs old new) (sym same') turn)

-- one more connection after those that were taken
each_more : {S : Type 0} (T : List Asked → List (List ℕ) → S → S → Type 0) (n : ℕ)
    (asked : List Asked) (replies : List (List ℕ)) (ms : List Asked) (rs : List (List ℕ))
    (old mid new : S) → TakesEachAs T n asked replies old mid → T ms rs mid new
    → TakesEachAs T (suc n) (asked ++ ms) (replies ++ rs) old new
each_more T zero asked replies ms rs old mid new (same, none, nothing) one =
    let r : IsThen T (λ later more a b. TakesEachAs T zero later more a b) (asked ++ ms)
    (replies ++ rs) old new = record {
      mid = new;
      first_asked = ms;
      first_replies = rs;
      first = subst (λ s. T ms rs s new) same one;
      later_asked = [];
      later_replies = [];
      later = (refl, refl, refl);
      asked_so = ap (λ l. l ++ ms) none ∙ sym (append-nil ms);
      replied_so = ap (λ l. l ++ rs) nothing ∙ sym (append-nil rs);
    } in
    r
each_more T (suc n) asked replies ms rs old mid new each one =
    let r : IsThen T (λ later more a b. TakesEachAs T (suc n) later more a b) (asked ++ ms)
    (replies ++ rs) old new = record {
      mid = each.mid;
      first_asked = each.first_asked;
      first_replies = each.first_replies;
      first = each.first;
      later_asked = each.later_asked ++ ms;
      later_replies = each.later_replies ++ rs;
      later = each_more T n each.later_asked each.later_replies ms rs each.mid mid new each.later one;
      asked_so = ap (λ l. l ++ ms) each.asked_so
          ∙ append_assoc each.first_asked each.later_asked ms;
      replied_so = ap (λ l. l ++ rs) each.replied_so
          ∙ append_assoc each.first_replies each.later_replies rs;
    } in
    r

-- connections
module _ {C K R W : Type 0} (k : keep.Ghosts K) (input : source.Ghosts R) (output : sink.Ghosts W)
    (accepts : C → Result (Option (Connection R W)) Failure → C → Type 0)
    (ends : C → Connection R W → Result Served ServeFault → C → Type 0) (zone : Zone) (most : ℕ)
  where
    of_one : (old new : C × K) → Takes k input output accepts ends zone most old new
        → AreInTurn (IsStep k.content k.is_failed k.is_honest k.may_leave zone) old.1 new.1
    of_one old new (inl answered) = record {
      asked = map heard answered.served.crash.messages;
      replies = answered.served.crash.replies;
      turn = answered.served.crash.answered;
    }
    of_one old new (inr given_up) = record { asked = []; replies = []; turn = given_up.same }

    of_each : (n : ℕ) (old new : C × K)
        → TakesEach (TakesWell k.is_failed (Takes k input output accepts ends zone most)) n old new
        → AreInTurn (IsStep k.content k.is_failed k.is_honest k.may_leave zone) old.1 new.1
    of_each zero old new same = record { asked = []; replies = []; turn = ap (λ s. s.1) same }
    of_each (suc n) old new (mid, one, rest) =
        joined (IsStep k.content k.is_failed k.is_honest k.may_leave zone) old.1 mid.1 new.1
        (of_one old mid one.0) (of_each n mid new rest)

    pub of_some : (count : ℕ) (old : C × K) (last : K)
        → HasTakenSome k.is_failed (Takes k input output accepts ends zone most) count old last
        → AreInTurn (IsStep k.content k.is_failed k.is_honest k.may_leave zone) old.1 last
    of_some count old last some = elim some.taken [
      | inl taken ↦ of_each taken.taken old (some.last, last) taken.each
      | inr failed ↦ joined (IsStep k.content k.is_failed k.is_honest k.may_leave zone) old.1
          failed.mid.1 last (of_each failed.before old failed.mid failed.each)
          (of_one failed.mid (some.last, last) failed.last)
    ]

    -- what is asked and replied over one connection
    one_as : (old new : C × K) → Takes k input output accepts ends zone most old new
        → (asked : List Asked) × (replies : List (List ℕ))
        × TakesAs k input output accepts ends zone most asked replies old new
    one_as old new (inl answered) = (
      map heard answered.served.crash.messages,
      answered.served.crash.replies,
      inl (record { answered = answered; read = refl; replied = refl }),
    )
    one_as old new (inr given_up) =
        ([], [], inr (record { given_up = given_up; none = refl; nothing = refl }))

    each_as : (n : ℕ) (old new : C × K)
        → TakesEach (TakesWell k.is_failed (Takes k input output accepts ends zone most)) n old new
        → (asked : List Asked) × (replies : List (List ℕ))
        × TakesEachAs (TakesAs k input output accepts ends zone most) n asked replies old new
    each_as zero old new same = ([], [], (same, refl, refl))
    each_as (suc n) old new (mid, one, rest) =
        let (first, firsts, taken) = one_as old mid one.0 in
        let (later, laters, others) = each_as n mid new rest in (
          first ++ later,
          firsts ++ laters,
          record {
            mid = mid;
            first_asked = first;
            first_replies = firsts;
            first = taken;
            later_asked = later;
            later_replies = laters;
            later = others;
            asked_so = refl;
            replied_so = refl;
          },
        )

    pub some_as : (count : ℕ) (old : C × K) (last : K)
        → HasTakenSome k.is_failed (Takes k input output accepts ends zone most) count old last
        → (asked : List Asked) × (replies : List (List ℕ))
        × HasExchanged (TakesAs k input output accepts ends zone most) count asked replies old last
    some_as count old last some = elim some.taken [
      | inl taken ↦
          let (asked, replies, each) = each_as taken.taken old (some.last, last) taken.each in (
            asked,
            replies,
            record {
              last = some.last;
              taken = taken.taken;
              within = taken.within;
              each = each;
            },
          )
      | inr failed ↦
          let (first, firsts, each) = each_as failed.before old failed.mid failed.each in
          let (later, laters, one) = one_as failed.mid (some.last, last) failed.last in (
            first ++ later,
            firsts ++ laters,
            record {
              last = some.last;
              taken = suc failed.before;
              within = omega (arith, failed.fewer);
              each = each_more (TakesAs k input output accepts ends zone most) failed.before first
                  firsts later laters old failed.mid (some.last, last) each one;
            },
          )
    ]

    -- and that they are in turn
    turn_of_one : (asked : List Asked) (replies : List (List ℕ)) (old new : C × K)
        → TakesAs k input output accepts ends zone most asked replies old new
        → InTurn (IsStep k.content k.is_failed k.is_honest k.may_leave zone) asked replies old.1 new.1
    turn_of_one asked replies old new (inl x) =
        same_turn (IsStep k.content k.is_failed k.is_honest k.may_leave zone) asked
        (map heard x.answered.served.crash.messages) replies x.answered.served.crash.replies old.1
        new.1 x.read x.replied x.answered.served.crash.answered
    turn_of_one asked replies old new (inr x) =
        same_turn (IsStep k.content k.is_failed k.is_honest k.may_leave zone) asked [] replies []
        old.1 new.1 x.none x.nothing x.given_up.same

    turn_of_each : (n : ℕ) (asked : List Asked) (replies : List (List ℕ)) (old new : C × K)
        → TakesEachAs (TakesAs k input output accepts ends zone most) n asked replies old new
        → InTurn (IsStep k.content k.is_failed k.is_honest k.may_leave zone) asked replies old.1 new.1
    turn_of_each zero asked replies old new (same, none, nothing) =
        same_turn (IsStep k.content k.is_failed k.is_honest k.may_leave zone) asked [] replies []
        old.1 new.1 none nothing (ap (λ s. s.1) same)
    turn_of_each (suc n) asked replies old new each =
        let Step = IsStep k.content k.is_failed k.is_honest k.may_leave zone in
        same_turn Step asked (each.first_asked ++ each.later_asked) replies
        (each.first_replies ++ each.later_replies) old.1 new.1 each.asked_so each.replied_so
        (then_others Step each.first_asked each.later_asked each.first_replies each.later_replies
        old.1 each.mid.1 new.1
        (turn_of_one each.first_asked each.first_replies old each.mid each.first)
        (turn_of_each n each.later_asked each.later_replies each.mid new each.later))

    pub turn_of_some : (count : ℕ) (asked : List Asked) (replies : List (List ℕ)) (old : C × K) (last : K)
        → HasExchanged (TakesAs k input output accepts ends zone most) count asked replies old last
        → InTurn (IsStep k.content k.is_failed k.is_honest k.may_leave zone) asked replies old.1 last
    turn_of_some count asked replies old last some =
        turn_of_each some.taken asked replies old (some.last, last) some.each
