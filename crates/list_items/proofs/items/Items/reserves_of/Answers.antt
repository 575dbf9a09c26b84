use Rattle.std.proofs.Common.{◌≡◌, ◌+◌, ◌≤◌, ◌<◌, List, ℕ, length, take, filter, get_or, refl, sym, ◌∙◌, ap, arith}
use Rattle.std.specs.Prelude.{nat_le}
use Rattle.std.proofs.lemmas.List.{take_all}
use Rattle.house_rows.specs.Keeping.{AreInTurn}
use Rattle.house_rows.specs.Limits.{most_shown}
use Rattle.list_items.specs.Groups.{numbers_at}
use Rattle.list_items.specs.Indexed.{number_of}
use Rattle.list_items.specs.Reserves.{reserve_with}
use Rattle.list_items.proofs.Fronts.{page_more}
use Rattle.list_items.proofs.Reserves.{made_at, made_full, made_more, made_none, reserves_all}
use Rattle.list_items.proofs.items.Items.reserves_of.Goals as goal
use Rattle.list_items.proofs.items.Items.reserves_of.Goals.{in-Some+in_ok-push, in_default}

pub loop-number-preserved : goal.loop-number-preserved
loop-number-preserved c =
    let make = reserve_with c.args.member c.args.from in
    let ks : List ℕ = c.numbers_from-numbers.result.now in
    let k : ℕ = get_or ks c.loop-number.number-index 0 in
    elim c.match-reserve_with.branch [
      | in-Some+in_ok-push w ↦ (
          let room : length c.loop-number.found.items < most_shown = omega (arith, c.if-len-ge-MOST_SHOWN.false, c.len.ensures, c.loop-number.found.ok.0) in
          rw (w.found-is, w.in_ok-push.ensures.ok) (page_more most_shown (made_at make number_of c.args.self.now (take c.loop-number.number-index ks)) (made_at make number_of c.args.self.now (take (c.loop-number.number-index + 1) ks)) c.loop-number.found.items w.in-Some.reserve c.loop-number.invariant
          (made_more make number_of c.args.self.now ks c.loop-number.number-index k w.in-Some.reserve c.loop-number-test.true refl w.in-Some.ensures) room))
      | in_default w ↦ rw w.found-is (c.loop-number.invariant ∙ ap (take most_shown) (sym (made_none make number_of c.args.self.now ks c.loop-number.number-index k c.loop-number-test.true refl w.in_default.ensures)))
    ]

pub returns-then-len-ge-MOST_SHOWN-clause-value : goal.returns-then-len-ge-MOST_SHOWN-clause-value
returns-then-len-ge-MOST_SHOWN-clause-value c = λ t same.
    let make = reserve_with c.args.member c.args.from in
    let ks : List ℕ = c.numbers_from-numbers.result.now in
    let in_turn : AreInTurn number_of 1 c.args.self.now = rw c.self.view_is at c.self.invariant.in_turn in
    let full : most_shown ≤ length c.loop-number.found.items = omega (arith, c.if-len-ge-MOST_SHOWN.true, c.len.ensures, c.loop-number.found.ok.0) in
    let are : ks ≡ filter (nat_le c.args.from) (numbers_at c.self.inside.sellers c.args.member) = c.numbers_from-numbers.ensures ∙ ap (filter (nat_le c.args.from)) c.numbers_of.ensures in
    made_full make number_of c.args.self.now ks c.loop-number.number-index most_shown c.loop-number.found.items c.loop-number.invariant full
    ∙ ap (λ (js : List ℕ). take most_shown (made_at make number_of c.args.self.now js)) are
    ∙ reserves_all t c.args.self.now (numbers_at c.self.inside.sellers) c.args.member c.args.from same in_turn (c.self.invariant.sellers.rising c.args.member) (rw c.self.view_is at c.self.invariant.sellers.complete)

pub returns-clause-value : goal.returns-clause-value
returns-clause-value c = λ t same.
    let make = reserve_with c.args.member c.args.from in
    let ks : List ℕ = c.numbers_from-numbers.result.now in
    let in_turn : AreInTurn number_of 1 c.args.self.now = rw c.self.view_is at c.self.invariant.in_turn in
    let are : ks ≡ filter (nat_le c.args.from) (numbers_at c.self.inside.sellers c.args.member) = c.numbers_from-numbers.ensures ∙ ap (filter (nat_le c.args.from)) c.numbers_of.ensures in
    c.loop-number.invariant
    ∙ ap (λ (js : List ℕ). take most_shown (made_at make number_of c.args.self.now js)) (take_all c.loop-number.number-index ks c.loop-number-test.false ∙ are)
    ∙ reserves_all t c.args.self.now (numbers_at c.self.inside.sellers) c.args.member c.args.from same in_turn (c.self.invariant.sellers.rising c.args.member) (rw c.self.view_is at c.self.invariant.sellers.complete)
