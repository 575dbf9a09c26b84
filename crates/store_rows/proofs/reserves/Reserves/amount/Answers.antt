use Rattle.std.proofs.Common.{◌≡◌, ◌∙◌, None, rules, sym, subst, arith}
use Rattle.std.proofs.lemmas.List.{get_or_default}
use Rattle.std.proofs.lemmas.List.Sorted.{answers_always}
use Rattle.store_rows.specs.ItemRows.{amount_of}
use Rattle.store_rows.specs.Reserves.{AreRising, IsAt, no_row}
use Rattle.store_rows.proofs.ReservePlaces.{amount_at, no_amount, searched}
use Rattle.store_rows.proofs.reserves.Reserves.amount.Goals as goal

pub returns-in-Ok : goal.returns-in-Ok
returns-in-Ok c =
    let facts = c.binary_search_by_key.ensures in
    let by_key = facts.position (λ row. row.item) (answers_always _ _ _ (λ f a r g called. search rules)) in
    let rising : AreRising c.deref.result.now = rw c.deref.ensures.value c.self.invariant in
    let both = searched c.deref.result.now rising c.args.item _ facts.bound by_key in
    let found = rw c.in-Ok.is at both.found in
    let here : IsAt c.args.self.now c.args.item c.in-Ok.at = subst (λ rows. IsAt rows c.args.item c.in-Ok.at) (c.deref.ensures.value ∙ c.self.view_is) found in
    let value = amount_at _ (subst AreRising c.self.view_is c.self.invariant) _ _ here in
    let read = get_or_default _ _ c.index.result.now no_row here.in_range in
    grind (arith, c.self.view_is)

pub returns-in-Err : goal.returns-in-Err
returns-in-Err c =
    let facts = c.binary_search_by_key.ensures in
    let by_key = facts.position (λ row. row.item) (answers_always _ _ _ (λ f a r g called. search rules)) in
    let rising : AreRising c.deref.result.now = rw c.deref.ensures.value c.self.invariant in
    let both = searched c.deref.result.now rising c.args.item _ facts.bound by_key in
    let gap = rw c.in-Err.is at both.absent in
    subst (λ rows. None ≡ amount_of rows c.args.item) (c.deref.ensures.value ∙ c.self.view_is) (sym (no_amount _ rising c.args.item _ gap))
