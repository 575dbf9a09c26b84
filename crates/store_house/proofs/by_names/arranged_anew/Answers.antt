use Rattle.std.proofs.Common.{◌≡◌, false, ℕ, List, ap, subst, sym, ◌∙◌, arith, IsTrue}
use Rattle.std.specs.Prelude.{MatchOption}
use Rattle.house_rows.specs.declared.fault.KeepFault.TheVariants.{Damaged}
use Rattle.sqlite_catalog.specs.Listing.{IsSound}
use Rattle.sqlite_trees.specs.View.{IsClean}
use Rattle.sqlite.specs.Effect.{Database}
use Rattle.sqlite.specs.Held.{state}
use Rattle.sqlite.specs.Steps.{IsFresh}
use Rattle.store_house.proofs.NamedLemmas.{first_shown, fresh_under, follows_made, follows_refused, given_shown, house_shown, no_house, none_arranged}
use Rattle.store_house.proofs.OpenLemmas.{gives_back, leads_self, no_database, not_shut}
use Rattle.store_house.specs.Named.{HoldsFirstHouse, HoldsHouse, house_trees}
use Rattle.store_house.specs.Opening.{Follows}
use Rattle.store_house.specs.Over.{over_numbers}
use Rattle.tree_order.specs.Numbers.{AreInverse}
use Rattle.tree_order.specs.Renumbered.{renumbered}
use Rattle.tree_order.specs.Shown.{shown_trees}
use Rattle.tree_order.specs.declared.numbers.Numbers.{Numbers}
use Rattle.store_house.proofs.by_names.arranged_anew.Given.{Over}
use Rattle.store_house.proofs.by_names.arranged_anew.Goals as goal

pub over-requires : goal.over-requires
over-requires g c clean =
    let store = c.into_store-store in
    let numbers = c.new.result.numbers in
    let still : IsClean (g.S.Store.view store.result) = subst (λ s. IsClean (g.S.Store.view s)) c.new.ensures.inner clean in
    let is_open : IsTrue (g.S.Store.view store.result).is_open = not_shut _ _ (g.met.S.Store.broken_if_shut store.result) (sym (c.is_broken.ensures still) ∙ c.if-is_broken.false) in
    subst (λ s. IsFresh (renumbered numbers.inner.items numbers.outer.items (g.S.Store.view s))) (sym c.new.ensures.inner)
    (fresh_under numbers.inner.items numbers.outer.items (g.S.Store.view c.args.conn.store) (g.S.Store.view store.result) store.ensures.undone still is_open (store.ensures.numbered still))

-- where two trees of a house would lie in one there is none
none_there : (g : Over) (c : goal.After-plain-in-Ok-None g) → IsClean (g.S.Store.view c.plain-in-Ok-None.result.inner)
    → (¬ (HoldsHouse (state g.S.Store c.args.conn).committed.trees)) × (¬ (HoldsFirstHouse (state g.S.Store c.args.conn).committed.trees))
none_there g c clean =
    let store = c.into_store-store.result in
    let at : IsClean (g.S.Store.view store) = subst (λ s. IsClean (g.S.Store.view s)) c.plain-in-Ok-None.ensures.inner clean in
    let is_open : IsTrue (g.S.Store.view store).is_open = not_shut _ _ (g.met.S.Store.broken_if_shut store) (sym (c.is_broken.ensures at) ∙ c.if-is_broken.false) in
    let trees = (c.into_store-store.ensures.undone.undone is_open).0 in
    let none = subst (λ o. MatchOption o ((outer : List ℕ) → ¬ AreInverse (house_trees (g.S.Store.view store).trees) outer) (λ (n : Numbers). n.inner.items ≡ house_trees (g.S.Store.view store).trees))
    c.in-Ok-None.field-0-is (c.in-Ok-None.ensures.value at) in
    none_arranged (state g.S.Store c.args.conn).committed.trees (λ outer h. none outer (subst (λ t. AreInverse (house_trees t) outer) (sym trees) h))

pub returns-in-Ok-None-clause-damaged : goal.returns-in-Ok-None-clause-damaged
returns-in-Ok-None-clause-damaged g c is clean = (none_there g c clean).0

pub returns-in-Ok-None-clause-damaged_first : goal.returns-in-Ok-None-clause-damaged_first
returns-in-Ok-None-clause-damaged_first g c is clean = (none_there g c clean).1

pub returns-in-Ok-clause-house : goal.returns-in-Ok-clause-house
returns-in-Ok-clause-house g c clean schema =
    let given = c.new.result in
    let early : IsClean (g.S.Store.view given.inner) = omega (arith, c.in-Ok.ensures.clean) in
    let at : IsClean (g.S.Store.view c.into_store-store.result) = subst (λ s. IsClean (g.S.Store.view s)) c.new.ensures.inner early in
    let whole : (g.S.Store.view given.inner).is_broken ≡ false = subst (λ s. (g.S.Store.view s).is_broken ≡ false) (sym c.new.ensures.inner) (sym (c.is_broken.ensures at) ∙ c.if-is_broken.false) in
    let opens = c.in-Ok.ensures.opens clean in
    let live = opens.1 opens.0.is_open in
    house_shown g.S.Store given (state (over_numbers g.S.Store) c.in-Ok.again).now (c.in-Ok.ensures.trees clean) live.0 (g.met.S.Alter.listed given.inner whole) (g.met.S.Store.ordered given.inner whole) schema.0 schema.1

pub returns-in-Ok-clause-first : goal.returns-in-Ok-clause-first
returns-in-Ok-clause-first g c clean schema =
    let given = c.new.result in
    let early : IsClean (g.S.Store.view given.inner) = omega (arith, c.in-Ok.ensures.clean) in
    let at : IsClean (g.S.Store.view c.into_store-store.result) = subst (λ s. IsClean (g.S.Store.view s)) c.new.ensures.inner early in
    let whole : (g.S.Store.view given.inner).is_broken ≡ false = subst (λ s. (g.S.Store.view s).is_broken ≡ false) (sym c.new.ensures.inner) (sym (c.is_broken.ensures at) ∙ c.if-is_broken.false) in
    let opens = c.in-Ok.ensures.opens clean in
    let live = opens.1 opens.0.is_open in
    first_shown g.S.Store given (state (over_numbers g.S.Store) c.in-Ok.again).now (c.in-Ok.ensures.trees clean) live.0 (g.met.S.Alter.listed given.inner whole) (g.met.S.Store.ordered given.inner whole) schema

pub returns-in-Ok-clause-arranged : goal.returns-in-Ok-clause-arranged
returns-in-Ok-clause-arranged g c clean =
    let store = c.into_store-store in
    let given = c.new.result in
    let works : IsClean (g.S.Store.view store.result) → IsTrue (g.S.Store.view store.result).is_open = λ at.
    not_shut _ _ (g.met.S.Store.broken_if_shut store.result) (sym (c.is_broken.ensures at) ∙ c.if-is_broken.false) in
    let early : IsClean (g.S.Store.view given.inner) = omega (arith, c.in-Ok.ensures.clean) in
    let at : IsClean (g.S.Store.view store.result) = subst (λ s. IsClean (g.S.Store.view s)) c.new.ensures.inner early in
    let follows : Follows g.S.Store c.args.conn store.result = gives_back g.S.Store c.args.conn c.args.conn store.result (leads_self g.S.Store c.args.conn) store.ensures.undone store.ensures.quiet in
    let trees = (store.ensures.undone.undone (works at)).0 in
    let found = subst (λ o. MatchOption o ((outer : List ℕ) → ¬ AreInverse (house_trees (g.S.Store.view store.result).trees) outer) (λ (n : Numbers). n.inner.items ≡ house_trees (g.S.Store.view store.result).trees))
    c.in-Ok-Some.field-0-is (c.in-Ok-Some.ensures.value at) in
    record {
      order = record {
        inner = given.numbers.inner.items;
        outer = given.numbers.outer.items;
        inverse = given.numbers.inverse;
        shown = c.in-Ok.ensures.trees clean ∙ given_shown g.S.Store c.args.conn store.result follows works given c.new.ensures.inner early;
      };
      named = ap (λ (n : Numbers). n.inner.items) c.new.ensures.numbers ∙ found ∙ ap house_trees trees;
    }

pub returns-in-Ok-clause-follows : goal.returns-in-Ok-clause-follows
returns-in-Ok-clause-follows g c =
    let store = c.into_store-store in
    let given = c.new.result in
    let again = c.in-Ok.again in
    let works : IsClean (g.S.Store.view store.result) → IsTrue (g.S.Store.view store.result).is_open = λ at.
    not_shut _ _ (g.met.S.Store.broken_if_shut store.result) (sym (c.is_broken.ensures at) ∙ c.if-is_broken.false) in
    let follows : Follows g.S.Store c.args.conn store.result = gives_back g.S.Store c.args.conn c.args.conn store.result (leads_self g.S.Store c.args.conn) store.ensures.undone store.ensures.quiet in
    follows_made g.S.Store c.args.conn store.result follows works given c.new.ensures.inner
    (λ early.
    let at : IsClean (g.S.Store.view store.result) = subst (λ s. IsClean (g.S.Store.view s)) c.new.ensures.inner early in
    g.met.S.Store.stays c.args.conn.store ((store.ensures.undone.kept at).was_open (works at)))
    again c.in-Ok.ensures.clean c.in-Ok.ensures.shield c.in-Ok.ensures.trees
    (λ clean db may.
    let opens = (c.in-Ok.ensures.opens clean).0 in
    may.2 ∙ ap (shown_trees again.store.numbers) (g.met.S.Store.settled again.store.inner may.0 opens.is_open may.1) ∙ sym (ap (λ (d : Database). d.trees) opens.clean))

pub returns-in-Err-over-clause-left : goal.returns-in-Err-over-clause-left
returns-in-Err-over-clause-left g c =
    let store = c.into_store-store in
    let works : IsClean (g.S.Store.view store.result) → IsTrue (g.S.Store.view store.result).is_open = λ at.
    not_shut _ _ (g.met.S.Store.broken_if_shut store.result) (sym (c.is_broken.ensures at) ∙ c.if-is_broken.false) in
    let follows : Follows g.S.Store c.args.conn store.result = gives_back g.S.Store c.args.conn c.args.conn store.result (leads_self g.S.Store c.args.conn) store.ensures.undone store.ensures.quiet in
    follows_refused g.S.Store c.args.conn store.result follows works c.new.result c.new.ensures.inner c.in-Err-over.left c.in-Err-over.ensures.unharmed c.in-Err-over.ensures.rows

-- nor is there one where no schema fits
none_fits : (g : Over) (c : goal.After-refusal g) → c.refusal.result ≡ Damaged → IsClean (g.S.Store.view c.in-Err-over.left.inner)
    → (¬ (HoldsHouse (state g.S.Store c.args.conn).committed.trees)) × (¬ (HoldsFirstHouse (state g.S.Store c.args.conn).committed.trees))
none_fits g c is clean =
    let store = c.into_store-store in
    let given = c.new.result in
    let works : IsClean (g.S.Store.view store.result) → IsTrue (g.S.Store.view store.result).is_open = λ at.
    not_shut _ _ (g.met.S.Store.broken_if_shut store.result) (sym (c.is_broken.ensures at) ∙ c.if-is_broken.false) in
    let early : IsClean (g.S.Store.view given.inner) = omega (arith, c.in-Err-over.ensures.unharmed.clean, clean) in
    let at : IsClean (g.S.Store.view store.result) = subst (λ s. IsClean (g.S.Store.view s)) c.new.ensures.inner early in
    let follows : Follows g.S.Store c.args.conn store.result = gives_back g.S.Store c.args.conn c.args.conn store.result (leads_self g.S.Store c.args.conn) store.ensures.undone store.ensures.quiet in
    let trees = (store.ensures.undone.undone (works at)).0 in
    let found = subst (λ o. MatchOption o ((outer : List ℕ) → ¬ AreInverse (house_trees (g.S.Store.view store.result).trees) outer) (λ (n : Numbers). n.inner.items ≡ house_trees (g.S.Store.view store.result).trees))
    c.in-Ok-Some.field-0-is (c.in-Ok-Some.ensures.value at) in
    let named = ap (λ (n : Numbers). n.inner.items) c.new.ensures.numbers ∙ found ∙ ap house_trees trees in
    let shown = given_shown g.S.Store c.args.conn store.result follows works given c.new.ensures.inner early in
    no_house (state g.S.Store c.args.conn).committed.trees given.numbers named
    (λ schema sound. no_database _ _ _ (c.refusal.ensures is) (c.in-Err-over.ensures.err clean) schema (subst (IsSound schema) (sym shown) sound))

pub returns-in-Err-over-clause-damaged : goal.returns-in-Err-over-clause-damaged
returns-in-Err-over-clause-damaged g c is clean = (none_fits g c is clean).0

pub returns-in-Err-over-clause-damaged_first : goal.returns-in-Err-over-clause-damaged_first
returns-in-Err-over-clause-damaged_first g c is clean = (none_fits g c is clean).1
