-- The reserve is met as the terms with it say, so that they are consistent.
use Rattle.std.proofs.Common.{◌≡◌, rules, Option, Bool, true, sym, subst, ap, ◌∙◌}
use Rattle.house_rows.specs.Editions.{bands_in}
use Rattle.house_rows.specs.Keeping.{IsConsistentBy, IsKeptItemBy}
use Rattle.proxy.specs.Kept.{Kept}
use Rattle.store_rows.specs.ItemRows.{met_with, with_met}
use Rattle.store_items.specs.Standing.{is_consistent}
use Rattle.store_items.proofs.IsConsistent.{keeps, stand}
use Rattle.store_items.proofs.reads.with_sealed.Goals as goal
use Rattle.store_items.proofs.reads.with_sealed.Goals.{in-Some-reserve+in-Some-top, in-Some-reserve+in-None-top, in-None}

pub returns-clause-is_consistent : goal.returns-clause-is_consistent
returns-clause-is_consistent c =
    let terms = c.args.terms in
    let reserve = c.amount-reserve.result in
    let met : c.match-reserve.terms ≡ met_with reserve terms.leader c.args.top = elim c.match-reserve.branch [
      | in-Some-reserve+in-Some-top w ↦ search rules
      | in-Some-reserve+in-None-top w ↦ search rules
      | in-None w ↦ search rules
    ] in
    let bands : c.bands_for-bands.result.now ≡ bands_in c.args.rules.now.editions terms.item = c.bands_for-bands.ensures ∙ ap (λ item. bands_in c.args.rules.now.editions item) c.from-item.ensures in
    let is : is_consistent (bands_in c.args.rules.now.editions terms.item) terms reserve c.args.top c.args.second ≡ true =
    subst (λ b. is_consistent b terms reserve c.args.top c.args.second ≡ true) bands (sym c.in-Some.ensures.is_consistent) in
    subst (λ (m : Option Bool). IsConsistentBy c.args.rules.now.editions (record terms { met = m })) (sym met) (stand _ terms reserve c.args.top c.args.second is)

pub returns-clause-kept : goal.returns-clause-kept
returns-clause-kept c =
    let terms = c.args.terms in
    let editions = c.args.rules.now.editions in
    let reserve = c.amount-reserve.result in
    let met : c.match-reserve.terms ≡ met_with reserve terms.leader c.args.top = elim c.match-reserve.branch [
      | in-Some-reserve+in-Some-top w ↦ search rules
      | in-Some-reserve+in-None-top w ↦ search rules
      | in-None w ↦ search rules
    ] in
    let bands : c.bands_for-bands.result.now ≡ bands_in editions terms.item = c.bands_for-bands.ensures ∙ ap (λ item. bands_in editions item) c.from-item.ensures in
    let is : is_consistent (bands_in editions terms.item) terms reserve c.args.top c.args.second ≡ true =
    subst (λ b. is_consistent b terms reserve c.args.top c.args.second ≡ true) bands (sym c.in-Some.ensures.is_consistent) in
    let kept = subst (λ (k : Kept). IsKeptItemBy editions (with_met reserve c.args.top terms) k) (sym c.in-Some.ensures.value) (keeps _ terms reserve c.args.top c.args.second is) in
    subst (λ (m : Option Bool). IsKeptItemBy editions (record terms { met = m }) c.in-Some.standing) (sym met) kept
