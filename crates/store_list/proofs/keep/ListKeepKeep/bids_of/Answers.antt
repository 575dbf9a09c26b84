use Rattle.std.proofs.Common.{refl, subst, rules}
use Rattle.std.specs.List.{AllByRecursion}
use Rattle.house_rows.specs.Fits.{OwnBidFits}
use Rattle.house_rows.specs.Keeping.{AreSound, IsConsistentAt, IsKeptRowAt}
use Rattle.store_list.proofs.Fitting.{ok_items, own_bids_fit, ok_each, is_consistent_at, kept_at}
use Rattle.house_rows.specs.declared.item.OwnBid.{OwnBid}
use Rattle.store_list.proofs.keep.ListKeepKeep.bids_of.Goals as goal

pub own_bids-requires : goal.own_bids-requires
own_bids-requires c = record { in_turn = c.self.invariant.sound.items_in_turn }

pub returns-clause-answers : goal.returns-clause-answers
returns-clause-answers c = record {
  value = λ _. c.own_bids.ensures.value c.args.self.now (rw (← c.self.view_is) refl) (rw (← c.self.view_is) refl);
  faults = search rules;
  damaged = search rules;
  read = search rules;
}

pub returns-clause-fits : goal.returns-clause-fits
returns-clause-fits c = (ok_items (λ xs. AllByRecursion OwnBidFits xs) c.own_bids.result _ (c.own_bids.ensures.value c.args.self.now (rw (← c.self.view_is) refl) (rw (← c.self.view_is) refl))
    (own_bids_fit c.args.self.now c.args.member c.args.from (subst AreSound c.self.view_is c.self.invariant.sound)))

pub returns-clause-is_consistent : goal.returns-clause-is_consistent
returns-clause-is_consistent c = λ _. ok_each (λ (b : OwnBid). IsConsistentAt c.args.self.now b.item) c.own_bids.result (λ b. is_consistent_at c.args.self.now (subst AreSound c.self.view_is c.self.invariant.sound) b.item)

pub returns-clause-kept : goal.returns-clause-kept
returns-clause-kept c = λ _. ok_each (λ (b : OwnBid). IsKeptRowAt c.args.self.now b.item) c.own_bids.result (λ b. kept_at c.args.self.now (subst AreSound c.self.view_is c.self.invariant.sound) b.item)
