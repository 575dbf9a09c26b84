use Rattle.std.proofs.Common.{inl, inr, map, refl}
use Rattle.site.specs.Replies.{zone_of}
use Rattle.site_audit.specs.Places.{keep_of}
use Rattle.auction_runs.proofs.Compared.{unaudited}
use Rattle.auction_runs.specs.Raised.{IsUntried}
use Rattle.auction_runs.proofs.surplus.look.Goals as goal

pub returns-in_err-look_over-clause-fault : goal.returns-in_err-look_over-clause-fault
returns-in_err-look_over-clause-fault g c =
    let sites = c.in_ok-left in
    let k = g.K.Keep in
    unaudited (IsUntried c.args.houses k.content k.is_failed k.is_honest g.S.Source.left c.args.raise
    c.args.trial)
    c.in_err-look_over.field-0.0 c.from_residual-in_err-look_over.result
    c.from_residual-in_err-look_over.ensures
    (inl (inr (record {
      texts = map (λ m. m.items) c.in_ok-texts.texts.items;
      messages = c.in_ok-texts.ensures.ok;
      zone = zone_of sites.left;
      kept_zone = sites.ensures.zone;
      left_keep = keep_of c.look_over.new.left;
      right_keep = keep_of c.look_over.new.right;
      auditing = c.in_err-look_over.field-0.0;
      report = refl;
      found = rw (← sites.ensures.left, ← sites.ensures.right, ← c.deref.ensures.value)
          c.in_err-look_over.ensures.found;
    })))

pub returns-clause-found : goal.returns-clause-found
returns-clause-found g c =
    let sites = c.in_ok-left in
    record {
      texts = map (λ m. m.items) c.in_ok-texts.texts.items;
      messages = c.in_ok-texts.ensures.ok;
      zone = zone_of sites.left;
      kept_zone = sites.ensures.zone;
      left_keep = keep_of c.look_over.new.left;
      right_keep = keep_of c.look_over.new.right;
      found = rw (← sites.ensures.left, ← sites.ensures.right, ← c.deref.ensures.value)
          c.in_ok-look_over.ensures.found;
    }
