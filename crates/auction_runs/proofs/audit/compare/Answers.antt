use Rattle.std.proofs.Common.{inl, inr, map, refl}
use Rattle.site.specs.Replies.{zone_of}
use Rattle.site_audit.specs.Places.{keep_of}
use Rattle.auction_runs.proofs.Compared.{unaudited}
use Rattle.auction_runs.specs.Audited.{IsUncompared}
use Rattle.auction_runs.proofs.audit.compare.Goals as goal

pub returns-in_err-compare_over-clause-fault : goal.returns-in_err-compare_over-clause-fault
returns-in_err-compare_over-clause-fault g c =
    let sites = c.in_ok-left_site in
    let k = g.K.Keep in
    unaudited (IsUncompared c.args.houses k.content k.is_failed k.is_honest g.L.Source.left
    g.R.Source.left c.args.caller c.args.left c.args.right)
    c.in_err-compare_over.field-0.0 c.from_residual-in_err-compare_over.result
    c.from_residual-in_err-compare_over.ensures
    (inl (inr (record {
      lefts = map (λ m. m.items) c.in_ok-lefts.lefts.items;
      rights = map (λ m. m.items) c.in_ok-rights.rights.items;
      left_messages = c.in_ok-lefts.ensures.ok;
      right_messages = c.in_ok-rights.ensures.ok;
      zone = zone_of sites.left_site;
      kept_zone = sites.ensures.zone;
      left_keep = keep_of c.compare_over.new.left;
      right_keep = keep_of c.compare_over.new.right;
      auditing = c.in_err-compare_over.field-0.0;
      report = refl;
      found = rw (
        ← sites.ensures.left,
        ← sites.ensures.right,
        ← c.deref.ensures.value,
        ← c.deref-2.ensures.value,
      ) c.in_err-compare_over.ensures.found;
    })))

pub returns-clause-found : goal.returns-clause-found
returns-clause-found g c =
    let sites = c.in_ok-left_site in
    record {
      lefts = map (λ m. m.items) c.in_ok-lefts.lefts.items;
      rights = map (λ m. m.items) c.in_ok-rights.rights.items;
      left_messages = c.in_ok-lefts.ensures.ok;
      right_messages = c.in_ok-rights.ensures.ok;
      zone = zone_of sites.left_site;
      kept_zone = sites.ensures.zone;
      left_keep = keep_of c.compare_over.new.left;
      right_keep = keep_of c.compare_over.new.right;
      found = rw (
        ← sites.ensures.left,
        ← sites.ensures.right,
        ← c.deref.ensures.value,
        ← c.deref-2.ensures.value,
      ) c.in_ok-compare_over.ensures.found;
    }
