use Rattle.std.proofs.Common.{◌≡◌, ℕ, List, None, Some, refl, ◌∙◌, ap, sym, true≢false}
use Rattle.proxy.specs.Rules.{first_failing}
use Rattle.house_rows.specs.Editions.{BandTables, bands_in}
use Rattle.house_rows.specs.Tables.{Tables, band_tables, bands_for}
use Rattle.house.proofs.Decides.{accepts, refuses}
use Rattle.house.proofs.OnItems.{row_there}
use Rattle.house_rows.specs.declared.refusal.Refusal.TheVariants.{Range}
use Rattle.house.proofs.Placed.{bid_accepts, bid_fits, bid_refused, bid_unfit, bid_unknown, first_rules, fit_maximum, judged_by, passed_by, unfit_by, unfit_item, unfit_maximum, unknown_by}
use Rattle.house.proofs.Unchanged.{still_there}
use Rattle.house.proofs.bidding.bid.Goals as goal
use Rattle.house.proofs.bidding.bid.Goals.{In_ok-editions, In-Some-new}

-- an amount on an open item breaks none of the first rules
is_fit : (g : _) (c : In-Some-new g) → None ≡ first_failing (first_rules c.args.moment c.args.caller c.args.maximum c.in-Ok.on.terms)
is_fit g c =
    fit_maximum c.args.moment c.args.caller c.args.maximum c.in-Ok.on.terms (c.in-Some-new.ensures.within.0 refl)
    (sym c.in_default.is ∙ c.open_refused.ensures)

-- the band table is that of the tables before the first read
bands_are : (g : _) (c : In_ok-editions g) (bands : List (ℕ × ℕ)) → bands ≡ bands_in c.in_ok-editions.field-0.now c.args.item → g.K.Keep.is_honest c.on_auction.new.keep
    → bands ≡ bands_for (g.K.Keep.content c.args.keep.now) c.args.item
bands_are g c bands is honest =
    let same = still_there c.in_ok-on.field-0 g.K.Keep.content g.K.Keep.is_failed g.K.Keep.is_honest g.K.Keep.may_leave c.args.keep.now c.on_auction.new.keep
    c.in_ok-on.ensures.faults c.in_ok-on.ensures.read honest in
    is ∙ ap (λ (b : BandTables). bands_in b c.args.item) (c.in_ok-editions.ensures.value honest ∙ ap (λ (t : Tables). band_tables t) same)

pub returns-in-Err : goal.returns-in-Err
returns-in-Err g c = refuses c.in_ok-on.ensures.faults c.in_ok-on.ensures.read (λ honest settings h is e.
    bid_unknown (g.K.Keep.content c.args.keep.now) settings h c.args.moment c.args.caller c.args.item c.args.maximum c.in-Err.refusal e (rw c.in-Err.is at c.in_ok-on.ensures.value honest))
    (λ honest rows. unknown_by (g.K.Keep.content c.args.keep.now) c.args.moment c.args.caller c.args.item c.args.maximum c.in-Err.refusal (rw c.in-Err.is at c.in_ok-on.ensures.value honest))

pub returns-in-Some : goal.returns-in-Some
returns-in-Some g c = refuses c.in_ok-on.ensures.faults c.in_ok-on.ensures.read (λ honest settings h is e.
    let on = rw c.in-Ok.is at c.in_ok-on.ensures.value honest in
    bid_unfit (g.K.Keep.content c.args.keep.now) settings h c.args.moment c.args.caller c.args.item c.args.maximum c.in-Ok.on.terms c.in-Some.refusal e on.1 on.3
    (unfit_item c.args.moment c.args.caller c.args.maximum c.in-Ok.on.terms c.in-Some.refusal (sym c.in-Some.is ∙ c.open_refused.ensures)))
    (λ honest rows.
    let on = rw c.in-Ok.is at c.in_ok-on.ensures.value honest in
    unfit_by (g.K.Keep.content c.args.keep.now) c.args.moment c.args.caller c.args.item c.args.maximum c.in-Ok.on.terms c.in-Some.refusal on.1 on.3
    (unfit_item c.args.moment c.args.caller c.args.maximum c.in-Ok.on.terms c.in-Some.refusal (sym c.in-Some.is ∙ c.open_refused.ensures)))

pub returns-in_default-new : goal.returns-in_default-new
returns-in_default-new g c = refuses c.in_ok-on.ensures.faults c.in_ok-on.ensures.read (λ honest settings h is e.
    let on = rw c.in-Ok.is at c.in_ok-on.ensures.value honest in
    bid_unfit (g.K.Keep.content c.args.keep.now) settings h c.args.moment c.args.caller c.args.item c.args.maximum c.in-Ok.on.terms Range e on.1 on.3
    (unfit_maximum c.args.moment c.args.caller c.args.maximum c.in-Ok.on.terms (λ small. true≢false (sym (c.in_default-new.ensures.within.1 small)))
    (sym c.in_default.is ∙ c.open_refused.ensures)))
    (λ honest rows.
    let on = rw c.in-Ok.is at c.in_ok-on.ensures.value honest in
    unfit_by (g.K.Keep.content c.args.keep.now) c.args.moment c.args.caller c.args.item c.args.maximum c.in-Ok.on.terms Range on.1 on.3
    (unfit_maximum c.args.moment c.args.caller c.args.maximum c.in-Ok.on.terms (λ small. true≢false (sym (c.in_default-new.ensures.within.1 small)))
    (sym c.in_default.is ∙ c.open_refused.ensures)))

pub returns-in-Err-place_bid : goal.returns-in-Err-place_bid
returns-in-Err-place_bid g c = refuses c.in_ok-on.ensures.faults c.in_ok-on.ensures.read (λ honest settings h is e.
    let on = rw c.in-Ok.is at c.in_ok-on.ensures.value honest in
    let known = (goal.at.returns-in-Err-place_bid g c).In_ok-editions in
    let fit = is_fit g (goal.at.returns-in-Err-place_bid g c).In-Some-new in
    bid_refused (g.K.Keep.content c.args.keep.now) settings c.bands_for-bands.result.now h c.args.moment c.args.caller c.args.item c.args.maximum c.in-Ok.on.terms c.in-Ok.on.standing c.in-Ok.on.member c.in-Some-new.maximum c.in-Err-place_bid.refusal e on.1 on.3
    fit on.2 (bands_are g known c.bands_for-bands.result.now c.bands_for-bands.ensures honest) on.0 c.in-Some-new.ensures.value c.in-Err-place_bid.ensures)
    (λ honest rows.
    let on = rw c.in-Ok.is at c.in_ok-on.ensures.value honest in
    let known = (goal.at.returns-in-Err-place_bid g c).In_ok-editions in
    let fit = is_fit g (goal.at.returns-in-Err-place_bid g c).In-Some-new in
    judged_by (g.K.Keep.content c.args.keep.now) c.bands_for-bands.result.now c.args.moment c.args.caller c.args.item c.args.maximum c.in-Ok.on.terms c.in-Ok.on.standing c.in-Ok.on.member c.in-Some-new.maximum (Some c.in-Err-place_bid.refusal) rows on.1 on.3
    fit on.2 (bands_are g known c.bands_for-bands.result.now c.bands_for-bands.ensures honest) on.0 c.in-Some-new.ensures.value c.in-Err-place_bid.ensures)

pub returns-in-Ok-place_bid : goal.returns-in-Ok-place_bid
returns-in-Ok-place_bid g c = accepts c.in_ok-on.ensures.faults c.in_ok-on.ensures.read
    (λ honest settings h is e.
    let on = rw c.in-Ok.is at c.in_ok-on.ensures.value honest in
    let known = (goal.at.returns-in-Ok-place_bid g c).In_ok-editions in
    let fit = is_fit g (goal.at.returns-in-Ok-place_bid g c).In-Some-new in
    bid_accepts (g.K.Keep.content c.args.keep.now) settings c.bands_for-bands.result.now h c.args.moment c.args.caller c.args.item c.args.maximum c.in-Ok.on.terms c.in-Ok.on.standing c.in-Ok-place_bid.standing c.in-Ok.on.member c.in-Some-new.maximum c.count.result is e on.1 on.3
    fit on.2 (bands_are g known c.bands_for-bands.result.now c.bands_for-bands.ensures honest) on.0 c.in-Some-new.ensures.value c.count.ensures c.in-Ok-place_bid.ensures)
    (λ honest rows.
    let on = rw c.in-Ok.is at c.in_ok-on.ensures.value honest in
    let known = (goal.at.returns-in-Ok-place_bid g c).In_ok-editions in
    let fit = is_fit g (goal.at.returns-in-Ok-place_bid g c).In-Some-new in
    passed_by (g.K.Keep.content c.args.keep.now) c.bands_for-bands.result.now c.args.moment c.args.caller c.args.item c.args.maximum c.in-Ok.on.terms c.in-Ok.on.standing c.in-Ok-place_bid.standing c.in-Ok.on.member c.in-Some-new.maximum rows on.1 on.3
    fit on.2 (bands_are g known c.bands_for-bands.result.now c.bands_for-bands.ensures honest) on.0 c.in-Some-new.ensures.value c.in-Ok-place_bid.ensures)
    (λ honest rows change_rows.
    let on = rw c.in-Ok.is at c.in_ok-on.ensures.value honest in
    let known = (goal.at.returns-in-Ok-place_bid g c).In_ok-editions in
    let fit = is_fit g (goal.at.returns-in-Ok-place_bid g c).In-Some-new in
    bid_fits (g.K.Keep.content c.args.keep.now) c.bands_for-bands.result.now c.args.moment c.args.caller c.args.item c.args.maximum c.in-Ok.on.terms c.in-Ok.on.standing c.in-Ok-place_bid.standing c.in-Ok.on.member c.in-Some-new.maximum c.count.result rows on.1 on.3
    fit on.2 (bands_are g known c.bands_for-bands.result.now c.bands_for-bands.ensures honest) on.0 c.in-Some-new.ensures.value c.count.ensures c.in-Ok-place_bid.ensures)
    (λ honest.
    let on = rw c.in-Ok.is at c.in_ok-on.ensures.value honest in
    record {
      same_command = rw ((row_there (g.K.Keep.content c.args.keep.now) c.args.item c.in-Ok.on.terms on.1).numbered, c.in-Some-new.ensures.value) refl;
      same_caller = on.0;
      same_moment = refl;
    })
