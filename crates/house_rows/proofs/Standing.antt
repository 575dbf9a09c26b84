-- An item whose rows fit is consistent.
use Rattle.std.proofs.Common.{◌≡◌, ◌∙◌, ℕ, List, true, length, ap, sym, subst, inl, inr, Option, None, ◌≢◌, Bool, false, Some}
use Rattle.std.specs.Prelude.{option_map}
use Rattle.proxy.specs.Kept.{Kept, opening_of}
use Rattle.proxy.specs.Opening.{Opening}
use Rattle.proxy.specs.Rows.{is_shape, is_standing}
use Rattle.proxy.proofs.Shapes.{accepted_shape}
use Rattle.house_rows.specs.Fits.{ReserveFits}
use Rattle.house_rows.specs.Keeping.{IsConsistent, IsKeptItem, IsReserve, ItemRowFits}
use Rattle.house_rows.specs.Tables.{ItemRow, row_opening}

bought_met : (reserve : Option ℕ) (met : Option Bool) → met ≡ option_map (λ r. true) reserve → met ≢ Some false
bought_met None met is e = let f : None ≡ Some false = sym is ∙ e in cc
bought_met (Some r) met is e = let f : Some true ≡ Some false = sym is ∙ e in cc

pub row_is_consistent : (bands : List (ℕ × ℕ)) (row : ItemRow) → ItemRowFits bands row → IsConsistent bands row.item.terms
row_is_consistent bands row fits =
    let k : Kept = row.standing in
    let kept : is_standing bands k ≡ true = rw fits.is_consistent (accepted_shape bands (row_opening row) fits.bids fits.accepted fits.few) in
    let begins : opening_of k ≡ row_opening row = ap opening_of fits.is_consistent in
    let shape : is_shape bands (row_opening row) k.price k.count k.leader k.top k.second ≡ true =
    subst (λ (o : Opening). is_shape bands o k.price k.count k.leader k.top k.second ≡ true) begins kept in
    let many : k.count ≡ length fits.bids = ap (λ (k : Kept). k.count) fits.is_consistent in
    elim fits.report [
      | inl report ↦ inl (record { top = k.top; second = k.second; reserve = k.reserve; shape = rw (report.price, report.leader, fits.count ∙ sym many) shape; met = report.met })
      | inr bought ↦ inr (record { sold = bought.sold; no_bid = fits.count ∙ sym many ∙ bought.no_bid; price = bought.price; met = bought_met k.reserve row.item.terms.met bought.met })
    ]

reserve_goes : (start : ℕ) (buy_now reserve : Option ℕ) → ReserveFits start buy_now reserve → IsReserve start buy_now reserve
reserve_goes start buy_now None fits = tt
reserve_goes start buy_now (Some amount) fits = (fits.0, fits.2)

-- and what is sealed of it goes with what it shows
pub row_is_kept : (bands : List (ℕ × ℕ)) (row : ItemRow) → ItemRowFits bands row → IsKeptItem bands row.item.terms row.standing
row_is_kept bands row fits =
    let k : Kept = row.standing in
    let kept : is_standing bands k ≡ true = rw fits.is_consistent (accepted_shape bands (row_opening row) fits.bids fits.accepted fits.few) in
    let begins : opening_of k ≡ row_opening row = ap opening_of fits.is_consistent in
    let many : k.count ≡ length fits.bids = ap (λ (s : Kept). s.count) fits.is_consistent in
    record {
      reserve = reserve_goes row.item.terms.start row.item.terms.buy_now k.reserve fits.reserve;
      start = sym (ap (λ (o : Opening). o.start) begins);
      count = fits.count ∙ sym many;
      standing = kept;
      report = elim fits.report [
        | inl report ↦ inl (record { price = report.price; leader = report.leader; met = report.met })
        | inr bought ↦ inr (record { sold = bought.sold; no_bid = bought.no_bid; price = bought.price; met = bought.met })
      ];
    }
