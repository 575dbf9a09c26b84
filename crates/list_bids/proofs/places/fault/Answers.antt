use Rattle.std.proofs.Common.{◌≡◌, true, false, refl, sym, ◌∙◌, ap}
use Rattle.std.specs.Prelude.{◌==◌, ◌&&◌, is_some}
use Rattle.std.specs.List.{list_any}
use Rattle.house_rows.specs.Bids.{BidRow}
use Rattle.list_rows.specs.Blocks.{rows_of}
use Rattle.list_bids.proofs.Telling.{found_any, some_copied}
use Rattle.list_bids.proofs.places.fault.Goals as goal

pub returns-in-Some : goal.returns-in-Some
returns-in-Some c =
    let there : is_some c.row.result ≡ true = rw c.in-Some.is refl in
    let taken : list_any (λ (b : BidRow). (b.item == c.args.item) && (b.bid.no == c.args.no)) (rows_of c.args.bids.now) ≡ true =
    sym (some_copied c.row.result ∙ ap is_some (rw (c.new.ensures, c.from.ensures, c.from-2.ensures) at c.row.ensures) ∙ found_any c.args.item c.args.no (rows_of c.args.bids.now)) ∙ there in
    rw taken refl

pub returns-in-None : goal.returns-in-None
returns-in-None c =
    let there : is_some c.row.result ≡ false = rw c.in-None.is refl in
    let free : list_any (λ (b : BidRow). (b.item == c.args.item) && (b.bid.no == c.args.no)) (rows_of c.args.bids.now) ≡ false =
    sym (some_copied c.row.result ∙ ap is_some (rw (c.new.ensures, c.from.ensures, c.from-2.ensures) at c.row.ensures) ∙ found_any c.args.item c.args.no (rows_of c.args.bids.now)) ∙ there in
    rw free refl
