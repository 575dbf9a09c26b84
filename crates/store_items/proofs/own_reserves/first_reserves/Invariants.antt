use Rattle.std.proofs.Common.{◌≡◌, ◌≤◌, ◌<◌, ◌-◌, ◌^◌, ◌++◌, drop, filter, flat_map, length, take}
use Rattle.std.specs.Prelude.{is_some}
use Rattle.std.specs.List.{AllByRecursion}
use Rattle.sqlite_value.specs.Order.{Row, column}
use Rattle.house_rows.specs.Fits.{OwnReserveFits}
use Rattle.house_rows.specs.Limits.{most_shown}
use Rattle.house_rows.specs.Taken.{up_to}
use Rattle.store_rows.specs.Rows.{number_in}
use Rattle.store_items.specs.OwnReserves.{reserve_in, reserve_shown}
use Rattle.store_items.specs.Standing.{IsShownKept, TermsHold}
use Rattle.store_items.proofs.own_reserves.first_reserves.Given as goal

abbrev pub invariant-loop-row : goal.invariant-loop-row
invariant-loop-row l =
    let F = reserve_shown l.rules.reserves l.from in
    let Holds = TermsHold l.rules.editions l.rules.reserves in
    let Keeps = IsShownKept l.rules.editions l.rules.reserves in
    let Low = λ (r : Row). number_in (column r 0) < 2 ^ 32 in
    let shows = λ (r : Row). is_some (reserve_in l.rules.reserves l.from r) in
    record {
      found : take most_shown (l.found.items ++ flat_map F (drop l.row-index l.rows)) ≡ take most_shown (flat_map F l.rows);
      few : length l.found.items ≤ most_shown;
      fits : AllByRecursion OwnReserveFits l.found.items;
      held : AllByRecursion Holds (take most_shown (filter shows l.rows)) → AllByRecursion Holds (take (most_shown - length l.found.items) (filter shows (drop l.row-index l.rows)));
      kept : AllByRecursion Keeps (take (most_shown - length l.found.items) (filter shows (drop l.row-index l.rows))) → AllByRecursion Keeps (take most_shown (filter shows l.rows));
      low : AllByRecursion Low (up_to most_shown shows l.rows) → AllByRecursion Low (up_to (most_shown - length l.found.items) shows (drop l.row-index l.rows));
    }
