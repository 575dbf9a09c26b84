use Rattle.edition_laws.proofs.Older.{table_stays}
use Rattle.edition_laws.proofs.older_tables_stay.Goals as goal

pub returns : goal.returns
returns c settings h moment caller bands reader edition before =
    table_stays settings h moment caller bands reader edition before
