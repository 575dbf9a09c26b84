use Rattle.house_rows.proofs.GoesBy.{bands_kept, bands_valid, edition_kept}
use Rattle.house_laws.proofs.bands.items_keep_their_tables.Goals as goal

pub returns-clause-bands : goal.returns-clause-bands
returns-clause-bands c = λ settings h l listed. bands_kept settings h l.item l listed

pub returns-clause-edition : goal.returns-clause-edition
returns-clause-edition c = λ settings h l listed. edition_kept settings h l.item l listed

pub returns-clause-valid : goal.returns-clause-valid
returns-clause-valid c = λ settings h l valid is listed. bands_valid settings h l valid is listed
