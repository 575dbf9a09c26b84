use Rattle.std.proofs.Common.{◌∙◌, ap, sym}
use Rattle.std.specs.Prelude.{is_some}
use Rattle.house_rows.specs.declared.people.Category.{Category}
use Rattle.house_rows.specs.Fits.{CategoryFits, IsWithin}
use Rattle.house_rows.specs.Limits.{most_categories}
use Rattle.house_rows.proofs.Every.{found_number}
use Rattle.store_list.proofs.Fitting.{some_copied}
use Rattle.store_list.proofs.keep.ListKeepKeep.has_category.Goals as goal

pub returns-clause-fits : goal.returns-clause-fits
returns-clause-fits c = λ is.
    found_number (λ (row : Category). row.category) CategoryFits (IsWithin 1 most_categories) c.args.category c.self.inside.categories (λ row fit. fit.category) c.self.invariant.sound.categories
    (sym (ap is_some c.category.ensures) ∙ some_copied c.category.result ∙ sym c.is_some.ensures ∙ is)
