use Rattle.std.proofs.Common.{◌∙◌, ap, sym}
use Rattle.std.specs.Prelude.{is_some}
use Rattle.house_rows.specs.declared.people.Member.{Member}
use Rattle.house_rows.specs.Fits.{IsMember, MemberFits}
use Rattle.house_rows.proofs.Every.{found_number}
use Rattle.store_list.proofs.Fitting.{some_copied}
use Rattle.store_list.proofs.keep.ListKeepKeep.has_member.Goals as goal

pub returns-clause-fits : goal.returns-clause-fits
returns-clause-fits c = λ is.
    found_number (λ (row : Member). row.member) MemberFits (IsMember) c.args.member c.self.inside.members (λ row fit. fit.member) c.self.invariant.sound.members
    (sym (ap is_some c.member.ensures) ∙ some_copied c.member.result ∙ sym c.is_some.ensures ∙ is)
