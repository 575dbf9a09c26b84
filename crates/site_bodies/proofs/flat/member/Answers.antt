use Rattle.site_bodies.proofs.Walked.{member_read}
use Rattle.site_bodies.proofs.flat.member.Goals as goal

pub returns : goal.returns
returns c = member_read (record { name = c.in_ok-name.name; value = c.in_ok-value.value }) c.in_ok-name.ensures
    c.after_spaces.ensures c.in_ok-colon.ensures c.after_spaces-2.ensures c.in_ok-value.ensures
