use Rattle.std.proofs.Common.{◌∙◌, ap}
use Rattle.house_rows.specs.Editions.{newest_in}
use Rattle.house.proofs.Unchanged.{still_there}
use Rattle.site.proofs.Bare.{blank_by, new_reported}
use Rattle.site.proofs.engine.Site.is_new.Goals as goal

pub returns-clause-report : goal.returns-clause-report
returns-clause-report g c = λ honest settings h is e.
    let k = g.K.Keep in
    let first = c.in_ok-counts.ensures in
    let second = c.in_ok-clock.ensures.answers in
    let before = second.read.honest honest in
    let start = first.read.honest before in
    new_reported settings h (k.content c.args.self.now.keep) (k.content c.counts.new.self)
    c.newest-newest.result c.in_ok-counts.counts c.in_ok-clock.clock c.are_blank.result is e
    (c.newest-newest.ensures ∙ ap newest_in (c.in_ok-editions.ensures.value start)) (first.value before)
    (still_there c.in_ok-counts.counts k.content k.is_failed k.is_honest k.may_leave
    c.args.self.now.keep c.counts.new.self first.faults first.read before)
    (second.value honest) c.are_blank.ensures

pub returns-clause-tables : goal.returns-clause-tables
returns-clause-tables g c = λ honest.
    let k = g.K.Keep in
    let first = c.in_ok-counts.ensures in
    let second = c.in_ok-clock.ensures.answers in
    let before = second.read.honest honest in
    let start = first.read.honest before in
    blank_by (k.content c.args.self.now.keep) (k.content c.counts.new.self)
    c.newest-newest.result c.in_ok-counts.counts c.in_ok-clock.clock c.are_blank.result
    (c.newest-newest.ensures ∙ ap newest_in (c.in_ok-editions.ensures.value start)) (first.value before)
    (still_there c.in_ok-counts.counts k.content k.is_failed k.is_honest k.may_leave
    c.args.self.now.keep c.counts.new.self first.faults first.read before)
    (second.value honest) c.are_blank.ensures
