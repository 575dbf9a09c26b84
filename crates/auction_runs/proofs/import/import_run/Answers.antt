use Rattle.auction_runs.proofs.Outcomes.{both, where_done}
use Rattle.auction_runs.proofs.Rows.{dealt_so, has_all, import_told, printed_of, taken_so}
use Rattle.auction_runs.proofs.import.import_run.Goals as goal

pub returns-clause-ended : goal.returns-clause-ended
returns-clause-ended g c =
    let k = g.K.Keep in
    let listed = c.list_all-listed in
    λ e. taken_so k.content k.is_failed k.is_honest k.may_leave
    (λ last. g.K.Ends.is_ended last c.end-ended.result.1) c.args.by c.args.keep listed.result.1
    (where_done c.end-ended.result.0 (c.finish.ensures.ended e) c.end-ended.ensures.ended)
    (where_done listed.result.0 (c.finish.ensures.listed e) listed.ensures.taken)

pub returns-clause-listed : goal.returns-clause-listed
returns-clause-listed g c =
    let k = g.K.Keep in
    let listed = c.list_all-listed in
    λ e reader is text gives.
    let found = both listed.result.0 (c.finish.ensures.listed e) (c.finish.ensures.had e) listed.ensures.listed in
    let so = where_done c.end-ended.result.0 (c.finish.ensures.ended e) c.end-ended.ensures.ended in
    has_all k.content k.is_failed k.is_honest k.may_leave
    (λ last. g.K.Ends.is_ended last c.end-ended.result.1) c.args.by text
    (g.W.Write.contents c.args.output.now) (g.W.Write.contents listed.new.output) c.args.keep found.0
    found.1 (dealt_so k.content k.is_failed k.is_honest k.may_leave
    (λ last. g.K.Ends.is_ended last c.end-ended.result.1) c.args.by text
    (g.W.Write.contents c.args.output.now) (g.W.Write.contents listed.new.output) c.args.keep
    listed.result.1 found.0 so (found.2 reader is text gives))

pub returns-clause-printed : goal.returns-clause-printed
returns-clause-printed g c = printed_of g.K.Keep g.R.Read.remaining c.args.by c.args.keep
    c.list_all-listed.result.1 c.args.lots (g.W.Write.contents c.args.output.now)
    (g.W.Write.contents c.list_all-listed.new.output) c.list_all-listed.result.0
    c.list_all-listed.ensures.listed c.list_all-listed.ensures.fault

pub returns-clause-told : goal.returns-clause-told
returns-clause-told g c =
    let listed = c.list_all-listed in
    let end = c.end-ended in
    λ e. import_told g.K.Keep g.R.Read.remaining c.args.lots g.K.Ends.is_ended g.K.Ends.is_left c.args.by
    (g.W.Write.contents c.args.output.now) (g.W.Write.contents listed.new.output) c.args.keep
    listed.result.1 end.result.1 listed.result.0 end.result.0 listed.ensures.listed listed.ensures.open
    listed.ensures.taken listed.ensures.fault end.ensures.ended end.ensures.left end.ensures.sound
    (c.finish.ensures.refused e) c.finish.ensures.told c.finish.ensures.end_told
