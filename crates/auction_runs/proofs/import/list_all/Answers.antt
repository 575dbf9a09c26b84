use Rattle.std.proofs.Common.{inl, refl, ◌≡◌}
use Rattle.std.proofs.KnownBytes.{Keeps-refl}
use Rattle.auction_runs.proofs.Outcomes.{always}
use Rattle.auction_runs.proofs.Rows.{dealt, ok_of_same, fault_of_rows, taken}
use Rattle.auction_runs.proofs.Unready.{unstarted}
use Rattle.office.specs.Imports.{keep_of}
use Rattle.site.specs.Replies.{zone_of}
use Rattle.auction_runs.proofs.import.list_all.Goals as goal

pub returns-clause-taken : goal.returns-clause-taken
returns-clause-taken g c =
    let k = g.K.Keep in
    let site = c.in-Ok-begin_site.site in
    let known = c.in-Ok.ensures.known in
    always c.hand_on.result (
    taken k.content k.is_failed k.is_honest k.may_leave (λ last. last ≡ c.end.result) c.args.by
    c.args.keep c.check_import.new.keep (keep_of site) (keep_of c.import-imported.new.site)
    c.end.result (zone_of site) known c.in-Ok-begin_site.ensures.keep
    c.in-Ok-begin_site.ensures.zone c.import-imported.ensures.ordered c.end.ensures refl)

pub returns-clause-listed : goal.returns-clause-listed
returns-clause-listed g c =
    let k = g.K.Keep in
    let site = c.in-Ok-begin_site.site in
    let after = c.import-imported.new.site in
    let known = c.in-Ok.ensures.known in
    ok_of_same _ _ c.hand_on.result c.import-imported.result c.hand_on.ensures.same
    c.import-imported.ensures.imported
    (λ report. dealt k.content k.is_failed k.is_honest k.may_leave (λ last. last ≡ c.end.result)
    g.R.Read.remaining c.args.by c.args.keep (keep_of site)
    (taken k.content k.is_failed k.is_honest k.may_leave (λ last. last ≡ c.end.result) c.args.by
    c.args.keep c.check_import.new.keep (keep_of site) (keep_of after)
    c.end.result (zone_of site) known c.in-Ok-begin_site.ensures.keep
    c.in-Ok-begin_site.ensures.zone c.import-imported.ensures.ordered c.end.ensures refl)
    c.args.lots c.in-Ok.lots (g.W.Write.contents c.args.output.now)
    (g.W.Write.contents c.import-imported.new.output) (g.W.Write.contents c.hand_on.new.output) report
    c.in-Ok.ensures.same c.in-Ok-begin_site.ensures.keep c.hand_on.ensures.kept)

pub returns-in-Err-clause-fault : goal.returns-in-Err-clause-fault
returns-in-Err-clause-fault g c =
    inl (Keeps-refl (g.W.Write.contents c.args.output.now), c.in-Err.ensures.cause)

pub returns-in-Err-begin_site-clause-fault : goal.returns-in-Err-begin_site-clause-fault
returns-in-Err-begin_site-clause-fault g c =
    inl (
      Keeps-refl (g.W.Write.contents c.args.output.now),
      unstarted g.K.Keep c.args.lots c.args.by.member c.args.keep c.check_import.new.keep _ _
          c.in-Ok.ensures.read c.in-Err-begin_site.ensures.back c.in-Err-begin_site.ensures.cause,
    )

pub returns-clause-fault : goal.returns-clause-fault
returns-clause-fault g c =
    let k = g.K.Keep in
    fault_of_rows k g.R.Read.remaining c.args.by c.args.keep c.check_import.new.keep
    (keep_of c.in-Ok-begin_site.site) (keep_of c.import-imported.new.site) c.end.result
    (zone_of c.in-Ok-begin_site.site) c.in-Ok.ensures.known c.in-Ok-begin_site.ensures.keep
    c.in-Ok-begin_site.ensures.zone c.import-imported.ensures.ordered c.end.ensures c.args.lots
    c.in-Ok.lots c.in-Ok.ensures.same (g.W.Write.contents c.args.output.now)
    (g.W.Write.contents c.import-imported.new.output) (g.W.Write.contents c.hand_on.new.output)
    c.hand_on.ensures.kept c.hand_on.result c.import-imported.result c.hand_on.ensures.fault
    c.import-imported.ensures.imported c.import-imported.ensures.ended
