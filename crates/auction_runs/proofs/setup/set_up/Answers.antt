use Rattle.std.proofs.Common.{◌∙◌, [], ◌∷◌, refl}
use Rattle.std.proofs.lemmas.Result.{err_from_is_err_and}
use Rattle.site.specs.Replies.{IsStep, zone_of}
use Rattle.site_serve.specs.Serving.{keep_of}
use Rattle.auction_runs.specs.Setup.{atlas_text, books_text}
use Rattle.auction_runs.proofs.CutOff.{ana, ben, cid, cut_at}
use Rattle.auction_runs.proofs.Outcomes.{if_err_then, on_ok_then}
use Rattle.auction_runs.proofs.Zones.{taken_in_zone, untaken_in_zone}
use Rattle.auction_runs.proofs.setup.set_up.Goals as goal

pub returns-clause-taken : goal.returns-clause-taken
returns-clause-taken g c =
    let second = c.in_ok-send.ensures.zone in
    let third = c.in_ok-send-2.ensures.zone ∙ second in
    let fourth = c.in_ok-send-3.ensures.zone ∙ third in
    let fifth = c.in_ok-send-4.ensures.zone ∙ fourth in
    on_ok_then c.send-5.result c.send-5.ensures.taken (λ last. (
      _,
      c.in_ok-send.ensures.taken,
      (
        _,
        taken_in_zone _ _ _ _ _ _ _ _ _ second c.in_ok-send-2.ensures.taken,
        (
          _,
          taken_in_zone _ _ _ _ _ _ _ _ _ third c.in_ok-send-3.ensures.taken,
          (
            _,
            taken_in_zone _ _ _ _ _ _ _ _ _ fourth c.in_ok-send-4.ensures.taken,
            (_, taken_in_zone _ _ _ _ _ _ _ _ _ fifth last, refl),
          ),
        ),
      ),
    ))

pub returns-in_err-send-clause-why : goal.returns-in_err-send-clause-why
returns-in_err-send-clause-why g c =
    let k = g.K.Keep in
    let step = IsStep k.content k.is_failed k.is_honest k.may_leave (zone_of c.args.site.now) in
    let p = err_from_is_err_and c.from_residual.result c.from_residual.ensures.1 in
    rw (p.1, p.2) (cut_at step [] ana (ben ∷ cid ∷ books_text ∷ atlas_text ∷ []) (keep_of
    c.args.site.now) (keep_of c.args.site.now) _
    (keep_of c.send.new.site) refl c.in_err-send.ensures.why)

pub returns-in_err-send-2-clause-why : goal.returns-in_err-send-2-clause-why
returns-in_err-send-2-clause-why g c =
    let k = g.K.Keep in
    let step = IsStep k.content k.is_failed k.is_honest k.may_leave (zone_of c.args.site.now) in
    let second = c.in_ok-send.ensures.zone in
    let p = err_from_is_err_and c.from_residual-in_err-send-2.result
    c.from_residual-in_err-send-2.ensures.1 in
    rw (p.1, p.2) (cut_at step (ana ∷ []) ben (cid ∷ books_text ∷ atlas_text ∷ []) (keep_of
    c.args.site.now) (keep_of c.send.new.site) _
    (keep_of c.send-2.new.site) (_, c.in_ok-send.ensures.taken, refl) (untaken_in_zone _ _ _ _ _ _
    _ _ _ _ second c.in_err-send-2.ensures.why))

pub returns-in_err-send-3-clause-why : goal.returns-in_err-send-3-clause-why
returns-in_err-send-3-clause-why g c =
    let k = g.K.Keep in
    let step = IsStep k.content k.is_failed k.is_honest k.may_leave (zone_of c.args.site.now) in
    let second = c.in_ok-send.ensures.zone in
    let third = c.in_ok-send-2.ensures.zone ∙ second in
    let p = err_from_is_err_and c.from_residual-in_err-send-3.result
    c.from_residual-in_err-send-3.ensures.1 in
    rw (p.1, p.2) (cut_at step (ana ∷ ben ∷ []) cid (books_text ∷ atlas_text ∷ []) (keep_of
    c.args.site.now) (keep_of c.send-2.new.site) _
    (keep_of c.send-3.new.site) (
      _,
      c.in_ok-send.ensures.taken,
      (
        _,
        taken_in_zone _ _ _ _ _ _ _ _ _
            second c.in_ok-send-2.ensures.taken,
        refl,
      ),
    ) (untaken_in_zone _ _ _ _ _ _ _ _ _ _ third
    c.in_err-send-3.ensures.why))

pub returns-in_err-send-4-clause-why : goal.returns-in_err-send-4-clause-why
returns-in_err-send-4-clause-why g c =
    let k = g.K.Keep in
    let step = IsStep k.content k.is_failed k.is_honest k.may_leave (zone_of c.args.site.now) in
    let second = c.in_ok-send.ensures.zone in
    let third = c.in_ok-send-2.ensures.zone ∙ second in
    let fourth = c.in_ok-send-3.ensures.zone ∙ third in
    let p = err_from_is_err_and c.from_residual-in_err-send-4.result
    c.from_residual-in_err-send-4.ensures.1 in
    rw (p.1, p.2) (cut_at step (ana ∷ ben ∷ cid ∷ []) books_text (atlas_text ∷ []) (keep_of
    c.args.site.now) (keep_of c.send-3.new.site) _
    (keep_of c.send-4.new.site) (
      _,
      c.in_ok-send.ensures.taken,
      (
        _,
        taken_in_zone _ _ _ _ _ _ _ _ _
            second c.in_ok-send-2.ensures.taken,
        (
          _,
          taken_in_zone _ _ _ _ _ _ _ _ _ third
              c.in_ok-send-3.ensures.taken,
          refl,
        ),
      ),
    ) (untaken_in_zone _ _ _ _ _ _ _ _ _ _ fourth
    c.in_err-send-4.ensures.why))

pub returns-clause-why : goal.returns-clause-why
returns-clause-why g c =
    let k = g.K.Keep in
    let step = IsStep k.content k.is_failed k.is_honest k.may_leave (zone_of c.args.site.now) in
    let second = c.in_ok-send.ensures.zone in
    let third = c.in_ok-send-2.ensures.zone ∙ second in
    let fourth = c.in_ok-send-3.ensures.zone ∙ third in
    let fifth = c.in_ok-send-4.ensures.zone ∙ fourth in
    if_err_then c.send-5.result c.send-5.ensures.why (λ fault why.
    cut_at step (ana ∷ ben ∷ cid ∷ books_text ∷ []) atlas_text [] (keep_of c.args.site.now)
    (keep_of c.send-4.new.site) fault
    (keep_of c.send-5.new.site) (
      _,
      c.in_ok-send.ensures.taken,
      (
        _,
        taken_in_zone _ _ _ _ _ _ _ _ _
            second c.in_ok-send-2.ensures.taken,
        (
          _,
          taken_in_zone _ _ _ _ _ _ _ _ _ third
              c.in_ok-send-3.ensures.taken,
          (
            _,
            taken_in_zone _ _ _ _ _ _ _ _ _ fourth
                c.in_ok-send-4.ensures.taken,
            refl,
          ),
        ),
      ),
    ) (untaken_in_zone _ _ _ _ _ _ _ _ _ _ fifth why))
