use Rattle.std.proofs.Common.{subst}
use Rattle.std.specs.Cow.{cow_slice_items}
use Rattle.auction_runs.specs.Setup.{IsCreated, Refuses}
use Rattle.auction_runs.proofs.Outcomes.{if_err_then, on_ok_then}
use Rattle.site_request.specs.Asked.{IsAsked}
use Rattle.auction_runs.proofs.setup.send.Goals as goal

pub returns-clause-taken : goal.returns-clause-taken
returns-clause-taken g c =
    let (asked, by_text, step) = c.reply.ensures.step in
    on_ok_then c.check_reply.result c.check_reply.ensures.taken (λ created. record {
      asked = asked;
      by_text = subst (λ text. IsAsked text asked) c.as_bytes.ensures.value by_text;
      reply = cow_slice_items c.reply.result;
      step = step;
      created = subst IsCreated c.deref.ensures.value created;
    })

pub returns-clause-why : goal.returns-clause-why
returns-clause-why g c =
    let (asked, by_text, step) = c.reply.ensures.step in
    if_err_then c.check_reply.result c.check_reply.ensures.why (λ fault refused. record {
      asked = asked;
      by_text = subst (λ text. IsAsked text asked) c.as_bytes.ensures.value by_text;
      reply = cow_slice_items c.reply.result;
      step = step;
      refused = subst (λ text. Refuses text fault) c.deref.ensures.value refused;
    })
