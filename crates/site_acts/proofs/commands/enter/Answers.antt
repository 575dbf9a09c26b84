use Rattle.std.proofs.Common.{◌≡◌, arith, length}
use Rattle.house_rows.specs.declared.reply.Reply.TheVariants.{Done}
use Rattle.site_replies.specs.Texts.{reply_text}
use Rattle.site_acts.proofs.Staying.{cut_back}
use Rattle.site_acts.proofs.commands.enter.Goals as goal

pub returns-in-Err-clause-err : goal.returns-in-Err-clause-err
returns-in-Err-clause-err g c =
    let (report, after) = c.in_ok-foretell.ensures.text in
    let text = reply_text c.args.writer.now.zone c.args.closes (Done report) in
    let at : c.len-before.result ≡ length c.args.out.now.items =
    omega (arith, c.len-before.ensures, c.args.out.now.ok.0) in
    cut_back c.args.out.now.items text c.foretell.new.out.items c.truncate.new.self.items
    c.len-before.result at after c.truncate.ensures.items

pub returns-in-Ok-clause-text : goal.returns-in-Ok-clause-text
returns-in-Ok-clause-text g c = c.in_ok-foretell.ensures.text
