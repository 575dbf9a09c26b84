use Rattle.std.proofs.Common.{arith, rules}
use Rattle.sqlite.specs.Held.{state}
use Rattle.store_rows.proofs.StateLemmas.{shown_same, query_ended, only_reads, plain_at}
use Rattle.store_rows.proofs.sql.rows_shown.Goals as goal

pub returns-in-Ok-clause-read : goal.returns-in-Ok-clause-read
returns-in-Ok-clause-read g c =
    let old = state g.S.Store c.args.conn.now in
    let plain = plain_at c.args.sql.now old c.requires.plain in
    let crash = only_reads _ _ old _ (λ clean. plain (c.requires.serves clean).1) c.query_all.ensures.survives in record {
      same = λ clean. shown_same _ _ _ _ (plain (c.requires.serves (omega (arith, crash.clean, clean))).1) c.in-Ok.rows.items (c.in-Ok.ensures.ok clean);
      err = search rules;
      mode = search rules;
      crash = crash;
    }

pub returns-in-Err-clause-read : goal.returns-in-Err-clause-read
returns-in-Err-clause-read g c =
    let old = state g.S.Store c.args.conn.now in
    let plain = plain_at c.args.sql.now old c.requires.plain in
    let crash = only_reads _ _ old _ (λ clean. plain (c.requires.serves clean).1) c.query_all.ensures.survives in record {
      same = search rules;
      err = λ clean. query_ended _ _ _ _ (plain (c.requires.serves (omega (arith, crash.clean, clean))).1) c.in-Err.error (c.in-Err.ensures.err clean);
      mode = search rules;
      crash = crash;
    }
