use Rattle.std.proofs.Common.{arith}
use Rattle.sqlite.specs.Held.{state}
use Rattle.sqlite.specs.Values.{bound}
use Rattle.store_rows.proofs.StartLemmas.{shows_first}
use Rattle.store_rows.proofs.StateLemmas.{plain_at}
use Rattle.store_rows.proofs.first.first_rows.Goals as goal

pub rows_given-requires : goal.rows_given-requires
rows_given-requires g c clean = plain_at c.args.sql.now (state g.S.Store c.args.conn.now) c.requires.plain (c.requires.serves clean).1

pub returns-in-Ok-clause-rows : goal.returns-in-Ok-clause-rows
returns-in-Ok-clause-rows g c clean =
    let house = (c.requires.serves (omega (arith, c.rows_given.ensures.read.crash.clean))).1 in
    shows_first c.args.most c.args.sql.now (bound c.args.params.now) (state g.S.Store c.args.conn.now) (state g.S.Store c.rows_given.new.conn) c.in-Ok.rows.items house c.requires.plain c.requires.finite
    (c.in-Ok.ensures.read.same clean) (c.in-Ok.ensures.begin clean) c.in-Ok.ensures.few (c.in-Ok.ensures.whole clean)
