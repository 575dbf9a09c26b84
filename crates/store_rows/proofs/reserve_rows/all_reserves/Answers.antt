use Rattle.std.proofs.Common.{◌≡◌, ◌∙◌, ap, rules, map, subst, sym}
use Rattle.std.specs.List.{AllByRecursion}
use Rattle.sqlite.specs.Held.{state}
use Rattle.store_rows.proofs.StateLemmas.{ok_then}
use Rattle.store_rows.specs.Fitting.{ReserveRowFits}
use Rattle.store_rows.specs.Rows.{reserve_of}
use Rattle.store_rows.proofs.ReserveMeaning.{all_reserves_are}
use Rattle.store_rows.proofs.ReserveLemmas.{reserves_answer}
use Rattle.store_rows.proofs.reserve_rows.all_reserves.Goals as goal

pub rows_shown-requires-clause-plain : goal.rows_shown-requires-clause-plain
rows_shown-requires-clause-plain g c = λ b. (all_reserves_are b).2

pub returns-clause-reserves : goal.returns-clause-reserves
returns-clause-reserves g c clean =
    let same : c.deref.result.now ≡ c.in_ok-rows.rows.items = search rules in
    let found = reserves_answer (state g.S.Store c.args.conn.now) (state g.S.Store c.rows_shown.new.conn) c.in_ok-rows.rows.items (c.rows_shown.ensures.house clean) (c.in_ok-rows.ensures.rows clean) in
    ok_then c.all_of.result c.all_of.ensures.value (λ _ e. e ∙ ap (map reserve_of) same ∙ found)

pub returns-clause-damaged : goal.returns-clause-damaged
returns-clause-damaged g c clean fits =
    let same : c.deref.result.now ≡ c.in_ok-rows.rows.items = search rules in
    let found = reserves_answer (state g.S.Store c.args.conn.now) (state g.S.Store c.rows_shown.new.conn) c.in_ok-rows.rows.items (c.rows_shown.ensures.house clean) (c.in_ok-rows.ensures.rows clean) in
    c.all_of.ensures.damaged (subst (AllByRecursion ReserveRowFits) (sym (ap (map reserve_of) same ∙ found)) fits)
