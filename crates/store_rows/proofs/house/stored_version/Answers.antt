use Rattle.std.proofs.Common.{◌≡◌, ◌∙◌, ◌<◌, ◌^◌, ap, rules, slice_get, option_map, subst, sym, IfSome}
use Rattle.sqlite.specs.Held.{state}
use Rattle.sqlite_value.specs.Order.{column}
use Rattle.store_rows.specs.Rows.{number_in}
use Rattle.store_rows.proofs.StateLemmas.{ok_then}
use Rattle.store_rows.proofs.HouseMeaning.{version_is}
use Rattle.store_rows.proofs.HouseLemmas.{first_version}
use Rattle.store_rows.proofs.house.stored_version.Goals as goal

pub rows_shown-requires-clause-plain : goal.rows_shown-requires-clause-plain
rows_shown-requires-clause-plain g c = λ b. (version_is b).2

pub returns-clause-found : goal.returns-clause-found
returns-clause-found g c clean =
    let shown = rw c.params-to_sql.ensures at (c.in_ok-rows.ensures.rows clean) in
    let same : c.deref.result.now ≡ c.in_ok-rows.rows.items = search rules in
    let found = first_version (state g.S.Store c.args.conn.now) (state g.S.Store c.rows_shown.new.conn) c.in_ok-rows.rows.items (c.rows_shown.ensures.house clean) shown in
    ok_then c.first_of.result c.first_of.ensures.value (λ _ e. e ∙ ap (λ l. option_map (λ r. number_in (column r 0)) (slice_get l 0)) same ∙ found)

pub returns-clause-damaged : goal.returns-clause-damaged
returns-clause-damaged g c clean fits =
    let shown = rw c.params-to_sql.ensures at (c.in_ok-rows.ensures.rows clean) in
    let same : c.deref.result.now ≡ c.in_ok-rows.rows.items = search rules in
    let found = first_version (state g.S.Store c.args.conn.now) (state g.S.Store c.rows_shown.new.conn) c.in_ok-rows.rows.items (c.rows_shown.ensures.house clean) shown in
    c.first_of.ensures.damaged (subst (λ o. IfSome o (λ n. n < 2 ^ 32)) (sym (ap (λ l. option_map (λ r. number_in (column r 0)) (slice_get l 0)) same ∙ found)) fits)
