use Rattle.std.proofs.Common.{◌≡◌, ◌==◌, ◌<◌, ◌^◌, ◌∙◌, ap, arith, length, not, rules, sym}
use Rattle.sqlite.specs.Held.{state}
use Rattle.house_rows.specs.Fits.{IsMember, MemberFits}
use Rattle.house_rows.specs.declared.people.Member.{Member}
use Rattle.store_rows.specs.Rows.{members_in}
use Rattle.store_house.proofs.NumbersLemmas.{finds_err, finds_ok, reads_err, reads_still}
use Rattle.store_house.proofs.FindMeaning.{has_member_is}
use Rattle.store_house.proofs.PeopleFinds.{here_number, member_found}
use Rattle.store_house.proofs.look_ups.has_member.Goals as goal
use Rattle.store_house.proofs.look_ups.has_member.Goals.{else-member-ge1-via-then-member-ge1+else-member-le-MOST_MEMBERS, else-member-ge1-via-else-member-ge1}

pub rows_shown-requires-clause-plain : goal.rows_shown-requires-clause-plain
rows_shown-requires-clause-plain g c = λ b. (has_member_is b).2

pub returns-in_err-rows-clause-finds : goal.returns-in_err-rows-clause-finds
returns-in_err-rows-clause-finds g c =
    finds_err _ _ _ _ _ _ _ c.from_residual.ensures.1 (λ _ _. c.in_err-rows.ensures.sound)
    (reads_err _ _ _ c.from_residual.ensures.1 c.in_err-rows.ensures.read)

pub returns-then-is_empty-clause-finds : goal.returns-then-is_empty-clause-finds
returns-then-is_empty-clause-finds g c =
    let old = state g.S.Store c.args.conn.now in
    let low : c.args.member < 2 ^ 32 = omega (arith, c.ranges.member) in
    let none : c.is_empty.result ≡ (length c.in_ok-rows.rows.items == 0) = search rules in
    finds_ok _ _ _ _ _ _
    (λ clean.
    let shown = rw c.params-to_sql.ensures at (c.in_ok-rows.ensures.rows clean) in
    ap not (sym c.if-is_empty.true ∙ none) ∙ member_found c.args.member low old (state g.S.Store c.rows_shown.new.conn) c.in_ok-rows.rows.items (c.rows_shown.ensures.house clean) shown)
    (reads_still _ _ _ c.in_ok-rows.ensures.read)

pub returns-then-member-le-MOST_MEMBERS-clause-finds : goal.returns-then-member-le-MOST_MEMBERS-clause-finds
returns-then-member-le-MOST_MEMBERS-clause-finds g c =
    let old = state g.S.Store c.args.conn.now in
    let low : c.args.member < 2 ^ 32 = omega (arith, c.ranges.member) in
    let none : c.is_empty.result ≡ (length c.in_ok-rows.rows.items == 0) = search rules in
    finds_ok _ _ _ _ _ _
    (λ clean.
    let shown = rw c.params-to_sql.ensures at (c.in_ok-rows.ensures.rows clean) in
    ap not (sym c.if-is_empty.false ∙ none) ∙ member_found c.args.member low old (state g.S.Store c.rows_shown.new.conn) c.in_ok-rows.rows.items (c.rows_shown.ensures.house clean) shown)
    (reads_still _ _ _ c.in_ok-rows.ensures.read)

pub returns-clause-finds : goal.returns-clause-finds
returns-clause-finds g c =
    let old = state g.S.Store c.args.conn.now in
    let low : c.args.member < 2 ^ 32 = omega (arith, c.ranges.member) in
    let none : c.is_empty.result ≡ (length c.in_ok-rows.rows.items == 0) = search rules in
    record {
      value = λ _. tt;
      damaged = λ clean fits is. (
          let shown = rw c.params-to_sql.ensures at (c.in_ok-rows.ensures.rows clean) in
          let some = ap not (sym c.if-is_empty.false ∙ none) ∙ member_found c.args.member low old (state g.S.Store c.rows_shown.new.conn) c.in_ok-rows.rows.items (c.rows_shown.ensures.house clean) shown in
          let within = here_number (λ (row : Member). row.member) MemberFits IsMember c.args.member (members_in old.now.trees) (λ row fit. fit.member) fits (sym some) in
          elim c.else-member-ge1.branch [
            | else-member-ge1-via-then-member-ge1+else-member-le-MOST_MEMBERS w ↦ omega (arith, within.1, w.if-member-le-MOST_MEMBERS.false)
            | else-member-ge1-via-else-member-ge1 w ↦ omega (arith, within.0, w.if-member-ge1.false)
          ]);
      read = reads_still _ _ _ c.in_ok-rows.ensures.read;
    }
