use Rattle.std.proofs.Common.{◌≡◌, ◌∙◌, ap, sym, Some, None}
use Rattle.std.specs.Prelude.{◌||◌, nat_lt}
use Rattle.house_rows.specs.declared.command.Command.TheVariants.{Watch}
use Rattle.house_rows.specs.declared.refusal.Refusal.TheVariants.{Limit}
use Rattle.house_rows.specs.Found.{is_watched, watch_count}
use Rattle.house_rows.specs.Limits.{most_watches}
use Rattle.house.specs.ByTables.{room_rules}
use Rattle.house.proofs.Decides.{accepts, looked, refuses}
use Rattle.house.proofs.OnItems.{row_there}
use Rattle.house.proofs.Reported.{has_room, no_room, of_found}
use Rattle.house.proofs.Unchanged.{still_there}
use Rattle.house.proofs.Watched.{watch_accepts, watch_fits, watch_full, watch_refused}
use Rattle.house.proofs.watchlist.watch.Goals as goal
use Rattle.house.proofs.watchlist.watch.Goals.{In_ok-may_watch}

-- what the second read answered is true of the tables before the first
room : (g : _) (c : In_ok-may_watch g) → g.K.Keep.is_honest c.may_watch.new.keep
    → c.in_ok-may_watch.field-0 ≡ (is_watched (g.K.Keep.content c.args.keep.now) c.args.caller c.args.item || nat_lt (watch_count (g.K.Keep.content c.args.keep.now) c.args.caller) most_watches)
room g c honest =
    rw (still_there c.in_ok-on.field-0 g.K.Keep.content g.K.Keep.is_failed g.K.Keep.is_honest g.K.Keep.may_leave c.args.keep.now c.on_item.new.keep
    c.in_ok-on.ensures.faults c.in_ok-on.ensures.read (c.in_ok-may_watch.ensures.read.honest honest)) at (c.in_ok-may_watch.ensures.value honest)

pub returns-in-Err : goal.returns-in-Err
returns-in-Err g c = refuses c.in_ok-on.ensures.faults c.in_ok-on.ensures.read (λ honest settings h is e.
    watch_refused (g.K.Keep.content c.args.keep.now) settings h c.args.moment c.args.caller c.args.item c.in-Err.refusal e (rw c.in-Err.is at c.in_ok-on.ensures.value honest))
    (λ honest rows. (rw c.in-Err.is at c.in_ok-on.ensures.value honest) (room_rules (g.K.Keep.content c.args.keep.now) c.args.caller c.args.item))

pub returns-then-not-branch : goal.returns-then-not-branch
returns-then-not-branch g c = refuses c.in_ok-may_watch.ensures.faults
    (looked c.in_ok-on.ensures.faults c.in_ok-on.ensures.read c.in_ok-may_watch.ensures.read) (λ honest settings h is e.
    let on = rw c.in-Ok.is at c.in_ok-on.ensures.value (c.in_ok-may_watch.ensures.read.honest honest) in
    watch_full (g.K.Keep.content c.args.keep.now) settings h c.args.moment c.args.caller c.args.item c.in-Ok.on.terms is e on.1 on.2
    (sym (room g (goal.at.returns-then-not-branch g c).In_ok-may_watch honest) ∙ c.if-not-branch.true))
    (λ honest rows.
    let on = rw c.in-Ok.is at c.in_ok-on.ensures.value (c.in_ok-may_watch.ensures.read.honest honest) in
    of_found (g.K.Keep.content c.args.keep.now) c.args.moment c.args.caller c.args.item c.in-Ok.on.terms (room_rules (g.K.Keep.content c.args.keep.now) c.args.caller c.args.item) (Some Limit) on.1 on.2
    (no_room (is_watched (g.K.Keep.content c.args.keep.now) c.args.caller c.args.item || nat_lt (watch_count (g.K.Keep.content c.args.keep.now) c.args.caller) most_watches)
    (sym (room g (goal.at.returns-then-not-branch g c).In_ok-may_watch honest) ∙ c.if-not-branch.true)))

pub returns : goal.returns
returns g c = accepts c.in_ok-may_watch.ensures.faults
    (looked c.in_ok-on.ensures.faults c.in_ok-on.ensures.read c.in_ok-may_watch.ensures.read)
    (λ honest settings h is e.
    let on = rw c.in-Ok.is at c.in_ok-on.ensures.value (c.in_ok-may_watch.ensures.read.honest honest) in
    watch_accepts (g.K.Keep.content c.args.keep.now) settings h c.args.moment c.args.caller c.args.item c.in-Ok.on.terms c.in-Ok.on.member is e on.0 on.1 on.2
    (sym (room g (goal.at.returns g c).In_ok-may_watch honest) ∙ c.if-not-branch.false))
    (λ honest rows.
    let on = rw c.in-Ok.is at c.in_ok-on.ensures.value (c.in_ok-may_watch.ensures.read.honest honest) in
    of_found (g.K.Keep.content c.args.keep.now) c.args.moment c.args.caller c.args.item c.in-Ok.on.terms (room_rules (g.K.Keep.content c.args.keep.now) c.args.caller c.args.item) None on.1 on.2
    (has_room (is_watched (g.K.Keep.content c.args.keep.now) c.args.caller c.args.item || nat_lt (watch_count (g.K.Keep.content c.args.keep.now) c.args.caller) most_watches)
    (sym (room g (goal.at.returns g c).In_ok-may_watch honest) ∙ c.if-not-branch.false)))
    (λ honest rows few.
    let on = rw c.in-Ok.is at c.in_ok-on.ensures.value (c.in_ok-may_watch.ensures.read.honest honest) in
    watch_fits (g.K.Keep.content c.args.keep.now) c.args.moment c.args.caller c.args.item c.in-Ok.on.terms c.in-Ok.on.member few on.0 on.1 on.2
    (sym (room g (goal.at.returns g c).In_ok-may_watch honest) ∙ c.if-not-branch.false))
    (λ honest.
    let on = rw c.in-Ok.is at c.in_ok-on.ensures.value (c.in_ok-may_watch.ensures.read.honest honest) in
    record { same_command = ap Watch (row_there (g.K.Keep.content c.args.keep.now) c.args.item c.in-Ok.on.terms on.1).numbered; same_caller = on.0; same_moment = tt })
