use Rattle.std.proofs.Common.{◌∙◌, sym, arith, rules}
use Rattle.house_rows.specs.Limits.{most_shown}
use Rattle.list_talk.proofs.Gathered.{front_start, shown_all, shown_full, shown_less, shown_more}
use Rattle.list_talk.proofs.lists.push_shown.Goals as goal
use Rattle.list_talk.proofs.lists.push_shown.Goals.{then-passes+in_ok-push_copy, else-passes}

pub loop-row-init : goal.loop-row-init
loop-row-init g c = (c.requires.callable, c.requires.room, λ test known. front_start most_shown c.args.found.now.items c.requires.room)

pub returns-then-len-ge-MOST_SHOWN-clause-ok : goal.returns-then-len-ge-MOST_SHOWN-clause-ok
returns-then-len-ge-MOST_SHOWN-clause-ok g c = λ test known.
    shown_full test most_shown c.args.found.now.items c.args.rows.now c.loop-row.row-index c.loop-row.found.items (c.loop-row.invariant.2 test known) (search rules)

pub loop-row-preserved : goal.loop-row-preserved
loop-row-preserved g c = (
  c.requires.callable,
  c.requires.room,
  λ test known.
      elim c.if-passes.branch [
        | then-passes+in_ok-push_copy w ↦ rw w.found-is (w.in_ok-push_copy.ensures.ok
            ∙ shown_more test most_shown c.args.found.now.items c.args.rows.now c.loop-row.row-index c.row-item.result c.loop-row.found.items c.loop-row-test.true c.row-item.is (c.loop-row.invariant.2 test known)
            (sym (known _ _ c.passes.ensures) ∙ w.if-passes.true) (search rules))
        | else-passes w ↦ rw w.found-is (shown_less test most_shown c.args.found.now.items c.args.rows.now c.loop-row.row-index c.row-item.result c.loop-row.found.items c.loop-row-test.true c.row-item.is (c.loop-row.invariant.2 test known)
            (sym (known _ _ c.passes.ensures) ∙ w.if-passes.false))
      ],
)

pub returns-clause-ok : goal.returns-clause-ok
returns-clause-ok g c = λ test known.
    shown_all test most_shown c.args.found.now.items c.args.rows.now c.loop-row.row-index c.loop-row.found.items (c.loop-row.invariant.2 test known) (omega arith)
