use Rattle.std.proofs.Common.{◌≡◌, Err}
use Rattle.house_rows.specs.declared.fault.KeepFault.TheVariants.{Damaged}
use Rattle.list_rows.specs.Blocks.{rows_of}
use Rattle.list_talk.proofs.Noting.{noted_before, noted_same, noted_still}
use Rattle.list_talk.proofs.concerns.Concerns.note.Goals as goal
use Rattle.list_talk.proofs.concerns.Concerns.note.Goals.{in-Err-Damaged, in_default, in_default-2}

pub returns-clause-noted : goal.returns-clause-noted
returns-clause-noted c =
    let made = rw c.self.view_is at c.put.ensures.made in
    elim c.match-put.branch [
      | in-Err-Damaged w ↦ (let taken : c.put.result ≡ Err Damaged = cc in rw w.result-is (noted_before c.put.result c.args.member c.args.item c.args.self.now (rows_of c.put.new.blocks.items) taken made))
      | in_default w ↦ noted_same c.put.result c.match-put.result c.args.member c.args.item c.args.self.now (rows_of c.put.new.blocks.items) (cc) made
      | in_default-2 w ↦ noted_same c.put.result c.match-put.result c.args.member c.args.item c.args.self.now (rows_of c.put.new.blocks.items) (cc) made
    ]

pub returns-clause-stays : goal.returns-clause-stays
returns-clause-stays c = λ m i. noted_still c.put.result c.args.member c.args.item m i c.args.self.now (rows_of c.put.new.blocks.items) (rw c.self.view_is at c.put.ensures.made)
