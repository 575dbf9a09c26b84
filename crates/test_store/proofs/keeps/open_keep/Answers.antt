use Rattle.test_store.proofs.keeps.open_keep.Goals as goal

pub returns-in-Ok : goal.returns-in-Ok
returns-in-Ok g c = record {
  shown = rw (c.of_house.ensures.conn) (c.in-Ok.ensures.follows.clean, λ honest. ((c.in-Ok.ensures.opened.rests honest).house, c.in-Ok.ensures.arranged honest));
}
