-- What is held stays, and the room is what was last written.
use Rattle.std.proofs.Common.{◌≡◌, ◌≤◌, length, drop, slice_range, sym, ap, ◌∙◌, refl, arith, length-drop}
use Rattle.std.specs.List.{refill}
use Rattle.std.proofs.lemmas.List.{take_rest}
use Rattle.wire.specs.Held.{Held}
use Rattle.wire.proofs.Rooms.{held_kept, room_written, same_held}
use Rattle.wire.proofs.inbox.Inbox.space.Goals.{then-self-eq-ROOM, else-self-eq-ROOM}
use Rattle.wire.proofs.inbox.Inbox.space.Goals as goal

pub returns : goal.returns
returns c =
    let i = c.self-2.inside in
    let items = i.buffer.items in
    let size : i.buffer.len ≡ length items = i.buffer.ok.0 in
    let fits : i.end ≤ i.buffer.len = omega (arith, c.self-2.invariant, size) in
    let room : c.slice_mut.result.now ≡ drop i.end items = c.slice_mut.ensures.value ∙ ap (λ n. slice_range items i.end n) size
    ∙ take_rest items i.end in
    let held_here = ap (λ (h : Held). h.held) c.self-2.view_is in
    let room_here = ap (λ (h : Held). length h.room) c.self-2.view_is in
    let before : c.if-self-eq-ROOM.self.held ≡ c.args.self.now.held =
    elim c.if-self-eq-ROOM.branch [
      | then-self-eq-ROOM w ↦ ap (λ (h : Held). h.held) w.self-is ∙ w.pack.ensures.held
      | else-self-eq-ROOM w ↦ ap (λ (h : Held). h.held) w.self-is
    ] in
    let empty : length c.slice_mut.result.now ≡ 0 → length c.args.self.now.held ≡ 24576 =
    λ none. elim c.if-self-eq-ROOM.branch [
      | then-self-eq-ROOM w ↦ omega (
        arith,
        none,
        ap length room,
        room_here,
        ap (λ
            (h : Held). length h.room) w.self-is,
        w.pack.ensures.room,
      )
      | else-self-eq-ROOM w ↦
          let first = c.self.inside in
          let long = length-drop first.end first.buffer.items in
          let other : first.end ≡ 24576 → ⊥ = w.if-self-eq-ROOM.false in
          absurd (omega (
            arith,
            none,
            ap length room,
            room_here,
            ap (λ (h : Held). length h.room) w.self-is,
            ap (λ
                (h : Held). length h.room) c.self.view_is,
            long,
            c.self.invariant,
            other,
          ))
    ] in (
      (
        refl,
        λ w. same_held _ _ _ _ (held_kept items w i.buffer.len i.start i.end c.self-2.invariant.0 fits size ∙ held_here ∙ before)
            (room_written items w i.buffer.len i.end fits size ∙ ap (λ r. refill (length r) r w) (sym room)),
      ),
      record { lends = tt; empty = empty },
    )
