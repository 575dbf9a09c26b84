-- What a clause reads of a writer as a gathering sink.
use Rattle.std.specs.Prelude.{◌≡◌, ℕ, ◌+◌, List, ◌++◌, length, Bool, Option, Some, None, Result, Ok, refl}
use Rattle.std.specs.Io.KnownBytes.{Appends, append_known}
use Rattle.device.specs.declared.failure.Failure.{Failure}
use Rattle.device.specs.declared.std_writer.Writing.{Writing}
use Rattle.device.specs.Room.{items, room}

-- the writer after it
abbrev pub writer_of : {W : Type 0} → Writing W → W
writer_of s = s.writer

-- the bytes held, not written yet
abbrev pub held_of : {W : Type 0} → Writing W → List ℕ
held_of s = items s.held

-- how many more bytes can be held
abbrev pub room_of : {W : Type 0} → Writing W → ℕ
room_of s = room s.held

-- whether it failed
abbrev pub writing_has_failed : {W : Type 0} → Writing W → Bool
writing_has_failed s = s.failed

-- the writer's bytes, where they are known
abbrev pub handed_on_of : {W : Type 0} → (W → Option (List ℕ)) → Writing W → Option (List ℕ)
handed_on_of contents s = contents s.writer

-- the writer's bytes, where they are known, and then those held
abbrev pub taken_of : {W : Type 0} → (W → Option (List ℕ)) → Writing W → Option (List ℕ)
taken_of contents s = append_known (contents s.writer) (items s.held)

-- what is held comes after the writer's bytes
pub taken_of-held : {W : Type 0} (contents : W → Option (List ℕ)) (s : Writing W)
    → Appends (handed_on_of contents s) (taken_of contents s) (held_of s)
taken_of-held contents s =
    elim (contents s.writer) as (λ k. Appends k (append_known k (held_of s)) (held_of s)) [
      | None ↦ tt
      | Some xs ↦ refl
    ]

-- the bytes are held, and the writer is as it was
pub record Gathers {W : Type 0} (old new : Writing W) (result : Result ℕ Failure) (bytes : List ℕ) : Type 0 where
  pub all : result ≡ Ok (length bytes)
  pub writer : new.writer ≡ old.writer
  pub held : items new.held ≡ items old.held ++ bytes
  pub room_left : room new.held + length bytes ≡ room old.held
