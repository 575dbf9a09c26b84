-- A stream as a list of messages.
use Rattle.std.specs.Prelude.{◌≡◌, ◌≢◌, ◌++◌, ℕ, List, [], true, Bool, Ok, Err}
use Rattle.std.specs.List.{AllByRecursion, concat}
use Rattle.site_audit.specs.declared.messages.MessagesFault.{MessagesFault}
use Rattle.site_audit.specs.declared.messages.MessagesFault.TheVariants.{Broken, Memory, Read}
use Rattle.wire.specs.Frame.{IsFrame, IsFront}
use Rattle.wire.specs.Message.{Message}

-- the text is one whole message
abbrev pub IsWhole : List ℕ → Type 0
IsWhole text = (m : Message) × IsFrame text (Ok m)

-- bytes are these whole messages, one after the other, and then the rest
pub record IsCutInto (bytes : List ℕ) (texts : List (List ℕ)) (rest : List ℕ) : Type 0 where
  pub parts : bytes ≡ concat texts ++ rest
  pub whole : AllByRecursion IsWhole texts

-- reading stopped: memory was refused, or the source has failed
abbrev pub IsStopped : Bool → MessagesFault → Type 0
IsStopped failed Memory = Unit {0}
IsStopped failed Read = failed ≡ true
IsStopped failed (Broken f) = ⊥

-- why a stream is no list: its first messages come before a rest that begins with that fault; or
-- reading stopped
abbrev pub IsNoList : List ℕ → Bool → MessagesFault → Type 0
IsNoList stream failed (Broken f) =
    (texts : List (List ℕ)) × (rest : List ℕ) × IsCutInto stream texts rest × (rest ≢ [])
    × IsFront rest (Err f)
IsNoList stream failed Memory = IsStopped failed Memory
IsNoList stream failed Read = IsStopped failed Read
