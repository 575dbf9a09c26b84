-- What the reply to an order says.
use Rattle.std.specs.Prelude.{◌≡◌, ◌≢◌, ℕ, List, ◌++◌, codes, false}
use Rattle.house_rows.specs.declared.fault.KeepFault.TheVariants as fault
use Rattle.site_replies.specs.Texts.{fault_text}
use Rattle.office.specs.declared.fault.ImportFault.{ImportFault}
use Rattle.office.specs.declared.fault.ImportFault.TheVariants as importing
use Rattle.office.specs.declared.outcome.Outcome.{Outcome}
use Rattle.office.specs.declared.outcome.Outcome.TheVariants as outcome

-- a row was made
abbrev pub IsCreated : List ℕ → Type 0
IsCreated reply = (rest : List ℕ) × (reply ≡ codes "HTTP/1.1 201 " ++ rest)

-- the reply where the seller has an item with the code
abbrev pub there_text : List ℕ
there_text = codes "HTTP/1.1 409 Conflict\r\ncontent-type: application/json\r\n"
    ++ codes "content-length: 33\r\n\r\n{\"error\":\"LotExists\",\"number\":13}"

-- neither of both, nor memory that ran out, nor a failure
pub record IsRefusal (reply : List ℕ) : Type 0 where
  pub not_created : ¬ (IsCreated reply)
  pub not_there : reply ≢ there_text
  pub no_memory : reply ≢ fault_text fault.Memory false
  pub no_store : reply ≢ fault_text fault.Store false
  pub no_damage : reply ≢ fault_text fault.Damaged false

-- what a reply says
abbrev pub Tells : List ℕ → Outcome → Type 0
Tells reply outcome.Listed = IsCreated reply
Tells reply outcome.There = reply ≡ there_text
Tells reply outcome.Refused = IsRefusal reply

-- why a reply ends an import: it is the text of the fault, or what it says can't be printed
abbrev pub Fails : List ℕ → ImportFault → Type 0
Fails reply importing.Memory = reply ≡ fault_text fault.Memory false
Fails reply importing.Store = reply ≡ fault_text fault.Store false
Fails reply importing.Damaged = reply ≡ fault_text fault.Damaged false
Fails reply importing.Write = (outcome : Outcome) × Tells reply outcome
Fails reply importing.Member = ⊥
Fails reply importing.Head = ⊥
Fails reply importing.Csv = ⊥
Fails reply importing.Read = ⊥
