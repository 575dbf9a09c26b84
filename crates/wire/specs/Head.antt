-- A head within the limits, at the front of some bytes (RFC 9112, sections 2 to 5, as `httparse` states it).
use Rattle.std.specs.Prelude.{ℕ, ◌≤◌, List, ◌++◌, length}
use Rattle.httparse.specs.Grammar.{RequestHead, ReadsRequest, print_request}

-- the most fields of a head
abbrev pub most_fields : ℕ
most_fields = 64

-- the most bytes of a head, its empty line and the empty lines before it among them
abbrev pub most_bytes : ℕ
most_bytes = 8192

-- the bytes begin with the head h, within the limits, and then have rest
pub record BeginsHead (bytes : List ℕ) (h : RequestHead) (rest : List ℕ) : Type 0 where
  pub reads : ReadsRequest bytes h rest
  pub fields : length h.fields ≤ most_fields
  pub size : length (print_request h) ≤ most_bytes

-- no head is at the front
abbrev pub NoHead : List ℕ → Type 0
NoHead bytes = (h : RequestHead) (rest : List ℕ) → ¬ (BeginsHead bytes h rest)

-- no head is there, whatever follows
abbrev pub NeverHead : List ℕ → Type 0
NeverHead bytes = (more : List ℕ) → NoHead (bytes ++ more)
