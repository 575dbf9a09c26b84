-- What serving a stream does. Start here.
use Rattle.std.specs.Prelude.{◌≡◌, ◌≢◌, ◌⊎◌, ℕ, ◌≤◌, List, [], ◌∷◌, ◌++◌, length, map, take, true, Option, None, Ok}
use Rattle.std.specs.Io.KnownBytes.{Appends, Consumes}
use Rattle.std.specs.List.{concat}
use Rattle.site.specs.Runs.{InTurn}
use Rattle.site.specs.declared.engine.Site.{Site}
use Rattle.site_request.specs.Asked.{asked_of}
use Rattle.site_request.specs.declared.asked.Asked.{Asked}
use Rattle.wire.specs.Response.{error_body, response_bytes}
use Rattle.wire.specs.Cut.{Cut, Stop, closed, limit, clean, broken}
use Rattle.wire.specs.Fault.{status_of, word_of}
use Rattle.wire.specs.Front.{EndsInBody, EndsInHead}
use Rattle.wire.specs.Message.{Message}
use Rattle.wire.specs.declared.fault.WireFault.{WireFault}
use Rattle.site_serve.specs.declared.server.Ending.{Ending}
use Rattle.site_serve.specs.declared.server.Ending.TheVariants as ending
use Rattle.site_serve.specs.declared.server.Served.{Served}

-- the keep of a site
abbrev pub keep_of : {K : Type 0} → Site K → K
keep_of site = site.keep

-- what a whole message asks
abbrev pub heard : Message → Asked
heard m = asked_of (Ok m)

-- the reply to a broken rest
abbrev pub fault_bytes : WireFault → List ℕ
fault_bytes f = response_bytes (status_of f) None true (error_body (word_of f))

-- what is written for a rest
abbrev pub rest_bytes : Stop → List ℕ
rest_bytes closed = []
rest_bytes limit = []
rest_bytes clean = []
rest_bytes (broken f) = fault_bytes f

-- how a stream ends that is cut there
abbrev pub ending_of : Stop → Ending
ending_of closed = ending.Closed
ending_of limit = ending.Limit
ending_of clean = ending.Clean
ending_of (broken f) = ending.Broken

-- what is written and done for a whole stream, and the result
pub record HasServed {K : Type 0}
    (Step : Asked → List ℕ → K → K → Type 0) (stream : List ℕ) (most : ℕ)
    (before after : Option (List ℕ)) (old new : K) (served : Served) : Type 0 where
  pub messages : List Message
  pub rest : List ℕ
  pub stop : Stop
  pub cut : Cut stream most messages rest stop
  pub replies : List (List ℕ)
  pub answered : InTurn Step (map heard messages) replies old new
  pub written : Appends before after (concat replies ++ rest_bytes stop)
  pub counted : served.messages ≡ length messages
  pub ending : served.ending ≡ ending_of stop

-- the reader failed in a wait for more: the messages of what had been read were answered, what is
-- left of it may become one, and neither did the last of them end the connection nor were they as
-- many as were asked for
pub record HasRead {K : Type 0}
    (Step : Asked → List ℕ → K → K → Type 0) (left now : Option (List ℕ)) (most : ℕ)
    (before after : Option (List ℕ)) (old new : K) : Type 0 where
  pub read : List ℕ
  pub took : Consumes left now read
  pub messages : List Message
  pub rest : List ℕ
  pub stop : Stop
  pub cut : Cut read most messages rest stop
  pub waiting : (stop ≢ closed) × (stop ≢ limit)
  pub unfinished : EndsInHead rest ⊎ EndsInBody rest
  pub replies : List (List ℕ)
  pub answered : InTurn Step (map heard messages) replies old new
  pub written : Appends before after (concat replies)

-- the writer failed in a reply: the stream's first messages were answered, the last of them in part
pub record InReply {K : Type 0}
    (Step : Asked → List ℕ → K → K → Type 0) (stream : List ℕ) (most : ℕ)
    (before after : Option (List ℕ)) (old new : K) : Type 0 where
  pub messages : List Message
  pub rest : List ℕ
  pub stop : Stop
  pub cut : Cut stream (length messages) messages rest stop
  pub few : length messages ≤ most
  pub whole : List (List ℕ)
  pub last : List ℕ
  pub answered : InTurn Step (map heard messages) (whole ++ last ∷ []) old new
  pub part : ℕ
  pub within : part ≤ length last
  pub written : Appends before after (concat whole ++ take part last)

-- the writer failed in the reply to a broken rest
pub record InFault {K : Type 0}
    (Step : Asked → List ℕ → K → K → Type 0) (stream : List ℕ) (most : ℕ)
    (before after : Option (List ℕ)) (old new : K) : Type 0 where
  pub messages : List Message
  pub rest : List ℕ
  pub fault : WireFault
  pub cut : Cut stream most messages rest (broken fault)
  pub whole : List (List ℕ)
  pub answered : InTurn Step (map heard messages) whole old new
  pub part : ℕ
  pub within : part ≤ length (fault_bytes fault)
  pub written : Appends before after (concat whole ++ take part (fault_bytes fault))

-- the writer failed
abbrev pub HasWritten : {K : Type 0} → (Asked → List ℕ → K → K → Type 0) → List ℕ → ℕ
    → Option (List ℕ) → Option (List ℕ) → K → K → Type 0
HasWritten Step stream most before after old new =
    InReply Step stream most before after old new ⊎ InFault Step stream most before after old new

-- the sink is as it was, or has handed on all that it took
abbrev pub IsFlushed : {W : Type 0} → (W → Option (List ℕ)) → (W → Option (List ℕ))
    → W → W → Type 0
IsFlushed handed_on taken old new = (new ≡ old) ⊎ (handed_on new ≡ taken new)
