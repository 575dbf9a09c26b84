-- One place of two lists of messages, as a caller sees it.
use Rattle.std.specs.Prelude.{if◌then◌else◌, ◌≡◌, ◌↔◌, ◌⊎◌, ◌∷◌, ◌++◌, [], ℕ, List, Bool, true, false, Result, Ok, Err}
use Rattle.house_rows.specs.declared.message.Message.{Message}
use Rattle.house_rows.specs.declared.settings.Settings.{Settings}
use Rattle.house_rows.specs.History.{History}
use Rattle.house_rows.specs.Runs.{Agrees}
use Rattle.house_rows.specs.Tables.{Tables, tables_of}
use Rattle.settle.specs.declared.zone.Zone.{Zone}
use Rattle.site.specs.Replies.{next_of, reply_to, zone_of}
use Rattle.site.specs.Runs.{is_from}
use Rattle.site.specs.declared.engine.Site.{Site}
use Rattle.site_request.specs.Asked.{IsAsked}
use Rattle.site_request.specs.declared.asked.Asked.{Asked}
use Rattle.site_request.specs.declared.fault.RequestFault.{RequestFault}
use Rattle.site_audit.specs.declared.fault.AuditFault.{AuditFault}
use Rattle.site_audit.specs.declared.fault.AuditFault.TheVariants.{Memory, Store, NotNew}
use Rattle.site_replies.specs.Texts.{IsServed, is_failure, is_refusal_of_memory}

-- the keep of a site
abbrev pub keep_of : {K : Type 0} → Site K → K
keep_of site = site.keep

-- a site that was asked something: what is honest after it was so before, a keep that has failed
-- stays failed, and the zone is the same
pub record IsUsed {K : Type 0} (is_failed : K → Bool) (is_honest : K → Type 0) (old new : Site K)
    : Type 0 where
  pub honest : is_honest (keep_of new) → is_honest (keep_of old)
  pub stays : is_failed (keep_of old) ≡ true → is_failed (keep_of new) ≡ true
  pub zone : zone_of new ≡ zone_of old

-- a text, with what it asks
pub record Heard : Type 0 where
  pub text : List ℕ
  pub asked : Asked

-- this text was heard, and asks that
pub record IsHeard (text : List ℕ) (heard : Heard) : Type 0 where
  pub same : heard.text ≡ text
  pub asks : IsAsked text heard.asked

-- what it means
abbrev pub heard_message : Heard → Message RequestFault
heard_message heard = heard.asked.message

-- two texts are equal, byte for byte, or neither is the caller's
abbrev pub ArePaired : ℕ → Heard → Heard → Type 0
ArePaired c x y = (x ≡ y) ⊎ ((is_from c x.asked ≡ false) × (is_from c y.asked ≡ false))

-- one place of twin runs, over the histories before it
pub record IsTwinPlace (settings : Settings) (c : ℕ) (h k : History) (x y : Heard) : Type 0 where
  pub paired : ArePaired c x y
  pub agree : Agrees settings c (next_of settings h x.asked) (next_of settings k y.asked)

-- the reply at one place, where it is the caller's
abbrev pub reply_at : Settings → Zone → ℕ → History → Asked → List (List ℕ)
reply_at settings zone c h asked =
    if is_from c asked then reply_to settings zone h asked ∷ [] else []

-- two keeps have the tables of these histories
pub record Have {K : Type 0} (content : K → Tables) (settings : Settings) (h k : History)
    (left right : K) : Type 0 where
  pub left_has : content left ≡ tables_of settings h
  pub right_has : content right ≡ tables_of settings k

-- a place is one of twin runs: the keeps have the tables after it, and the caller's reply is kept
pub record GoesOn {K : Type 0} (content : K → Tables) (settings : Settings) (zone : Zone) (c : ℕ)
    (h k : History) (x y : Heard) (before after : List (List ℕ)) (left right : K) : Type 0 where
  pub twin : IsTwinPlace settings c h k x y
  pub have : Have content settings (next_of settings h x.asked) (next_of settings k y.asked)
      left right
  pub kept : after ≡ before ++ reply_at settings zone c h x.asked

-- the result for a place: whether it is one of twin runs; or memory was refused, or a store failed
abbrev pub IsPlaceReported : {K : Type 0} → (K → Tables) → (K → Bool) → Settings → Zone → ℕ → History
    → History → Heard → Heard → List (List ℕ) → List (List ℕ) → K → K → Result Bool AuditFault
    → Type 0
IsPlaceReported content is_failed settings zone c h k x y before after left right (Ok true) =
    GoesOn content settings zone c h k x y before after left right
IsPlaceReported content is_failed settings zone c h k x y before after left right (Ok false) =
    ¬ (IsTwinPlace settings c h k x y)
IsPlaceReported content is_failed settings zone c h k x y before after left right (Err Memory) = Unit {0}
IsPlaceReported content is_failed settings zone c h k x y before after left right (Err Store) =
    (is_failed left ≡ true) ⊎ (is_failed right ≡ true)
IsPlaceReported content is_failed settings zone c h k x y before after left right (Err NotNew) = ⊥

-- the result of a look at two keeps: whether P holds, and the tables stay; or memory was refused,
-- or a store has failed
abbrev pub IsSeen : {K : Type 0} → (K → Tables) → (K → Bool) → Type 0 → K → K → K → K
    → Result Bool AuditFault → Type 0
IsSeen content is_failed P left right left_new right_new (Ok report) = ((report ≡ true) ↔ P)
    × (content left_new ≡ content left) × (content right_new ≡ content right)
IsSeen content is_failed P left right left_new right_new (Err Memory) = Unit {0}
IsSeen content is_failed P left right left_new right_new (Err Store) =
    (is_failed left_new ≡ true) ⊎ (is_failed right_new ≡ true)
IsSeen content is_failed P left right left_new right_new (Err NotNew) = ⊥

-- a reply that was looked at is given on, or says that memory was refused, or reports a failure
abbrev pub IsJudged : {R : Type 0} → (R → List ℕ) → R → Result R AuditFault → Type 0
IsJudged items reply (Ok same) = (same ≡ reply) × IsServed (items reply)
IsJudged items reply (Err Memory) = is_refusal_of_memory (items reply) ≡ true
IsJudged items reply (Err Store) = is_failure (items reply) ≡ true
IsJudged items reply (Err NotNew) = ⊥

-- a message is answered by the definitions, and the keep has the tables after it; or memory was
-- refused, or the store has failed
abbrev pub IsReplyReported : {K R : Type 0} → (K → Tables) → (K → Bool) → (R → List ℕ) → Settings → Zone
    → History → Asked → K → Result R AuditFault → Type 0
IsReplyReported content is_failed items settings zone h asked new (Ok reply) =
    (items reply ≡ reply_to settings zone h asked)
    × (content new ≡ tables_of settings (next_of settings h asked))
IsReplyReported content is_failed items settings zone h asked new (Err Memory) = Unit {0}
IsReplyReported content is_failed items settings zone h asked new (Err Store) = is_failed new ≡ true
IsReplyReported content is_failed items settings zone h asked new (Err NotNew) = ⊥
