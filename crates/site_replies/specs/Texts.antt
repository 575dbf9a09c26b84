-- The text of a reply. Start here.
use Rattle.std.specs.Prelude.{◌≡◌, ℕ, List, Bool, false, Option, None, take, drop, codes}
use Rattle.std.specs.Str.{bytes_eq}
use Rattle.house_rows.specs.declared.fault.KeepFault.{KeepFault}
use Rattle.house_rows.specs.declared.fault.KeepFault.TheVariants as keep_fault
use Rattle.house_rows.specs.declared.page.Page.{Page}
use Rattle.house_rows.specs.declared.page.Page.TheVariants.{Refused}
use Rattle.house_rows.specs.declared.reply.Reply.{Reply}
use Rattle.house_rows.specs.declared.reply.Reply.TheVariants.{Done, Denied, Shows, Faulty}
use Rattle.house_rows.specs.declared.command_result.CommandResult.{CommandResult}
use Rattle.house_rows.specs.declared.command_result.CommandResult.TheVariants.{Closed, Settlement, Watched}
use Rattle.house_rows.specs.Names.{refusal_status}
use Rattle.pages_json.specs.Words.{text_of}
use Rattle.pages_text.specs.Fits.{PageFits}
use Rattle.pages_text.specs.Trees.{page_tree, refusal_tree, result_tree}
use Rattle.settle.specs.declared.zone.Zone.{Zone}
use Rattle.site_request.specs.Faults.{allow_of, body_of, status_of}
use Rattle.site_request.specs.declared.fault.RequestFault.{RequestFault}
use Rattle.site_replies.specs.declared.reply_ref.ReplyRef.{ReplyRef}
use Rattle.site_replies.specs.declared.reply_ref.ReplyRef.TheVariants as ref
use Rattle.status.specs.declared.Status.{Status}
use Rattle.status.specs.declared.Status.TheVariants.{Created, InternalServerError, ServiceUnavailable, Success}
use Rattle.wire.specs.Response.{error_body, response_bytes}
use Rattle.wire.specs.declared.methods.Methods.{Methods}

-- what a reply that is to be written says
abbrev pub reply_of : ReplyRef → Reply RequestFault
reply_of (ref.Done report) = Done report.now
reply_of (ref.Denied refusal) = Denied refusal
reply_of (ref.Shows page) = Shows page.now
reply_of (ref.Faulty fault) = Faulty fault

-- a command that makes a row is answered 201, one that only changes rows 200
abbrev pub result_status : CommandResult → Status
result_status (Closed sold unsold) = Success
result_status (Settlement fee item net price) = Success
result_status (Watched item watched) = Success
result_status _ = Created

abbrev pub page_status : Page → Status
page_status (Refused refusal) = refusal_status refusal
page_status _ = Success

abbrev pub reply_status : Reply RequestFault → Status
reply_status (Done report) = result_status report
reply_status (Denied refusal) = refusal_status refusal
reply_status (Shows page) = page_status page
reply_status (Faulty fault) = status_of fault

-- the methods that a reply allows
abbrev pub reply_allow : Reply RequestFault → Option Methods
reply_allow (Faulty fault) = allow_of fault
reply_allow _ = None

-- the body: days are those of the zone
abbrev pub reply_body : Zone → Reply RequestFault → List ℕ
reply_body zone (Done report) = text_of (result_tree report)
reply_body zone (Denied refusal) = text_of (refusal_tree refusal)
reply_body zone (Shows page) = text_of (page_tree zone page)
reply_body zone (Faulty fault) = body_of fault

-- the one text of a reply; the connection ends after it or not
unfoldable pub reply_text : Zone → Bool → Reply RequestFault → List ℕ
reply_text zone closes reply =
    response_bytes (reply_status reply) (reply_allow reply) closes (reply_body zone reply)

-- a reply that can be written: its page can
abbrev pub ReplyFits : Reply RequestFault → Type 0
ReplyFits (Shows page) = PageFits page
ReplyFits _ = Unit {0}

-- the text where memory was refused, the store failed, or a row doesn't fit
unfoldable pub fault_text : KeepFault → Bool → List ℕ
fault_text keep_fault.Memory closes =
    response_bytes ServiceUnavailable None closes (error_body (codes "memory"))
fault_text keep_fault.Store closes =
    response_bytes InternalServerError None closes (error_body (codes "store"))
fault_text keep_fault.Damaged closes =
    response_bytes InternalServerError None closes (error_body (codes "damaged"))

-- the three digits of the status of a reply
unfoldable pub digits_in : List ℕ → List ℕ
digits_in text = take 3 (drop 9 text)

-- whether a reply is 503: memory was refused
abbrev pub is_refusal_of_memory : List ℕ → Bool
is_refusal_of_memory text = bytes_eq (digits_in text) (codes "503")

-- whether it is 500: the store failed, or a row doesn't fit
abbrev pub is_failure : List ℕ → Bool
is_failure text = bytes_eq (digits_in text) (codes "500")

-- a reply that is neither
pub record IsServed (text : List ℕ) : Type 0 where
  pub not_failed : is_failure text ≡ false
  pub not_wanting : is_refusal_of_memory text ≡ false
