-- The status that a text says, and that no reply has 500 or 503.
use Rattle.std.proofs.Common.{◌≡◌, ℕ, List, Bool, Option, None, refl}
use Rattle.std.specs.Prelude.{codes, false, true}
use Rattle.std.specs.Str.{bytes_eq}
use Rattle.house_rows.specs.declared.fault.KeepFault.TheVariants as keep_fault
use Rattle.house_rows.specs.declared.page.Page.{Page}
use Rattle.house_rows.specs.declared.page.Page.TheVariants as page
use Rattle.house_rows.specs.declared.refusal.Refusal.{Refusal}
use Rattle.house_rows.specs.declared.refusal.Refusal.TheVariants as refusal
use Rattle.house_rows.specs.declared.reply.Reply.{Reply}
use Rattle.house_rows.specs.declared.reply.Reply.TheVariants.{Done, Denied, Shows, Faulty}
use Rattle.house_rows.specs.declared.command_result.CommandResult.{CommandResult}
use Rattle.house_rows.specs.declared.command_result.CommandResult.TheVariants as report
use Rattle.house_rows.specs.Names.{refusal_status}
use Rattle.settle.specs.declared.zone.Zone.{Zone}
use Rattle.site_request.specs.Faults.{status_of}
use Rattle.site_request.specs.declared.fault.RequestFault.{RequestFault}
use Rattle.site_request.specs.declared.fault.RequestFault.TheVariants as fault
use Rattle.site_replies.specs.Texts.{IsServed, digits_in, fault_text, is_failure, is_refusal_of_memory, page_status, reply_status, reply_text, result_status}
use Rattle.status.specs.declared.Status.{Status}
use Rattle.status.specs.declared.Status.TheVariants.{Success, Created, BadRequest, Forbidden, NotFound, MethodNotAllowed, Conflict, ContentTooLarge, InternalServerError, NotImplemented, ServiceUnavailable}
use Rattle.wire.specs.Response.{head_start, response_bytes, status_line}
use Rattle.wire.specs.Fault as frame
use Rattle.wire.specs.declared.fault.WireFault.{WireFault}
use Rattle.wire.specs.declared.fault.WireFault.TheVariants as wire
use Rattle.wire.specs.declared.methods.Methods.{Methods}

-- the digits of a status
abbrev digits_of : Status → List ℕ
digits_of Success = codes "200"
digits_of Created = codes "201"
digits_of BadRequest = codes "400"
digits_of Forbidden = codes "403"
digits_of NotFound = codes "404"
digits_of MethodNotAllowed = codes "405"
digits_of Conflict = codes "409"
digits_of ContentTooLarge = codes "413"
digits_of InternalServerError = codes "500"
digits_of NotImplemented = codes "501"
digits_of ServiceUnavailable = codes "503"

-- a reply has them at their place
digits : (s : Status) (allow : Option Methods) (closes : Bool) (body : List ℕ)
    → digits_in (response_bytes s allow closes body) ≡ digits_of s
unfolding digits_in response_bytes head_start status_line
digits Success allow closes body = refl
digits Created allow closes body = refl
digits BadRequest allow closes body = refl
digits Forbidden allow closes body = refl
digits NotFound allow closes body = refl
digits MethodNotAllowed allow closes body = refl
digits Conflict allow closes body = refl
digits ContentTooLarge allow closes body = refl
digits InternalServerError allow closes body = refl
digits NotImplemented allow closes body = refl
digits ServiceUnavailable allow closes body = refl

-- neither 500 nor 503
abbrev Serves : Status → Type 0
Serves s =
    (bytes_eq (digits_of s) (codes "500") ≡ false) × (bytes_eq (digits_of s) (codes "503") ≡ false)

by_status : (s : Status) (allow : Option Methods) (closes : Bool) (body : List ℕ) → Serves s
    → IsServed (response_bytes s allow closes body)
by_status s allow closes body serves = record {
  not_failed = rw (digits s allow closes body) serves.0;
  not_wanting = rw (digits s allow closes body) serves.1;
}

refusals : (r : Refusal) → Serves (refusal_status r)
refusals refusal.NoCaller = (refl, refl)
refusals refusal.HouseOnly = (refl, refl)
refusals refusal.SellerOnly = (refl, refl)
refusals refusal.Unknown = (refl, refl)
refusals refusal.MomentBehind = (refl, refl)
refusals refusal.Ended = (refl, refl)
refusals refusal.NotOpen = (refl, refl)
refusals refusal.OwnItem = (refl, refl)
refusals (refusal.Low floor) = (refl, refl)
refusals refusal.NotHigher = (refl, refl)
refusals refusal.HasBids = (refl, refl)
refusals refusal.NoBuyNow = (refl, refl)
refusals refusal.LotExists = (refl, refl)
refusals refusal.NameTaken = (refl, refl)
refusals refusal.AlreadyAnswered = (refl, refl)
refusals refusal.AlreadyGiven = (refl, refl)
refusals refusal.NotParty = (refl, refl)
refusals refusal.NotSold = (refl, refl)
refusals refusal.Limit = (refl, refl)
refusals refusal.Range = (refl, refl)

frames : (f : WireFault) → Serves (frame.status_of f)
frames wire.Head = (refl, refl)
frames wire.Host = (refl, refl)
frames wire.Transfer = (refl, refl)
frames wire.Length = (refl, refl)
frames wire.Size = (refl, refl)
frames wire.End = (refl, refl)
frames wire.Excess = (refl, refl)

faults : (f : RequestFault) → Serves (status_of f)
faults (fault.Frame f) = frames f
faults fault.Path = (refl, refl)
faults (fault.Method methods) = (refl, refl)
faults fault.Member = (refl, refl)
faults fault.Moment = (refl, refl)
faults fault.Json = (refl, refl)
faults (fault.Field f) = (refl, refl)
faults fault.Date = (refl, refl)
faults fault.Order = (refl, refl)

reports : (t : CommandResult) → Serves (result_status t)
reports (report.Registered member) = (refl, refl)
reports (report.Added category) = (refl, refl)
reports (report.Listing item) = (refl, refl)
reports (report.Placed count floor leader price) = (refl, refl)
reports (report.Bought item price) = (refl, refl)
reports (report.Closed sold unsold) = (refl, refl)
reports (report.Settlement fee item net price) = (refl, refl)
reports (report.Watched item watched) = (refl, refl)
reports (report.Question asker item number) = (refl, refl)
reports (report.Rated item rating to) = (refl, refl)
reports (report.Edition edition) = (refl, refl)
reports report.Nothing = (refl, refl)

pages : (p : Page) → Serves (page_status p)
pages (page.Refused r) = refusals r
pages (page.House counts clock rate zone) = (refl, refl)
pages (page.Bands rows) = (refl, refl)
pages (page.Categories rows) = (refl, refl)
pages (page.Items rows) = (refl, refl)
pages (page.OneItem it) = (refl, refl)
pages (page.Questions rows) = (refl, refl)
pages (page.OneMember m ratings) = (refl, refl)
pages (page.Feedbacks rows) = (refl, refl)
pages (page.Bids rows) = (refl, refl)
pages (page.Reserves rows) = (refl, refl)
pages (page.Statement member from to rate sales) = (refl, refl)

replies : (r : Reply RequestFault) → Serves (reply_status r)
replies (Done t) = reports t
replies (Denied r) = refusals r
replies (Shows p) = pages p
replies (Faulty f) = faults f

-- no reply has the status 500 or 503
pub reply_served : (zone : Zone) (closes : Bool) (r : Reply RequestFault)
    → IsServed (reply_text zone closes r)
unfolding reply_text
reply_served zone closes r = by_status (reply_status r) _ closes _ (replies r)

-- out of memory has the status 503
pub memory_reported : (closes : Bool)
    → is_refusal_of_memory (fault_text keep_fault.Memory closes) ≡ true
unfolding fault_text
memory_reported closes = rw (digits ServiceUnavailable None closes _) refl

-- a store that failed has the status 500
pub store_reported : (closes : Bool) → is_failure (fault_text keep_fault.Store closes) ≡ true
unfolding fault_text
store_reported closes = rw (digits InternalServerError None closes _) refl

-- and so is one with a row that doesn't fit
pub damage_reported : (closes : Bool) → is_failure (fault_text keep_fault.Damaged closes) ≡ true
unfolding fault_text
damage_reported closes = rw (digits InternalServerError None closes _) refl
