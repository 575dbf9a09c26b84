-- The reply to a broken rest is the one to a text with that fault.
use Rattle.std.proofs.Common.{◌≡◌, refl, Err}
use Rattle.house_rows.specs.declared.settings.Settings.{Settings}
use Rattle.house_rows.specs.History.{History}
use Rattle.house_rows.specs.Runs.{reply}
use Rattle.settle.specs.declared.zone.Zone.{Zone}
use Rattle.site.specs.Replies.{reply_to}
use Rattle.site_request.specs.Asked.{asked_of}
use Rattle.site_replies.specs.Texts.{reply_text}
use Rattle.site_serve.specs.Serving.{fault_bytes}
use Rattle.wire.specs.declared.fault.WireFault.{WireFault}

pub fault_answered : (settings : Settings) (zone : Zone) (h : History) (f : WireFault) → reply_to settings zone h (asked_of (Err f)) ≡ fault_bytes f
unfolding reply_to asked_of reply reply_text
fault_answered settings zone h f = refl
