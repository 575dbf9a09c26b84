-- What the record says of the public view.
use Rattle.std.proofs.Common.{◌≡◌, ap, refl}
use Rattle.house_rows.specs.declared.settings.Settings.{Settings}
use Rattle.house_rows.specs.History.{History}
use Rattle.house_rows.specs.Views.{Public, public_view}
use Rattle.pages_json.specs.Words.{text_of}
use Rattle.pages_record.specs.Record.{HaveSameLists, record_text, record_tree}

pub text_same : (settings : Settings) (h k : History)
    → public_view settings h ≡ public_view settings k
    → record_text settings h ≡ record_text settings k
text_same settings h k same = ap (λ (p : Public). text_of (record_tree p)) same

pub view_same : (settings : Settings) (h k : History) → HaveSameLists settings h k
    → public_view settings h ≡ public_view settings k
view_same settings h k same =
    rw (same.clock, same.members, same.categories, same.items, same.questions, same.feedback, same.tables) refl
