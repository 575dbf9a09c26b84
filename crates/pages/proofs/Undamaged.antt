-- A second look-up finds the tables that the first did, and fails of nothing else.
use Rattle.std.proofs.Common.{◌≡◌, ◌∙◌, ℕ, Bool, true, false, length, ap, subst, sym, Result, Err}
use Rattle.std.proofs.lemmas.Result.{err_from_is_err_and}
use Rattle.std.specs.Prelude.{IsErrAnd}
use Rattle.house_rows.specs.Answers.{Reads}
use Rattle.house_rows.specs.declared.fault.KeepFault.{KeepFault}
use Rattle.house_rows.specs.declared.fault.KeepFault.TheVariants.{Damaged}
use Rattle.house_rows.specs.declared.keep.Keep.{Ghosts}
use Rattle.house_rows.specs.declared.people.Counts.{Counts}
use Rattle.house_rows.specs.declared.query.Query.{Query}
use Rattle.house_rows.specs.Found.{counts_of}
use Rattle.house_rows.specs.Tables.{Tables}
use Rattle.house_rows.specs.Taken.{IsUndamaged}
use Rattle.pages.specs.Taken.{PageRowsFit, ReadRowsFit}
use Rattle.pages_laws.specs.ByTables.{is_own, may_read}

-- a fault of the second that is no damage is none as the answer of the whole call
pub by_second : {K A B : Type 0} (keep : Ghosts K) {old mid new : K} (fault : KeepFault) (whole : Result B KeepFault)
    → Reads keep old mid → keep.is_failed mid ≡ false → Reads keep mid new → IsErrAnd whole (λ e. e ≡ fault) → keep.is_honest new
    → (keep.content mid ≡ keep.content old → IsUndamaged {A = A} (Err fault)) → IsUndamaged whole
by_second keep fault whole first going second exit honest undamaged damaged =
    let e = err_from_is_err_and whole exit in
    undamaged (first.same (second.honest honest) going) (let same : fault ≡ Damaged = cc in ap Err same)

-- a page that is read by whoever may read it finds the tables by which it may
pub by_allowed : {K A : Type 0} (keep : Ghosts K) (old mid new : K) (counts : Counts) (caller : ℕ) (query : Query)
    (may own : Bool) (result : Result A KeepFault)
    → Reads keep old mid → keep.is_failed mid ≡ false → Reads keep mid new → keep.is_honest new
    → (keep.is_honest new → PageRowsFit (keep.content mid) caller query → IsUndamaged result)
    → (keep.is_honest mid → counts ≡ counts_of (keep.content old))
    → may ≡ may_read counts.members caller own → own ≡ is_own query → may ≡ true
    → ReadRowsFit (keep.content old) caller query → IsUndamaged result
by_allowed keep old mid new counts caller query may own result first going second honest damaged counted asked is admits fit =
    let before = second.honest honest in
    let asks : may_read counts.members caller (is_own query) ≡ true =
    subst (λ (o : Bool). may_read counts.members caller o ≡ true) is (sym asked ∙ admits) in
    let allowed : may_read (length (keep.content old).members) caller (is_own query) ≡ true =
    subst (λ (n : ℕ). may_read n caller (is_own query) ≡ true) (ap (λ (x : Counts). x.members) (counted before)) asks in
    damaged honest (subst (λ (t : Tables). PageRowsFit t caller query) (sym (first.same before going)) (fit.page allowed))
