-- Members of an object, one after the other, as text and in a map.
use Rattle.std.proofs.Common.{◌≡◌, ℕ, List, [], ◌++◌, ◌∙◌, take, drop, length, ap, refl, sym, arith, BTreeMap, Global, Result, Ok, Err, String}
use Rattle.std.proofs.lemmas.List.{take_all}
use Rattle.std.specs.Prelude.{OnOk, OnErr}
use Rattle.std.specs.Io.{StartsWith}
use Rattle.house_rows.specs.declared.keep.Keep.{Ghosts}
use Rattle.house_rows.specs.Tables.{Tables}
use Rattle.serde_json.specs.Data.{object}
use Rattle.serde_json.specs.View.{members_view, view}
use Rattle.serde_json.specs.declared.value.Value.{Value, Object}
use Rattle.serde_json.proofs.Views.{view-Object}
use Rattle.pages_json.specs.Words.{AreInOrder, enclosed, put_all, text_of}
use Rattle.pages_json.proofs.Texts.{object_enclosed}
use Rattle.pages_record.specs.Promises.{PutsPart, PutsText}
use Rattle.pages_record.specs.Record.{back_by, front_by, middle_by, record_by}

-- the keys of the record are in byte order
in_order : (t : Tables) → AreInOrder (front_by t ++ (middle_by t ++ back_by t))
unfolding front_by middle_by back_by
in_order t = refl

-- the record, of all its members
pub record_grown : (t : Tables) (none : List (String Global × Value)) (last : BTreeMap (String Global) Value) → none ≡ []
    → members_view last.entries ≡ put_all (front_by t ++ (middle_by t ++ back_by t)) (members_view none) → view (Object last) ≡ record_by t
unfolding record_by
record_grown t none last e0 e1 =
    view-Object last
    ∙ ap object (e1 ∙ ap (λ found. put_all (front_by t ++ (middle_by t ++ back_by t)) (members_view found)) e0 ∙ in_order t)

-- and its text, once they are written
pub record_put : {K : Type 0} (keep : Ghosts K) {old new : K} {u : Unit {0}} {before now after : List ℕ} (start : ℕ) → start ≡ length before
    → PutsPart keep old new (Ok u) (λ t. front_by t ++ (middle_by t ++ back_by t)) before now
    → after ≡ take start now ++ enclosed 123 125 (drop start now) → take start after ≡ take start now
    → PutsText keep old new (Ok u) (λ t. text_of (record_by t)) before after
unfolding record_by
record_put keep {old = old} {before = before} {now = now} {after = after} start at part text front =
    let t = keep.content old in
    record {
      text = λ honest. text ∙ object_enclosed (front_by t ++ (middle_by t ++ back_by t)) before now start at (part.text honest);
      front = ap (λ n. take n after) (sym at) ∙ front ∙ ap (λ n. take n now) at ∙ part.front;
      faults = part.faults;
      damaged = part.damaged;
      read = part.read;
    }

-- what was in front stays there, whether the text stays or is cut off again
pub front_stays : {E : Type 0} (put : Result (Unit {0}) E) (n : ℕ) (before mid after : List ℕ) → n ≡ length before
    → StartsWith mid before → OnOk put (after ≡ mid) → OnErr put (after ≡ take n mid) → StartsWith after before
front_stays (Ok u) n before mid after at front ok err = ap (take (length before)) ok ∙ front
front_stays (Err f) n before mid after at front ok err =
    ap (take (length before)) (err ∙ ap (λ k. take k mid) at ∙ front) ∙ take_all (length before) before (omega arith)
