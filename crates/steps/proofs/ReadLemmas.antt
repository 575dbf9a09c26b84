-- What a read of a record leaves of a text, and how its errors come.
use Rattle.std.proofs.Common.{◌≡◌, ℕ, suc, zero, ◌+◌, List, [], ◌++◌, length, refl, sym, ap, ◌∙◌, arith, inl, inr, Bool, true, false, Option, Some, None}
use Rattle.std.proofs.lemmas.List.{append-nil}
use Rattle.csv.specs.Machine.{next_record}
use Rattle.csv.specs.Reading.{ExplainsRead, Reached, ReadRecord, Ready, default_config, records_from, source_of, stops_reader, strip_bom}
use Rattle.csv.specs.declared.error.ErrorKind.{ErrorKind}
use Rattle.csv.specs.declared.error.ErrorKind.TheVariants as kind
use Rattle.csv.specs.declared.parser.State.{State}
use Rattle.csv.specs.declared.parser.State.TheVariants as st
use Rattle.csv.specs.declared.reader.Reader.{Reader}
use Rattle.csv.proofs.ReadFacts.{rows-end, rows-more}
use Rattle.steps.specs.Reading.{HasRead, IsOutside, IsPlain, ReadsOn, fault_at, records_of}
use Rattle.steps.proofs.RecordLemmas.{reached_records}

-- the records that were read are the first of the text's
pub read_first : {R : Type 0} (rem : R → Option (List ℕ)) (reader : Reader R) (rows : List (List (List ℕ))) (text : List ℕ) → HasRead rem reader rows text
    → (rest : List (List (List ℕ))) × (records_of text ≡ rows ++ rest)
read_first rem reader rows text has =
    let (m, more, all) = reached_records (length (strip_bom text) + 1) st.StartRecord reader.state (strip_bom text) has.unread rows (inl refl) (omega arith) has.reached in
    (records_from default_config m reader.state has.unread, all)

-- at the end of the text no record is left
none_left : (s : State) (unread : List ℕ) (m : ℕ) → next_record default_config s [] [] unread ≡ None → records_from default_config m s unread ≡ []
unfolding records_from
none_left s unread zero none = refl
none_left s unread (suc m) none = rw none refl

-- and those that were read are all
read_all : {R : Type 0} (rem : R → Option (List ℕ)) (reader : Reader R) (rows : List (List (List ℕ))) (text : List ℕ) (has : HasRead rem reader rows text)
    → next_record default_config reader.state [] [] has.unread ≡ None → records_of text ≡ rows
read_all rem reader rows text has none =
    let (m, more, all) = reached_records (length (strip_bom text) + 1) st.StartRecord reader.state (strip_bom text) has.unread rows (inl refl) (omega arith) has.reached in
    all ∙ ap (λ (rest : List (List (List ℕ))). rows ++ rest) (none_left reader.state has.unread m none) ∙ append-nil rows

-- a read of a record goes on in the text
pub read_on : {R : Type 0} (rem : R → Option (List ℕ)) (a b : Reader R) (found : Bool) (rows : List (List (List ℕ))) (fields : List (List ℕ)) (text : List ℕ)
    → HasRead rem a rows text → ReadRecord rem a b found fields → b.flexible ≡ a.flexible → Ready b → ReadsOn found rem b rows fields text
read_on rem a b true rows fields text has r flexible ready =
    let more = rows-more rem a b fields default_config st.StartRecord (strip_bom text) has.unread rows has.plain.config has.source has.reached r in
    record {
      plain = record { untrimmed = r.3 ∙ has.plain.untrimmed; ready = ready; config = r.2 ∙ has.plain.config; flexible = flexible ∙ has.plain.flexible };
      unread = more.0;
      source = more.1;
      reached = more.2;
    }
read_on rem a b false rows fields text has r flexible ready =
    read_all rem a rows text has (rows-end rem a b fields default_config has.unread has.plain.config has.source r)

-- a plain reader fails for the reader underneath or for memory alone
pub read_fails : {R : Type 0} (rem : R → Option (List ℕ)) (a b : Reader R) (k : ErrorKind) → IsPlain a → ExplainsRead rem a b false k → IsOutside (fault_at k)
read_fails rem a b (kind.Io e) plain why = inr refl
read_fails rem a b kind.OutOfMemory plain why = inl refl
read_fails rem a b (kind.Utf8 pos err) plain why = cc why.0
read_fails rem a b (kind.UnequalLengths pos expected len) plain why = cc (why.0, plain.flexible)
read_fails rem a b (kind.Serialize text) plain why = absurd why
read_fails rem a b (kind.Deserialize pos err) plain why = absurd why

-- and after either it has failed
pub read_stops : {R : Type 0} (rem : R → Option (List ℕ)) (a b : Reader R) (k : ErrorKind) → IsPlain a → ExplainsRead rem a b false k → stops_reader k ≡ true
read_stops rem a b (kind.Io e) plain why = refl
read_stops rem a b kind.OutOfMemory plain why = refl
read_stops rem a b (kind.Utf8 pos err) plain why = cc why.0
read_stops rem a b (kind.UnequalLengths pos expected len) plain why = cc (why.0, plain.flexible)
read_stops rem a b (kind.Serialize text) plain why = absurd why
read_stops rem a b (kind.Deserialize pos err) plain why = absurd why

-- a new plain reader has read nothing
pub read_none : {R : Type 0} (rem : R → Option (List ℕ)) (reader : Reader R) (text : List ℕ) → IsPlain reader
    → source_of rem reader ≡ Some (strip_bom text) → reader.state ≡ st.StartRecord → HasRead rem reader [] text
unfolding Reached
read_none rem reader text plain source start = record { plain = plain; unread = strip_bom text; source = source; reached = (sym start, refl) }
