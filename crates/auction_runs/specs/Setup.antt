-- The messages that `--preset` begins with, and what they leave.
use Rattle.std.specs.Prelude.{◌≡◌, ◌≢◌, ℕ, List, [], ◌∷◌, ◌++◌, Bool, true, false, codes}
use Rattle.std.specs.List.{FoldsTo}
use Rattle.house_rows.specs.declared.fault.KeepFault.TheVariants as kept
use Rattle.site_replies.specs.Texts.{fault_text}
use Rattle.site_request.specs.Asked.{IsAsked}
use Rattle.site_request.specs.declared.asked.Asked.{Asked}
use Rattle.auction_runs.specs.declared.fault.TaskFault.{TaskFault}
use Rattle.auction_runs.specs.declared.fault.TaskFault.TheVariants.{Memory, Store, Damaged}

-- a command at moment 1000: its path, whose it is, and its body with the size of it
abbrev pub order_text : List ℕ → List ℕ → List ℕ → List ℕ → List ℕ
order_text path member size body = codes "POST " ++ path
    ++ codes " HTTP/1.1\r\nhost: h\r\nx-member: " ++ member
    ++ codes "\r\nx-moment: 1000\r\ncontent-length: " ++ size
    ++ codes "\r\n\r\n" ++ body

-- a member is registered, whose name has three letters
abbrev pub member_text : List ℕ → List ℕ
member_text name = order_text (codes "/members") (codes "0") (codes "14")
    (codes "{\"name\":\"" ++ name ++ codes "\"}")

-- a category, and an item of the first member in it
abbrev pub books_text : List ℕ
books_text =
    order_text (codes "/categories") (codes "0") (codes "16") (codes "{\"name\":\"Books\"}")

abbrev pub atlas_text : List ℕ
atlas_text = order_text (codes "/items") (codes "1") (codes "74") (codes "{\"category\":1,\"end\":5000,"
    ++ codes "\"lot\":\"A1\",\"start\":500,\"text\":\"\",\"title\":\"Atlas\"}")

-- three members, and these
abbrev pub setup_texts : List (List ℕ)
setup_texts = member_text (codes "Ana")
    ∷ member_text (codes "Ben")
    ∷ member_text (codes "Cid")
    ∷ books_text
    ∷ atlas_text
    ∷ []

-- a reply with status 201
abbrev pub IsCreated : List ℕ → Type 0
IsCreated reply = (rest : List ℕ) × (reply ≡ codes "HTTP/1.1 201 " ++ rest)

-- a command was answered, with status 201
pub record IsTaken {K : Type 0} (Step : Asked → List ℕ → K → K → Type 0)
    (old : K) (text : List ℕ) (new : K) : Type 0 where
  pub asked : Asked
  pub by_text : IsAsked text asked
  pub reply : List ℕ
  pub step : Step asked reply old new
  pub created : IsCreated reply

-- where a house is to be set up, each of the commands was taken in turn
abbrev pub IsSetUp : {K : Type 0} → (Asked → List ℕ → K → K → Type 0) → Bool → K → K → Type 0
IsSetUp Step true old new = FoldsTo (IsTaken Step) old setup_texts new
IsSetUp Step false old new = new ≡ old

-- ---- a setup that ended before its end

-- a reply that says neither that a row was made, nor that memory was refused or the store failed
pub record IsOther (reply : List ℕ) : Type 0 where
  pub not_created : ¬ (IsCreated reply)
  pub no_memory : reply ≢ fault_text kept.Memory false
  pub no_store : reply ≢ fault_text kept.Store false

-- which fault stands for a reply that is no status 201: the one of which it is the text, and else
-- that the house isn't new
abbrev pub Refuses : List ℕ → TaskFault → Type 0
Refuses reply Memory = reply ≡ fault_text kept.Memory false
Refuses reply Store = reply ≡ fault_text kept.Store false
Refuses reply Damaged = IsOther reply
Refuses reply _ = ⊥

-- a command was answered, and was not taken
pub record IsUntaken {K : Type 0} (Step : Asked → List ℕ → K → K → Type 0)
    (old : K) (text : List ℕ) (fault : TaskFault) (new : K) : Type 0 where
  pub asked : Asked
  pub by_text : IsAsked text asked
  pub reply : List ℕ
  pub step : Step asked reply old new
  pub refused : Refuses reply fault

-- the first of some commands were taken in turn, and the next one was not
pub record IsCutOff {K : Type 0} (Step : Asked → List ℕ → K → K → Type 0)
    (texts : List (List ℕ)) (old : K) (fault : TaskFault) (new : K) : Type 0 where
  pub taken : List (List ℕ)
  pub text : List ℕ
  pub rest : List (List ℕ)
  pub all : texts ≡ taken ++ text ∷ rest
  pub mid : K
  pub before : FoldsTo (IsTaken Step) old taken mid
  pub why : IsUntaken Step mid text fault new

-- why a house that is to be set up was not
abbrev pub IsNotSetUp : {K : Type 0} → (Asked → List ℕ → K → K → Type 0) → Bool → K → TaskFault → K
    → Type 0
IsNotSetUp Step true old fault new = IsCutOff Step setup_texts old fault new
IsNotSetUp Step false old fault new = ⊥
