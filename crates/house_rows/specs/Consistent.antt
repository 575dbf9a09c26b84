-- That what a look-up of a keep found is consistent, each item with its own band table; and that what is sealed of the items
-- that it took goes with what is shown.
use Rattle.std.specs.Prelude.{◌==◌, ℕ, Option, Vec, IfOk, IfSome, OnOk, Result}
use Rattle.std.specs.List.{AllByRecursion, list_any}
use Rattle.settle.specs.Statement.{is_party}
use Rattle.house_rows.specs.declared.auction.Auction.{Auction}
use Rattle.house_rows.specs.declared.fault.KeepFault.{KeepFault}
use Rattle.house_rows.specs.declared.item.Item.{Item}
use Rattle.house_rows.specs.declared.item.OwnBid.{OwnBid}
use Rattle.house_rows.specs.declared.item.Terms.{Terms}
use Rattle.house_rows.specs.declared.talk.Question.{Question}
use Rattle.house_rows.specs.Items.{is_due}
use Rattle.house_rows.specs.Keeping.{AllConsistent, AllKept, IsConsistentAt, IsConsistentIn, IsKeptRowAt}
use Rattle.house_rows.specs.Pages.{sale_of}
use Rattle.house_rows.specs.Tables.{Tables}

abbrev pub ItemConsistent : Tables → Result (Option Item) KeepFault → Type 0
ItemConsistent t result = IfOk result (λ v. IfSome v (λ it. IsConsistentIn t it.terms))

abbrev pub TermsConsistent : Tables → Result (Option Terms) KeepFault → Type 0
TermsConsistent t result = IfOk result (λ v. IfSome v (IsConsistentIn t))

abbrev pub AuctionConsistent : Tables → Result (Option Auction) KeepFault → Type 0
AuctionConsistent t result = IfOk result (λ v. IfSome v (λ a. IsConsistentIn t a.terms))

abbrev pub ItemsConsistent : {Z : Type 0} → Tables → Result (Vec Item Z) KeepFault → Type 0
ItemsConsistent t result =
    IfOk result (λ v. AllByRecursion (λ it. IsConsistentIn t it.terms) v.items)

-- the items of what a member has bid on
abbrev pub OwnBidsConsistent : {Z : Type 0} → Tables → Result (Vec OwnBid Z) KeepFault → Type 0
OwnBidsConsistent t result =
    IfOk result (λ v. AllByRecursion (λ b. IsConsistentAt t b.item) v.items)

abbrev pub OwnBidsKept : {Z : Type 0} → Tables → Result (Vec OwnBid Z) KeepFault → Type 0
OwnBidsKept t result =
    IfOk result (λ v. AllByRecursion (λ b. IsKeptRowAt t b.item) v.items)

-- the items of questions
abbrev pub AskedConsistent : {Z : Type 0} → Tables → Result (Vec Question Z) KeepFault → Type 0
AskedConsistent t result =
    IfOk result (λ v. AllByRecursion (λ q. IsConsistentAt t q.item) v.items)

-- every item that a member sells, each of which is taken before the first question
abbrev pub SellerKept : {A : Type 0} → ℕ → Tables → Result A KeepFault → Type 0
SellerKept member t result = OnOk result (AllKept (λ row. row.item.terms.seller == member) t)

-- every item that is due at a moment
abbrev pub DueConsistent : {A : Type 0} → ℕ → Tables → Result A KeepFault → Type 0
DueConsistent moment t result = OnOk result (AllConsistent (λ row. is_due moment row.item.terms) t)

abbrev pub DueKept : {A : Type 0} → ℕ → Tables → Result A KeepFault → Type 0
DueKept moment t result = OnOk result (AllKept (λ row. is_due moment row.item.terms) t)

-- every item to whose sale a member is a party
abbrev pub SalesConsistent : {A : Type 0} → ℕ → Tables → Result A KeepFault → Type 0
SalesConsistent member t result =
    OnOk result (AllConsistent (λ row. list_any (is_party member) (sale_of row.item.terms)) t)

abbrev pub SalesKept : {A : Type 0} → ℕ → Tables → Result A KeepFault → Type 0
SalesKept member t result =
    OnOk result (AllKept (λ row. list_any (is_party member) (sale_of row.item.terms)) t)
