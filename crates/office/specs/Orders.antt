-- The order of a lot, as a message.
use Rattle.std.specs.Prelude.{if◌then◌else◌, ℕ, List, [], ◌∷◌, ◌++◌, length, nat_lt, codes, decimal, Option, Some, None}
use Rattle.pages_json.specs.Words.{object_of, text_of, whole}
use Rattle.serde_json.specs.Data.{Data, string}
use Rattle.office.specs.declared.lot.Lot.{Lot}
use Rattle.office.specs.declared.lister.Lister.{Lister}

-- the tree of a lot, by its price for buying at once. Keys are in byte order
abbrev pub tree_with : Lot → Option ℕ → Data
tree_with lot None = object_of (
    (codes "category", whole lot.category)
    ∷ (codes "end", whole lot.end)
    ∷ (codes "lot", string lot.lot.now)
    ∷ (codes "start", whole lot.start)
    ∷ (codes "text", string lot.text.now)
    ∷ (codes "title", string lot.title.now) ∷ []
    )
tree_with lot (Some buy_now) = object_of (
    (codes "buy_now", whole buy_now)
    ∷ (codes "category", whole lot.category)
    ∷ (codes "end", whole lot.end)
    ∷ (codes "lot", string lot.lot.now)
    ∷ (codes "start", whole lot.start)
    ∷ (codes "text", string lot.text.now)
    ∷ (codes "title", string lot.title.now) ∷ []
    )

abbrev pub lot_tree : Lot → Data
lot_tree lot = tree_with lot lot.buy_now

-- the body of a lot's order
abbrev pub body_of : Lot → List ℕ
body_of lot = text_of (lot_tree lot)

-- the order with a body
abbrev pub framed : Lister → List ℕ → List ℕ
framed by body = codes "POST /items HTTP/1.1\r\nhost: h\r\nx-member: " ++ decimal by.member
    ++ codes "\r\nx-moment: " ++ decimal by.moment
    ++ codes "\r\ncontent-length: " ++ decimal (length body)
    ++ codes "\r\n\r\n" ++ body

-- the order of a lot
abbrev pub order_text : Lister → Lot → List ℕ
order_text by lot = framed by (body_of lot)

-- the same, where its body isn't too long for a message
abbrev pub message_of : Lister → Lot → Option (List ℕ)
message_of by lot = if nat_lt 16384 (length (body_of lot)) then None else Some (order_text by lot)
