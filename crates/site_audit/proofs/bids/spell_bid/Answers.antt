use Rattle.std.proofs.Common.{◌≡◌, ◌∙◌, ◌++◌, ℕ, List, ap, append_assoc, length, string_bytes, subst}
use Rattle.std.specs.Prelude.{codes, decimal}
use Rattle.house_laws.specs.Covered.{Sealed}
use Rattle.site_bids.specs.Spelt.{bid_body, bid_text}
use Rattle.site_audit.proofs.bids.spell_bid.Goals as goal

three : (a b c : List ℕ) → a ++ (b ++ c) ≡ a ++ b ++ c
three a b c = simp append_assoc

ten : (a b c d e f g h i j : List ℕ)
    → a ++ (b ++ (c ++ (d ++ (e ++ (f ++ (g ++ (h ++ (i ++ j))))))))
    ≡ a ++ b ++ c ++ d ++ e ++ f ++ g ++ h ++ i ++ j
ten a b c d e f g h i j = simp append_assoc

body_is : (maximum : ℕ)
    → codes "{\"maximum\":" ++ (decimal maximum ++ codes "}") ≡ bid_body maximum
unfolding bid_body
body_is maximum = three (codes "{\"maximum\":") (decimal maximum) (codes "}")

-- the head and the body, whose size it announces
text_is : (b : Sealed) (size : ℕ) (body : List ℕ) → body ≡ bid_body b.maximum → size ≡ length body
    → codes "POST /items/" ++ (decimal b.item ++ (codes "/bids HTTP/1.1\r\nhost: h\r\nx-member: "
    ++ (decimal b.member ++ (codes "\r\nx-moment: " ++ (decimal b.moment
    ++ (codes "\r\ncontent-length: " ++ (decimal size ++ (codes "\r\n\r\n" ++ body))))))))
    ≡ bid_text b
unfolding bid_text
text_is b size body is announced =
    rw (announced, is) (ten (codes "POST /items/") (decimal b.item)
    (codes "/bids HTTP/1.1\r\nhost: h\r\nx-member: ") (decimal b.member) (codes "\r\nx-moment: ")
    (decimal b.moment) (codes "\r\ncontent-length: ") (decimal (length (bid_body b.maximum)))
    (codes "\r\n\r\n") (bid_body b.maximum))

pub returns : goal.returns
returns c =
    let i = c.bid.inside in
    let b : Sealed = record {
      moment = i.moment;
      member = i.member;
      item = i.item;
      maximum = i.maximum;
    } in
    let held = string_bytes c.in_ok-body.body in
    let body : held ≡ bid_body i.maximum = c.in_ok-body.ensures.ok ∙ body_is i.maximum in
    let size = length c.as_bytes.result.now in
    let announced : size ≡ length held = ap length c.as_bytes.ensures.value in
    subst (λ (s : Sealed). c.into_bytes.result.items ≡ bid_text s) c.bid.view_is
    (ap (λ v. v.items) c.into_bytes.ensures.value
    ∙ (c.in_ok-text.ensures.ok ∙ text_is b size held body announced))
