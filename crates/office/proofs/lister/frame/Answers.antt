use Rattle.std.proofs.Common.{◌++◌, ◌∙◌, [], codes, decimal, length, refl}
use Rattle.office.proofs.Grown.{grown}
use Rattle.office.proofs.lister.frame.Goals as goal

pub returns : goal.returns
returns c =
    let start = codes "POST /items HTTP/1.1\r\nhost: h\r\nx-member: " in
    let member = start ++ decimal c.args.by.member in
    let moment = member ++ codes "\r\nx-moment: " in
    let second = moment ++ decimal c.args.by.moment in
    let size = second ++ codes "\r\ncontent-length: " in
    let bytes = size ++ decimal (length c.args.body.now) in
    let blank = bytes ++ codes "\r\n\r\n" in
    let one = grown _ _ [] _ start c.in_ok-extend_from_slice.ensures.items c.clear.ensures.items refl in
    let two = grown _ _ start _ (decimal c.args.by.member) c.in_ok-extend_from_slice-2.ensures.items
    one (c.as_bytes.ensures.value ∙ c.format.ensures.text) in
    let three = grown _ _ member _ (codes "\r\nx-moment: ") c.in_ok-extend_from_slice-3.ensures.items
    two refl in
    let four = grown _ _ moment _ (decimal c.args.by.moment) c.in_ok-extend_from_slice-4.ensures.items
    three (c.as_bytes-2.ensures.value ∙ c.format-2.ensures.text) in
    let five = grown _ _ second _ (codes "\r\ncontent-length: ")
    c.in_ok-extend_from_slice-5.ensures.items four refl in
    let six = grown _ _ size _ (decimal (length c.args.body.now))
    c.in_ok-extend_from_slice-6.ensures.items five
    (c.as_bytes-3.ensures.value ∙ c.format-3.ensures.text) in
    let seven = grown _ _ bytes _ (codes "\r\n\r\n") c.in_ok-extend_from_slice-7.ensures.items six refl in
    grown _ _ blank _ c.args.body.now c.in_ok-extend_from_slice-8.ensures.items seven refl
