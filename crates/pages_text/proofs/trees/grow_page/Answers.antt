use Rattle.pages_text.proofs.trees.grow_page.Goals as goal

pub returns-in-Bands : goal.returns-in-Bands
returns-in-Bands c =
    let report = c.grow_list.ensures in
    let here = rw c.as_slice.ensures at report in
    rw c.in-Bands.is here
