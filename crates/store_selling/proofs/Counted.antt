-- What is due among the rows of the database is due in its tables.
use Rattle.std.proofs.Common.{◌≡◌, ℕ, not, Bool, List, map, filter, length, ap, ◌∙◌}
use Rattle.std.proofs.lemmas.List.{length-map}
use Rattle.sqlite_trees.specs.Tree.{Trees}
use Rattle.sqlite_keyed.proofs.ListLemmas.{filter-map}
use Rattle.house_rows.specs.Found.{due_at}
use Rattle.house_rows.specs.History.{counted}
use Rattle.house_rows.specs.Items.{close_sells, is_due}
use Rattle.house_rows.specs.Tables.{ItemRow}
use Rattle.house_rows.specs.declared.item.Due.{Due}
use Rattle.house_rows.specs.declared.item.Terms.{Terms}
use Rattle.store_rows.specs.ItemRows.{items_in}
use Rattle.store_rows.specs.Tables.{tables_in}
use Rattle.store_rows.proofs.Tested.{filter_both}

pub due_terms_are : (db : Trees) (moment : ℕ) (due : List Terms) → due ≡ map (λ (row : ItemRow). row.item.terms) (filter (λ row. is_due moment row.item.terms) (items_in db))
    → (counts : Due) → counts.sold ≡ counted (λ t. close_sells t.leader t.met) due → counts.unsold ≡ counted (λ t. not (close_sells t.leader t.met)) due → counts ≡ due_at (tables_in db) moment
unfolding tables_in
due_terms_are db moment due are counts sold unsold =
    let part = λ (row : ItemRow). row.item.terms in
    let ended : ItemRow → Bool = λ row. is_due moment row.item.terms in
    let rows : List ItemRow = items_in db in
    let one = λ (p : Terms → Bool).
    ap (counted p) are ∙ ap length (filter-map p part (filter ended rows)) ∙ length-map (filter (λ row. p (part row)) (filter ended rows)) part ∙ ap length (filter_both ended (λ row. p (part row)) rows) in
    let s = sold ∙ one (λ t. close_sells t.leader t.met) in
    let u = unsold ∙ one (λ t. not (close_sells t.leader t.met)) in
    λ i. record { sold = s i; unsold = u i }
