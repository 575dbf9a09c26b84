-- The sales of items are those that pages show.
use Rattle.std.proofs.Common.{◌≡◌, List, [], ◌∷◌, map, filter, refl, inl, inr}
use Rattle.std.specs.List.{filter_map}
use Rattle.settle.specs.Statement.{is_party}
use Rattle.house_rows.specs.Found.{sales_in, sales_to}
use Rattle.house_rows.specs.Tables.{ItemRow, Tables}
use Rattle.house_rows.specs.Verdict.{was_sold}
use Rattle.house_rows.proofs.Put.{by_test}
use Rattle.list_items.specs.Sales.{sale_if_sold}

sales_of_rows : (rows : List ItemRow) → filter_map (λ (row : ItemRow). sale_if_sold row.item.terms) rows ≡ sales_in (map (λ (row : ItemRow). row.item) rows)
sales_of_rows [] = refl
sales_of_rows (row ∷ rows) =
    elim (by_test (was_sold row.item.terms.state)) [ inl is ↦ rw is (rw (sales_of_rows rows) refl) | inr not ↦ rw not (sales_of_rows rows) ]

pub sales_are : (t : Tables) (rows : List ItemRow) (member : _) → t.items ≡ rows → sales_to t member ≡ filter (is_party member) (filter_map (λ (row : ItemRow). sale_if_sold row.item.terms) rows)
sales_are t rows member is = rw (is, sales_of_rows rows) refl
