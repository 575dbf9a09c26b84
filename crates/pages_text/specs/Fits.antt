-- What a page has, so that it can be shown.
use Rattle.std.specs.Prelude.{◌≢◌, ◌≤◌, ◌<◌, ◌^◌, List, All, AllPairs, length}
use Rattle.settle.specs.Lines.{MOST}
use Rattle.settle.specs.Statement.{IsSale}
use Rattle.settle.specs.declared.sale.Sold.{Sold}
use Rattle.house_rows.specs.declared.page.Page.{Page}
use Rattle.house_rows.specs.declared.page.Page.TheVariants as page

-- sales of which a statement can be made: not too many, each of another item, and as the house makes them
pub record AreSales (sales : List Sold) : Type 0 where
  pub few : length sales ≤ MOST
  pub apart : AllPairs (λ a b. a.item ≢ b.item) sales
  pub each : All IsSale sales

-- a statement has such sales, and the number of its member is one of 32 bits
abbrev pub PageFits : Page → Type 0
PageFits (page.Statement member from to rate sales) = (member < 2 ^ 32) × AreSales sales
PageFits _ = Unit {0}
