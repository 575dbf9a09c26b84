-- What a clause reads of a record in its columns.
use Rattle.settle.specs.Text.{Fields}
use Rattle.settle.specs.declared.columns.Columns.{Columns}

-- the texts in the columns
abbrev pub texts_of : Columns → Fields
texts_of c = record {
  day = c.day.now;
  item = c.item.now;
  role = c.role.now;
  other = c.other.now;
  price = c.price.now;
  fee = c.fee.now;
  net = c.net.now;
}
