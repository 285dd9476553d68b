-- The rows of a table that are in use.
use Rattle.std.specs.Prelude.{List}
use Rattle.faults.specs.declared.rows.Row.{Row}
use Rattle.faults.specs.declared.table.Table.{Table}

abbrev pub rows_of : Table → List Row
rows_of t = t.rows.items
