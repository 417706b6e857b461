-- The bench-table statement, document 01's 'The lines marked ◆ are proved of the definitions, gathered in one table and proved as a whole': for every row of
-- the table, the numbers that the definitions give are the numbers that the row says. The definitions are those that the contracts of both drivers and of
-- the registers cite, so a row holds of the code as well.
use Rattle.std.specs.Prelude.{◌≡◌}
use mathlib.Core.List.{Memᴰ}
use Rattle.bench_table.specs.Table.{Row, gives, table}

-- `Memᴰ row table`: the row stands in the table
abbrev pub BenchTable : Type 0
BenchTable = (row : Row) → Memᴰ row table → gives row.case ≡ row.must
