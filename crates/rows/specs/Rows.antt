-- A judged row as a cell of two words: four bytes and an operand in the first, two operands in the second. The bytes are the operation's number,
-- whether P4 is UTF-8, and the numbers of its function and its aggregate. An operand is a signed number of 32 bits; it stands as a word with an
-- offset (`Signed`), and in the cell as its distance from the least. Assumes nothing.
use Rattle.std.specs.Prelude.{Bool, true, false, ℕ, ◌+◌, ◌-◌, ◌*◌, ◌/◌, ◌%◌, ◌≡◌, eqb, Option, None, Some}
use Rattle.area.specs.Cells.{cell}
use Rattle.area.specs.declared.Cell.{Cell}
use Rattle.opcode.specs.declared.FunctionValue.{FunctionValue}
use Rattle.opcode.specs.declared.FunctionValue.TheVariants as function
use Rattle.opcode.specs.declared.Aggregate.{Aggregate}
use Rattle.opcode.specs.declared.Aggregate.TheVariants as aggregate
use Rattle.opcode.specs.declared.P4.{P4}
use Rattle.opcode.specs.Opcode.{number, operation_at}
use Rattle.opcode.specs.P4.{function_at, aggregate_at}
use Rattle.rows.specs.Parts.{least, Parts}
use Rattle.rows.specs.declared.row.Row.{Row}

-- what a row has, which a cell may have too: the words in any cell are not known to fit
abbrev pub parts : Row → Parts
parts r = record { op = r.op; p4 = r.p4; p1 = r.p1; p2 = r.p2; p3 = r.p3 }

-- the numbers of a function: what they are read as is opcode's `function_at`
abbrev pub function_number : Option FunctionValue → ℕ
function_number None = 0
function_number (Some function.Rowid) = 1
function_number (Some function.Text) = 2
function_number (Some function.Days) = 3
function_number (Some function.Seconds) = 4

-- the same of an aggregate, read by `aggregate_at`
abbrev pub aggregate_number : Aggregate → ℕ
aggregate_number aggregate.Operand = 0
aggregate_number aggregate.Integer = 1
aggregate_number aggregate.Real = 2
aggregate_number aggregate.Sum = 3
aggregate_number aggregate.OtherRow = 4

-- and of a P4, whose lowest byte says whether it is UTF-8
abbrev pub p4_number : Option P4 → ℕ
p4_number None = 0
p4_number (Some x) = 1 + 256 * function_number x.function + 65536 * aggregate_number x.aggregate

abbrev pub p4_if : Bool → P4 → Option P4
p4_if true x = Some x
p4_if false x = None

abbrev pub p4_at : ℕ → Option P4
p4_at n = p4_if (eqb (n % 256) 1) (record { function = function_at (n / 256 % 256); aggregate = aggregate_at (n / 65536 % 256) })

abbrev pub cell_of : Parts → Cell
cell_of r = cell (number r.op + 256 * r.p4 + 4294967296 * (r.p1 - least)) (r.p2 - least + 4294967296 * (r.p3 - least))

abbrev pub row_in : Cell → Parts
row_in c =
    record {
      op = operation_at (c.head % 256);
      p4 = c.head / 256 % 16777216;
      p1 = c.head / 4294967296 + least;
      p2 = c.payload % 4294967296 + least;
      p3 = c.payload / 4294967296 + least;
    }

-- a cell is that of the row that is read from it: its first byte is the operation's own number
abbrev pub IsWritten : Cell → Type 0
IsWritten c = c ≡ cell_of (row_in c)
