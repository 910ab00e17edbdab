-- When a judged row says what a row of the listing says to the arms of `explain`: its operation by the arm, its operands, and of its P4
-- whether it is UTF-8, which function's value and which aggregate it names. 01, "Walk, refusals in order":
-- "10 P4 not UTF-8 at a handled Function, AggStep, AggValue or AggFinal"; no other arm reads it. Assumes nothing.
use Rattle.std.specs.Prelude.{◌≡◌, List, ℕ, ◌+◌, ◌≤◌, length, get_or, Some, slice_get}
use Rattle.model.specs.Row.{Row as Listed}
use Rattle.model.specs.Operation.{operation_of}
use Rattle.area.specs.Cells.{blank}
use Rattle.area.specs.declared.Cell.{Cell}
use Rattle.intmap.specs.Signed.{int_of}
use Rattle.opcode.specs.Opcode.{IsOpcode}
use Rattle.opcode.specs.P4.{Judges}
use Rattle.rows.specs.Parts.{Parts, Fits}
use Rattle.rows.specs.Rows.{parts, p4_number, p4_at, row_in, IsWritten}
use Rattle.rows.specs.declared.row.Row.{Row}

-- a row of the listing, its operands given as words
abbrev pub listed : List ℕ → ℕ → ℕ → ℕ → List ℕ → Listed
listed op p1 p2 p3 p4 = record { op = op; p1 = int_of p1; p2 = int_of p2; p3 = int_of p3; p4 = p4 }

-- what a P4 that is not UTF-8 names is not asked: it is refused
-- (`written` makes the number that of what it says, so that one judged row stands for each row)
pub record JudgedParts (x : Listed) (r : Parts) : Type 0 where
  pub fits : Fits r.p4 r.p1 r.p2 r.p3
  pub op : IsOpcode (operation_of x.op) r.op
  pub p1 : int_of r.p1 ≡ x.p1
  pub p2 : int_of r.p2 ≡ x.p2
  pub p3 : int_of r.p3 ≡ x.p3
  pub p4 : Judges (p4_at r.p4) x.p4
  pub written : r.p4 ≡ p4_number (p4_at r.p4)

-- the same of a row
abbrev pub Judged : Listed → Row → Type 0
Judged x r = JudgedParts x (parts r)

-- a cell has a row of the listing, and is the one that is written for it
pub record HasRow (x : Listed) (c : Cell) : Type 0 where
  pub judged : JudgedParts x (row_in c)
  pub written : IsWritten c

-- the cells from `from` on have the listing's rows
abbrev pub HaveRows : List Cell → ℕ → List Listed → Type 0
HaveRows cs from rows = (i : ℕ) (x : Listed) → slice_get rows i ≡ Some x → HasRow x (get_or cs (from + i) blank)

-- the n cells from `from` on are there, and have the rows of some listing
pub record SomeRows (cs : List Cell) (from n : ℕ) : Type 0 where
  pub inside : from + n ≤ length cs
  pub rows : List Listed
  pub have : HaveRows cs from rows
  pub size : length rows ≡ n
