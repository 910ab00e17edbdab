-- A judged row as its parts: an operation, P4 packed, and three operands, each a signed number of 32 bits that stands as a word with an offset
-- (`Signed`). It does not name the type `Row`, whose ghost field cites `Fits`. Assumes nothing.
use Rattle.std.specs.Prelude.{ℕ, ◌+◌, ◌<◌, ◌≤◌}
use Rattle.opcode.specs.declared.Operation.{Operation}

-- the word of −2^31
abbrev pub least : ℕ
least = 9223372034707292160

-- the word of a signed number of 32 bits
pub record Operand (w : ℕ) : Type 0 where
  pub above : least ≤ w
  pub below : w < least + 4294967296

pub record Parts : Type 0 where
  pub op : Operation
  pub p4 : ℕ
  pub p1 : ℕ
  pub p2 : ℕ
  pub p3 : ℕ

-- a P4 takes three bytes, and each operand is one
pub record Fits (n i j k : ℕ) : Type 0 where
  pub p4 : n < 16777216
  pub p1 : Operand i
  pub p2 : Operand j
  pub p3 : Operand k
