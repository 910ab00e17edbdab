-- What the readers of an operand answer, in the terms of model's Numbers. Assumes nothing.
use Rattle.std.specs.Prelude.{◌≡◌, List, ℕ, ℤ, Option, option_map, IfSome}
use Rattle.model.specs.Reader.{Reader}
use Rattle.model.specs.Numbers.{read_signed}
use Rattle.intmap.specs.Signed.{int_of}
use Rattle.rows.specs.Parts.{Operand}
use Rattle.text.specs.Reads.{Reads}

-- a signed number as a word of 32 bits' range
pub record SignedAs (t : List ℕ) (o : Option ℕ) : Type 0 where
  pub is : option_map int_of o ≡ read_signed t
  pub operand : IfSome o Operand

pub record ReadsOperand (q : Reader ℤ) (t rest : List ℕ) (o : Option ℕ) : Type 0 where
  pub reads : Reads q t rest (option_map int_of o)
  pub operand : IfSome o Operand
