-- A row of the listing: the operation's name, three operands and P4's bytes. 01, "The call". Assumes nothing.
use Rattle.std.specs.Prelude.{List, ℕ, ℤ}

pub record Row : Type 0 where
  pub op : List ℕ
  pub p1 : ℤ
  pub p2 : ℤ
  pub p3 : ℤ
  pub p4 : List ℕ
