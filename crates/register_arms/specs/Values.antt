-- The kind and the nullable of what a register holds, and what is told by value says of them. Assumes nothing.
use Rattle.std.specs.Prelude.{◌≡◌, Bool, false, List, ℕ, Option, None, Some, Ok}
use Rattle.type_info.specs.declared.DataType.{DataType}
use Rattle.type_info.specs.declared.DataType.TheVariants.{Null, Integer}
use Rattle.model.specs.Walk.{done}
use Rattle.model.specs.State.{RegDataType, Column, Single, map_to_datatype, map_to_nullable, either_nullable}
use Rattle.area.specs.declared.Cell.{Cell}
use Rattle.intmap.specs.declared.IntMap.{IntMap}
use Rattle.state.specs.Reads.{TellsRegister}
use Rattle.state.specs.declared.Register.{Register}
use Rattle.state.specs.declared.Register.TheVariants as register

-- where nothing is held: Null, unknown
abbrev pub datatype_of : Option RegDataType → DataType
datatype_of None = Null
datatype_of (Some v) = map_to_datatype v

abbrev pub nullable_of : Option RegDataType → Option Bool
nullable_of None = None
nullable_of (Some v) = map_to_nullable v

-- of two operands: unknown where one is absent
abbrev pub operands_nullable : Option RegDataType → Option RegDataType → Option Bool
operands_nullable None w = None
operands_nullable (Some v) None = None
operands_nullable (Some v) (Some w) = either_nullable (map_to_nullable v) (map_to_nullable w)

-- of a register as it was read
abbrev pub register_datatype : Option Register → DataType
register_datatype None = Null
register_datatype (Some (register.Single d n)) = d
register_datatype (Some (register.Record at)) = Null
register_datatype (Some (register.Int w)) = Integer

abbrev pub register_nullable : Option Register → Option Bool
register_nullable None = None
register_nullable (Some (register.Single d n)) = n
register_nullable (Some (register.Record at)) = None
register_nullable (Some (register.Int w)) = Some false

-- so it is that of the value that was read
pub record IsDatatype (r : Option Register) (d : DataType) : Type 0 where
  pub is : d ≡ register_datatype r
  pub says : (bound : ℕ) (cs : List Cell) (a : IntMap) (v : Option RegDataType) → TellsRegister bound cs a (Ok r) (done v) → d ≡ datatype_of v

pub record IsNullable (r : Option Register) (n : Option Bool) : Type 0 where
  pub is : n ≡ register_nullable r
  pub says : (bound : ℕ) (cs : List Cell) (a : IntMap) (v : Option RegDataType) → TellsRegister bound cs a (Ok r) (done v) → n ≡ nullable_of v

pub record AreNullable (r s : Option Register) (n : Option Bool) : Type 0 where
  pub says : (bound : ℕ) (cs : List Cell) (a : IntMap) (v w : Option RegDataType) → TellsRegister bound cs a (Ok r) (done v) → TellsRegister bound cs a (Ok s) (done w) → n ≡ operands_nullable v w

-- what is made of a register as it was read is what f makes of the value that was read
abbrev pub Makes : (Register → DataType × Option Bool → Type 0) → (RegDataType → RegDataType) → Type 0
Makes P f = (bound : ℕ) (cs : List Cell) (a : IntMap) (r : Register) (v : RegDataType) → TellsRegister bound cs a (Ok (Some r)) (done (Some v)) → (c : DataType × Option Bool) → P r c → Column (Single c.0 c.1) ≡ f v
