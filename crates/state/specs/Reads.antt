-- What a register holds, by value, as the definition reads it: a refusal, nothing, a plain column by its kind and nullable, a record by the place of its
-- run, or a known number by its word. Assumes nothing.
use Rattle.refusal.specs.declared.Refusal.{Refusal}
use Rattle.refusal.specs.Numbers.{number_of}
use Rattle.std.specs.Prelude.{◌≡◌, List, ℕ, ◌+◌, ◌≤◌, eqb, length, None, Some, Option, Ok, Err, Result}
use Rattle.model.specs.Walk.{Tried, refused, done}
use Rattle.model.specs.State.{Columns, Single, Record, RegDataType, Column, Int, MemoryState}
use Rattle.model.specs.Access.{read_register}
use Rattle.area.specs.declared.Cell.{Cell}
use Rattle.intmap.specs.Pack.{tag_of}
use Rattle.intmap.specs.Pick.{pick}
use Rattle.intmap.specs.Signed.{Small, int_of}
use Rattle.intmap.specs.declared.IntMap.{IntMap}
use Rattle.encoding.specs.Encode.{run_register}
use Rattle.encoding.specs.Decode.{datatype_in, nullable_in}
use Rattle.encoding.specs.Holds.{Stands}
use Rattle.state.specs.Leads.{HoldsMap}
use Rattle.state.specs.declared.Register.{Register}
use Rattle.state.specs.declared.Register.TheVariants as register

-- what the first cell of a register's run says
unfoldable pub register_in : Cell → ℕ → Register
register_in c at = pick (eqb (tag_of c) 1) (register.Single (datatype_in c) (nullable_in c)) (pick (eqb (tag_of c) 2) (register.Record at) (register.Int c.payload))

-- a record, whose run stands at a place within the map
pub record IsRecord (cs : List Cell) (a : IntMap) (at : ℕ) (t : Tried (Option RegDataType)) : Type 0 where
  pub columns : Columns
  pub key : ℕ
  pub answer : t ≡ done (Some (Column (Record columns)))
  pub stands : Stands cs at (run_register key (Column (Record columns)))
  pub above : a.base ≤ at
  pub below : at + length (run_register key (Column (Record columns))) ≤ a.base + a.used

pub record IsInt (bound w : ℕ) (t : Tried (Option RegDataType)) : Type 0 where
  pub answer : t ≡ done (Some (Int (int_of w)))
  pub small : Small bound (int_of w)

-- what is read: why the index is refused, nothing, or what is there
abbrev pub Reading : Type 0
Reading = Result (Option Register) Refusal

abbrev pub TellsRegister : ℕ → List Cell → IntMap → Reading → Tried (Option RegDataType) → Type 0
TellsRegister bound cs a (Err n) t = t ≡ refused (number_of n)
TellsRegister bound cs a (Ok None) t = t ≡ done None
TellsRegister bound cs a (Ok (Some (register.Single d n))) t = t ≡ done (Some (Column (Single d n)))
TellsRegister bound cs a (Ok (Some (register.Record at))) t = IsRecord cs a at t
TellsRegister bound cs a (Ok (Some (register.Int w))) t = IsInt bound w t

pub record Reads (cs : List Cell) (a : IntMap) (i : ℕ) (r : Reading) : Type 0 where
  pub says : (limit bound : ℕ) (m : MemoryState) → HoldsMap limit bound cs a m → TellsRegister bound cs a r (read_register (int_of i) m)
