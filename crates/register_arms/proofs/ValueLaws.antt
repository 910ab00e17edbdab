-- The kind and the nullable of what a register holds, by value. Assumes nothing.
use mathlib.Core.Path.{◌≡◌, refl, sym, ap, subst}
use Rattle.std.specs.Prelude.{Option, None, Some, Ok}
use mathlib.Core.List.{List}
use Prim.Native.Nat.{ℕ}
use Rattle.type_info.specs.declared.DataType.{DataType}
use Rattle.type_info.specs.declared.DataType.TheVariants.{Null, Integer, Float, Text, Blob, Numeric, Bool as Boolean, Int4, Date, Time, Datetime}
use Rattle.model.specs.Walk.{Tried, done}
use Rattle.model.specs.State.{Single, RegDataType, Column, map_to_datatype, first_datatype}
use Rattle.model.specs.RegisterArms.{operands}
use Rattle.model.proofs.Tried.{done-same}
use Rattle.area.specs.declared.Cell.{Cell}
use Rattle.intmap.specs.declared.IntMap.{IntMap}
use Rattle.state.specs.Reads.{TellsRegister}
use Rattle.state.specs.declared.Register.{Register}
use Rattle.state.specs.declared.Register.TheVariants as register
use Rattle.register_arms.specs.Values.{datatype_of, operands_nullable}

-- ---- what is there is not read as absent

abbrev IsSome : Option RegDataType → Type 0
IsSome None = ⊥
IsSome (Some v) = Unit {0}

pub never-absent : (bound : ℕ) (cs : List Cell) (a : IntMap) (q : Register) → TellsRegister bound cs a (Ok (Some q)) (done None) → ⊥
never-absent bound cs a (register.Single d n) t = subst IsSome (sym (done-same t)) tt
never-absent bound cs a (register.Record at) t = subst IsSome (sym (done-same t.answer)) tt
never-absent bound cs a (register.Int w) t = subst IsSome (sym (done-same t.answer)) tt

-- ---- two operands

first_of_one : (d : DataType) → d ≡ first_datatype d Null
first_of_one Null = refl
first_of_one Integer = refl
first_of_one Float = refl
first_of_one Text = refl
first_of_one Blob = refl
first_of_one Numeric = refl
first_of_one Boolean = refl
first_of_one Int4 = refl
first_of_one Date = refl
first_of_one Time = refl
first_of_one Datetime = refl

pub operands_are : (v w : Option RegDataType) → operands v w ≡ Column (Single (first_datatype (datatype_of v) (datatype_of w)) (operands_nullable v w))
operands_are None None = refl
operands_are None (Some w) = refl
operands_are (Some v) None = ap (λ d. Column (Single d None)) (first_of_one (map_to_datatype v))
operands_are (Some v) (Some w) = refl

-- ---- a register that could be read

pub record IsRead (bound : ℕ) (cs : List Cell) (a : IntMap) (r : Option Register) (t : Tried (Option RegDataType)) : Type 0 where
  pub value : Option RegDataType
  pub answer : t ≡ done value
  pub told : TellsRegister bound cs a (Ok r) (done value)

pub value_read : (bound : ℕ) (cs : List Cell) (a : IntMap) (r : Option Register) (t : Tried (Option RegDataType)) → TellsRegister bound cs a (Ok r) t → IsRead bound cs a r t
value_read bound cs a None t h = record { value = _; answer = h; told = subst (TellsRegister bound cs a (Ok None)) h h }
value_read bound cs a (Some (register.Single d n)) t h = record { value = _; answer = h; told = subst (TellsRegister bound cs a (Ok (Some (register.Single d n)))) h h }
value_read bound cs a (Some (register.Record at)) t h =
    record { value = _; answer = h.answer; told = subst (TellsRegister bound cs a (Ok (Some (register.Record at)))) h.answer h }
value_read bound cs a (Some (register.Int w)) t h =
    record { value = _; answer = h.answer; told = subst (TellsRegister bound cs a (Ok (Some (register.Int w)))) h.answer h }
