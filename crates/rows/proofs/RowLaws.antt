-- A row is read from its cell as it was written. Assumes nothing.
use mathlib.Core.Path.{◌≡◌, refl, ap, ◌∙◌}
use Rattle.std.specs.Prelude.{Option, None, Some}
use Prim.Native.Nat.{◌/◌, ◌%◌, ◌<◌}
use native.Mathlib.Omega.{arith}
use lib.Dec.{eqb}
use Rattle.opcode.specs.Opcode.{number, operation_at}
use Rattle.opcode.specs.declared.FunctionValue.{FunctionValue}
use Rattle.opcode.specs.declared.FunctionValue.TheVariants as function
use Rattle.opcode.specs.declared.Aggregate.{Aggregate}
use Rattle.opcode.specs.declared.Aggregate.TheVariants as aggregate
use Rattle.opcode.specs.declared.P4.{P4}
use Rattle.opcode.specs.P4.{function_at, aggregate_at}
use Rattle.opcode.proofs.Numbers.{read_again, number-below}
use Rattle.rows.specs.Parts.{Parts, Fits}
use Rattle.rows.specs.Rows.{function_number, aggregate_number, p4_number, p4_at, p4_if, cell_of, row_in}

function_again : (f : Option FunctionValue) → function_at (function_number f) ≡ f
function_again None = refl
function_again (Some function.Rowid) = refl
function_again (Some function.Text) = refl
function_again (Some function.Days) = refl
function_again (Some function.Seconds) = refl

function-small : (f : Option FunctionValue) → function_number f < 256
function-small None = omega arith
function-small (Some function.Rowid) = omega arith
function-small (Some function.Text) = omega arith
function-small (Some function.Days) = omega arith
function-small (Some function.Seconds) = omega arith

aggregate_again : (a : Aggregate) → aggregate_at (aggregate_number a) ≡ a
aggregate_again aggregate.Operand = refl
aggregate_again aggregate.Integer = refl
aggregate_again aggregate.Real = refl
aggregate_again aggregate.Sum = refl
aggregate_again aggregate.OtherRow = refl

aggregate-small : (a : Aggregate) → aggregate_number a < 256
aggregate-small aggregate.Operand = omega arith
aggregate-small aggregate.Integer = omega arith
aggregate-small aggregate.Real = omega arith
aggregate-small aggregate.Sum = omega arith
aggregate-small aggregate.OtherRow = omega arith

pub p4-small : (p : Option P4) → p4_number p < 16777216
p4-small None = omega arith
p4-small (Some x) = omega (arith, function-small x.function, aggregate-small x.aggregate)

pub p4_again : (p : Option P4) → p4_at (p4_number p) ≡ p
p4_again None = refl
p4_again (Some x) =
    let n = p4_number (Some x) in
    let f : n / 256 % 256 ≡ function_number x.function = omega (arith, function-small x.function, aggregate-small x.aggregate) in
    let a : n / 65536 % 256 ≡ aggregate_number x.aggregate = omega (arith, function-small x.function, aggregate-small x.aggregate) in
    let one : n % 256 ≡ 1 = omega arith in
    ap (λ k. p4_if (eqb k 1) (record { function = function_at (n / 256 % 256); aggregate = aggregate_at (n / 65536 % 256) })) one
    ∙ ap (λ g. Some (record { function = g; aggregate = aggregate_at (n / 65536 % 256) })) (ap function_at f ∙ function_again x.function)
    ∙ ap (λ g. Some (record { function = x.function; aggregate = g })) (ap aggregate_at a ∙ aggregate_again x.aggregate)

module _ (r : Parts) (f : Fits r.p4 r.p1 r.p2 r.p3) where
  op_again : (row_in (cell_of r)).op ≡ r.op
  op_again =
      let n : (cell_of r).head % 256 ≡ number r.op = omega (arith, number-below r.op) in
      ap operation_at n ∙ read_again r.op

  p4_same : (row_in (cell_of r)).p4 ≡ r.p4
  p4_same = omega (arith, number-below r.op, f.p4)

  p1_again : (row_in (cell_of r)).p1 ≡ r.p1
  p1_again = omega (arith, number-below r.op, f.p4, f.p1.above)

  p2_again : (row_in (cell_of r)).p2 ≡ r.p2
  p2_again = omega (arith, f.p2.above, f.p2.below)

  p3_again : (row_in (cell_of r)).p3 ≡ r.p3
  p3_again = omega (arith, f.p2.above, f.p2.below, f.p3.above)

  pub row_again : row_in (cell_of r) ≡ r
  row_again = λ i. record { op = op_again i; p4 = p4_same i; p1 = p1_again i; p2 = p2_again i; p3 = p3_again i }
