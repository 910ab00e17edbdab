-- What each arm stores is what the definition's arm gives. Assumes nothing.
use Rattle.refusal.specs.Numbers.{number_of}
use Rattle.refusal.specs.declared.Refusal.{Refusal}
use Rattle.intmap.specs.Store.{Stored}
use mathlib.Core.Path.{◌≡◌, refl, sym, ap, ap₂, subst, ◌∙◌}
use mathlib.Core.Logic.{◌⊎◌, inl, inr}
use mathlib.Core.Bool.{false, not, Bool}
use Rattle.std.specs.Prelude.{Option, None, Some, Ok, Err}
use mathlib.Core.List.{List}
use Prim.Native.Nat.{ℕ}
use lib.IntN.{ℤ}
use Rattle.type_info.specs.declared.DataType.{DataType}
use Rattle.type_info.specs.declared.DataType.TheVariants.{Integer, Float, Text}
use Rattle.model.specs.Walk.{Tried, refused, done}
use Rattle.model.specs.Row.{Row as Listed}
use Rattle.model.specs.State.{Single, RegDataType, Column, Int, MemoryState, null, never_null, first_datatype}
use Rattle.model.specs.Access.{◌>>=◌, read_register, store_register}
use Rattle.model.specs.Functions.{gives, never, by_p2, MayBeNull, is_nullable, text_if, text_of, aggregate_of}
use Rattle.model.specs.Meaning.{Meaning}
use Rattle.model.specs.Operation.{op_integer, op_constant, op_variable, op_function, op_arithmetic, op_agg_step, op_agg_final}
use Rattle.model.specs.RegisterArms.{register_arm, function_arm, operands, summed, from_other_row, store_some, copy_to, agg_step_arm, agg_final_arm}
use Rattle.area.specs.declared.Cell.{Cell}
use Rattle.intmap.specs.Signed.{offset, int_of}
use Rattle.intmap.specs.declared.IntMap.{IntMap}
use Rattle.intmap.proofs.SignedLaws.{int_same}
use Rattle.opcode.specs.P4.{values_of, given_by, JudgedText, Judges}
use Rattle.opcode.specs.declared.FunctionValue.{FunctionValue}
use Rattle.opcode.specs.declared.FunctionValue.TheVariants as function
use Rattle.opcode.specs.declared.Aggregate.{Aggregate}
use Rattle.opcode.specs.declared.Aggregate.TheVariants as aggregate
use Rattle.opcode.specs.declared.P4.{P4}
use Rattle.rows.specs.Rows.{p4_at}
use Rattle.rows.specs.Judged.{Judged}
use Rattle.rows.specs.declared.row.Row.{Row}
use Rattle.state.specs.Leads.{Current, Leads, HoldsMap, Tells}
use Rattle.state.specs.Reads.{Reads, TellsRegister, Reading}
use Rattle.state.specs.declared.Register.{Register}
use Rattle.register_arms.specs.Values.{datatype_of, IsDatatype, AreNullable, Makes}
use Rattle.register_arms.proofs.ValueLaws.{IsRead, value_read, operands_are, never-absent}
use Rattle.state.specs.Arms.{Standard}
use lib.Dec.{eqb}
use Rattle.state.proofs.LeadsLaws.{unchanged}

-- ---- without a store

module _ (limit : ℕ) (cs : List Cell) (a : IntMap) (f : MemoryState → Tried MemoryState) where
  -- a refusal, and a map left as it is; what holds of every state that is held suffices
  pub refuses_leads : (n : Refusal) → ((bound : ℕ) (m : MemoryState) → HoldsMap limit bound cs a m → f m ≡ refused (number_of n)) → Leads limit cs cs a (Err n) f
  refuses_leads n e = record { says = λ bound m le h. e bound m h; leaves = tt; frame = unchanged cs a.base _ }

  pub same_leads : Current limit cs a → ((bound : ℕ) (m : MemoryState) → HoldsMap limit bound cs a m → f m ≡ done m) → Leads limit cs cs a (Ok a) f
  same_leads c e =
      record {
        says = λ bound m le h. record { state = m; answer = e bound m h; holds = h };
        leaves = record { base = refl; room = c.room };
        frame = unchanged cs a.base _;
      }

-- the same answer, said otherwise of every state that is held
pub leads_where : {limit : ℕ} {cs ds : List Cell} {a : IntMap} {f g : MemoryState → Tried MemoryState} (r : Stored) → ((bound : ℕ) (m : MemoryState) → HoldsMap limit bound cs a m → f m ≡ g m) → Leads limit cs ds a r f → Leads limit cs ds a r g
leads_where {limit} {ds} r e l =
    record { says = λ bound m le h. subst (Tells limit bound ds r) (e bound m h) (l.says bound m le h); leaves = l.leaves; frame = l.frame }

-- ---- Function's values

pub null_by : (p2 : ℕ) → Some (not (eqb p2 offset)) ≡ Some (is_nullable by_p2 (int_of p2))
unfolding int_of
null_by p2 = ap (λ b. Some (not b)) (sym (int_same p2 offset))

module _ (limit : ℕ) (meaning : Meaning) (l : Listed) (x : Row) (s : Standard limit meaning) (j : Judged l x) (m : MemoryState) where
  pub integer_arm : store_register limit (int_of x.p2) (Int (int_of x.p1)) m ≡ register_arm meaning l m op_integer
  unfolding register_arm
  integer_arm = rw (s.cells, j.p1, j.p2)

  pub constant_arm : (d : DataType) → store_register limit (int_of x.p2) (never_null d) m ≡ register_arm meaning l m (op_constant d)
  unfolding register_arm
  constant_arm d = rw (s.cells, j.p2)

  pub variable_arm : store_register limit (int_of x.p2) (Column null) m ≡ register_arm meaning l m op_variable
  unfolding register_arm
  variable_arm = rw (s.cells, j.p2)

  -- P4 is UTF-8, or refused
  not_text : p4_at x.p4 ≡ None → text_of l.p4 ≡ refused 10
  unfolding text_of
  not_text e = ap (λ b. text_if b l.p4) (subst (λ p. Judges p l.p4) e j.p4)

  pub function_refused : p4_at x.p4 ≡ None → register_arm meaning l m op_function ≡ refused 10
  unfolding register_arm
  function_refused e = ap (λ t. t >>= λ text. function_arm meaning.cell_limit l m (meaning.function_for text)) (not_text e)

  value_stored : (d : DataType) (k : MayBeNull) (nullable : Option Bool) → nullable ≡ Some (is_nullable k (int_of x.p2)) → store_register limit (int_of x.p3) (Column (Single d nullable)) m ≡ function_arm meaning.cell_limit l m (Some (gives d k))
  value_stored d k nullable e = rw (e, s.cells, j.p2, j.p3)

  module _ (p : P4) (e : p4_at x.p4 ≡ Some p) where
    judged_text : JudgedText p l.p4
    judged_text = subst (λ q. Judges q l.p4) e j.p4

    text_is : text_of l.p4 ≡ done l.p4
    unfolding text_of
    text_is = ap (λ b. text_if b l.p4) judged_text.is_text

    function_is : (f : Option FunctionValue) → p.function ≡ f → register_arm meaning l m op_function ≡ function_arm meaning.cell_limit l m (values_of f)
    unfolding register_arm
    function_is f is =
        ap (λ t. t >>= λ text. function_arm meaning.cell_limit l m (meaning.function_for text)) text_is
        ∙ ap (function_arm meaning.cell_limit l m) (s.functions l.p4 ∙ sym judged_text.the_function ∙ ap values_of is)

    pub function_unknown : p.function ≡ None → register_arm meaning l m op_function ≡ done m
    function_unknown is = function_is None is

    pub function_rowid : (f : FunctionValue) → p.function ≡ Some f → f ≡ function.Rowid → store_register limit (int_of x.p3) (never_null Integer) m ≡ register_arm meaning l m op_function
    function_rowid f is e' = value_stored Integer never (Some false) refl ∙ sym (function_is (Some function.Rowid) (is ∙ ap Some e'))

    module _ (nullable : Option Bool) (by_p : nullable ≡ Some (is_nullable by_p2 (int_of x.p2))) where
      pub function_text : (f : FunctionValue) → p.function ≡ Some f → f ≡ function.Text → store_register limit (int_of x.p3) (Column (Single Text nullable)) m ≡ register_arm meaning l m op_function
      function_text f is e' = value_stored Text by_p2 nullable by_p ∙ sym (function_is (Some function.Text) (is ∙ ap Some e'))

      pub function_days : (f : FunctionValue) → p.function ≡ Some f → f ≡ function.Days → store_register limit (int_of x.p3) (Column (Single Float nullable)) m ≡ register_arm meaning l m op_function
      function_days f is e' = value_stored Float by_p2 nullable by_p ∙ sym (function_is (Some function.Days) (is ∙ ap Some e'))

      pub function_seconds : (f : FunctionValue) → p.function ≡ Some f → f ≡ function.Seconds → store_register limit (int_of x.p3) (Column (Single Integer nullable)) m ≡ register_arm meaning l m op_function
      function_seconds f is e' = value_stored Integer by_p2 nullable by_p ∙ sym (function_is (Some function.Seconds) (is ∙ ap Some e'))

-- ---- registers that are read

module _ (limit bound : ℕ) (cs : List Cell) (a : IntMap) (i : ℕ) (r : Reading) (g : Reads cs a i r) (m : MemoryState) (h : HoldsMap limit bound cs a m) where
  pub bad_read : (n : Refusal) → r ≡ Err n → read_register (int_of i) m ≡ refused (number_of n)
  bad_read n e = (subst (Reads cs a i) e g).says limit bound m h

  pub good_read : (q : Option Register) → r ≡ Ok q → IsRead bound cs a q (read_register (int_of i) m)
  good_read q e = value_read bound cs a q (read_register (int_of i) m) ((subst (Reads cs a i) e g).says limit bound m h)

module _
    (limit : ℕ) (meaning : Meaning) (l : Listed) (x : Row) (s : Standard limit meaning) (j : Judged l x)
    (cs : List Cell) (a : IntMap) (q r : Reading) (gq : Reads cs a x.p1 q) (bound : ℕ) (m : MemoryState) (h : HoldsMap limit bound cs a m)
  where
    abbrev both : Tried (Option RegDataType) → Tried (Option RegDataType) → Tried MemoryState
    both t u = t >>= λ v. u >>= λ w. store_register meaning.cell_limit l.p3 (operands v w) m

    arithmetic_is : register_arm meaning l m op_arithmetic ≡ both (read_register (int_of x.p1) m) (read_register (int_of x.p2) m)
    unfolding register_arm
    arithmetic_is = ap₂ (λ i k. both (read_register i m) (read_register k m)) (sym j.p1) (sym j.p2)

    pub first_refused : (n : Refusal) → q ≡ Err n → register_arm meaning l m op_arithmetic ≡ refused (number_of n)
    first_refused n e = arithmetic_is ∙ ap (λ t. both t (read_register (int_of x.p2) m)) (bad_read limit bound cs a x.p1 q gq m h n e)

    module _ (gr : Reads cs a x.p2 r) (first_read : Option Register) (good : q ≡ Ok first_read) where
      v : IsRead bound cs a first_read (read_register (int_of x.p1) m)
      v = good_read limit bound cs a x.p1 q gq m h first_read good

      pub second_refused : (n : Refusal) → r ≡ Err n → register_arm meaning l m op_arithmetic ≡ refused (number_of n)
      second_refused n e = arithmetic_is ∙ ap₂ both v.answer (bad_read limit bound cs a x.p2 r gr m h n e)

      pub operands_stored : (second_read : Option Register) → r ≡ Ok second_read → (d c e : DataType) (n : Option Bool) → e ≡ first_datatype d c → IsDatatype first_read d → IsDatatype second_read c → AreNullable first_read second_read n → store_register limit (int_of x.p3) (Column (Single e n)) m ≡ register_arm meaning l m op_arithmetic
      operands_stored second_read other d c e n first dq cr nullable =
          let w = good_read limit bound cs a x.p2 r gr m h second_read other in
          let kind : e ≡ first_datatype (datatype_of v.value) (datatype_of w.value) = first ∙ ap₂ first_datatype (dq.says bound cs a v.value v.told) (cr.says bound cs a w.value w.told) in
          let column : Column (Single e n) ≡ operands v.value w.value =
          ap₂ (λ y z. Column (Single y z)) kind (nullable.says bound cs a v.value w.value v.told w.told) ∙ sym (operands_are v.value w.value) in
          ap (λ y. store_register limit (int_of x.p3) y m) column
          ∙ ap₂ (λ y z. store_register y z (operands v.value w.value) m) (sym s.cells) j.p3
          ∙ sym (arithmetic_is ∙ ap₂ both v.answer w.answer)

-- ---- aggregates

made_column : (limit : ℕ) (k : ℤ) (m : MemoryState) (bound : ℕ) (cs : List Cell) (a : IntMap) {P : Register → DataType × Option Bool → Type 0} {f : RegDataType → RegDataType} → Makes P f → (q : Register) (v : Option RegDataType) → TellsRegister bound cs a (Ok (Some q)) (done v) → (c : DataType × Option Bool) → P q c → store_register limit k (Column (Single c.0 c.1)) m ≡ store_some limit k f v m
made_column limit k m bound cs a makes q None told c made = absurd (never-absent bound cs a q told)
made_column limit k m bound cs a makes q (Some v) told c made = ap (λ y. store_register limit k y m) (makes bound cs a q v told c made)

module _ (limit : ℕ) (cs : List Cell) (a : IntMap) (i k : ℕ) (r : Reading) (g : Reads cs a i r) (bound : ℕ) (m : MemoryState) (h : HoldsMap limit bound cs a m) where
  abbrev stores : (RegDataType → RegDataType) → Tried (Option RegDataType) → Tried MemoryState
  stores f t = t >>= λ v. store_some limit (int_of k) f v m

  copy_is : (f : RegDataType → RegDataType) → copy_to limit (int_of i) (int_of k) f m ≡ stores f (read_register (int_of i) m)
  unfolding copy_to
  copy_is f = refl

  pub copy_refused : (f : RegDataType → RegDataType) (n : Refusal) → r ≡ Err n → copy_to limit (int_of i) (int_of k) f m ≡ refused (number_of n)
  copy_refused f n e = copy_is f ∙ ap (stores f) (bad_read limit bound cs a i r g m h n e)

  pub copy_nothing : (f : RegDataType → RegDataType) → r ≡ (Ok None) → copy_to limit (int_of i) (int_of k) f m ≡ done m
  copy_nothing f e = copy_is f ∙ ap (stores f) ((subst (Reads cs a i) e g).says limit bound m h)

  pub copy_stored : {P : Register → DataType × Option Bool → Type 0} (f : RegDataType → RegDataType) → Makes P f → (q : Register) → r ≡ Ok (Some q) → (c : DataType × Option Bool) → P q c → store_register limit (int_of k) (Column (Single c.0 c.1)) m ≡ copy_to limit (int_of i) (int_of k) f m
  copy_stored f makes q good c made =
      let v = good_read limit bound cs a i r g m h (Some q) good in
      made_column limit (int_of k) m bound cs a makes q v.value v.told c made ∙ sym (copy_is f ∙ ap (stores f) v.answer)

module _ (limit : ℕ) (meaning : Meaning) (l : Listed) (x : Row) (s : Standard limit meaning) (j : Judged l x) (m : MemoryState) where
  pub step_refused : p4_at x.p4 ≡ None → register_arm meaning l m op_agg_step ≡ refused 10
  unfolding register_arm
  step_refused e = ap (λ t. t >>= λ text. agg_step_arm meaning.cell_limit l m (aggregate_of text)) (not_text limit meaning l x s j m e)

  pub final_refused : p4_at x.p4 ≡ None → register_arm meaning l m op_agg_final ≡ refused 10
  unfolding register_arm
  final_refused e = ap (λ t. t >>= λ text. agg_final_arm meaning.cell_limit l m (aggregate_of text)) (not_text limit meaning l x s j m e)

  module _ (p : P4) (e : p4_at x.p4 ≡ Some p) where
    aggregate_is : (a : Aggregate) → p.aggregate ≡ a → aggregate_of l.p4 ≡ given_by a
    aggregate_is a is = sym (judged_text limit meaning l x s j m p e).the_aggregate ∙ ap given_by is

    step_is : (a : Aggregate) → p.aggregate ≡ a → register_arm meaning l m op_agg_step ≡ agg_step_arm meaning.cell_limit l m (given_by a)
    unfolding register_arm
    step_is a is =
        ap (λ t. t >>= λ text. agg_step_arm meaning.cell_limit l m (aggregate_of text)) (text_is limit meaning l x s j m p e)
        ∙ ap (agg_step_arm meaning.cell_limit l m) (aggregate_is a is)

    final_is : (a : Aggregate) → p.aggregate ≡ a → register_arm meaning l m op_agg_final ≡ agg_final_arm meaning.cell_limit l m (given_by a)
    unfolding register_arm
    final_is a is =
        ap (λ t. t >>= λ text. agg_final_arm meaning.cell_limit l m (aggregate_of text)) (text_is limit meaning l x s j m p e)
        ∙ ap (agg_final_arm meaning.cell_limit l m) (aggregate_is a is)

    kind_stored : (d : DataType) (w : ℕ) (i : ℤ) → int_of w ≡ i → store_register limit (int_of w) (never_null d) m ≡ store_register meaning.cell_limit i (never_null d) m
    kind_stored d w i is = ap₂ (λ y z. store_register y z (never_null d) m) (sym s.cells) is

    copied : (f : RegDataType → RegDataType) → copy_to limit (int_of x.p2) (int_of x.p3) f m ≡ copy_to meaning.cell_limit l.p2 l.p3 f m
    copied f = ap (λ y. copy_to y (int_of x.p2) (int_of x.p3) f m) (sym s.cells) ∙ ap₂ (λ y z. copy_to meaning.cell_limit y z f m) j.p2 j.p3

    pub step_integer : p.aggregate ≡ aggregate.Integer → store_register limit (int_of x.p3) (never_null Integer) m ≡ register_arm meaning l m op_agg_step
    step_integer is = kind_stored Integer x.p3 l.p3 j.p3 ∙ sym (step_is aggregate.Integer is)

    pub step_real : p.aggregate ≡ aggregate.Real → store_register limit (int_of x.p3) (never_null Float) m ≡ register_arm meaning l m op_agg_step
    step_real is = kind_stored Float x.p3 l.p3 j.p3 ∙ sym (step_is aggregate.Real is)

    pub step_sum : p.aggregate ≡ aggregate.Sum → copy_to limit (int_of x.p2) (int_of x.p3) summed m ≡ register_arm meaning l m op_agg_step
    step_sum is = copied summed ∙ sym (step_is aggregate.Sum is)

    pub step_other : p.aggregate ≡ aggregate.OtherRow → copy_to limit (int_of x.p2) (int_of x.p3) from_other_row m ≡ register_arm meaning l m op_agg_step
    step_other is = copied from_other_row ∙ sym (step_is aggregate.OtherRow is)

    pub step_operand : p.aggregate ≡ aggregate.Operand → copy_to limit (int_of x.p2) (int_of x.p3) (λ v. v) m ≡ register_arm meaning l m op_agg_step
    step_operand is = copied (λ v. v) ∙ sym (step_is aggregate.Operand is)

    pub final_integer : p.aggregate ≡ aggregate.Integer → store_register limit (int_of x.p1) (never_null Integer) m ≡ register_arm meaning l m op_agg_final
    final_integer is = kind_stored Integer x.p1 l.p1 j.p1 ∙ sym (final_is aggregate.Integer is)

    pub final_real : p.aggregate ≡ aggregate.Real → store_register limit (int_of x.p3) (never_null Float) m ≡ register_arm meaning l m op_agg_final
    final_real is = kind_stored Float x.p3 l.p3 j.p3 ∙ sym (final_is aggregate.Real is)

    pub final_other : p.aggregate ≡ aggregate.OtherRow → copy_to limit (int_of x.p2) (int_of x.p3) from_other_row m ≡ register_arm meaning l m op_agg_final
    final_other is = copied from_other_row ∙ sym (final_is aggregate.OtherRow is)

    pub final_stays : (p.aggregate ≡ aggregate.Sum) ⊎ (p.aggregate ≡ aggregate.Operand) → register_arm meaning l m op_agg_final ≡ done m
    final_stays (inl is) = final_is aggregate.Sum is
    final_stays (inr is) = final_is aggregate.Operand is
