-- What is written over near cells is what the arm gives: the laws of the arms, where the registers were read and the cell written with few tests; and
-- what a row's number leads to. Assumes nothing.
use mathlib.Core.Path.{◌≡◌, refl, sym, ap, subst, ◌∙◌}
use mathlib.Core.Bool.{Bool, true, false, true≢false}
use Rattle.std.specs.Prelude.{Ok, Some, Option}
use mathlib.Core.List.{List}
use Prim.Native.Nat.{ℕ, ◌+◌, ◌-◌, ◌≤◌}
use native.Mathlib.Omega.{arith}
use lib.ListN.{get_or}
use Rattle.type_info.specs.declared.DataType.{DataType}
use Rattle.type_info.specs.declared.DataType.TheVariants.{Null}
use Rattle.model.specs.Walk.{Tried, done}
use Rattle.model.specs.Row.{Row as Listed}
use Rattle.model.specs.Meaning.{Meaning}
use Rattle.model.specs.State.{Single, Column, Int, MemoryState as Defined, first_datatype, null, never_null}
use Rattle.model.specs.Access.{store_register}
use Rattle.model.specs.Operation.{RegisterOperation, op_arithmetic, op_halt_if_null, op_null, op_copy, op_copy_one, op_integer, op_variable, op_constant}
use Rattle.model.specs.RegisterArms.{copy_to, register_arm}
use Rattle.area.specs.Cells.{blank}
use Rattle.area.specs.declared.Cell.{Cell}
use Rattle.intmap.specs.Pack.{tag_of}
use Rattle.intmap.specs.Signed.{offset, int_of}
use Rattle.intmap.specs.declared.IntMap.{IntMap}
use Rattle.rows.specs.Judged.{Judged}
use Rattle.rows.specs.declared.row.Row.{Row}
use Rattle.state.specs.Leads.{HoldsMap, Current}
use Rattle.state.specs.Arms.{Standard}
use Rattle.state.specs.Own.{WritesNear, LeadsNear, GetsNear}
use Rattle.state.specs.Reads.{register_in, Reads}
use Rattle.state.specs.declared.Register.{Register}
use Rattle.state.specs.declared.Register.TheVariants as register
use Rattle.state.proofs.LeadsLaws.{current_held}
use Rattle.state.proofs.ReadLaws.{read_at}
use Rattle.state.proofs.StoreLeads.{leads_as}
use Rattle.copy_arms.specs.Copies.{carry_one, carry_many}
use Rattle.copy_arms.proofs.RunLaws.{stores-alone}
use Rattle.copy_arms.proofs.CopyLaws.{carry_copies, carry_copy-one, carries_open, carries_end, arm_copy_one, arm_copy}
use Rattle.copy_arms.proofs.TurnLaws.{bind_done}
use Rattle.register_arms.specs.Values.{IsDatatype, AreNullable}
use Rattle.register_arms.proofs.RegisterLaws.{integer_arm, constant_arm, variable_arm, operands_stored}
use Rattle.register_arms.proofs.NullLaws.{null-turn, null-none, null_arm}
use Rattle.register_arms.proofs.ChangeLaws.{halt_record, halt_int, halt_stored}
use Rattle.state.proofs.ArmLaws.{register_arm_where, register_arm_same}
use Rattle.in_place.specs.InPlace.{Operands, ArmNear}

-- ---- nothing was done

pub arm-not : {cs : List Cell} {base end i j k : ℕ} {o : RegisterOperation} → ArmNear cs cs base end i j k o false
arm-not = record { yes = λ e. absurd (true≢false (sym e)); no = λ _. refl }

-- ---- an access that is the arm's

-- f is what the arm gives, of every row that has these operands
module _ {cs ds : List Cell} {base end i j k : ℕ} {r : Bool} {f : ℕ → Defined → Tried Defined} (w : LeadsNear cs ds base end f r) where
  pub arm_where : {o : RegisterOperation} → (r ≡ true → (x : Row) → Operands x i j k → (a : IntMap) → a.base ≡ base → a.base + a.used ≡ end → (limit : ℕ) → Current limit cs a → (meaning : Meaning) (l : Listed) → Standard limit meaning → Judged l x → (bound : ℕ) (m : Defined) → HoldsMap limit bound cs a m → f limit m ≡ register_arm meaning l m o) → ArmNear cs ds base end i j k o r
  arm_where is =
      record {
        yes = λ e x ops a first last limit current. register_arm_where (w.yes e a first last limit current) (is e x ops a first last limit current);
        no = w.no;
      }

  pub arm_as : {o : RegisterOperation} → ((x : Row) → Operands x i j k → (limit : ℕ) (meaning : Meaning) (l : Listed) → Standard limit meaning → Judged l x → (m : Defined) → f limit m ≡ register_arm meaning l m o) → ArmNear cs ds base end i j k o r
  arm_as is = arm_where (λ e x ops a first last limit current meaning l s jd bound m h. is x ops limit meaning l s jd m)

-- the value of a place goes over an equation of words
over : {A : Type 0} (f : ℕ → A) {x i : ℕ} → x ≡ i → f i ≡ f x
over f e = ap f (sym e)

-- ---- a register that is read

module _ {cs : List Cell} {base end i p : ℕ} {near : Option ℕ} (g : GetsNear cs base end i near) (ge : near ≡ Some p) {c : Cell} (ce : c ≡ get_or cs p blank) where
  pub near_reads : (v : Register) → v ≡ register_in c p → (a : IntMap) → a.base ≡ base → a.base + a.used ≡ end → {limit : ℕ} → Current limit cs a → Reads cs a i (Ok (Some v))
  near_reads v ve a first last current = read_at cs a i (Ok (Some p)) (g.is p ge a first last (current_held current)) p refl c v ce ve

  -- and copied
  pub near_copied : {ds : List Cell} {j : ℕ} {r : Bool} → (tag_of c ≡ 2 → ⊥) → WritesNear cs ds base end j c r → LeadsNear cs ds base end (λ limit. copy_to limit (int_of i) (int_of j) (λ v. v)) r
  near_copied {ds} {j} {r} plain w =
      record {
        yes = λ e a first last limit current.
            leads_as _ (carry_copy-one limit (int_of i) (int_of j))
            (carry_copies limit cs a i current (Ok (Some p)) (g.is p ge a first last (current_held current)) false j p refl c ce ds (Ok a) (stores-alone limit cs a p c (ap (λ y. tag_of y) ce) plain ds j (Ok a) (w.yes e a first last limit current.room)) refl);
        no = w.no;
      }

-- ---- arms

-- a register that is copied alone
one-copied : (limit i j : ℕ) (m : Defined) → carry_many limit false 1 (int_of i) (int_of j) m ≡ copy_to limit (int_of i) (int_of j) (λ v. v) m
one-copied limit i j m =
    carries_open limit false 1 i j (omega arith) m
    ∙ bind_done (carry_one limit false (int_of i) (int_of j) m) (carry_many limit false (1 - 1) (int_of (i + 1)) (int_of (j + 1))) (carries_end limit false (1 - 1) (i + 1) (j + 1) (omega arith))
    ∙ carry_copy-one limit (int_of i) (int_of j) m

module _ {cs ds : List Cell} {base end i j k : ℕ} {r : Bool} where
  -- SCopy, IntCopy, Not; Copy of one
  module _ (w : LeadsNear cs ds base end (λ limit. copy_to limit (int_of i) (int_of j) (λ v. v)) r) where
    in_words : (x : Row) → Operands x i j k → (limit : ℕ) (m : Defined) → copy_to limit (int_of i) (int_of j) (λ v. v) m ≡ copy_to limit (int_of x.p1) (int_of x.p2) (λ v. v) m
    in_words x ops limit m =
        over (λ n. copy_to limit (int_of n) (int_of j) (λ v. v) m) ops.first ∙ over (λ n. copy_to limit (int_of x.p1) (int_of n) (λ v. v) m) ops.second

    pub copies_near : ArmNear cs ds base end i j k op_copy_one r
    copies_near = arm_as w (λ x ops limit meaning l s jd m. in_words x ops limit m ∙ arm_copy_one limit meaning l x s jd m)

    pub copies_one : k ≡ offset → ArmNear cs ds base end i j k op_copy r
    copies_one e =
        arm_as w
        (λ x ops limit meaning l s jd m. in_words x ops limit m ∙ sym (one-copied limit x.p1 x.p2 m) ∙ arm_copy limit meaning l x s jd 1 (omega (arith, e, ops.third)) m)

  -- Integer
  pub integer_near : LeadsNear cs ds base end (λ limit. store_register limit (int_of j) (Int (int_of i))) r → ArmNear cs ds base end i j k op_integer r
  integer_near w =
      arm_as w
      (λ x ops limit meaning l s jd m.
      over (λ n. store_register limit (int_of n) (Int (int_of i)) m) ops.second ∙ over (λ n. store_register limit (int_of x.p2) (Int (int_of n)) m) ops.first ∙ integer_arm limit meaning l x s jd m)

  -- a constant
  pub constant_near : (d : DataType) → LeadsNear cs ds base end (λ limit. store_register limit (int_of j) (Column (Single d (Some false)))) r → ArmNear cs ds base end i j k (op_constant d) r
  constant_near d w =
      arm_as w (λ x ops limit meaning l s jd m. over (λ n. store_register limit (int_of n) (never_null d) m) ops.second ∙ constant_arm limit meaning l x s jd m d)

  -- Variable, and Null of one
  module _ (w : LeadsNear cs ds base end (λ limit. store_register limit (int_of j) (Column (Single Null (Some true)))) r) where
    pub variable_near : ArmNear cs ds base end i j k op_variable r
    variable_near = arm_as w (λ x ops limit meaning l s jd m. over (λ n. store_register limit (int_of n) (Column null) m) ops.second ∙ variable_arm limit meaning l x s jd m)

    pub null_near : k ≤ j → ArmNear cs ds base end i j k op_null r
    null_near le =
        arm_as w
        (λ x ops limit meaning l s jd m.
        over (λ n. store_register limit (int_of n) (Column null) m) ops.second
        ∙ sym (null-turn limit 1 (int_of x.p2) m (omega arith) ∙ bind_done (store_register limit (int_of x.p2) (Column null) m) _ (λ t. null-none limit (1 - 1) _ t (λ lt. omega (arith, lt))))
        ∙ null_arm limit meaning l x s jd m 1 (omega (arith, ops.second, ops.third, le)))

-- the operations on two operands
module _
    {cs : List Cell} {base end i j p q : ℕ} {s t : Option ℕ}
    (gi : GetsNear cs base end i s) (pl : s ≡ Some p) (gj : GetsNear cs base end j t) (ql : t ≡ Some q)
    {c d : Cell} (ce : c ≡ get_or cs p blank) (de : d ≡ get_or cs q blank)
    (u v : Register) (ue : u ≡ register_in c p) (ve : v ≡ register_in d q)
  where
    pub arithmetic_near : {ds : List Cell} {k : ℕ} {r : Bool} (s t e : DataType) (n : Option Bool) → e ≡ first_datatype s t → IsDatatype (Some u) s → IsDatatype (Some v) t → AreNullable (Some u) (Some v) n → LeadsNear cs ds base end (λ limit. store_register limit (int_of k) (Column (Single e n))) r → ArmNear cs ds base end i j k op_arithmetic r
    arithmetic_near s t e n first us vt both w =
        arm_where w
        (λ yes x ops a from to limit current meaning l st jd bound m h.
        over (λ z. store_register limit (int_of z) (Column (Single e n)) m) ops.third
        ∙ operands_stored limit meaning l x st jd cs a (Ok (Some u)) (Ok (Some v)) (subst (λ z. Reads cs a z (Ok (Some u))) (sym ops.first) (near_reads gi pl ce u ue a from to current)) bound m h (subst (λ z. Reads cs a z (Ok (Some v))) (sym ops.second) (near_reads gj ql de v ve a from to current)) (Some u) refl (Some v) refl s t e n first us vt both)

-- HaltIfNull
module _ {cs : List Cell} {base end k p : ℕ} {near : Option ℕ} (g : GetsNear cs base end k near) (ge : near ≡ Some p) {c : Cell} (ce : c ≡ get_or cs p blank) (v : Register) (ve : v ≡ register_in c p) where
  reads : {i j : ℕ} (x : Row) → Operands x i j k → (a : IntMap) → a.base ≡ base → a.base + a.used ≡ end → {limit : ℕ} → Current limit cs a → Reads cs a x.p3 (Ok (Some v))
  reads x ops a first last current = subst (λ z. Reads cs a z (Ok (Some v))) (sym ops.third) (near_reads g ge ce v ve a first last current)

  pub halt_near : (d : DataType) (n : Option Bool) → v ≡ register.Single d n → {ds : List Cell} {r : Bool} → LeadsNear cs ds base end (λ limit. store_register limit (int_of k) (Column (Single d (Some false)))) r → {i j : ℕ} → ArmNear cs ds base end i j k op_halt_if_null r
  halt_near d n e w =
      arm_where w
      (λ yes x ops a first last limit current meaning l s jd bound m h.
      over (λ z. store_register limit (int_of z) (Column (Single d (Some false))) m) ops.third
      ∙ halt_stored limit meaning l x s jd cs a (Ok (Some v)) bound m h (reads x ops a first last current) d n (ap (λ q. Ok (Some q)) e))

  -- what is no plain column stays
  module _ {i j : ℕ} where
    stays : ((x : Row) → Operands x i j k → (a : IntMap) → a.base ≡ base → a.base + a.used ≡ end → (limit : ℕ) → Current limit cs a → (meaning : Meaning) (l : Listed) → Standard limit meaning → Judged l x → (bound : ℕ) (m : Defined) → HoldsMap limit bound cs a m → register_arm meaning l m op_halt_if_null ≡ done m) → ArmNear cs cs base end i j k op_halt_if_null true
    stays is =
        record {
          yes = λ _ x ops a first last limit current. register_arm_same current (is x ops a first last limit current);
          no = λ e. absurd (true≢false e);
        }

    pub halt_at_record : (at : ℕ) → v ≡ register.Record at → ArmNear cs cs base end i j k op_halt_if_null true
    halt_at_record at e = stays (λ x ops a first last limit current meaning l s jd bound m h. halt_record limit meaning l x s jd cs a (Ok (Some v)) bound m h (reads x ops a first last current) at (ap (λ q. Ok (Some q)) e))

    pub halt_at_int : (n : ℕ) → v ≡ register.Int n → ArmNear cs cs base end i j k op_halt_if_null true
    halt_at_int n e = stays (λ x ops a first last limit current meaning l s jd bound m h. halt_int limit meaning l x s jd cs a (Ok (Some v)) bound m h (reads x ops a first last current) n (ap (λ q. Ok (Some q)) e))
