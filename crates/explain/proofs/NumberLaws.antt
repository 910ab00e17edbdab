-- The arm of an operation is met. Assumes nothing.
use Rattle.std.specs.Prelude.{Ok, Err, Some, None}
use Rattle.intmap.specs.Store.{Stored}
use mathlib.Core.Path.{◌≡◌, refl, sym, ap, ap₂, subst, ◌∙◌}
use mathlib.Core.Logic.{◌⊎◌, inl, inr}
use mathlib.Core.Bool.{Bool}
use mathlib.Core.List.{List}
use Prim.Native.Nat.{ℕ, zero, suc, ◌+◌, ◌-◌, ◌<◌, ◌≤◌}
use native.Mathlib.Omega.{arith}
use Rattle.type_info.specs.declared.DataType.{DataType}
use Rattle.model.specs.Walk.{Tried}
use Rattle.model.specs.Row.{Row as Listed}
use Rattle.model.specs.State.{MemoryState as Defined}
use Rattle.model.specs.Catalogue.{CatalogueRecord}
use Rattle.root_block.specs.Blocks.{HasBlocks}
use Rattle.model.specs.Operation.{JumpOperation, RegisterOperation, CursorOperation, jumps, registers, cursors, no_arm, op_constant, op_open_read}
use Rattle.model.specs.Offer.{turns}
use Rattle.model.specs.RegisterArms.{register_arm}
use Rattle.model.specs.CursorArms.{cursor_arm}
use Rattle.model.specs.Explain.{falls_through, arm}
use Rattle.model.proofs.Tried.{Kept, kept}
use Rattle.area.specs.declared.Cell.{Cell}
use Rattle.intmap.specs.Map.{Frame}
use Rattle.intmap.specs.declared.IntMap.{IntMap}
use Rattle.intmap.specs.Signed.{offset, int_of}
use Rattle.intmap.proofs.SignedLaws.{int_turns}
use Rattle.opcode.specs.Opcode.{arm_of, number, constant_kind}
use Rattle.opcode.specs.declared.Operation.TheVariants.{ConstantInteger, ConstantFloat, ConstantText, ConstantBlob}
use Rattle.opcode.specs.declared.Operation.{Operation}
use Rattle.opcode.proofs.Numbers.{operation_is}
use Rattle.rows.specs.Judged.{Judged}
use Rattle.rows.specs.declared.row.Row.{Row}
use Rattle.state.specs.Leads.{Current, HoldsMap, Tells, Leaves, operands}
use Rattle.state.specs.Arms.{Standard, RegisterArm, CursorArm}
use Rattle.state.specs.Steps.{Offered, TellsStep, JumpArm, Step}
use Rattle.state.specs.declared.MemoryState.{MemoryState}
use Rattle.state.proofs.LeadsLaws.{unchanged}
use Rattle.jump_arms.specs.Arms.{Ready, StateArm, at, step_after}
use Rattle.jump_arms.proofs.StepLaws.{held_next, goes_on_lem}
use Rattle.jump_arms.proofs.StoreSteps.{SameRow, leaves_after}
use Rattle.coroutine_arms.specs.Arms.{RowsArm}
use Rattle.read_arm.specs.Gathers.{ReadsTable}
use Rattle.explain.specs.Handles.{meaning_of}
use Rattle.explain.specs.Numbers.{NumberArm}
use Rattle.explain.proofs.RowKept.{register_row, cursor_row}

-- ---- the operations that store a constant

abbrev IsConstant : Operation → Type 0
IsConstant o = arm_of o ≡ registers (op_constant (constant_kind o))

pub constant_operation : {o : Operation} {d : DataType} → (o ≡ ConstantInteger) ⊎ ((o ≡ ConstantFloat) ⊎ ((o ≡ ConstantText) ⊎ (o ≡ ConstantBlob))) → d ≡ constant_kind o → arm_of o ≡ registers (op_constant d)
constant_operation {o} is e = constant o is ∙ ap (λ d. registers (op_constant d)) (sym e)
  where
    constant : (o : Operation) → (o ≡ ConstantInteger) ⊎ ((o ≡ ConstantFloat) ⊎ ((o ≡ ConstantText) ⊎ (o ≡ ConstantBlob))) → IsConstant o
    constant o (inl is) = subst IsConstant (sym is) refl
    constant o (inr (inl is)) = subst IsConstant (sym is) refl
    constant o (inr (inr (inl is))) = subst IsConstant (sym is) refl
    constant o (inr (inr (inr is))) = subst IsConstant (sym is) refl

-- the same by the numbers
pub constant_number : (o : Operation) {d : DataType} → 29 ≤ number o → number o ≤ 32 → d ≡ constant_kind o → arm_of o ≡ registers (op_constant d)
constant_number o low high e = go (number o - 29) (omega (arith, low, high)) (omega (arith, low)) ∙ ap (λ d. registers (op_constant d)) (sym e)
  where
    go : (k : ℕ) → k < 4 → number o ≡ 29 + k → IsConstant o
    go zero h q = subst IsConstant (sym (operation_is ConstantInteger q)) refl
    go (suc zero) h q = subst IsConstant (sym (operation_is ConstantFloat q)) refl
    go (suc (suc zero)) h q = subst IsConstant (sym (operation_is ConstantText q)) refl
    go (suc (suc (suc zero))) h q = subst IsConstant (sym (operation_is ConstantBlob q)) refl
    go (suc (suc (suc (suc k)))) h q = absurd (omega (arith, h))

-- ---- the arms that name the next row

module _ {limit from n : ℕ} {cs ds : List Cell} {s : MemoryState} {x : Row} {op : Operation} where
  pub rows_number : {o : JumpOperation} {r : Step} → arm_of op ≡ jumps o → RowsArm limit cs ds s x from n o r → (blocks : List ℕ) → NumberArm limit from n cs ds blocks s x op r
  unfolding arm
  rows_number {r = r} is told blocks =
      record {
        says = λ again rows records l have long cat j bound m le h.
            subst (λ w. TellsStep limit bound ds r (arm (meaning_of limit records) rows again m l w)) (sym is) (told.says rows have long l j bound m le h);
        leaves = told.leaves;
        frame = told.frame;
      }

  pub jump_number : {o : JumpOperation} {r : Step} → arm_of op ≡ jumps o → JumpArm limit cs ds s x o r → (blocks : List ℕ) → NumberArm limit from n cs ds blocks s x op r
  jump_number is told =
      rows_number is (record { says = λ rows have long l j bound m le h. told.says rows l j bound m le h; leaves = told.leaves; frame = told.frame })

-- the same of an operation that is told by its name
pub jump_named :
    (o : JumpOperation) (k : Operation) → arm_of k ≡ jumps o →
    (limit from n : ℕ) (cs ds : List Cell) (s : MemoryState) (x : Row) (r : Step) (blocks : List ℕ) →
    x.op ≡ k → JumpArm limit cs ds s x o r → NumberArm limit from n cs ds blocks s x x.op r
jump_named o k leads limit from n cs ds s x r blocks is told = jump_number (ap arm_of is ∙ leads) told blocks

-- what an arm of the state alone says of the state on a row
pub of_state : {limit w : ℕ} {cs : List Cell} {a : IntMap} {s : MemoryState} {x : Row} {o : JumpOperation} {r : Step} → (s.map ≡ a) × (s.row ≡ w) → Ready limit cs (at w a) → StateArm s x o r → JumpArm limit cs cs (at w a) x o r
of_state {limit} {cs = cs} {x = x} {o = o} {r = r} is ready arm = subst (λ s. StateArm s x o r) (ap₂ at is.1 is.0) arm limit cs ready

-- ---- the arms that fall through

-- t is what the access answers
falls : (limit bound : ℕ) (ds : List Cell) (r : Stored) (w : ℕ) (m : Defined) (t : Tried Defined) → Tells limit bound ds r t → Kept (SameRow m) t → int_of w ≡ m.program_i → TellsStep limit bound ds (step_after (w + 1) r) (falls_through t)
falls limit bound ds (Err k) w m t told keeps e = ap falls_through told
falls limit bound ds (Ok b) w m t told keeps e =
    subst (Offered limit bound ds None (Some (at (w + 1) b))) (sym (ap falls_through told.answer))
    (goes_on_lem (held_next w (e ∙ sym (kept keeps told.answer)) told.holds))

-- f is the arm's access, of every listing's row that x stands for and every catalogue's records
record Accesses (limit : ℕ) (cs ds : List Cell) (a : IntMap) (blocks : List ℕ) (x : Row) (f : Listed → List CatalogueRecord → Defined → Tried Defined) (r : Stored) : Type 0 where
  says : (l : Listed) → Judged l x → (records : List CatalogueRecord) → HasBlocks blocks records → (bound : ℕ) (m : Defined) → operands ≤ bound → HoldsMap limit bound cs a m → Tells limit bound ds r (f l records m)
  leaves : Leaves limit ds a r
  frame : Frame cs ds a.base (limit + limit)

module _
    {limit from n : ℕ}
    {cs ds : List Cell}
    {s : MemoryState}
    {x : Row}
    {op : Operation}
    {r : Stored}
    {blocks : List ℕ}
    (f : Listed → List CatalogueRecord → Defined → Tried Defined)
    (led : Accesses limit cs ds s.map blocks x f r)
    (keeps : (l : Listed) (records : List CatalogueRecord) (m : Defined) → Kept (SameRow m) (f l records m))
    (is : (again : Bool) (rows : List Listed) (records : List CatalogueRecord) (l : Listed) (m : Defined) → int_of s.row ≡ m.program_i → arm (meaning_of limit records) rows again m l (arm_of op) ≡ falls_through (f l records m))
  where
    access_number : NumberArm limit from n cs ds blocks s x op (step_after (s.row + 1) r)
    access_number =
        record {
          says = λ again rows records l have long cat j bound m le h.
              subst (TellsStep limit bound ds (step_after (s.row + 1) r)) (sym (is again rows records l m h.row))
              (falls limit bound ds r s.row m _ (led.says l j records cat bound m le h.map) (keeps l records m) h.row);
          leaves = leaves_after limit ds s r (s.row + 1) led.leaves;
          frame = led.frame;
        }

standard : (limit : ℕ) (records : List CatalogueRecord) → Standard limit (meaning_of limit records)
standard limit records = record { cells = refl; functions = λ t. refl }

module _ {limit from n : ℕ} {cs ds : List Cell} {s : MemoryState} {x : Row} {op : Operation} {r : Stored} {blocks : List ℕ} where
  pub register_number : {o : RegisterOperation} → arm_of op ≡ registers o → RegisterArm limit cs ds s.map x o r → NumberArm limit from n cs ds blocks s x op (step_after (s.row + 1) r)
  unfolding arm
  register_number {o} is told =
      access_number (λ l records m. register_arm (meaning_of limit records) l m o)
      (record { says = λ l j records cat. told.says (meaning_of limit records) l (standard limit records) j; leaves = told.leaves; frame = told.frame })
      (λ l records m. register_row (meaning_of limit records) l m o)
      (λ again rows records l m e. ap (arm (meaning_of limit records) rows again m l) is)

  -- the row's number is told by its word
  cursor_access : {o : CursorOperation} → arm_of op ≡ cursors o → Accesses limit cs ds s.map blocks x (λ l records m. cursor_arm (meaning_of limit records) (s.row - offset) l m o) r → NumberArm limit from n cs ds blocks s x op (step_after (s.row + 1) r)
  unfolding arm
  cursor_access {o} is led =
      access_number (λ l records m. cursor_arm (meaning_of limit records) (s.row - offset) l m o) led
      (λ l records m. cursor_row (meaning_of limit records) (s.row - offset) l m o)
      (λ again rows records l m e.
      ap (arm (meaning_of limit records) rows again m l) is
      ∙ ap (λ k. falls_through (cursor_arm (meaning_of limit records) k l m o)) (sym (ap turns e) ∙ int_turns s.row))

  pub cursor_number : {o : CursorOperation} → arm_of op ≡ cursors o → CursorArm limit cs ds s.map (s.row - offset) x o r → NumberArm limit from n cs ds blocks s x op (step_after (s.row + 1) r)
  cursor_number {o} is told = cursor_access {o = o} is (record { says = λ l j records cat. told.says (meaning_of limit records) l (standard limit records) j; leaves = told.leaves; frame = told.frame })

  pub read_number : arm_of op ≡ cursors op_open_read → ReadsTable limit cs ds s.map blocks (s.row - offset) x r → NumberArm limit from n cs ds blocks s x op (step_after (s.row + 1) r)
  read_number is told =
      cursor_access {o = op_open_read} is
      (record { says = λ l j records cat. told.says (meaning_of limit records) records l (standard limit records) cat (λ db page. refl) j; leaves = told.leaves; frame = told.frame })

-- no arm
pub none_number : {limit from n : ℕ} {cs : List Cell} {s : MemoryState} {x : Row} {op : Operation} {blocks : List ℕ} → arm_of op ≡ no_arm → Current limit cs s.map → NumberArm limit from n cs cs blocks s x op (step_after (s.row + 1) (Ok s.map))
unfolding arm
none_number {limit} {cs = cs} {s = s} is current =
    record {
      says = λ again rows records l have long cat j bound m le h.
          subst (λ w. Offered limit bound cs None (Some (at (s.row + 1) s.map)) (arm (meaning_of limit records) rows again m l w)) (sym is)
          (goes_on_lem (held_next s.row h.row h.map));
      leaves = (tt, (refl, current.room));
      frame = unchanged cs _ _;
    }
