-- A store in the map leads to the definition's store of a register: any run, and the values of one cell. Assumes nothing.
use Rattle.refusal.specs.Numbers.{number_of}
use mathlib.Core.Path.{◌≡◌, refl, sym, ap, subst, ◌∙◌}
use Rattle.std.specs.Prelude.{Ok, Err, Option}
use mathlib.Core.List.{List, [], ◌∷◌}
use Prim.Native.Nat.{ℕ, ◌+◌, ◌≤◌}
use native.Mathlib.Omega.{arith}
use Rattle.model.specs.Walk.{Tried}
use Rattle.type_info.specs.declared.DataType.{DataType}
use Rattle.model.specs.State.{Single, RegDataType, Column, Int, MemoryState, map_to_columntype, datatype_code}
use Rattle.model.specs.Cells.{column_depth, register_depth}
use Rattle.model.specs.Access.{store_register}
use Rattle.model.specs.Good.{SortedColumn}
use Rattle.area.specs.Cells.{cell}
use Rattle.area.specs.declared.Cell.{Cell}
use Rattle.intmap.specs.Map.{runs_at, Frame}
use Rattle.intmap.specs.Signed.{int_of}
use Rattle.intmap.specs.Store.{store_runs, stored_of, Stores, Stored}
use Rattle.intmap.specs.declared.IntMap.{IntMap}
use Rattle.encoding.specs.Encode.{nullable_code, single, run_column, run_register}
use Rattle.encoding.specs.Holds.{SmallRegister}
use Rattle.intmap.proofs.SignedLaws.{word_int, small_int}
use Rattle.rows.specs.Parts.{Operand}
use Rattle.encoding.proofs.HeldAfter.{held_register}
use Rattle.state.specs.Leads.{Tells, operands, Leads}
use mathlib.Core.Bool.{Bool}

-- a frame of one room is one of two
pub wider : (cs ds : List Cell) (base n : ℕ) → Frame cs ds base n → Frame cs ds base (n + n)
wider cs ds base n f = record { long = f.long; below = f.below; above = λ j le. f.above j (omega arith) }

module _ (limit : ℕ) (cs ds : List Cell) (a : IntMap) (i key : ℕ) (v : RegDataType) (run : List Cell)
    (is : run ≡ run_register key v) (sorted : SortedColumn (map_to_columntype v)) (small : (bound : ℕ) → operands ≤ bound → SmallRegister bound v)
  where
    answered : (r : Stored) → Stores cs ds limit a 0 i (register_depth v) run r → store_runs limit 0 (int_of i) (register_depth v) (run_register key v) (runs_at cs a) ≡ stored_of ds r
    answered r st = ap (λ w. store_runs limit 0 (int_of i) (register_depth v) w (runs_at cs a)) (sym is) ∙ sym st.answer

    pub store_leads : (r : Stored) → Stores cs ds limit a 0 i (register_depth v) run r → Leads limit cs ds a r (store_register limit (int_of i) v)
    store_leads (Err n) st =
        record {
          says = λ bound m le h. (held_register h (int_of i) key v (λ _. sorted) (small bound le)).refuses (number_of n) (answered (Err n) st);
          leaves = tt;
          frame = wider cs ds a.base limit st.frame;
        }
    store_leads (Ok b) st =
        record {
          says = λ bound m le h.
              (held_register h (int_of i) key v (λ _. sorted) (small bound le)).next ds b.base b.len b.used (runs_at ds b)
              (answered (Ok b) st) refl st.leaves.room.used;
          leaves = record { base = st.leaves.base; room = st.leaves.room };
          frame = wider cs ds a.base limit st.frame;
        }

-- the same answer, said otherwise
pub leads_as : {limit : ℕ} {cs ds : List Cell} {a : IntMap} {f g : MemoryState → Tried MemoryState} (r : Stored) → ((m : MemoryState) → f m ≡ g m) → Leads limit cs ds a r f → Leads limit cs ds a r g
leads_as {limit} {ds} r e l =
    record { says = λ bound m le h. subst (Tells limit bound ds r) (e m) (l.says bound m le h); leaves = l.leaves; frame = l.frame }

-- ---- values of one cell

module _ (limit : ℕ) (cs ds : List Cell) (a : IntMap) (i : ℕ) (r : Stored) where
  pub single_leads : (d : DataType) (n : Option Bool) (c : Cell) → c ≡ single (datatype_code d) (nullable_code n) 0 → Stores cs ds limit a 0 i 0 (c ∷ []) r → Leads limit cs ds a r (store_register limit (int_of i) (Column (Single d n)))
  unfolding run_register run_column register_depth column_depth SortedColumn
  single_leads d n c e st = store_leads limit cs ds a i 0 (Column (Single d n)) (c ∷ []) (ap (λ x. x ∷ []) e) tt (λ bound le. tt) r st

  pub int_leads : (w : ℕ) → Operand w → Stores cs ds limit a 0 i 0 (cell 3 w ∷ []) r → Leads limit cs ds a r (store_register limit (int_of i) (Int (int_of w)))
  unfolding run_register register_depth SortedColumn
  int_leads w o st =
      store_leads limit cs ds a i 0 (Int (int_of w)) (cell 3 w ∷ [])
      (ap (λ x. cell 3 x ∷ []) (sym (word_int w))) tt (λ bound le. small_int bound w (omega (arith, o.above)) (omega (arith, o.below))) r st
