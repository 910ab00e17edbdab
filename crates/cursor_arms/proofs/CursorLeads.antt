-- A store in the map leads to the definition's store of a cursor. Assumes nothing.
use Rattle.refusal.specs.Numbers.{number_of}
use Rattle.std.specs.Prelude.{Ok, Err}
use mathlib.Core.Path.{◌≡◌, refl, sym, ap, ap₂, subst, ◌∙◌}
use mathlib.Core.List.{List, [], ◌∷◌}
use Prim.Native.Nat.{ℕ, ◌≤◌}
use native.Mathlib.Omega.{arith}
use Rattle.model.specs.Walk.{Tried}
use Rattle.model.specs.State.{CursorDataType as Cursor, Normal, Pseudo, MemoryState}
use Rattle.model.specs.Access.{store_cursor}
use Rattle.model.specs.Good.{GoodCursor}
use Rattle.model.specs.Operation.{op_open_pseudo}
use Rattle.model.specs.CursorArms.{cursor_arm}
use Rattle.area.specs.Cells.{cell}
use Rattle.area.specs.declared.Cell.{Cell}
use Rattle.intmap.specs.Map.{runs_at}
use Rattle.intmap.specs.Signed.{int_of}
use Rattle.intmap.specs.Store.{store_runs, stored_of, Stores, Stored}
use Rattle.intmap.specs.declared.IntMap.{IntMap}
use Rattle.encoding.specs.Encode.{run_cursor}
use Rattle.encoding.specs.Holds.{SmallCursor, HeldNext}
use Rattle.intmap.proofs.SignedLaws.{word_int, small_int}
use Rattle.rows.specs.Parts.{Operand}
use Rattle.rows.specs.declared.row.Row.{Row}
use Rattle.encoding.proofs.HeldAfter.{held_cursor}
use Rattle.state.specs.Leads.{HoldsMap, Tells, operands, Leads}
use Rattle.state.specs.Arms.{CursorArm}
use Rattle.state.proofs.StoreLeads.{wider}

-- t is what storing v gives, and v may be stored
pub record Storable (limit bound i : ℕ) (v : Cursor) (m : MemoryState) (t : Tried MemoryState) : Type 0 where
  pub good : GoodCursor v
  pub small : SmallCursor bound v
  pub same : store_cursor limit (int_of i) v m ≡ t

module _ (limit : ℕ) (cs ds : List Cell) (a : IntMap) (i : ℕ) (v : Cursor) (run : List Cell) (is : run ≡ run_cursor 0 v) (f : MemoryState → Tried MemoryState)
    (may : (bound : ℕ) (m : MemoryState) → operands ≤ bound → HoldsMap limit bound cs a m → Storable limit bound i v m (f m))
  where
    answered : (r : Stored) → Stores cs ds limit a 1 i 0 run r → store_runs limit 1 (int_of i) 0 (run_cursor 0 v) (runs_at cs a) ≡ stored_of ds r
    answered r st = ap (λ w. store_runs limit 1 (int_of i) 0 w (runs_at cs a)) (sym is) ∙ sym st.answer

    pub cursor_leads : (r : Stored) → Stores cs ds limit a 1 i 0 run r → Leads limit cs ds a r f
    cursor_leads (Err n) st =
        record {
          says = λ bound m le h.
              (let s = may bound m le h in sym s.same ∙ (held_cursor h (int_of i) 0 v s.good s.small).refuses (number_of n) (answered (Err n) st));
          leaves = tt;
          frame = wider cs ds a.base limit st.frame;
        }
    cursor_leads (Ok b) st =
        record {
          says = λ bound m le h.
              (let s = may bound m le h in
              subst (HeldNext limit bound ds b.base b.len b.used) s.same
              ((held_cursor h (int_of i) 0 v s.good s.small).next ds b.base b.len b.used (runs_at ds b) (answered (Ok b) st) refl
              st.leaves.room.used));
          leaves = record { base = st.leaves.base; room = st.leaves.room };
          frame = wider cs ds a.base limit st.frame;
        }

-- the one cell of each kind of cursor
pub normal_run : (row : ℕ) → cell 4 row ∷ [] ≡ run_cursor 0 (Normal row)
unfolding run_cursor
normal_run row = refl

pub pseudo_run : (w : ℕ) → cell 5 w ∷ [] ≡ run_cursor 0 (Pseudo (int_of w))
unfolding run_cursor
pseudo_run w = ap (λ x. cell 5 x ∷ []) (sym (word_int w))

module _ (limit : ℕ) (cs ds : List Cell) (a : IntMap) (i : ℕ) (r : Stored) where
  pub normal_leads : (row : ℕ) → row ≤ 65535 → (c : Cell) → c ≡ cell 4 row → Stores cs ds limit a 1 i 0 (c ∷ []) r → Leads limit cs ds a r (store_cursor limit (int_of i) (Normal row))
  normal_leads row h c e st =
      cursor_leads limit cs ds a i (Normal row) (c ∷ []) (ap (λ y. y ∷ []) e ∙ normal_run row) (store_cursor limit (int_of i) (Normal row))
      (λ bound m le x. record { good = h; small = tt; same = refl }) r st

  pub pseudo_leads : (w : ℕ) → Operand w → (c : Cell) → c ≡ cell 5 w → Stores cs ds limit a 1 i 0 (c ∷ []) r → Leads limit cs ds a r (store_cursor limit (int_of i) (Pseudo (int_of w)))
  pseudo_leads w o c e st =
      cursor_leads limit cs ds a i (Pseudo (int_of w)) (c ∷ []) (ap (λ y. y ∷ []) e ∙ pseudo_run w) (store_cursor limit (int_of i) (Pseudo (int_of w)))
      (λ bound m le x. record { good = tt; small = small_int bound w (omega (arith, o.above)) (omega (arith, o.below)); same = refl }) r st

-- the cell of a cursor is no record's
-- OpenPseudo
module _ (limit : ℕ) (cs ds : List Cell) (a : IntMap) (x : Row) (r : Stored) where
  pub pseudo_arm : Leads limit cs ds a r (store_cursor limit (int_of x.p1) (Pseudo (int_of x.p2))) → (row : ℕ) → CursorArm limit cs ds a row x op_open_pseudo r
  unfolding cursor_arm
  pseudo_arm l row =
      record {
        says = λ meaning y st j bound m le h.
            subst (Tells limit bound ds r)
            (ap (λ n. store_cursor n (int_of x.p1) (Pseudo (int_of x.p2)) m) (sym st.cells)
            ∙ ap₂ (λ p q. store_cursor meaning.cell_limit p (Pseudo q) m) j.p1 j.p2)
            (l.says bound m le h);
        leaves = l.leaves;
        frame = l.frame;
      }
