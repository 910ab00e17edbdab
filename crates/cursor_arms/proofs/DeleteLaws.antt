-- Delete by the cursor that was read. Assumes nothing.
use Rattle.refusal.specs.Numbers.{number_of}
use Rattle.refusal.specs.declared.Refusal.{Refusal}
use mathlib.Core.Path.{◌≡◌, refl, sym, ap, subst, ◌∙◌}
use Rattle.std.specs.Prelude.{Option, None, Some, Ok, Err}
use mathlib.Core.List.{List}
use Prim.Native.Nat.{ℕ}
use native.Mathlib.Omega.{arith}
use Rattle.model.specs.Walk.{Tried, refused, done}
use Rattle.model.specs.Row.{Row as Listed}
use Rattle.model.specs.State.{CursorDataType as Cursor, MemoryState}
use Rattle.model.specs.Access.{◌>>=◌, read_cursor}
use Rattle.model.specs.Cursor.{update_cursor_table}
use Rattle.model.specs.Meaning.{Meaning}
use Rattle.model.specs.Operation.{op_delete}
use Rattle.model.specs.CursorArms.{after_delete, cursor_arm}
use Rattle.area.specs.declared.Cell.{Cell}
use Rattle.intmap.specs.Signed.{int_of}
use Rattle.intmap.specs.declared.IntMap.{IntMap}
use Rattle.rows.specs.Judged.{Judged}
use Rattle.rows.specs.declared.row.Row.{Row}
use Rattle.state.specs.Leads.{Current}
use Rattle.state.specs.Arms.{CursorArm}
use Rattle.state.proofs.LeadsLaws.{unchanged}
use Rattle.cursor_arms.specs.Cursors.{Reading, ReadsCursor}
use Rattle.cursor_arms.specs.StandsFor.{CursorTableChanged}
use Rattle.cursor_arms.specs.declared.CursorDataType.{CursorDataType}
use Rattle.cursor_arms.proofs.CursorLaws.{told_some}

-- the arm, by what was read
module _ (row : ℕ) (x : Row) (meaning : Meaning) (l : Listed) (j : Judged l x) (m : MemoryState) where
  delete_is : (o : Tried (Option Cursor)) → read_cursor (int_of x.p1) m ≡ o → cursor_arm meaning row l m op_delete ≡ (o >>= λ c. done (update_cursor_table after_delete c m))
  unfolding cursor_arm
  delete_is o e = ap (λ u. u >>= λ c. done (update_cursor_table after_delete c m)) (ap (λ i. read_cursor i m) (sym j.p1) ∙ e)

module _ (limit : ℕ) (cs : List Cell) (a : IntMap) (x : Row) (r : Reading) (reads : ReadsCursor cs a x.p1 r) where
  as_read : (q : Reading) → r ≡ q → ReadsCursor cs a x.p1 q
  as_read q e = subst (ReadsCursor cs a x.p1) e reads

  pub delete_bad : (n : Refusal) → r ≡ Err n → (row : ℕ) → CursorArm limit cs cs a row x op_delete (Err n)
  delete_bad n e row =
      record {
        says = λ meaning l st j bound m le h. delete_is row x meaning l j m (refused (number_of n)) ((as_read (Err n) e).says limit bound m h);
        leaves = tt;
        frame = unchanged cs _ _;
      }

  pub delete_absent : Current limit cs a → r ≡ Ok None → (row : ℕ) → CursorArm limit cs cs a row x op_delete (Ok a)
  unfolding update_cursor_table
  delete_absent current e row =
      record {
        says = λ meaning l st j bound m le h. record { state = m; answer = delete_is row x meaning l j m (done None) ((as_read (Ok None) e).says limit bound m h); holds = h };
        leaves = record { base = refl; room = current.room };
        frame = unchanged cs _ _;
      }

  pub delete_changed : (c : CursorDataType) → r ≡ Ok (Some c) → (ds : List Cell) (b : IntMap) → b ≡ a → CursorTableChanged after_delete cs ds a c → Current limit cs a → (row : ℕ) → CursorArm limit cs ds a row x op_delete (Ok b)
  delete_changed c e ds b same change current row =
      subst (λ y. CursorArm limit cs ds a row x op_delete (Ok y)) (sym same)
      (record {
        says = λ meaning l st j bound m le h.
            (let told = told_some bound c (read_cursor (int_of x.p1) m) ((as_read (Ok (Some c)) e).says limit bound m h) in
            record {
              state = update_cursor_table after_delete told.0 m;
              answer = delete_is row x meaning l j m (done told.0) told.1;
              holds = change.holds limit bound m h told.0 told.2;
            });
        leaves = record { base = refl; room = change.room limit current.room };
        frame = record { long = change.frame.long; below = change.frame.below; above = λ j le. change.frame.above j (omega (arith, current.room.most)) };
      })
