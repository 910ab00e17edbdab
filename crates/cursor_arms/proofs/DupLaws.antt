-- OpenDup by the cursor that was read. Assumes nothing.
use Rattle.refusal.specs.Numbers.{number_of}
use Rattle.refusal.specs.declared.Refusal.{Refusal}
use Rattle.intmap.specs.Store.{Stored}
use mathlib.Core.Path.{◌≡◌, refl, sym, ap, subst, ◌∙◌}
use Rattle.std.specs.Prelude.{Option, None, Some, Ok, Err}
use mathlib.Core.List.{List, [], ◌∷◌}
use Prim.Native.Nat.{ℕ}
use Rattle.model.specs.Walk.{Tried, refused, done}
use Rattle.model.specs.Row.{Row as Listed}
use Rattle.model.specs.State.{CursorDataType as Cursor, Normal, Pseudo, MemoryState}
use Rattle.model.specs.Access.{◌>>=◌, read_cursor}
use Rattle.model.specs.Meaning.{Meaning}
use Rattle.model.specs.Operation.{op_open_dup}
use Rattle.model.specs.CursorArms.{store_some_cursor, cursor_arm}
use Rattle.area.specs.declared.Cell.{Cell}
use Rattle.intmap.specs.Signed.{int_of}
use Rattle.intmap.specs.declared.IntMap.{IntMap}
use Rattle.rows.specs.Judged.{Judged}
use Rattle.rows.specs.declared.row.Row.{Row}
use Rattle.state.specs.Own.{StoresCell}
use Rattle.state.proofs.StoreLeads.{wider}
use Rattle.state.proofs.OwnLaws.{cell_leads}
use Rattle.state.specs.Leads.{Current}
use Rattle.state.specs.Arms.{Standard, CursorArm}
use Rattle.state.proofs.LeadsLaws.{unchanged}
use Rattle.cursor_arms.specs.Cursors.{cell_of, Reading, ReadsCursor}
use Rattle.cursor_arms.specs.declared.CursorDataType.{CursorDataType}
use Rattle.cursor_arms.specs.declared.CursorDataType.TheVariants as cursor
use Rattle.cursor_arms.proofs.CursorLeads.{cursor_leads, normal_run, pseudo_run}

-- the arm, by what was read
module _ (limit row : ℕ) (x : Row) (meaning : Meaning) (l : Listed) (standard : Standard limit meaning) (j : Judged l x) (m : MemoryState) where
  dup_is : (o : Tried (Option Cursor)) → read_cursor (int_of x.p2) m ≡ o → (o >>= λ c. store_some_cursor limit (int_of x.p1) c m) ≡ cursor_arm meaning row l m op_open_dup
  unfolding cursor_arm
  dup_is o e =
      ap (λ n. o >>= λ c. store_some_cursor n (int_of x.p1) c m) (sym standard.cells)
      ∙ ap (λ i. o >>= λ c. store_some_cursor meaning.cell_limit i c m) j.p1
      ∙ ap (λ u. u >>= λ c. store_some_cursor meaning.cell_limit l.p1 c m) (sym e ∙ ap (λ i. read_cursor i m) j.p2)

module _ (limit : ℕ) (cs : List Cell) (a : IntMap) (x : Row) (r : Reading) (reads : ReadsCursor cs a x.p2 r) where
  pub dup_bad : (n : Refusal) → r ≡ Err n → (row : ℕ) → CursorArm limit cs cs a row x op_open_dup (Err n)
  dup_bad n e row =
      record {
        says = λ meaning l st j bound m le h. sym (dup_is limit row x meaning l st j m (refused (number_of n)) ((subst (ReadsCursor cs a x.p2) e reads).says limit bound m h));
        leaves = tt;
        frame = unchanged cs _ _;
      }

  pub dup_absent : Current limit cs a → r ≡ Ok None → (row : ℕ) → CursorArm limit cs cs a row x op_open_dup (Ok a)
  dup_absent current e row =
      record {
        says = λ meaning l st j bound m le h.
            record {
              state = m;
              answer = sym (dup_is limit row x meaning l st j m (done None) ((subst (ReadsCursor cs a x.p2) e reads).says limit bound m h));
              holds = h;
            };
        leaves = record { base = refl; room = current.room };
        frame = unchanged cs _ _;
      }

  pub dup_stored : (p : CursorDataType) → r ≡ Ok (Some p) → (c : Cell) → c ≡ cell_of p → (ds : List Cell) (s : Stored) → StoresCell limit cs ds a 1 x.p1 c s → (row : ℕ) → CursorArm limit cs ds a row x op_open_dup s
  dup_stored (cursor.Normal k) e c ce ds s st row =
      record {
        says = λ meaning l standard j.
            (cell_leads st (cursor_leads limit cs ds a x.p1 (Normal k) (c ∷ []) (ap (λ y. y ∷ []) ce ∙ normal_run k) (λ m. cursor_arm meaning row l m op_open_dup)
            (λ bound m le h.
            (let told = (subst (ReadsCursor cs a x.p2) e reads).says limit bound m h in
            record { good = told.index; small = tt; same = dup_is limit row x meaning l standard j m (done (Some (Normal k))) told.answer })) s)).says;
        leaves = st.leaves;
        frame = wider cs ds a.base limit st.frame;
      }
  dup_stored (cursor.Pseudo w) e c ce ds s st row =
      record {
        says = λ meaning l standard j.
            (cell_leads st (cursor_leads limit cs ds a x.p1 (Pseudo (int_of w)) (c ∷ []) (ap (λ y. y ∷ []) ce ∙ pseudo_run w) (λ m. cursor_arm meaning row l m op_open_dup)
            (λ bound m le h.
            (let told = (subst (ReadsCursor cs a x.p2) e reads).says limit bound m h in
            record { good = tt; small = told.small; same = dup_is limit row x meaning l standard j m (done (Some (Pseudo (int_of w)))) told.answer })) s)).says;
        leaves = st.leaves;
        frame = wider cs ds a.base limit st.frame;
      }
