-- Rewind by the emptiness of the cursor's table, and by the cursor that was read. Assumes nothing.
use Rattle.refusal.specs.Numbers.{number_of}
use Rattle.refusal.specs.declared.Refusal.{Refusal}
use mathlib.Core.Path.{◌≡◌, refl, sym, ap, subst, ◌∙◌}
use mathlib.Core.Bool.{Bool, true, false, not}
use Rattle.std.specs.Prelude.{Option, None, Some, Ok, Err, Result}
use mathlib.Core.List.{List, [], ◌∷◌}
use Prim.Native.Nat.{ℕ, ◌+◌, ◌≤◌}
use native.Mathlib.Omega.{arith}
use lib.IntN.{ℤ}
use Rattle.model.specs.Walk.{Tried, refused, done}
use Rattle.model.specs.Row.{Row as Listed}
use Rattle.model.specs.IntMap.{get}
use Rattle.model.specs.State.{CursorDataType as Cursor, Normal, Pseudo, TableDataType, MemoryState as Defined, is_true, is_false}
use Rattle.model.specs.Access.{◌>>=◌, go_to, next, read_cursor, update_table}
use Rattle.model.specs.Cursor.{table_is_empty, cursor_is_empty, update_cursor_table, set_empty}
use Rattle.model.specs.Good.{Good, OnSome}
use Rattle.model.specs.Offer.{offers, branch_if, stay_if}
use Rattle.model.specs.Operation.{op_rewind}
use Rattle.model.specs.JumpArms.{rewind_cursor, rewind_if, jump_arm}
use Rattle.model.proofs.Tried.{Kept, value}
use Rattle.area.specs.declared.Cell.{Cell}
use Rattle.intmap.specs.Map.{HasRoom, Frame}
use Rattle.intmap.specs.Signed.{offset, int_of}
use Rattle.encoding.proofs.Updates.{table_kept}
use Rattle.rows.specs.Judged.{Judged}
use Rattle.rows.specs.declared.row.Row.{Row}
use Rattle.state.specs.Leads.{Current}
use Rattle.state.specs.Steps.{HoldsState, Offered, TellsStep, JumpArm, Step, offered}
use Rattle.state.specs.Stores.{cells_in, stored_in, Changes, Writes}
use Rattle.state.specs.declared.MemoryState.{MemoryState}
use Rattle.state.specs.declared.store.Store.{Store}
use Rattle.state.proofs.LeadsLaws.{unchanged}
use Rattle.state.proofs.StoreLeads.{wider}
use Rattle.state.proofs.Stores.{no_refusal}
use Rattle.jump_arms.specs.Arms.{at, Puts, BothArm}
use Rattle.jump_arms.proofs.StepLaws.{zero_word, other_word, held_at, held_next, ends_here, goes_on_lem, branches_only, lies_here}
use Rattle.jump_arms.proofs.StoreSteps.{SameRow, same_store}
use Rattle.cursor_arms.specs.Cursors.{Reading, ReadsCursor}
use Rattle.cursor_arms.specs.StandsFor.{TellsEmpty, CursorTableChanged}
use Rattle.cursor_arms.specs.declared.CursorDataType.TheVariants as cursor
use Rattle.rewind_arm.specs.Rewinds.{RewindsTable}

-- ---- what the definition offers, by the emptiness

abbrev pub emptied : ℕ → Defined → Defined
emptied row m = update_cursor_table (set_empty (Some true)) (Some (Normal row)) m

rewound : (l : Listed) (m : Defined) (row : ℕ) (e : Option Bool) → cursor_is_empty (Normal row) m ≡ e → rewind_cursor l m (Some (Normal row)) ≡ offers (branch_if (not (is_false e)) (emptied row (go_to l.p2 m))) (stay_if (not (is_true e)) (next m))
unfolding rewind_cursor
rewound l m row e h = ap (λ u. offers (branch_if (not (is_false u)) (emptied row (go_to l.p2 m))) (stay_if (not (is_true u)) (next m))) h

-- a table that is empty already, or none, stays
stays_empty : {limit : ℕ} {m : Defined} → Good limit m → (row : ℕ) → cursor_is_empty (Normal row) m ≡ Some true → emptied row m ≡ m
unfolding update_cursor_table cursor_is_empty
stays_empty {m = m} good row h = table_kept good row (set_empty (Some true)) (go (get row m.t) h)
  where
    go : (o : Option TableDataType) → table_is_empty o ≡ Some true → OnSome (λ t. set_empty (Some true) t ≡ t) o
    go None e = tt
    go (Some t) e = ap (λ b. set_empty b t) (sym e)

empty-there : (m : Defined) (i : ℤ) (row : ℕ) → cursor_is_empty (Normal row) m ≡ Some true → cursor_is_empty (Normal row) (go_to i m) ≡ Some true
unfolding cursor_is_empty
empty-there m i row e = e

-- ---- on the table of a row

module _ (limit : ℕ) (cs : List Cell) (s : MemoryState) (x : Row) (row : ℕ) (current : Current limit cs s.map) (within : row ≤ 65535) (e : Option Bool) (tells : TellsEmpty cs s.map (cursor.Normal row) e) where
  emptiness : (bound : ℕ) (m : Defined) → HoldsState limit bound cs s m → e ≡ cursor_is_empty (Normal row) m
  emptiness bound m h = tells.says limit bound m h.map (Some (Normal row)) (record { answer = refl; index = within })

  pub table_full : e ≡ Some false → RewindsTable limit cs cs s x row (offered None (Some (at (s.row + 1) s.map)))
  table_full is =
      record {
        says = λ l j bound m le h.
            subst (Offered limit bound cs None (Some (at (s.row + 1) s.map))) (sym (rewound l m row (Some false) (sym (emptiness bound m h) ∙ is)))
            (goes_on_lem (held_next s.row h.row h.map));
        leaves = (tt, (refl, current.room));
        frame = unchanged cs _ _;
      }

  pub table_empty : e ≡ Some true → RewindsTable limit cs cs s x row (offered (Some (at x.p2 s.map)) None)
  table_empty is =
      record {
        says = λ l j bound m le h.
            (let empty : cursor_is_empty (Normal row) m ≡ Some true = sym (emptiness bound m h) ∙ is in
            let branch = held_at x.p2 l.p2 j.p2 h.map in
            subst (Offered limit bound cs (Some (at x.p2 s.map)) None)
            (ap (λ u. offers (u ∷ []) None) (sym (stays_empty branch.map.good row (empty-there m l.p2 row empty))) ∙ sym (rewound l m row (Some true) empty))
            (branches_only branch));
        leaves = (lies_here x.p2 current, tt);
        frame = unchanged cs _ _;
      }

  pub table_unknown : e ≡ None → (ds : List Cell) (r : Step) → BothArm limit cs ds s x (λ m. done (emptied row m)) (λ m. done m) r → RewindsTable limit cs ds s x row r
  table_unknown is ds r both =
      record {
        says = λ l j bound m le h. subst (TellsStep limit bound ds r) (sym (rewound l m row None (sym (emptiness bound m h) ∙ is))) (both.says l j bound m le h);
        leaves = both.leaves;
        frame = both.frame;
      }

-- ---- the changes of both ways

pub emptied-row : (row : ℕ) (m : Defined) → Kept (SameRow m) (done (emptied row m))
unfolding update_cursor_table update_table
emptied-row row m = value refl

module _ {a b : Store} {q : Result (Unit {0}) Refusal} (room : HasRoom (cells_in a) a.limit a.map) (done-well : q ≡ Ok tt) where
  pub makes_empty : (row : ℕ) → row ≤ 65535 → Writes (λ cs ds m. CursorTableChanged (set_empty (Some true)) cs ds m (cursor.Normal row)) a b → Changes (λ limit cs ds m r. Puts limit cs ds m r (λ m. done (emptied row m))) a b q
  makes_empty row within w =
      let frame : Frame (cells_in a) (cells_in b) a.map.base a.limit = record { long = w.is.frame.long; below = w.is.frame.below; above = λ j le. w.is.frame.above j (omega (arith, room.most)) } in
      record {
        same = w.same;
        kept = λ e was. no_refusal e (sym done-well ∙ was);
        is =
            subst (λ r. Puts a.limit (cells_in a) (cells_in b) a.map r (λ m. done (emptied row m))) (sym (ap (stored_in b) done-well ∙ ap Ok w.map))
            (record {
              leads =
                  record {
                    says = λ bound m le h. record { state = emptied row m; answer = refl; holds = w.is.holds a.limit bound m h (Some (Normal row)) (record { answer = refl; index = within }) };
                    leaves = record { base = refl; room = w.is.room a.limit room };
                    frame = wider (cells_in a) (cells_in b) a.map.base a.limit frame;
                  };
              frame = frame;
            });
      }

  pub makes_nothing : b ≡ a → Changes (λ limit cs ds m r. Puts limit cs ds m r (λ m. done m)) a b q
  makes_nothing e =
      rw (e, done-well) (record {
        same = same_store;
        kept = λ e is. refl;
        is =
            record {
              leads = record { says = λ bound m le h. record { state = m; answer = refl; holds = h }; leaves = record { base = refl; room = room }; frame = unchanged (cells_in a) _ _ };
              frame = unchanged (cells_in a) _ _;
            };
      })

-- ---- the arm

module _ (limit : ℕ) (cs : List Cell) (s : MemoryState) (x : Row) (current : Current limit cs s.map) where
  pub rewind_on : x.p2 ≡ offset → JumpArm limit cs cs s x op_rewind (offered None (Some (at (s.row + 1) s.map)))
  unfolding jump_arm
  rewind_on z =
      record {
        says = λ rows l j bound m le h.
            subst (λ b. Offered limit bound cs None (Some (at (s.row + 1) s.map)) (rewind_if b l m)) (sym (zero_word x.p2 l.p2 j.p2 z))
            (goes_on_lem (held_next s.row h.row h.map));
        leaves = (tt, (refl, current.room));
        frame = unchanged cs _ _;
      }

  module _ (z : x.p2 ≡ offset → ⊥) (p : Reading) (reads : ReadsCursor cs s.map x.p1 p) where
    -- the arm, by what was read
    by_read : (rows : List Listed) (l : Listed) → Judged l x → (m : Defined) (o : Tried (Option Cursor)) → read_cursor (int_of x.p1) m ≡ o → jump_arm limit rows l m op_rewind ≡ (o >>= rewind_cursor l m)
    unfolding jump_arm
    by_read rows l j m o e =
        ap (λ b. rewind_if b l m) (other_word x.p2 l.p2 j.p2 z) ∙ ap (λ u. u >>= rewind_cursor l m) (ap (λ i. read_cursor i m) (sym j.p1) ∙ e)

    as_read : (q : Reading) → p ≡ q → ReadsCursor cs s.map x.p1 q
    as_read q e = subst (ReadsCursor cs s.map x.p1) e reads

    pub rewind_bad : (n : Refusal) → p ≡ Err n → JumpArm limit cs cs s x op_rewind (Err n)
    rewind_bad n e =
        record {
          says = λ rows l j bound m le h. by_read rows l j m (refused (number_of n)) ((as_read (Err n) e).says limit bound m h.map);
          leaves = tt;
          frame = unchanged cs _ _;
        }

    pub rewind_absent : p ≡ (Ok None) → JumpArm limit cs cs s x op_rewind (offered None None)
    unfolding rewind_cursor
    rewind_absent e =
        record {
          says = λ rows l j bound m le h.
              subst (Offered limit bound cs None None) (sym (by_read rows l j m (done None) ((as_read (Ok None) e).says limit bound m h.map))) ends_here;
          leaves = (tt, tt);
          frame = unchanged cs _ _;
        }

    pub rewind_pseudo : (w : ℕ) → p ≡ Ok (Some (cursor.Pseudo w)) → JumpArm limit cs cs s x op_rewind (offered None (Some (at (s.row + 1) s.map)))
    unfolding rewind_cursor cursor_is_empty
    rewind_pseudo w e =
        record {
          says = λ rows l j bound m le h.
              subst (Offered limit bound cs None (Some (at (s.row + 1) s.map))) (sym (by_read rows l j m (done (Some (Pseudo (int_of w)))) ((as_read (Ok (Some (cursor.Pseudo w))) e).says limit bound m h.map).answer))
              (goes_on_lem (held_next s.row h.row h.map));
          leaves = (tt, (refl, current.room));
          frame = unchanged cs _ _;
        }

    pub rewind_normal : (row : ℕ) → p ≡ Ok (Some (cursor.Normal row)) → (ds : List Cell) (r : Step) → RewindsTable limit cs ds s x row r → JumpArm limit cs ds s x op_rewind r
    rewind_normal row e ds r arm =
        record {
          says = λ rows l j bound m le h.
              subst (TellsStep limit bound ds r) (sym (by_read rows l j m (done (Some (Normal row))) ((as_read (Ok (Some (cursor.Normal row))) e).says limit bound m h.map).answer))
              (arm.says l j bound m le h);
          leaves = arm.leaves;
          frame = arm.frame;
        }
