-- EndCoroutine and Yield, by what their register is known to hold. Assumes nothing.
use Rattle.refusal.specs.Numbers.{number_of}
use Rattle.refusal.specs.declared.Refusal.{Refusal}
use Rattle.intmap.specs.Store.{Stored}
use mathlib.Core.Path.{◌≡◌, refl, sym, ap, ap₂, subst, ◌∙◌}
use Rattle.std.specs.Prelude.{Option, None, Ok, Err, Some, option_map}
use mathlib.Core.List.{List}
use Prim.Native.Nat.{ℕ}
use lib.IntN.{ℤ}
use lib.ListN.{length}
use Rattle.model.specs.Walk.{Tried, refused}
use Rattle.model.specs.Row.{Row as Listed}
use Rattle.model.specs.State.{RegDataType, Int, MemoryState as Defined}
use Rattle.model.specs.Operation.{JumpOperation, op_end_coroutine, op_yield}
use Rattle.model.specs.Offer.{Offer, goes_on, ends, row_at}
use Rattle.model.specs.Access.{◌>>=◌, go_to, read_register, store_register, update_register, remove_register}
use Rattle.model.specs.JumpArms.{known_int, yield_target, row_after_yield, end_coroutine_to, end_coroutine_arm, yield_arm, jump_arm}
use Rattle.model.proofs.InPlace.{to_int}
use Rattle.area.specs.declared.Cell.{Cell}
use Rattle.intmap.specs.Signed.{int_of}
use Rattle.encoding.proofs.Updates.{update_stored}
use Rattle.rows.specs.Judged.{Judged, HaveRows}
use Rattle.rows.specs.declared.row.Row.{Row}
use Rattle.state.specs.Leads.{Tells, Leads}
use Rattle.state.specs.Steps.{HoldsState, Offered, TellsStep, offered}
use Rattle.state.specs.declared.MemoryState.{MemoryState}
use Rattle.state.proofs.LeadsLaws.{unchanged}
use Rattle.jump_arms.specs.Arms.{step_after, Knows}
use Rattle.jump_arms.proofs.StepLaws.{held_at, ends_here}
use Rattle.jump_arms.proofs.StoreSteps.{goes_after, leaves_after}
use Rattle.jump_arms.proofs.ReturnLaws.{remove-row}
use Rattle.jump_arms.proofs.NullLaws.{update-row}
use Rattle.coroutine_arms.specs.Arms.{Targets, Follows, RowsArm}

-- the arms read register P1, and end where no number is known
pub record NumberArm (limit : ℕ) (o : JumpOperation) : Type 0 where
  pub after : List Listed → Listed → Defined → Option ℤ → Offer
  pub is : (rows : List Listed) (l : Listed) (m : Defined) → jump_arm limit rows l m o ≡ (read_register l.p1 m >>= λ v. after rows l m (known_int v))
  pub unknown : (rows : List Listed) (l : Listed) (m : Defined) → after rows l m None ≡ ends

pub end_coroutine_arm_lem : (limit : ℕ) → NumberArm limit op_end_coroutine
unfolding jump_arm end_coroutine_arm
end_coroutine_arm_lem limit = record { after = end_coroutine_arm; is = λ rows l m. refl; unknown = λ rows l m. refl }

pub yield_arm_lem : (limit : ℕ) → NumberArm limit op_yield
unfolding jump_arm yield_arm
yield_arm_lem limit = record { after = yield_arm; is = λ rows l m. refl; unknown = λ rows l m. refl }

module _ (limit : ℕ) (cs : List Cell) (s : MemoryState) (x : Row) (from n : ℕ) where
  module _ (o : JumpOperation) (arm : NumberArm limit o) where
    read_is : (rows : List Listed) (l : Listed) (m : Defined) → Judged l x → (t : Tried (Option RegDataType)) → read_register (int_of x.p1) m ≡ t → jump_arm limit rows l m o ≡ (t >>= λ v. arm.after rows l m (known_int v))
    read_is rows l m j t e =
        arm.is rows l m ∙ ap (λ u. u >>= λ v. arm.after rows l m (known_int v)) (ap (λ i. read_register i m) (sym j.p1) ∙ e)

    pub number_bad : (k : Refusal) → Knows cs s.map x.p1 (Err k) → RowsArm limit cs cs s x from n o (Err k)
    number_bad k knows =
        record {
          says = λ rows have len l j bound m le h. read_is rows l m j (refused (number_of k)) (knows.says limit bound m h.map);
          leaves = tt;
          frame = unchanged cs _ _;
        }

    pub number_unknown : Knows cs s.map x.p1 (Ok None) → RowsArm limit cs cs s x from n o (offered None None)
    number_unknown knows =
        record {
          says = λ rows have len l j bound m le h.
              (let u = knows.says limit bound m h.map in
              subst (Offered limit bound cs None None)
              (sym (read_is rows l m j _ u.answer ∙ ap (arm.after rows l m) u.is ∙ arm.unknown rows l m))
              ends_here);
          leaves = (tt, tt);
          frame = unchanged cs _ _;
        }

  -- where the number is that of the word w
  module _ (w : ℕ) (knows : Knows cs s.map x.p1 (Ok (Some w))) where
    -- ---- EndCoroutine

    end_is : (t : Option ℕ) → Targets cs from n w t → (rows : List Listed) → HaveRows cs from rows → length rows ≡ n → (l : Listed) → Judged l x → (bound : ℕ) (m : Defined) → HoldsState limit bound cs s m → jump_arm limit rows l m op_end_coroutine ≡ end_coroutine_to l m (option_map int_of t)
    unfolding end_coroutine_arm end_coroutine_arm_lem
    end_is t told rows have len l j bound m h =
        read_is op_end_coroutine (end_coroutine_arm_lem limit) rows l m j _ (knows.says limit bound m h.map).answer
        ∙ ap (end_coroutine_to l m) (sym (told.says rows have len))

    pub end_here : (t : Option ℕ) → Targets cs from n w t → t ≡ None → RowsArm limit cs cs s x from n op_end_coroutine (offered None None)
    end_here t told e =
        record {
          says = λ rows have len l j bound m le h.
              subst (Offered limit bound cs None None) (sym (end_is t told rows have len l j bound m h ∙ ap (λ y. end_coroutine_to l m (option_map int_of y)) e)) ends_here;
          leaves = (tt, tt);
          frame = unchanged cs _ _;
        }

    pub end_to : (t : Option ℕ) (row : ℕ) → Targets cs from n w t → t ≡ Some row → (ds : List Cell) (r : Stored) → Leads limit cs ds s.map r (remove_register (int_of x.p1)) → RowsArm limit cs ds s x from n op_end_coroutine (step_after row r)
    end_to t row told e ds r leads =
        record {
          says = λ rows have len l j bound m le h.
              subst (TellsStep limit bound ds (step_after row r))
              (sym (end_is t told rows have len l j bound m h ∙ ap (λ y. end_coroutine_to l m (option_map int_of y)) e ∙ ap (λ i. remove_register i (go_to (int_of row) m) >>= λ k. goes_on k) (sym j.p1)))
              (goes_after r row bound (go_to (int_of row) m) le leads (remove-row (int_of x.p1) (go_to (int_of row) m)) (held_at row (int_of row) refl h.map));
          leaves = leaves_after limit ds s r row leads.leaves;
          frame = leads.frame;
        }

    -- ---- Yield

    -- a number in the place of a number is a store
    number_stored : (ds : List Cell) (r : Stored) (v : ℤ) → Leads limit cs ds s.map r (store_register limit (int_of x.p1) (Int v)) → Leads limit cs ds s.map r (update_register (int_of x.p1) (λ u. Int v))
    number_stored ds r v leads =
        record {
          says = λ bound m le h.
              subst (Tells limit bound ds r) (sym (update_stored h.good (int_of x.p1) (λ u. Int v) _ (knows.says limit bound m h).answer (to_int v))) (leads.says bound m le h);
          leaves = leads.leaves;
          frame = leads.frame;
        }

    pub yield_to : (row : ℕ) → Follows cs from n w row → (ds : List Cell) (r : Stored) → Leads limit cs ds s.map r (store_register limit (int_of x.p1) (Int (int_of s.row))) → RowsArm limit cs ds s x from n op_yield (step_after row r)
    unfolding yield_arm yield_arm_lem
    yield_to row follows ds r leads =
        record {
          says = λ rows have len l j bound m le h.
              (let i = row_after_yield (yield_target (row_at rows (int_of w))) (int_of w) in
              subst (TellsStep limit bound ds (step_after row r)) (sym (is rows l j bound m h))
              (goes_after r row bound (go_to i m) le (number_stored ds r (int_of s.row) leads) (update-row _ _ _) (held_at row i (follows.says rows have len) h.map)));
          leaves = leaves_after limit ds s r row leads.leaves;
          frame = leads.frame;
        }
      where
        is : (rows : List Listed) (l : Listed) → Judged l x → (bound : ℕ) (m : Defined) → HoldsState limit bound cs s m → jump_arm limit rows l m op_yield ≡ (update_register (int_of x.p1) (λ u. Int (int_of s.row)) (go_to (row_after_yield (yield_target (row_at rows (int_of w))) (int_of w)) m) >>= λ k. goes_on k)
        is rows l j bound m h =
            read_is op_yield (yield_arm_lem limit) rows l m j _ (knows.says limit bound m h.map).answer
            ∙ ap₂ (λ i v. update_register i (λ u. Int v) (go_to (row_after_yield (yield_target (row_at rows (int_of w))) (int_of w)) m) >>= λ k. goes_on k) (sym j.p1) (sym h.row)
