-- Whether a register is known to hold a number; a register removed; and Return, which goes to the row after the number. Assumes nothing.
use Rattle.refusal.specs.Numbers.{number_of}
use Rattle.refusal.specs.declared.Refusal.{Refusal}
use mathlib.Core.Path.{◌≡◌, refl, sym, ap, subst, ◌∙◌}
use mathlib.Core.Bool.{Bool, true, false}
use Rattle.std.specs.Prelude.{Option, None, Ok, Err, Some}
use mathlib.Core.List.{List}
use Prim.Native.Nat.{ℕ, ◌+◌, ◌<◌, ◌≤◌}
use native.Mathlib.Omega.{arith}
use lib.Dec.{eqb}
use lib.IntN.{ℤ, pos, negsuc, suc_ℤ}
use borrow.Author.Tests.{eq-eqb, ne_eqb}
use Rattle.model.specs.Walk.{Tried, refused, done}
use Rattle.model.specs.Row.{Row as Listed}
use Rattle.model.specs.State.{RegDataType, MemoryState as Defined}
use Rattle.model.specs.Equality.{eq_int}
use Rattle.model.specs.Operation.{op_return}
use Rattle.model.specs.Offer.{goes_on}
use Rattle.model.specs.Access.{◌>>=◌, index, go_to, read_register, remove_register}
use Rattle.model.specs.JumpArms.{known_int, return_else, return_arm, jump_arm}
use Rattle.model.proofs.Tried.{Kept, value, ◌>>◌, anything}
use Rattle.area.specs.declared.Cell.{Cell}
use Rattle.intmap.specs.Map.{runs_at}
use Rattle.intmap.specs.Signed.{int_of, word_of, Small}
use Rattle.intmap.specs.Store.{RemovesAt, Stored}
use Rattle.intmap.specs.declared.IntMap.{IntMap}
use Rattle.intmap.proofs.SignedLaws.{int_suc, int_same, word_int}
use Rattle.encoding.proofs.HeldAfter.{held_removal}
use Rattle.rows.specs.Judged.{Judged}
use Rattle.rows.specs.declared.row.Row.{Row}
use Rattle.state.specs.Leads.{Current, Leads}
use Rattle.state.specs.Reads.{Reads, Reading}
use Rattle.state.specs.Steps.{HoldsState, Offered, TellsStep, JumpArm, offered}
use Rattle.state.specs.declared.MemoryState.{MemoryState}
use Rattle.state.specs.declared.Register.TheVariants as register
use Rattle.state.proofs.LeadsLaws.{unchanged}
use Rattle.jump_arms.specs.Arms.{RowAfter, at, step_after, Knows}
use Rattle.jump_arms.proofs.StepLaws.{held_at, held_next, goes_on_lem, ends_here}
use Rattle.jump_arms.proofs.StoreSteps.{SameRow, goes_after, leaves_after}
use Rattle.type_info.specs.declared.DataType.{DataType}

-- ---- a known number

module _ (cs : List Cell) (a : IntMap) (i : ℕ) (x : Reading) (reads : Reads cs a i x) where
  pub knows_bad : (n : Refusal) → x ≡ Err n → Knows cs a i (Err n)
  knows_bad n e = record { says = λ limit bound m h. (subst (Reads cs a i) e reads).says limit bound m h }

  pub knows_absent : x ≡ Ok None → Knows cs a i (Ok None)
  knows_absent e = record { says = λ limit bound m h. record { value = None; answer = (subst (Reads cs a i) e reads).says limit bound m h; is = refl } }

  pub knows_single : (d : DataType) (n : Option Bool) → x ≡ Ok (Some (register.Single d n)) → Knows cs a i (Ok None)
  knows_single d n e = record { says = λ limit bound m h. record { value = _; answer = (subst (Reads cs a i) e reads).says limit bound m h; is = refl } }

  pub knows_record : (p : ℕ) → x ≡ Ok (Some (register.Record p)) → Knows cs a i (Ok None)
  knows_record p e = record { says = λ limit bound m h. record { value = _; answer = ((subst (Reads cs a i) e reads).says limit bound m h).answer; is = refl } }

  pub knows_int : (w : ℕ) → x ≡ Ok (Some (register.Int w)) → Knows cs a i (Ok (Some w))
  knows_int w e = record { says = λ limit bound m h. (subst (Reads cs a i) e reads).says limit bound m h }

-- a word of a small number is not the last
pub small_word : (bound w : ℕ) → bound ≤ 4611686018427387904 → Small bound (int_of w) → w < 18446744073709551615
small_word bound w most s = omega (arith, word_int w, go (int_of w) s)
  where
    go : (i : ℤ) → Small bound i → word_of i < 18446744073709551615
    go (pos k) s = omega arith
    go (negsuc k) s = omega arith

-- ---- a register removed

pub remove-row : (i : ℤ) (m : Defined) → Kept (SameRow m) (remove_register i m)
unfolding remove_register
remove-row i m = anything (index i) >> λ k _. value refl

pub removal_leads : (limit : ℕ) (cs ds : List Cell) (a : IntMap) (i : ℕ) (r : Stored) → Current limit cs a → RemovesAt cs ds a 0 i r → Leads limit cs ds a r (remove_register (int_of i))
removal_leads limit cs ds a i (Err n) current st =
    record {
      says = λ bound m le h. (held_removal h (int_of i)).refuses (number_of n) (sym st.answer);
      leaves = tt;
      frame = record { long = st.frame.long; below = st.frame.below; above = λ j le. st.frame.above j (omega (arith, current.room.most)) };
    }
removal_leads limit cs ds a i (Ok b) current st =
    record {
      says = λ bound m le h. (held_removal h (int_of i)).next ds b.base b.len b.used (runs_at ds b) (sym st.answer) refl st.leaves.map.used;
      leaves =
          record {
            base = st.leaves.base;
            room =
                record {
                  used = st.leaves.map.used;
                  most = omega (arith, st.leaves.fewer, current.room.most);
                  room = omega (arith, st.leaves.base, st.frame.long, current.room.room);
                  small = st.leaves.map.small;
                };
          };
      frame = record { long = st.frame.long; below = st.frame.below; above = λ j le. st.frame.above j (omega (arith, current.room.most)) };
    }

-- ---- Return

module _ (limit : ℕ) (cs : List Cell) (s : MemoryState) (x : Row) where
  -- what the register's value leads to
  return_is : (rows : List Listed) (l : Listed) (m : Defined) → Judged l x → (t : Tried (Option RegDataType)) → read_register (int_of x.p1) m ≡ t → jump_arm limit rows l m op_return ≡ (t >>= λ v. return_arm l m (known_int v))
  unfolding jump_arm
  return_is rows l m j t e = ap (λ u. u >>= λ v. return_arm l m (known_int v)) (ap (λ i. read_register i m) (sym j.p1) ∙ e)

  pub return_bad : (n : Refusal) → Knows cs s.map x.p1 (Err n) → JumpArm limit cs cs s x op_return (Err n)
  return_bad n k =
      record { says = λ rows l j bound m le h. return_is rows l m j (refused (number_of n)) (k.says limit bound m h.map); leaves = tt; frame = unchanged cs _ _ }

  module _ (k : Knows cs s.map x.p1 (Ok None)) where
    else_is : (rows : List Listed) (l : Listed) (m : Defined) (bound : ℕ) (t : Bool) → Judged l x → eqb x.p3 9223372036854775809 ≡ t → HoldsState limit bound cs s m → jump_arm limit rows l m op_return ≡ return_else t m
    unfolding return_arm int_of
    else_is rows l m bound t j e h =
        let u = k.says limit bound m h.map in
        return_is rows l m j (done u.value) u.answer ∙ ap (return_arm l m) u.is
        ∙ ap (λ b. return_else b m) (ap (λ i. eq_int i (pos 1)) (sym j.p3) ∙ int_same x.p3 9223372036854775809 ∙ e)

    pub return_on : Current limit cs s.map → x.p3 ≡ 9223372036854775809 → JumpArm limit cs cs s x op_return (offered None (Some (at (s.row + 1) s.map)))
    return_on current e =
        record {
          says = λ rows l j bound m le h.
              subst (Offered limit bound cs None (Some (at (s.row + 1) s.map))) (sym (else_is rows l m bound true j (eq-eqb _ _ e) h))
              (goes_on_lem (held_next s.row h.row h.map));
          leaves = (tt, (refl, current.room));
          frame = unchanged cs _ _;
        }

    pub return_ends : (x.p3 ≡ 9223372036854775809 → ⊥) → JumpArm limit cs cs s x op_return (offered None None)
    return_ends e =
        record {
          says = λ rows l j bound m le h. subst (Offered limit bound cs None None) (sym (else_is rows l m bound false j (ne_eqb _ _ e) h)) ends_here;
          leaves = (tt, tt);
          frame = unchanged cs _ _;
        }

  pub return_to : (ds : List Cell) (w row : ℕ) (r : Stored) → Knows cs s.map x.p1 (Ok (Some w)) → RowAfter w row → Leads limit cs ds s.map r (remove_register (int_of x.p1)) → JumpArm limit cs ds s x op_return (step_after row r)
  unfolding return_arm
  return_to ds w row r k after leads =
      record {
        says = λ rows l j bound m le h.
            (let small = small_word bound w h.map.small.bounded (k.says limit bound m h.map).small in
            subst (TellsStep limit bound ds (step_after row r)) (sym (is rows l m bound j h))
            (goes_after r row bound (go_to (suc_ℤ (int_of w)) m) le leads (remove-row (int_of x.p1) (go_to (suc_ℤ (int_of w)) m))
            (held_at row (suc_ℤ (int_of w)) (ap int_of (after.next small) ∙ sym (int_suc w)) h.map)));
        leaves = leaves_after limit ds s r row leads.leaves;
        frame = leads.frame;
      }
    where
      is : (rows : List Listed) (l : Listed) (m : Defined) (bound : ℕ) → Judged l x → HoldsState limit bound cs s m → jump_arm limit rows l m op_return ≡ (remove_register (int_of x.p1) (go_to (suc_ℤ (int_of w)) m) >>= λ n. goes_on n)
      is rows l m bound j h =
          return_is rows l m j _ (k.says limit bound m h.map).answer
          ∙ ap (λ i. remove_register i (go_to (suc_ℤ (int_of w)) m) >>= λ n. goes_on n) (sym j.p1)
