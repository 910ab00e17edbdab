-- If: a store where P3 is 0, the ways of a known number, and both ways, by `BothLaws`. Assumes nothing.
use Rattle.refusal.specs.Numbers.{number_of}
use Rattle.refusal.specs.declared.Refusal.{Refusal}
use mathlib.Core.Path.{◌≡◌, refl, sym, ap, ap₂, subst, ◌∙◌}
use mathlib.Core.Bool.{Bool, true, false}
use Rattle.std.specs.Prelude.{Option, None, Some, Ok, Err}
use mathlib.Core.List.{List, [], ◌∷◌}
use Prim.Native.Nat.{ℕ, ◌+◌}
use lib.IntN.{ℤ, pos}
use Rattle.model.specs.Walk.{Tried, refused}
use Rattle.model.specs.Row.{Row as Listed}
use Rattle.model.specs.State.{RegDataType, Int, MemoryState as Defined}
use Rattle.model.specs.Equality.{is_zero_int}
use Rattle.model.specs.Operation.{op_if}
use Rattle.model.specs.Offer.{offers, goes_on}
use Rattle.model.specs.Access.{◌>>=◌, go_to, next, read_register}
use Rattle.model.specs.JumpArms.{known_int, store_if, if_branch, if_stay, if_known, if_arm, jump_arm}
use Rattle.model.proofs.Tried.{Kept, value}
use Rattle.area.specs.Cells.{cell}
use Rattle.area.specs.declared.Cell.{Cell}
use Rattle.intmap.specs.Map.{HasRoom}
use Rattle.intmap.specs.Signed.{offset, int_of}
use Rattle.intmap.specs.Store.{Stores, Stored}
use Rattle.intmap.specs.declared.IntMap.{IntMap}
use Rattle.rows.specs.Parts.{Operand}
use Rattle.rows.specs.Judged.{Judged}
use Rattle.rows.specs.declared.row.Row.{Row}
use Rattle.state.specs.Leads.{Leads}
use Rattle.state.specs.Steps.{TellsStep, JumpArm, Step}
use Rattle.state.specs.declared.MemoryState.{MemoryState}
use Rattle.state.proofs.StoreLeads.{int_leads, leads_as}
use Rattle.state.proofs.LeadsLaws.{unchanged}
use Rattle.jump_arms.specs.Arms.{step_after, branch_after, Knows, Puts, BothArm, IfArm}
use Rattle.jump_arms.proofs.StepLaws.{zero_word, other_word, held_at, held_next}
use Rattle.jump_arms.proofs.StoreSteps.{SameRow, store-row, goes_after, leaves_after, branches_after, branch_leaves}

-- ---- a store where P3 is 0

pub if_row : (b : Bool) (limit : ℕ) (i n : ℤ) (m : Defined) → Kept (SameRow m) (store_if b limit i n m)
if_row true limit i n m = store-row limit i (Int n) m
if_row false limit i n m = value refl

module _ (limit : ℕ) (cs : List Cell) (a : IntMap) (p1 p3 w : ℕ) where
  pub put_stores : (ds : List Cell) (r : Stored) → Operand w → p3 ≡ offset → Stores cs ds limit a 0 p1 0 (cell 3 w ∷ []) r → Puts limit cs ds a r (store_if (is_zero_int (int_of p3)) limit (int_of p1) (int_of w))
  put_stores ds r o z st =
      record {
        leads = leads_as r (λ m. ap (λ b. store_if b limit (int_of p1) (int_of w) m) (sym (zero_word p3 (int_of p3) refl z))) (int_leads limit cs ds a p1 r w o st);
        frame = st.frame;
      }

  pub put_not : HasRoom cs limit a → (p3 ≡ offset → ⊥) → Puts limit cs cs a (Ok a) (store_if (is_zero_int (int_of p3)) limit (int_of p1) (int_of w))
  put_not room z =
      record {
        leads =
            record {
              says = λ bound m le h. record { state = m; answer = ap (λ b. store_if b limit (int_of p1) (int_of w) m) (other_word p3 (int_of p3) refl z); holds = h };
              leaves = record { base = refl; room = room };
              frame = unchanged cs _ _;
            };
        frame = unchanged cs _ _;
      }

-- the number of a word, stored in a state
abbrev pub stores : ℕ → Row → ℕ → Defined → Tried Defined
stores limit x w m = store_if (is_zero_int (int_of x.p3)) limit (int_of x.p1) (int_of w) m

-- the word of 1
abbrev pub one : ℕ
one = 9223372036854775809

pub stores_row : (limit : ℕ) (x : Row) (w : ℕ) (m : Defined) → Kept (SameRow m) (stores limit x w m)
stores_row limit x w m = if_row (is_zero_int (int_of x.p3)) limit (int_of x.p1) (int_of w) m

module _ (limit : ℕ) (x : Row) (l : Listed) (j : Judged l x) (m : Defined) where
  branch_is : if_branch limit l m ≡ stores limit x one (go_to l.p2 m)
  unfolding if_branch int_of
  branch_is = ap₂ (λ p q. store_if (is_zero_int p) limit q (pos 1) (go_to l.p2 m)) (sym j.p3) (sym j.p1)

  stay_is : if_stay limit l m ≡ stores limit x offset (next m)
  unfolding if_stay int_of
  stay_is = ap₂ (λ p q. store_if (is_zero_int p) limit q (pos 0) (next m)) (sym j.p3) (sym j.p1)

-- ---- a known number

module _ (limit : ℕ) (cs ds : List Cell) (s : MemoryState) (x : Row) (w : ℕ) where
  pub if_zero : (r : Stored) → w ≡ offset → Leads limit cs ds s.map r (stores limit x offset) → IfArm limit cs ds s x (Some (int_of w)) (step_after (s.row + 1) r)
  unfolding if_arm
  if_zero r z leads =
      record {
        says = λ l j bound m le h.
            subst (TellsStep limit bound ds (step_after (s.row + 1) r)) (sym (is l j m))
            (goes_after r (s.row + 1) bound (next m) le leads (stores_row limit x offset (next m)) (held_next s.row h.row h.map));
        leaves = leaves_after limit ds s r (s.row + 1) leads.leaves;
        frame = leads.frame;
      }
    where
      is : (l : Listed) → Judged l x → (m : Defined) → if_arm limit l m (Some (int_of w)) ≡ (stores limit x offset (next m) >>= λ n. goes_on n)
      is l j m = ap (if_known limit l m) (zero_word w (int_of w) refl z) ∙ ap (λ t. t >>= λ n. goes_on n) (stay_is limit x l j m)

  pub if_other : (r : Stored) → (w ≡ offset → ⊥) → Leads limit cs ds s.map r (stores limit x one) → IfArm limit cs ds s x (Some (int_of w)) (branch_after x.p2 r)
  unfolding if_arm
  if_other r z leads =
      record {
        says = λ l j bound m le h.
            subst (TellsStep limit bound ds (branch_after x.p2 r)) (sym (is l j m))
            (branches_after r x.p2 bound (go_to l.p2 m) le leads (stores_row limit x one (go_to l.p2 m)) (held_at x.p2 l.p2 j.p2 h.map));
        leaves = branch_leaves limit ds s r x.p2 leads.leaves;
        frame = leads.frame;
      }
    where
      is : (l : Listed) → Judged l x → (m : Defined) → if_arm limit l m (Some (int_of w)) ≡ (stores limit x one (go_to l.p2 m) >>= λ n. offers (n ∷ []) None)
      is l j m = ap (if_known limit l m) (other_word w (int_of w) refl z) ∙ ap (λ t. t >>= λ n. offers (n ∷ []) None) (branch_is limit x l j m)

-- ---- both ways

module _ (limit : ℕ) (cs ds : List Cell) (s : MemoryState) (x : Row) where
  pub if_both : (r : Step) → BothArm limit cs ds s x (stores limit x one) (stores limit x offset) r → IfArm limit cs ds s x None r
  unfolding if_arm
  if_both r arm =
      record {
        says = λ l j bound m le h. subst (TellsStep limit bound ds r) (sym (is l j m)) (arm.says l j bound m le h);
        leaves = arm.leaves;
        frame = arm.frame;
      }
    where
      is : (l : Listed) → Judged l x → (m : Defined) → if_arm limit l m None ≡ (stores limit x one (go_to l.p2 m) >>= λ branch. stores limit x offset (next m) >>= λ stays. offers (branch ∷ []) (Some stays))
      is l j m = ap₂ (λ t u. t >>= λ branch. u >>= λ stays. offers (branch ∷ []) (Some stays)) (branch_is limit x l j m) (stay_is limit x l j m)

-- ---- the arm

module _ (limit : ℕ) (cs : List Cell) (s : MemoryState) (x : Row) where
  if_is : (rows : List Listed) (l : Listed) (m : Defined) → Judged l x → (t : Tried (Option RegDataType)) → read_register (int_of x.p1) m ≡ t → jump_arm limit rows l m op_if ≡ (t >>= λ v. if_arm limit l m (known_int v))
  unfolding jump_arm
  if_is rows l m j t e = ap (λ u. u >>= λ v. if_arm limit l m (known_int v)) (ap (λ i. read_register i m) (sym j.p1) ∙ e)

  pub if_bad : (n : Refusal) → Knows cs s.map x.p1 (Err n) → JumpArm limit cs cs s x op_if (Err n)
  if_bad n k =
      record { says = λ rows l j bound m le h. if_is rows l m j (refused (number_of n)) (k.says limit bound m h.map); leaves = tt; frame = unchanged cs _ _ }

  pub if_unknown : (ds : List Cell) (r : Step) → Knows cs s.map x.p1 (Ok None) → IfArm limit cs ds s x None r → JumpArm limit cs ds s x op_if r
  if_unknown ds r k arm =
      record {
        says = λ rows l j bound m le h.
            (let u = k.says limit bound m h.map in
            subst (TellsStep limit bound ds r) (sym (if_is rows l m j _ u.answer ∙ ap (if_arm limit l m) u.is)) (arm.says l j bound m le h));
        leaves = arm.leaves;
        frame = arm.frame;
      }

  pub if_int : (ds : List Cell) (w : ℕ) (r : Step) → Knows cs s.map x.p1 (Ok (Some w)) → IfArm limit cs ds s x (Some (int_of w)) r → JumpArm limit cs ds s x op_if r
  if_int ds w r k arm =
      record {
        says = λ rows l j bound m le h.
            subst (TellsStep limit bound ds r) (sym (if_is rows l m j _ (k.says limit bound m h.map).answer)) (arm.says l j bound m le h);
        leaves = arm.leaves;
        frame = arm.frame;
      }
