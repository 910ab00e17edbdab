-- Handling a row by what an arm tells: known numbers may be one larger then, which only IfPos makes. Assumes nothing.
use Rattle.refusal.specs.declared.Refusal.{Refusal}
use mathlib.Core.Path.{◌≡◌, refl, sym, ap, subst, ◌∙◌}
use mathlib.Core.Bool.{Bool, false, ◌&&◌}
use Rattle.std.specs.Prelude.{Option, Err, Some, None, Ok, Result}
use mathlib.Core.List.{List, ◌∷◌}
use Prim.Native.Nat.{ℕ, zero, suc, ◌+◌, ◌≤◌}
use native.Mathlib.Omega.{arith}
use lib.Dec.{eqb}
use Rattle.model.specs.Walk.{done}
use Rattle.model.specs.Row.{Row as Listed}
use Rattle.model.specs.IntMap.{get}
use Rattle.model.specs.State.{MemoryState as Defined}
use Rattle.model.specs.Access.{go_to, next, register_column}
use Rattle.model.specs.Operation.{operation_of}
use Rattle.model.specs.Offer.{Offer, turns}
use Rattle.model.specs.JumpArms.{jump_arm}
use Rattle.model.specs.Explain.{arm}
use Rattle.area.specs.declared.Cell.{Cell}
use Rattle.encoding.specs.Holds.{largest}
use Rattle.encoding.proofs.Held.{held_more}
use Rattle.opcode.specs.Opcode.{arm_of, number}
use Rattle.opcode.specs.declared.Operation.{Operation}
use Rattle.opcode.specs.declared.Operation.TheVariants.{Jump, IfPos, ResultRow}
use Rattle.rows.specs.Parts.{Parts}
use Rattle.rows.specs.Rows.{parts}
use Rattle.rows.specs.Judged.{Judged}
use Rattle.rows.specs.declared.row.Row.{Row}
use Rattle.state.specs.Leads.{Current}
use Rattle.state.specs.Steps.{HoldsState, TellsWay, TellsStep, LeavesStep, Way, Step}
use Rattle.state.specs.Stores.{LeavesStore, stored_in}
use Rattle.state.specs.declared.MemoryState.{MemoryState}
use Rattle.state.specs.declared.store.Store.{Store}
use Rattle.state.proofs.LeadsLaws.{unchanged}
use Rattle.state.proofs.Stores.{no_refusal}
use Rattle.jump_arms.specs.Arms.{at, step_after}
use Rattle.jump_arms.proofs.StepLaws.{held_at, held_next, lies_here}
use Rattle.ifpos_arm.specs.Arm.{IfPosArm, TellsAs}
use Rattle.record_arms.specs.Records.{columns_from}
use Rattle.record_arms.proofs.RangeLaws.{columns-read}
use Rattle.result_arm.specs.Results.{JudgesRow}
use Rattle.state.specs.declared.registers.Registers.{Registers}
use Rattle.explain.specs.declared.Handling.{Handling}
use Rattle.explain.specs.declared.Handling.TheVariants as handling
use Rattle.explain.specs.Handles.{meaning_of, Handled, TellsHandling, LeavesHandling, Handles}
use Rattle.explain.specs.Numbers.{NumberArm, as_handling}
use Rattle.explain.specs.Narrow.{as_step, alone, repeats, Branches}

-- ---- under a larger bound

module _ (limit bound : ℕ) (cs : List Cell) (top : bound + 1 ≤ largest) where
  state_more : {s : MemoryState} {m : Defined} → HoldsState limit bound cs s m → HoldsState limit (bound + 1) cs s m
  state_more {m = m} h = record { row = h.row; map = held_more limit bound cs _ _ _ m h.map (bound + 1) (omega arith) top }

  way_more : (w : Way) (m : Option Defined) → TellsWay limit bound cs w m → TellsWay limit (bound + 1) cs w m
  way_more None m told = told
  way_more (Some s) m told = record { state = told.state; is = told.is; held = state_more told.held }

  step_more : (r : Step) (o : Offer) (m : Defined) → TellsStep limit bound cs r o → TellsHandling limit (bound + 1) cs m (as_handling false r) o
  step_more (Err k) o m told = told
  step_more (Ok w) o m told =
      record {
        the_branch = told.the_branch;
        the_state = told.the_state;
        answer = told.answer;
        branches = way_more w.branch told.the_branch told.branches;
        goes_on = way_more w.stays told.the_state told.goes_on;
      }

-- ---- handling by the arm's step

leaves_as : (limit : ℕ) (ds : List Cell) (s : MemoryState) (repeat : Bool) (r : Step) → LeavesStep limit ds s r → LeavesHandling limit ds s (as_handling repeat r)
leaves_as limit ds s repeat (Err k) leaves = tt
leaves_as limit ds s repeat (Ok w) leaves = leaves

told_as : (limit bound : ℕ) (ds : List Cell) (repeat : Bool) (r : Step) (o : Offer) (m : Defined) → TellsAs repeat limit bound ds r o → TellsHandling limit bound ds m (as_handling repeat r) o
told_as limit bound ds repeat (Err k) o m told = told
told_as limit bound ds repeat (Ok w) o m told =
    record { the_branch = told.the_branch; the_state = told.the_state; answer = told.answer; branches = told.branches; goes_on = told.goes_on }

-- the row's arm is that of its operation
operation_is : (x : Row) {o : Operation} {l : Listed} → o ≡ x.op → Judged l x → arm_of o ≡ operation_of l.op
operation_is x e j = ap arm_of e ∙ j.op

module _ {limit from n : ℕ} {cs ds : List Cell} {blocks : List ℕ} {s : MemoryState} {x : Row} {again : Bool} where
  pub number_handles : {op : Operation} (r : Step) → op ≡ x.op → NumberArm limit from n cs ds blocks s x op r → Handles limit from n cs ds blocks s (parts x) again (as_handling false r)
  number_handles r e told =
      record {
        says = λ rows records l have long cat j bound m le top h.
            subst (λ o. TellsHandling limit (bound + 1) ds m (as_handling false r) (arm (meaning_of limit records) rows again m l o)) (operation_is x e j)
            (step_more limit bound ds top r _ m (told.says again rows records l have long cat j bound m le h));
        leaves = leaves_as limit ds s false r told.leaves;
        frame = told.frame;
      }

  pub if_pos_handles : (r : Step) → IfPos ≡ x.op → IfPosArm limit cs ds s x again r → Handles limit from n cs ds blocks s (parts x) again (as_handling again r)
  unfolding arm
  if_pos_handles r e told =
      record {
        says = λ rows records l have long cat j bound m le top h.
            subst (λ o. TellsHandling limit (bound + 1) ds m (as_handling again r) (arm (meaning_of limit records) rows again m l o)) (operation_is x e j)
            (told_as limit (bound + 1) ds again r _ m (told.says l j bound m le top h));
        leaves = leaves_as limit ds s again r told.leaves;
        frame = told.frame;
      }

-- ---- the arms that write nothing

module _ {limit from n : ℕ} {cs : List Cell} {blocks : List ℕ} {s : MemoryState} (x : Row) {again : Bool} (current : Current limit cs s.map) where
  pub three_handles : Jump ≡ x.op → Handles limit from n cs cs blocks s (parts x) again (Ok (handling.Three (at x.p1 s.map) (at x.p2 s.map) (at x.p3 s.map) (at (s.row + 1) s.map)))
  unfolding arm jump_arm
  three_handles e =
      record {
        says = λ rows records l have long cat j bound m le top h.
            subst (λ o. TellsHandling limit (bound + 1) cs m (Ok (handling.Three (at x.p1 s.map) (at x.p2 s.map) (at x.p3 s.map) (at (s.row + 1) s.map))) (arm (meaning_of limit records) rows again m l o)) (operation_is x e j)
            (record {
              first = go_to l.p1 m;
              second = go_to l.p2 m;
              third = go_to l.p3 m;
              state = next m;
              answer = refl;
              first_held = state_more limit bound cs top (held_at x.p1 l.p1 j.p1 h.map);
              second_held = state_more limit bound cs top (held_at x.p2 l.p2 j.p2 h.map);
              third_held = state_more limit bound cs top (held_at x.p3 l.p3 j.p3 h.map);
              state_held = state_more limit bound cs top (held_next s.row h.row h.map);
            });
        leaves = (lies_here x.p1 current, lies_here x.p2 current, lies_here x.p3 current, (refl, current.room));
        frame = unchanged cs _ _;
      }

-- the columns are those of the registers, on whichever row the state is
columns-next : (m : Defined) (n k : ℕ) → columns_from n k (next m) ≡ columns_from n k m
unfolding columns_from
columns-next m zero k = refl
columns-next m (suc n) k = ap (λ cs. register_column (get k m.r) ∷ cs) (columns-next m n (suc k))

module _ {limit from n : ℕ} {cs : List Cell} {blocks : List ℕ} {s : MemoryState} {x : Row} {again : Bool} (last : ResultRow ≡ x.op) where
  pub result_refused : (k : Refusal) → JudgesRow x (Err k) → Handles limit from n cs cs blocks s (parts x) again (Err k)
  unfolding arm
  result_refused k told =
      record {
        says = λ rows records l have long cat j bound m le top h.
            subst (λ o. TellsHandling limit (bound + 1) cs m (Err k) (arm (meaning_of limit records) rows again m l o)) (operation_is x last j) (told.says _ l j m);
        leaves = tt;
        frame = unchanged cs _ _;
      }

  pub result_handles : (r : Registers) → Current limit cs s.map → JudgesRow x (Ok r) → Handles limit from n cs cs blocks s (parts x) again (Ok (handling.Result (at (s.row + 1) s.map) r))
  unfolding arm
  result_handles r current told =
      record {
        says = λ rows records l have long cat j bound m le top h.
            (let offers = told.says (turns m.program_i) l j m in
            subst (λ o. TellsHandling limit (bound + 1) cs m (Ok (handling.Result (at (s.row + 1) s.map) r)) (arm (meaning_of limit records) rows again m l o)) (operation_is x last j)
            (record {
              columns = columns_from r.count r.first m;
              answer = offers.answer;
              read = columns-read (next m) r.count r.first r.within ∙ ap done (columns-next m r.count r.first);
              held = state_more limit bound cs top (held_next s.row h.row h.map);
            }));
        leaves = (lies_here (s.row + 1) current, told.narrow);
        frame = unchanged cs _ _;
      }

-- ---- a row that was read

pub row_handles : {limit from n : ℕ} {cs ds : List Cell} {blocks : List ℕ} {s : MemoryState} {x y : Parts} {again : Bool} {r : Handled} → x ≡ y → Handles limit from n cs ds blocks s x again r → Handles limit from n cs ds blocks s y again r
row_handles {limit} {from} {n} {cs} {ds} {blocks} {s} {again = again} {r = r} e handles = subst (λ z. Handles limit from n cs ds blocks s z again r) e handles

-- ---- rows that give less than all

alone-as : (r : Result MemoryState Refusal) → as_handling false (as_step r) ≡ alone r
alone-as (Err e) = refl
alone-as (Ok s) = refl

module _ {limit from n : ℕ} {cs ds : List Cell} {s : MemoryState} {x : Row} {again : Bool} where
  pub alone_handles : {blocks : List ℕ} (r : Result MemoryState Refusal) → NumberArm limit from n cs ds blocks s x x.op (as_step r) → Handles limit from n cs ds blocks s (parts x) again (alone r)
  alone_handles {blocks} r told = subst (Handles limit from n cs ds blocks s (parts x) again) (alone-as r) (number_handles (as_step r) refl told)

  module _ {y : Parts} (r : Step) (read : parts x ≡ y) where
    pub number_branches : eqb (number x.op) 15 ≡ false → ((blocks : List ℕ) → NumberArm limit from n cs ds blocks s x x.op r) → Branches limit from n cs ds s y again r
    number_branches other told =
        subst (λ z. Branches limit from n cs ds s z again r) read
        (record { handles = λ blocks. subst (λ b. Handles limit from n cs ds blocks s (parts x) again (as_handling b r)) (sym (ap (λ b. b && again) other)) (number_handles r refl (told blocks)) })

    pub if_pos_branches : x.op ≡ IfPos → IfPosArm limit cs ds s x again r → Branches limit from n cs ds s y again r
    if_pos_branches is told =
        subst (λ z. Branches limit from n cs ds s z again r) read
        (record { handles = λ blocks. subst (λ o. Handles limit from n cs ds blocks s (parts x) again (as_handling (repeats o again) r)) (sym is) (if_pos_handles r (sym is) told) })
