-- An access that changes the map, followed by a step; and the arms that store a number and then name the next row. Assumes nothing.
use Rattle.refusal.specs.declared.Refusal.{Refusal}
use Rattle.intmap.specs.Store.{Stored}
use mathlib.Core.Path.{◌≡◌, refl, sym, ap, ap₂, subst, ◌∙◌}
use mathlib.Core.Bool.{Bool, true, false}
use Rattle.std.specs.Prelude.{None, Ok, Err, Some, Result}
use mathlib.Core.List.{List, [], ◌∷◌}
use Prim.Native.Nat.{ℕ, ◌+◌, ◌≤◌}
use native.Mathlib.Omega.{arith}
use lib.Dec.{leb, eqb}
use lib.IntN.{ℤ}
use borrow.Author.Tests.{eqb-true, eqb-false}
use Rattle.model.specs.Walk.{Tried}
use Rattle.model.specs.Row.{Row as Listed}
use Rattle.model.specs.State.{RegDataType, Int, MemoryState as Defined}
use Rattle.model.specs.Cells.{cells, register_depth}
use Rattle.model.specs.Equality.{is_zero_int}
use Rattle.model.specs.Operation.{JumpOperation, op_gosub, op_init_coroutine}
use Rattle.model.specs.Offer.{offers, goes_on}
use Rattle.model.specs.Access.{◌>>=◌, index, judge_depth, cells_if, judge_cells, go_to, store_register}
use Rattle.model.specs.JumpArms.{init_coroutine_to, jump_arm}
use Rattle.model.proofs.Tried.{Kept, refusal, value, ◌>>◌, anything, kept}
use Rattle.area.specs.declared.Cell.{Cell}
use Rattle.intmap.specs.Signed.{offset, int_of}
use Rattle.intmap.specs.declared.IntMap.{IntMap}
use Rattle.rows.specs.Judged.{Judged}
use Rattle.rows.specs.declared.row.Row.{Row}
use Rattle.state.specs.Leads.{HoldsMap, Tells, Leaves, operands, Leads}
use Rattle.state.specs.Steps.{HoldsState, Offered, TellsStep, LeavesStep, JumpArm, Step}
use Rattle.state.specs.Stores.{cells_in, SameStore, stored_in, Changes}
use Rattle.state.proofs.Stores.{untouched}
use Rattle.state.specs.declared.MemoryState.{MemoryState}
use Rattle.state.specs.declared.Ways.{Ways}
use Rattle.state.specs.declared.store.Store.{Store}
use Rattle.jump_arms.specs.Arms.{InitTo, at, on_at, branch_at, both_at, step_after, branch_after, both_after}
use Rattle.jump_arms.proofs.StepLaws.{held_at, held_next, goes_on_lem, branches_only, zero_word, other_word}

-- the state stays on its row
abbrev pub SameRow : Defined → Defined → Type 0
SameRow m n = n.program_i ≡ m.program_i

pub store-row : (limit : ℕ) (i : ℤ) (v : RegDataType) (m : Defined) → Kept (SameRow m) (store_register limit i v m)
unfolding store_register judge_cells
store-row limit i v m = anything (index i) >> λ k _. anything (judge_depth (register_depth v) v) >> λ w _. judged _ refl
  where
    judged : (n : Defined) → SameRow m n → Kept (SameRow m) (judge_cells limit n)
    judged n e = go (leb (cells n) limit)
      where
        go : (t : Bool) → Kept (SameRow m) (cells_if t n)
        go true = value e
        go false = refusal

-- an access to a state at the row of a word, after which the state goes on there
pub goes_after : {limit : ℕ} {cs ds : List Cell} {a : IntMap} {f : Defined → Tried Defined} (r : Stored) (w bound : ℕ) (m : Defined) → operands ≤ bound → Leads limit cs ds a r f → Kept (SameRow m) (f m) → HoldsState limit bound cs (at w a) m → TellsStep limit bound ds (step_after w r) (f m >>= λ n. goes_on n)
goes_after (Err k) w bound m le leads keeps h = ap (λ t. t >>= λ n. goes_on n) (leads.says bound m le h.map)
goes_after {limit} {ds = ds} (Ok b) w bound m le leads keeps h =
    let t = leads.says bound m le h.map in
    subst (Offered limit bound ds None (Some (at w b))) (sym (ap (λ t. t >>= λ n. goes_on n) t.answer))
    (goes_on_lem (record { row = h.row ∙ sym (kept keeps t.answer); map = t.holds }))

-- it lies where it was
pub leaves_after : (limit : ℕ) (ds : List Cell) (s : MemoryState) (r : Stored) (w : ℕ) → Leaves limit ds s.map r → LeavesStep limit ds s (step_after w r)
leaves_after limit ds s (Err k) w leaves = tt
leaves_after limit ds s (Ok b) w leaves = (tt, (leaves.base, leaves.room))

-- a branch at the row of a word, where t is what the access answers
pub branches_told : (limit bound : ℕ) (ds : List Cell) (r : Stored) (w : ℕ) (m : Defined) (t : Tried Defined) → Tells limit bound ds r t → Kept (SameRow m) t → int_of w ≡ m.program_i → TellsStep limit bound ds (branch_after w r) (t >>= λ n. offers (n ∷ []) None)
branches_told limit bound ds (Err k) w m t told keeps e = ap (λ t. t >>= λ n. offers (n ∷ []) None) told
branches_told limit bound ds (Ok b) w m t told keeps e =
    subst (Offered limit bound ds (Some (at w b)) None) (sym (ap (λ t. t >>= λ n. offers (n ∷ []) None) told.answer))
    (branches_only (record { row = e ∙ sym (kept keeps told.answer); map = told.holds }))

pub branches_after : {limit : ℕ} {cs ds : List Cell} {a : IntMap} {f : Defined → Tried Defined} (r : Stored) (w bound : ℕ) (m : Defined) → operands ≤ bound → Leads limit cs ds a r f → Kept (SameRow m) (f m) → HoldsState limit bound cs (at w a) m → TellsStep limit bound ds (branch_after w r) (f m >>= λ n. offers (n ∷ []) None)
branches_after {limit} {ds = ds} {f = f} r w bound m le leads keeps h = branches_told limit bound ds r w m (f m) (leads.says bound m le h.map) keeps h.row

pub branch_leaves : (limit : ℕ) (ds : List Cell) (s : MemoryState) (r : Stored) (w : ℕ) → Leaves limit ds s.map r → LeavesStep limit ds s (branch_after w r)
branch_leaves limit ds s (Err k) w leaves = tt
branch_leaves limit ds s (Ok b) w leaves = (record { above = omega (arith, leaves.base); below = omega (arith, leaves.base); room = leaves.room }, tt)

-- ---- the step, of the store t that a change of it left: why it was refused, or the ways then

-- a store that nothing changed
pub same_store : {s : Store} → SameStore s s
same_store = untouched

-- a change of a store whose limit is n
pub within : {P : ℕ → List Cell → List Cell → IntMap → Stored → Type 0} {s t : Store} {r : Result (Unit {0}) Refusal} {n : ℕ} → s.limit ≡ n → Changes P s t r → P n (cells_in s) (cells_in t) s.map (stored_in t r)
within {P} {s} {t} {r} e changes = subst (λ n. P n (cells_in s) (cells_in t) s.map (stored_in t r)) e changes.is

module _ (t : Store) {r : Result (Unit {0}) Refusal} where
  module _ {e : Refusal} {v : Step} (was : r ≡ Err e) (is : v ≡ Err e) where
    pub step_err : (w : ℕ) → step_after w (stored_in t r) ≡ v
    step_err w = ap (λ r. step_after w (stored_in t r)) was ∙ sym is

    pub branch_err : (w : ℕ) → branch_after w (stored_in t r) ≡ v
    branch_err w = ap (λ r. branch_after w (stored_in t r)) was ∙ sym is

    pub both_err : (b : MemoryState) (w : ℕ) → both_after b w (stored_in t r) ≡ v
    both_err b w = ap (λ r. both_after b w (stored_in t r)) was ∙ sym is

  module _ {u : Unit {0}} {v : Ways} (was : r ≡ Ok u) where
    pub step_ok : (w : ℕ) → v ≡ on_at w t.map → step_after w (stored_in t r) ≡ Ok v
    step_ok w is = ap (λ r. step_after w (stored_in t r)) was ∙ ap Ok (sym is)

    pub branch_ok : (w : ℕ) → v ≡ branch_at w t.map → branch_after w (stored_in t r) ≡ Ok v
    branch_ok w is = ap (λ r. branch_after w (stored_in t r)) was ∙ ap Ok (sym is)

    pub both_ok : (b : MemoryState) (p w : ℕ) (a : IntMap) → v ≡ both_at b w t.map → (b.map ≡ a) × (b.row ≡ p) → both_after (at p a) w (stored_in t r) ≡ Ok v
    both_ok b p w a is told =
        ap (λ r. both_after (at p a) w (stored_in t r)) was ∙ ap Ok (sym (is ∙ ap₂ (λ q c. both_at (at q c) w t.map) told.1 told.0))

-- ---- the arms that are such an access

-- the arm is an access f to the map that keeps the row, and then goes to another row, whose word is w
module _
    (limit : ℕ)
    (cs ds : List Cell)
    (s : MemoryState)
    (x : Row)
    (o : JumpOperation)
    (r : Stored)
    (f : Defined → Tried Defined)
    (leads : Leads limit cs ds s.map r f)
    (g : Listed → Defined → Defined)
    (arm : (rows : List Listed) (l : Listed) → Judged l x → (m : Defined) → int_of s.row ≡ m.program_i → jump_arm limit rows l m o ≡ (f m >>= λ n. goes_on (g l n)))
  where
    pub access_goes : (w : ℕ) → ((m : Defined) → Kept (SameRow m) (f m)) → ((b : IntMap) (l : Listed) → Judged l x → (bound : ℕ) (n : Defined) → int_of s.row ≡ n.program_i → HoldsMap limit bound ds b n → HoldsState limit bound ds (at w b) (g l n)) → JumpArm limit cs ds s x o (step_after w r)
    access_goes w keeps to = go r leads
      where
        go : (r : Stored) → Leads limit cs ds s.map r f → JumpArm limit cs ds s x o (step_after w r)
        go (Err n) told =
            record {
              says = λ rows l j bound m le h. arm rows l j m h.row ∙ ap (λ t. t >>= λ n. goes_on (g l n)) (told.says bound m le h.map);
              leaves = tt;
              frame = told.frame;
            }
        go (Ok b) told =
            record {
              says = λ rows l j bound m le h.
                  (let t = told.says bound m le h.map in
                  subst (Offered limit bound ds None (Some (at w b))) (sym (arm rows l j m h.row ∙ ap (λ t. t >>= λ n. goes_on (g l n)) t.answer))
                  (goes_on_lem (to b l j bound t.state (h.row ∙ sym (kept (keeps m) t.answer)) t.holds)));
              leaves = (tt, (told.leaves.base, told.leaves.room));
              frame = told.frame;
            }

module _ (limit : ℕ) (cs ds : List Cell) (s : MemoryState) (x : Row) (r : Stored) where
  module _ (leads : Leads limit cs ds s.map r (store_register limit (int_of x.p1) (Int (int_of s.row)))) where
    gosub_is : (rows : List Listed) (l : Listed) → Judged l x → (m : Defined) → int_of s.row ≡ m.program_i → jump_arm limit rows l m op_gosub ≡ (store_register limit (int_of x.p1) (Int (int_of s.row)) m >>= λ n. goes_on (go_to l.p2 n))
    unfolding jump_arm
    gosub_is rows l j m e = ap₂ (λ i v. store_register limit i (Int v) m >>= λ n. goes_on (go_to l.p2 n)) (sym j.p1) (sym e)

    pub gosub_arm : JumpArm limit cs ds s x op_gosub (step_after x.p2 r)
    gosub_arm =
        access_goes limit cs ds s x op_gosub r _ leads (λ l n. go_to l.p2 n) gosub_is x.p2 (store-row limit _ _)
        (λ b l j bound n e h. held_at x.p2 l.p2 j.p2 h)

  module _ (leads : Leads limit cs ds s.map r (store_register limit (int_of x.p1) (Int (int_of x.p3)))) where
    init_is : (rows : List Listed) (l : Listed) → Judged l x → (m : Defined) → int_of s.row ≡ m.program_i → jump_arm limit rows l m op_init_coroutine ≡ (store_register limit (int_of x.p1) (Int (int_of x.p3)) m >>= λ n. goes_on (init_coroutine_to (is_zero_int l.p2) l n))
    unfolding jump_arm
    init_is rows l j m e = ap₂ (λ i v. store_register limit i (Int v) m >>= λ n. goes_on (init_coroutine_to (is_zero_int l.p2) l n)) (sym j.p1) (sym j.p3)

    pub init_arm : (w : ℕ) → InitTo s.row x.p2 w → JumpArm limit cs ds s x op_init_coroutine (step_after w r)
    init_arm w to =
        access_goes limit cs ds s x op_init_coroutine r _ leads (λ l n. init_coroutine_to (is_zero_int l.p2) l n) init_is w (store-row limit _ _)
        (λ b l j bound n e h. go b l j bound n e h (eqb x.p2 offset) refl)
      where
        go : (b : IntMap) (l : Listed) → Judged l x → (bound : ℕ) (n : Defined) → int_of s.row ≡ n.program_i → HoldsMap limit bound ds b n → (t : Bool) → eqb x.p2 offset ≡ t → HoldsState limit bound ds (at w b) (init_coroutine_to (is_zero_int l.p2) l n)
        go b l j bound n e h true q =
            let z = eqb-true x.p2 offset q in
            subst (λ y. HoldsState limit bound ds (at y b) (init_coroutine_to (is_zero_int l.p2) l n)) (sym (to.on z))
            (subst (λ y. HoldsState limit bound ds (at (s.row + 1) b) (init_coroutine_to y l n)) (sym (zero_word x.p2 l.p2 j.p2 z)) (held_next s.row e h))
        go b l j bound n e h false q =
            let z = eqb-false x.p2 offset q in
            subst (λ y. HoldsState limit bound ds (at y b) (init_coroutine_to (is_zero_int l.p2) l n)) (sym (to.there z))
            (subst (λ y. HoldsState limit bound ds (at x.p2 b) (init_coroutine_to y l n)) (sym (other_word x.p2 l.p2 j.p2 z)) (held_at x.p2 l.p2 j.p2 h))
