-- IfPos by what its register is known to hold: the definition's offer as stores, and the arm by the accesses that make them. Assumes nothing.
use Rattle.refusal.specs.Numbers.{number_of}
use Rattle.refusal.specs.declared.Refusal.{Refusal}
use mathlib.Core.Path.{◌≡◌, refl, sym, ap, ap₂, subst, ◌∙◌}
use mathlib.Core.Bool.{Bool, true, false, not, ◌||◌}
use Rattle.std.specs.Prelude.{Option, None, Some, Ok, Err, Result}
use mathlib.Core.List.{List, [], ◌∷◌}
use Prim.Native.Nat.{ℕ, ◌+◌, ◌<◌, ◌≤◌}
use native.Mathlib.Omega.{arith}
use lib.IntN.{ℤ, pred_ℤ}
use borrow.Author.Tests.{lt-ltb, le-ltb}
use Rattle.type_info.specs.declared.DataType.TheVariants.{Integer}
use Rattle.model.specs.Walk.{Tried, refused, done}
use Rattle.model.specs.Row.{Row as Listed}
use Rattle.model.specs.IntMap.{get, update}
use Rattle.model.specs.State.{RegDataType, Column, Int, MemoryState as Defined, never_null}
use Rattle.model.specs.Cells.{register_depth}
use Rattle.model.specs.Good.{Good, SortedColumn}
use Rattle.model.specs.Access.{◌>>=◌, index, go_to, next, with_registers, read_register, store_register, update_register}
use Rattle.model.specs.Offer.{Offer, offers, goes_on, branch_if}
use Rattle.model.specs.JumpArms.{known_int}
use Rattle.model.specs.IfPosArm.{is_positive, may_be_positive, may_not_be_positive, count_down, forget, if_pos_stays, if_pos_arm}
use Rattle.model.proofs.Tried.{Kept, value}
use Rattle.model.proofs.ReaderLaws.{never}
use Rattle.model.proofs.InPlace.{count_down_no_larger, forget_no_larger}
use Rattle.model.proofs.Access.{go_to_good, next_good}
use Rattle.area.specs.Cells.{cell}
use Rattle.area.specs.declared.Cell.{Cell}
use Rattle.intmap.specs.Map.{HasRoom, runs_at}
use Rattle.intmap.specs.Signed.{offset, int_of, Small}
use Rattle.intmap.specs.Store.{store_runs, stored_of, Stores, Stored}
use Rattle.intmap.specs.declared.IntMap.{IntMap}
use Rattle.intmap.proofs.SignedLaws.{int_pred, int_positive, small_pred, word_int, word-least}
use Rattle.encoding.specs.Encode.{run_register}
use Rattle.encoding.specs.Holds.{largest}
use Rattle.encoding.proofs.Updates.{update_stored, update_kept}
use Rattle.encoding.proofs.Held.{held_go_to, held_more}
use Rattle.encoding.proofs.HeldAfter.{held_register}
use Rattle.rows.specs.Judged.{Judged}
use Rattle.rows.specs.declared.row.Row.{Row}
use Rattle.state.specs.Leads.{Current, HoldsMap, Tells}
use Rattle.state.specs.Steps.{HoldsState, TellsStep, Step, offered}
use Rattle.state.specs.Stores.{cells_in, IsCurrent, LeavesStore, Changes}
use Rattle.state.specs.declared.MemoryState.{MemoryState}
use Rattle.state.specs.declared.store.Store.{Store}
use Rattle.state.proofs.StoreLeads.{wider}
use Rattle.state.proofs.LeadsLaws.{unchanged}
use Rattle.jump_arms.specs.Arms.{at, branch_after, Knows, Puts}
use Rattle.jump_arms.specs.Both.{at_map, Change, BothWays}
use Rattle.jump_arms.proofs.StepLaws.{held_at, held_next, goes_on_lem, branches_and_goes, lies_here}
use Rattle.jump_arms.proofs.StoreSteps.{SameRow, store-row, branches_told, branch_leaves, within}
use Rattle.jump_arms.proofs.BothLaws.{Makes, told, puts_any}
use Rattle.ifpos_arm.specs.Arm.{TellsAs, IfPosArm, KnowsInt, PutsInt, WordBefore, forget_if}

-- ---- the stores

module _ (limit : ℕ) (cs ds : List Cell) (a : IntMap) (i w : ℕ) where
  answered : (r : Stored) → Stores cs ds limit a 0 i 0 (cell 3 w ∷ []) r → store_runs limit 0 (int_of i) 0 (run_register 0 (Int (int_of w))) (runs_at cs a) ≡ stored_of ds r
  unfolding run_register
  answered r st = ap (λ v. store_runs limit 0 (int_of i) 0 (cell 3 v ∷ []) (runs_at cs a)) (word_int w) ∙ sym st.answer

  pub puts_int : (r : Stored) → Stores cs ds limit a 0 i 0 (cell 3 w ∷ []) r → PutsInt limit cs ds a i w r
  unfolding register_depth SortedColumn
  puts_int (Err n) st =
      record {
        says = λ bound m small h. (held_register h (int_of i) 0 (Int (int_of w)) (λ _. tt) small).refuses (number_of n) (answered (Err n) st);
        leaves = tt;
        frame = st.frame;
      }
  puts_int (Ok b) st =
      record {
        says = λ bound m small h.
            (held_register h (int_of i) 0 (Int (int_of w)) (λ _. tt) small).next ds b.base b.len b.used (runs_at ds b) (answered (Ok b) st) refl st.leaves.room.used;
        leaves = record { base = st.leaves.base; room = st.leaves.room };
        frame = st.frame;
      }

positive_is : (w : ℕ) → offset < w → is_positive (int_of w) ≡ true
positive_is w h = int_positive w ∙ lt-ltb offset w h

other_is : (w : ℕ) → w ≤ offset → is_positive (int_of w) ≡ false
other_is w h = int_positive w ∙ le-ltb offset w h

module _ (limit : ℕ) (cs : List Cell) (a : IntMap) (i w : ℕ) where
  pub forgets : (ds : List Cell) (r : Stored) → offset < w → Puts limit cs ds a r (store_register limit (int_of i) (never_null Integer)) → Puts limit cs ds a r (forget_if (is_positive (int_of w)) limit (int_of i))
  forgets ds r h put = subst (λ b. Puts limit cs ds a r (forget_if b limit (int_of i))) (sym (positive_is w h)) put

  pub keeps : HasRoom cs limit a → w ≤ offset → Puts limit cs cs a (Ok a) (forget_if (is_positive (int_of w)) limit (int_of i))
  keeps room h =
      subst (λ b. Puts limit cs cs a (Ok a) (forget_if b limit (int_of i))) (sym (other_is w h))
      (record {
        leads =
            record {
              says = λ bound m le g. record { state = m; answer = refl; holds = g };
              leaves = record { base = refl; room = room };
              frame = unchanged cs _ _;
            };
        frame = unchanged cs _ _;
      })

forget-row : (b : Bool) (limit : ℕ) (i : ℤ) (m : Defined) → Kept (SameRow m) (forget_if b limit i m)
forget-row true limit i m = store-row limit i (never_null Integer) m
forget-row false limit i m = value refl

-- ---- the definition's offer

-- an offer, as of a row that counts a repeat or does not
abbrev counted : Bool → Offer → Offer
counted again (refused n) = refused n
counted again (done w) = done (record { branches = w.branches; stays = w.stays; result = w.result; repeat = again })

told_as : (again : Bool) (limit bound : ℕ) (ds : List Cell) (r : Step) (o p : Offer) → p ≡ counted again o → TellsStep limit bound ds r o → TellsAs again limit bound ds r p
told_as again limit bound ds (Err n) o p e t = e ∙ ap (counted again) t
told_as again limit bound ds (Ok w) o p e t =
    record { the_branch = t.the_branch; the_state = t.the_state; answer = e ∙ ap (counted again) t.answer; branches = t.branches; goes_on = t.goes_on }

-- by whether the register may be positive, and may not be
abbrev offers_as : Bool → ℤ → Listed → Defined → Bool → Bool → Offer
offers_as again i l m b c =
    update_register i count_down (go_to l.p2 m) >>= λ branch.
    update_register i forget (next m) >>= λ forgotten.
    done (record { branches = branch_if (b || again) branch; stays = if_pos_stays c again (next m) forgotten; result = None; repeat = again })

read_is : (again : Bool) (x : Row) (l : Listed) (m : Defined) → Judged l x → (t : Tried (Option RegDataType)) → read_register (int_of x.p1) m ≡ t → if_pos_arm again l m ≡ (t >>= λ v. offers_as again (int_of x.p1) l m (may_be_positive v) (may_not_be_positive v))
unfolding if_pos_arm
read_is again x l m j t e =
    ap (λ i. read_register i m >>= λ v. offers_as again i l m (may_be_positive v) (may_not_be_positive v)) (sym j.p1)
    ∙ ap (λ u. u >>= λ v. offers_as again (int_of x.p1) l m (may_be_positive v) (may_not_be_positive v)) e

read-go_to : (i p : ℤ) (m : Defined) (o : Option RegDataType) → read_register i m ≡ done o → read_register i (go_to p m) ≡ done o
unfolding read_register
read-go_to i p m o e = e

-- two ways, as two accesses
two_ways : (again : Bool) (t u : Tried Defined) → (t >>= λ branch. u >>= λ stays. done (record { branches = branch ∷ []; stays = Some stays; result = None; repeat = again })) ≡ counted again (t >>= λ branch. u >>= λ stays. offers (branch ∷ []) (Some stays))
two_ways again (refused n) u = refl
two_ways again (done b) (refused n) = refl
two_ways again (done b) (done s) = refl

one_way : (t : Tried Defined) → (t >>= λ branch. offers (branch ∷ []) None) ≡ counted false (t >>= λ branch. offers (branch ∷ []) None)
one_way (refused n) = refl
one_way (done b) = refl

module _ (i p q : ℤ) (m : Defined) where
  -- of two changes of one register the second refuses nothing
  second_passes : (K : Defined → Offer) → (update_register i count_down (go_to p m) >>= λ branch. update_register i forget (go_to q m) >>= λ forgotten. K branch) ≡ (update_register i count_down (go_to p m) >>= K)
  unfolding update_register
  second_passes K = go (index i)
    where
      go : (t : Tried ℕ) → ((t >>= λ k. done (with_registers (update k count_down m.r) (go_to p m))) >>= λ branch. (t >>= λ k. done (with_registers (update k forget m.r) (go_to q m))) >>= λ forgotten. K branch) ≡ ((t >>= λ k. done (with_registers (update k count_down m.r) (go_to p m))) >>= K)
      go (refused n) = refl
      go (done k) = refl

  -- and none does, of one that can be read
  both_pass : (v : Option RegDataType) → read_register i m ≡ done v → (o : Offer) → (update_register i count_down (go_to p m) >>= λ branch. update_register i forget (go_to q m) >>= λ forgotten. o) ≡ o
  unfolding read_register update_register
  both_pass v read o = go (index i) read
    where
      go : (t : Tried ℕ) → (t >>= λ k. done (get k m.r)) ≡ done v → ((t >>= λ k. done (with_registers (update k count_down m.r) (go_to p m))) >>= λ branch. (t >>= λ k. done (with_registers (update k forget m.r) (go_to q m))) >>= λ forgotten. o) ≡ o
      go (refused n) e = cc
      go (done k) e = refl

module _ (limit : ℕ) (i : ℤ) (l : Listed) (m : Defined) (good : Good limit m) where
  -- no known number: nothing changes
  unknown_is : (again : Bool) (v : Option RegDataType) → read_register i m ≡ done v → known_int v ≡ None → offers_as again i l m (may_be_positive v) (may_not_be_positive v) ≡ counted again (offers (go_to l.p2 m ∷ []) (Some (next m)))
  unknown_is again None read e =
      ap₂ (λ t u. t >>= λ branch. u >>= λ forgotten. done (record { branches = branch ∷ []; stays = Some (next m); result = None; repeat = again }))
      (update_kept (go_to_good good l.p2) i count_down None (read-go_to i _ m None read) tt)
      (update_kept (next_good good) i forget None (read-go_to i _ m None read) tt)
  unknown_is again (Some (Column c)) read e =
      ap₂ (λ t u. t >>= λ branch. u >>= λ forgotten. done (record { branches = branch ∷ []; stays = Some (next m); result = None; repeat = again }))
      (update_kept (go_to_good good l.p2) i count_down (Some (Column c)) (read-go_to i _ m (Some (Column c)) read) refl)
      (update_kept (next_good good) i forget (Some (Column c)) (read-go_to i _ m (Some (Column c)) read) refl)
  unknown_is again (Some (Int n)) read e = never (sym e)

  module _ (n : ℤ) (read : read_register i m ≡ done (Some (Int n))) where
    abbrev counting : Tried Defined
    counting = store_register limit i (Int (pred_ℤ n)) (go_to l.p2 m)

    counts : update_register i count_down (go_to l.p2 m) ≡ counting
    counts = update_stored (go_to_good good l.p2) i count_down (Int n) (read-go_to i _ m _ read) count_down_no_larger

    -- handled again
    again_is : (b : Bool) → offers_as true i l m b (not b) ≡ counted true (counting >>= λ branch. forget_if b limit i (next m) >>= λ stays. offers (branch ∷ []) (Some stays))
    again_is true =
        ap₂ (λ t u. t >>= λ branch. u >>= λ stays. done (record { branches = branch ∷ []; stays = Some stays; result = None; repeat = true }))
        counts
        (update_stored (next_good good) i forget (Int n) (read-go_to i _ m _ read) forget_no_larger)
        ∙ two_ways true counting (store_register limit i (never_null Integer) (next m))
    again_is false =
        second_passes i l.p2 _ m (λ branch. done (record { branches = branch ∷ []; stays = Some (next m); result = None; repeat = true }))
        ∙ ap (λ t. t >>= λ branch. done (record { branches = branch ∷ []; stays = Some (next m); result = None; repeat = true })) counts
        ∙ two_ways true counting (done (next m))

    -- handled for the first time
    branch_is : offers_as false i l m true false ≡ counted false (counting >>= λ branch. offers (branch ∷ []) None)
    branch_is = second_passes i l.p2 _ m (λ branch. offers (branch ∷ []) None) ∙ ap (λ t. t >>= λ branch. offers (branch ∷ []) None) counts ∙ one_way counting

    on_is : offers_as false i l m false true ≡ counted false (goes_on (next m))
    on_is = both_pass i l.p2 _ m _ read (goes_on (next m))

-- ---- the arm

pub again_as : (limit : ℕ) (cs ds : List Cell) (s : MemoryState) (x : Row) (again b : Bool) (r : Step) → again ≡ b → IfPosArm limit cs ds s x b r → IfPosArm limit cs ds s x again r
again_as limit cs ds s x again b r e arm = subst (λ y. IfPosArm limit cs ds s x y r) (sym e) arm

-- the number before
module _ (bound w v : ℕ) (top : bound + 1 ≤ largest) (before : WordBefore w v) (small : Small bound (int_of w)) where
  before_is : int_of v ≡ pred_ℤ (int_of w)
  before_is =
      let above : 0 < w = omega (arith, word-least bound (int_of w) small, word_int w) in
      ap int_of (before.is above) ∙ sym (int_pred w above)

  before_small : Small (bound + 1) (int_of v)
  before_small = subst (Small (bound + 1)) (sym before_is) (small_pred bound (int_of w) small)

module _ (limit : ℕ) (cs : List Cell) (s : MemoryState) (x : Row) where
  more : (bound : ℕ) (m : Defined) → bound + 1 ≤ largest → HoldsState limit bound cs s m → HoldsState limit (bound + 1) cs s m
  more bound m top h = record { row = h.row; map = held_more limit bound cs _ _ _ m h.map (bound + 1) (omega arith) top }

  pub pos_bad : (again : Bool) (n : Refusal) → Knows cs s.map x.p1 (Err n) → IfPosArm limit cs cs s x again (Err n)
  pos_bad again n k =
      record { says = λ l j bound m le top h. read_is again x l m j (refused (number_of n)) (k.says limit bound m h.map); leaves = tt; frame = unchanged cs _ _ }

  pub pos_unknown : (again : Bool) → Current limit cs s.map → Knows cs s.map x.p1 (Ok None) → IfPosArm limit cs cs s x again (offered (Some (at x.p2 s.map)) (Some (at (s.row + 1) s.map)))
  pos_unknown again current k =
      record {
        says = λ l j bound m le top h.
            (let u = k.says limit bound m h.map in
            let g = more bound m top h in
            told_as again limit (bound + 1) cs (offered (Some (at x.p2 s.map)) (Some (at (s.row + 1) s.map))) (offers (go_to l.p2 m ∷ []) (Some (next m))) _
            (read_is again x l m j _ u.answer ∙ unknown_is limit (int_of x.p1) l m h.map.good again u.value u.answer u.is)
            (branches_and_goes (held_at x.p2 l.p2 j.p2 g.map) (held_next s.row g.row g.map)));
        leaves = (lies_here x.p2 current, (refl, current.room));
        frame = unchanged cs _ _;
      }

  module _ (w : ℕ) (k : KnowsInt cs s.map x.p1 w) where
    int_is : (again b : Bool) → is_positive (int_of w) ≡ b → (l : Listed) → Judged l x → (bound : ℕ) (m : Defined) → HoldsState limit bound cs s m → if_pos_arm again l m ≡ offers_as again (int_of x.p1) l m b (not b)
    int_is again b e l j bound m h =
        read_is again x l m j _ (k.says limit bound m h.map).answer ∙ ap (λ b. offers_as again (int_of x.p1) l m b (not b)) e

    pub pos_on : Current limit cs s.map → w ≤ offset → IfPosArm limit cs cs s x false (offered None (Some (at (s.row + 1) s.map)))
    pos_on current h =
        record {
          says = λ l j bound m le top g.
              (let f = more bound m top g in
              told_as false limit (bound + 1) cs (offered None (Some (at (s.row + 1) s.map))) (goes_on (next m)) _
              (int_is false false (other_is w h) l j bound m g ∙ on_is limit (int_of x.p1) l m g.map.good (int_of w) (k.says limit bound m g.map).answer)
              (goes_on_lem (held_next s.row f.row f.map)));
          leaves = (tt, (refl, current.room));
          frame = unchanged cs _ _;
        }

    module _ (v : ℕ) (before : WordBefore w v) where
      -- the number before, stored in a state
      put_before : (there two : List Cell) (a : IntMap) (r : Stored) → PutsInt limit there two a x.p1 v r → (l : Listed) (bound : ℕ) (m : Defined) → bound + 1 ≤ largest → HoldsState limit bound cs s m → HoldsMap limit (bound + 1) there a (go_to l.p2 m) → Tells limit (bound + 1) two r (store_register limit (int_of x.p1) (Int (pred_ℤ (int_of w))) (go_to l.p2 m))
      put_before there two a r put l bound m top h g =
          let small = (k.says limit bound m h.map).small in
          subst (λ z. Tells limit (bound + 1) two r (store_register limit (int_of x.p1) (Int z) (go_to l.p2 m))) (before_is bound w v top before small)
          (put.says (bound + 1) _ (before_small bound w v top before small) g)

      pub pos_branch : (ds : List Cell) (r : Stored) → offset < w → PutsInt limit cs ds s.map x.p1 v r → IfPosArm limit cs ds s x false (branch_after x.p2 r)
      pos_branch ds r above put =
          record {
            says = λ l j bound m le top h.
                told_as false limit (bound + 1) ds (branch_after x.p2 r) _ _
                (int_is false true (positive_is w above) l j bound m h ∙ branch_is limit (int_of x.p1) l m h.map.good (int_of w) (k.says limit bound m h.map).answer)
                (branches_told limit (bound + 1) ds r x.p2 (go_to l.p2 m) _
                (put_before cs ds s.map r put l bound m top h (held_go_to limit (bound + 1) cs _ _ _ m (more bound m top h).map l.p2))
                (store-row limit _ _ (go_to l.p2 m)) j.p2);
            leaves = branch_leaves limit ds s r x.p2 put.leaves;
            frame = wider cs ds s.map.base limit put.frame;
          }

      ways_are : (l : Listed) → Judged l x → (bound : ℕ) (m : Defined) → HoldsState limit bound cs s m → if_pos_arm true l m ≡ counted true (store_register limit (int_of x.p1) (Int (pred_ℤ (int_of w))) (go_to l.p2 m) >>= λ branch. forget_if (is_positive (int_of w)) limit (int_of x.p1) (next m) >>= λ stays. offers (branch ∷ []) (Some stays))
      ways_are l j bound m h =
          int_is true _ refl l j bound m h
          ∙ again_is limit (int_of x.p1) l m h.map.good (int_of w) (k.says limit bound m h.map).answer (is_positive (int_of w))

-- both ways
pub again_arm : {s t : Store} {row : ℕ} {x : Row} → IsCurrent s → (w v : ℕ) → KnowsInt (cells_in s) s.map x.p1 w → WordBefore w v → {F G : Change}
    → ((a : Store) (q : Result (Unit {0}) Refusal) (b : Store) → F a q b → Changes (λ limit cs ds m r. PutsInt limit cs ds m x.p1 v r) a b q) → Makes G (λ limit. forget_if (is_positive (int_of w)) limit (int_of x.p1))
    → {r : Step} → BothWays F G s t row x.p2 r → LeavesStore s t r × IfPosArm s.limit (cells_in s) (cells_in t) (at row s.map) x true r
again_arm {s} {t} {row} {x} current w v k before {G = G} f-is g-is {r} u =
    let c = f-is u.there u.first u.left u.changed in
    let tell = told current u.behind {G = G} {row = row} {x = x} (λ p has e. puts_any (g-is (at_map s.map u.left) p t has e)) u.first (record { same = c.same; kept = c.kept; is = (c.is.leaves, c.is.frame) }) u.second in (
      tell.same,
      record {
        says = λ l j bound m le top h.
            told_as true s.limit (bound + 1) (cells_in t) r _ _ (ways_are s.limit (cells_in s) (at row s.map) x w k v before l j bound m h)
            (tell.says l j (bound + 1) m (more s.limit (cells_in s) (at row s.map) x bound m top h) _ _
            (λ held. put_before s.limit (cells_in s) (at row s.map) x w k v before _ _ _ _ (within u.behind.same.limit c) l bound m top h held) (store-row s.limit _ _ (go_to l.p2 m))
            (λ p has e held. (within (c.same.limit ∙ u.behind.same.limit) (g-is (at_map s.map u.left) p t has e)).leads.says (bound + 1) _ (omega (arith, le)) held) (forget-row (is_positive (int_of w)) s.limit (int_of x.p1) (next m)));
        leaves = tell.leaves;
        frame = tell.frame;
      },
    )
