-- The laws of stores and removals by an index: the index is judged first, then a run's depth, then the cells. Assumes nothing.
use mathlib.Core.Path.{◌≡◌, sym, ap, ◌∙◌}
use mathlib.Core.List.{List, []}
use mathlib.Core.Bool.{Bool}
use Prim.Native.Nat.{ℕ, ◌<◌, ◌≤◌}
use native.Mathlib.Omega.{arith}
use borrow.Author.Tests.{le-leb, lt-leb}
use Rattle.model.specs.Walk.{Tried, refused, done}
use Rattle.model.specs.Access.{index, depth_if, judge_depth, ◌>>=◌}
use Rattle.area.specs.declared.Cell.{Cell}
use Rattle.intmap.specs.Pack.{class_key}
use Rattle.intmap.specs.Entries.{Runs}
use Rattle.intmap.specs.Swap.{swap}
use Rattle.intmap.specs.Map.{runs_at, IsMap, HasRoom}
use Rattle.intmap.specs.Change.{rekey}
use Rattle.intmap.specs.Signed.{int_of}
use Rattle.std.specs.Prelude.{Ok, Err}
use Rattle.refusal.specs.Numbers.{number_of}
use Rattle.refusal.specs.declared.Refusal.{Refusal}
use Rattle.refusal.specs.declared.Refusal.TheVariants.{TooDeep}
use Rattle.intmap.specs.Get.{Index, index_of}
use Rattle.intmap.specs.Store.{put, judge_runs, Stored, Inserts, Removes, store_at, store_runs, remove_runs, Stores, RemovesAt}
use Rattle.intmap.specs.declared.IntMap.{IntMap}
use Rattle.intmap.proofs.StoreLaws.{frame_same, removed_map}

-- a run that is too deep, and one that is not
module _ (limit key depth : ℕ) (run : List Cell) (es : Runs) where
  store_deep : 8 < depth → refused 9 ≡ store_at limit key depth run es
  unfolding store_at judge_depth
  store_deep h = ap (λ (b : Bool). depth_if b run >>= λ v. judge_runs limit (put (rekey key v) es)) (sym (lt-leb depth 8 h))

  store_flat : depth ≤ 8 → judge_runs limit (put (rekey key run) es) ≡ store_at limit key depth run es
  unfolding store_at judge_depth
  store_flat h = ap (λ (b : Bool). depth_if b run >>= λ v. judge_runs limit (put (rekey key v) es)) (sym (le-leb depth 8 h))

-- ---- a store
module _ (cs ds : List Cell) (limit : ℕ) (m : IntMap) (class i depth : ℕ) (run : List Cell) (x : Index) (ix : index_of x ≡ index (int_of i)) where
  -- what is tried, once the index is known
  tried : (t : Tried ℕ) → index_of x ≡ t → (t >>= λ k. store_at limit (class_key class k) depth run (runs_at cs m)) ≡ store_runs limit class (int_of i) depth run (runs_at cs m)
  unfolding store_runs
  tried t e = ap (λ (y : Tried ℕ). y >>= λ k. store_at limit (class_key class k) depth run (runs_at cs m)) (sym e ∙ ix)

  pub store_bad : (n : Refusal) → x ≡ Err n → ds ≡ cs → Stores cs ds limit m class i depth run (Err n)
  store_bad n e s = record { answer = tried (refused (number_of n)) (ap index_of e); leaves = s; frame = frame_same cs ds m.base limit s }

  module _ (k : ℕ) (e : x ≡ Ok k) where
    pub store_nested : 8 < depth → ds ≡ cs → Stores cs ds limit m class i depth run (Err TooDeep)
    store_nested h s =
        record {
          answer = store_deep limit (class_key class k) depth run (runs_at cs m) h ∙ tried (done k) (ap index_of e);
          leaves = s;
          frame = frame_same cs ds m.base limit s;
        }

    pub store_tried : (key : ℕ) (new : List Cell) (r : Stored) → depth ≤ 8 → key ≡ class_key class k → new ≡ rekey key run → Inserts cs ds limit m new r → Stores cs ds limit m class i depth run r
    store_tried key new r h ke ne ins =
        let new' : put new (runs_at cs m) ≡ put (rekey (class_key class k) run) (runs_at cs m) = ap (λ (l : List Cell). put l (runs_at cs m)) (ne ∙ ap (λ (z : ℕ). rekey z run) ke) in
        record {
          answer = ins.answer ∙ ap (judge_runs limit) new' ∙ store_flat limit (class_key class k) depth run (runs_at cs m) h ∙ tried (done k) (ap index_of e);
          leaves = ins.leaves;
          frame = ins.frame;
        }

-- ---- a removal
module _ (cs ds : List Cell) (m : IntMap) (class i : ℕ) (x : Index) (ix : index_of x ≡ index (int_of i)) where
  taken : (t : Tried ℕ) → index_of x ≡ t → (t >>= λ k. done (swap (class_key class k) [] (runs_at cs m))) ≡ remove_runs class (int_of i) (runs_at cs m)
  unfolding remove_runs
  taken t e = ap (λ (y : Tried ℕ). y >>= λ k. done (swap (class_key class k) [] (runs_at cs m))) (sym e ∙ ix)

  pub removal_bad : (n : Refusal) → x ≡ Err n → ds ≡ cs → RemovesAt cs ds m class i (Err n)
  removal_bad n e s = record { answer = taken (refused (number_of n)) (ap index_of e); leaves = s; frame = frame_same cs ds m.base m.used s }

  pub removal_done : (k key : ℕ) (r : IntMap) → x ≡ Ok k → key ≡ class_key class k → IsMap cs m → Removes cs ds m key r → RemovesAt cs ds m class i (Ok r)
  removal_done k key r e ke is d =
      record {
        answer = ap done (d.runs ∙ ap (λ (z : ℕ). swap z [] (runs_at cs m)) ke) ∙ taken (done k) (ap index_of e);
        leaves = record { base = d.base; fewer = d.fewer; map = removed_map cs ds m key r is d };
        frame = d.frame;
      }

-- what a removal leaves has the room that there was
pub fewer_room : (cs ds : List Cell) (limit : ℕ) (m : IntMap) (class i : ℕ) (r : IntMap) → HasRoom cs limit m → RemovesAt cs ds m class i (Ok r) → HasRoom ds limit r
fewer_room cs ds limit m class i r has d =
    record {
      used = d.leaves.map.used;
      most = omega (arith, has.most, d.leaves.fewer);
      room = omega (arith, has.room, d.leaves.base, d.frame.long);
      small = d.leaves.map.small;
    }
