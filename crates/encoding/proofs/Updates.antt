-- What a read tells of a change in place: of a value that is there, and becomes no larger, it is a store of the changed value; of one that the
-- change leaves as it is, or of none, it leaves the state as it is; and a refusal stays. So with a value that changes its size the change may be
-- made by a store. From model's `Access`. Assumes nothing.
use mathlib.Core.Path.{◌≡◌, refl, sym, ap, subst, ◌∙◌}
use Rattle.std.specs.Prelude.{Option, Some}
use Prim.Native.Nat.{ℕ, ◌≤◌}
use lib.IntN.{ℤ}
use Rattle.model.specs.Walk.{Tried, refused, done}
use Rattle.model.specs.IntMap.{get, insert, update}
use Rattle.model.specs.State.{RegDataType, TableDataType, MemoryState}
use Rattle.model.specs.Cells.{register_cells, register_depth}
use Rattle.model.specs.Access.{◌>>=◌, index, judge_depth, judge_cells, with_registers, with_tables, read_register, store_register, update_register, update_table}
use Rattle.model.specs.Good.{GoodRegister, Good, OnSome}
use Rattle.model.proofs.Tried.{kept}
use Rattle.model.proofs.InPlace.{NeverLarger}
use Rattle.model.proofs.Access.{read_register_good, update_register_good}
use Rattle.model.proofs.StoreInPlace.{depth_passes, cells_pass}
use Rattle.encoding.proofs.MapRuns.{update_present, update_fixed}

module _ {limit : ℕ} {m : MemoryState} (good : Good limit m) (i : ℤ) (f : RegDataType → RegDataType) where
  pub update_stored : (v : RegDataType) → read_register i m ≡ done (Some v) → NeverLarger register_cells GoodRegister f → update_register i f m ≡ store_register limit i (f v) m
  unfolding read_register store_register update_register
  update_stored v present no_larger = go (index i) present ((no_larger v).good (kept (read_register_good good i) present)) (λ s e. kept (update_register_good good i f no_larger) e)
    where
      go : (t : Tried ℕ) → (t >>= λ k. done (get k m.r)) ≡ done (Some v) → GoodRegister (f v)
          → ((s : MemoryState) → (t >>= λ k. done (with_registers (update k f m.r) m)) ≡ done s → Good limit s)
          → (t >>= λ k. done (with_registers (update k f m.r) m))
          ≡ (t >>= λ k. judge_depth (register_depth (f v)) (f v) >>= λ w. judge_cells limit (with_registers (insert k w m.r) m))
      go (refused n) e p after = refl
      go (done k) e p after =
          sym (
          ap (λ t. t >>= λ w. judge_cells limit (with_registers (insert k w m.r) m)) (depth_passes (register_depth (f v)) (f v) p.depth)
          ∙ ap (λ es. judge_cells limit (with_registers es m)) (sym (update_present (λ j u. (j ≤ 65535) × GoodRegister u) k f v 0 m.r good.registers cc))
          ∙ cells_pass limit _ (after _ refl).fits
          )

  pub update_kept : (o : Option RegDataType) → read_register i m ≡ done o → OnSome (λ v. f v ≡ v) o → update_register i f m ≡ done m
  unfolding read_register update_register
  update_kept o read same = go (index i) read
    where
      go : (t : Tried ℕ) → (t >>= λ k. done (get k m.r)) ≡ done o → (t >>= λ k. done (with_registers (update k f m.r) m)) ≡ done m
      go (refused n) e = cc
      go (done k) e =
          let is : o ≡ get k m.r = cc in
          ap (λ r. done (with_registers r m)) (update_fixed (λ j u. (j ≤ 65535) × GoodRegister u) k f 0 m.r good.registers (subst (OnSome (λ v. f v ≡ v)) is same))

  pub update_refused : (n : ℕ) → read_register i m ≡ refused n → update_register i f m ≡ refused n
  unfolding read_register update_register
  update_refused n read = go (index i) read
    where
      go : (t : Tried ℕ) → (t >>= λ k. done (get k m.r)) ≡ refused n → (t >>= λ k. done (with_registers (update k f m.r) m)) ≡ refused n
      go (refused k) e = cc
      go (done k) e = cc

pub table_kept : {limit : ℕ} {m : MemoryState} → Good limit m → (row : ℕ) (f : TableDataType → TableDataType) → OnSome (λ t. f t ≡ t) (get row m.t) → update_table row f m ≡ m
unfolding update_table
table_kept {m = m} good row f h = ap (λ t. with_tables t m) (update_fixed _ row f 0 m.t good.tables h)
