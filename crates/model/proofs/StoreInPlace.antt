-- Where the Rust inserts over a register that is present, and the new value is plain (IsNull, NotNull, IfPos), the definition changes it in place
-- and judges the index only. That is the judged store: on a good state depth and cells cannot fail. Assumes nothing.
use mathlib.Core.Path.{◌≡◌, refl, ap, ◌∙◌}
use Rattle.std.specs.Prelude.{Some}
use Prim.Native.Nat.{ℕ, ◌≤◌}
use borrow.Author.Tests.{le-leb}
use lib.IntN.{ℤ}
use Rattle.model.specs.Walk.{Tried, refused, done}
use Rattle.model.specs.IntMap.{get, insert, update}
use Rattle.model.specs.State.{RegDataType, MemoryState}
use Rattle.model.specs.Cells.{register_cells, cells, register_depth}
use Rattle.model.specs.Access.{◌>>=◌, index, depth_if, judge_depth, cells_if, judge_cells, with_registers, read_register, store_register, update_register}
use Rattle.model.specs.Good.{GoodRegister, Good}
use Rattle.model.proofs.IntMap.{insert_present}
use Rattle.model.proofs.InPlace.{NeverLarger}
use Rattle.model.proofs.Tried.{kept}
use Rattle.model.proofs.Access.{update_register_good, read_register_good}

pub depth_passes : {A : Type 0} (d : ℕ) (v : A) → d ≤ 8 → judge_depth d v ≡ done v
unfolding judge_depth
depth_passes d v h = ap (λ t. depth_if t v) (le-leb d 8 h)

pub cells_pass : (limit : ℕ) (m : MemoryState) → cells m ≤ limit → judge_cells limit m ≡ done m
unfolding judge_cells
cells_pass limit m h = ap (λ t. cells_if t m) (le-leb (cells m) limit h)

module _ {limit : ℕ} {m : MemoryState} (g : Good limit m) (i : ℤ) (v w : RegDataType) (no_larger : NeverLarger register_cells GoodRegister (λ _. w)) where
  pub store_in_place : read_register i m ≡ done (Some v) → store_register limit i w m ≡ update_register i (λ _. w) m
  unfolding read_register store_register update_register
  store_in_place present = go (index i) present (kept (read_register_good g i) present) (λ s e. kept (update_register_good g i (λ _. w) no_larger) e)
    where
      go :
          (t : Tried ℕ) →
          (t >>= λ k. done (get k m.r)) ≡ done (Some v) →
          GoodRegister v →
          ((s : MemoryState) → (t >>= λ k. done (with_registers (update k (λ _. w) m.r) m)) ≡ done s → Good limit s) →
          (t >>= λ k. judge_depth (register_depth w) w >>= λ u. judge_cells limit (with_registers (insert k u m.r) m))
          ≡ (t >>= λ k. done (with_registers (update k (λ _. w) m.r) m))
      go (refused k) e p after = refl
      go (done k) e p after =
          ap (λ t. t >>= λ u. judge_cells limit (with_registers (insert k u m.r) m)) (depth_passes (register_depth w) w ((no_larger v).good p).depth)
          ∙ ap (λ es. judge_cells limit (with_registers es m)) (insert_present (λ j u. (j ≤ 65535) × GoodRegister u) k w v 0 m.r g.registers there)
          ∙ cells_pass limit _ (after _ refl).fits
        where
          there : get k m.r ≡ Some v
          there = cc
