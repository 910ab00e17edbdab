-- Registers that are absent, side by side: a copy or a move of them does nothing. Assumes nothing.
use Rattle.std.specs.Prelude.{◌≡◌, List, ℕ, zero, suc, ◌<◌, ◌≤◌, ℤ, Option, None, Some}
use Rattle.std.proofs.Math.IntN.{suc_ℤ}
use Rattle.model.specs.Walk.{Tried, refused, done}
use Rattle.model.specs.State.{RegDataType, MemoryState}
use Rattle.model.specs.Access.{read_register}
use Rattle.area.specs.declared.Cell.{Cell}
use Rattle.intmap.specs.Map.{runs_at}
use Rattle.intmap.specs.Pack.{class_key}
use Rattle.intmap.specs.Signed.{int_of}
use Rattle.intmap.specs.Swap.{lookup}
use Rattle.intmap.specs.declared.IntMap.{IntMap}
use Rattle.state.specs.Leads.{HoldsMap}

-- r is the first register from k on that the map has, or 65,536 if it has none
pub record Next (cs : List Cell) (a : IntMap) (k r : ℕ) : Type 0 where
  pub from : k ≤ r
  pub upto : r ≤ 65536
  pub absent : (i : ℕ) → k ≤ i → i < r → lookup (class_key 0 i) (runs_at cs a) ≡ None
  pub present : r < 65536 → lookup (class_key 0 r) (runs_at cs a) ≡ None → ⊥

-- how many of n registers from i on are absent before the first that is present or whose read is refused
abbrev pub gap_if : Tried (Option RegDataType) → ℕ → ℕ
gap_if (refused k) rest = 0
gap_if (done None) rest = suc rest
gap_if (done (Some v)) rest = 0

unfoldable pub gap : ℕ → ℤ → MemoryState → ℕ
gap zero i m = 0
gap (suc n) i m = gap_if (read_register i m) (gap n (suc_ℤ i) m)

-- r is that many in every state that the map holds, and never more than n
pub record Gap (cs : List Cell) (a : IntMap) (i n r : ℕ) : Type 0 where
  pub most : r ≤ n
  pub says : (limit bound : ℕ) (m : MemoryState) → HoldsMap limit bound cs a m → r ≡ gap n (int_of i) m
