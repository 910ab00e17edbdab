-- What a store of an entry that the map has leads to, and the turns of Copy and Move. Assumes nothing.
use Rattle.intmap.specs.Store.{Stored}
use Rattle.std.specs.Prelude.{◌≡◌, Bool, true, false, List, ℕ, ◌+◌, ◌≤◌, ℤ, Option}
use Rattle.model.specs.Walk.{Tried}
use Rattle.model.specs.State.{RegDataType, MemoryState, map_to_columntype}
use Rattle.model.specs.Access.{◌>>=◌, read_register, store_register}
use Rattle.model.specs.Cells.{register_depth}
use Rattle.model.specs.Good.{SortedColumn}
use Rattle.model.specs.RegisterArms.{store_some, copy_many, move_some, move_many}
use Rattle.area.specs.declared.Cell.{Cell}
use Rattle.intmap.specs.Map.{Frame}
use Rattle.intmap.specs.Signed.{int_of}
use Rattle.intmap.specs.declared.IntMap.{IntMap}
use Rattle.encoding.specs.Encode.{run_register}
use Rattle.encoding.specs.Holds.{SmallRegister}
use Rattle.state.specs.Leads.{HoldsMap, Tells, Leaves}
use Rattle.state.specs.Over.{headed}

-- the entry at `at` with c for its head, of as many columns, is stored in register j: of every value whose run it is, the answer is that of the
-- definition's store
pub record StoresFrom (limit : ℕ) (cs ds : List Cell) (a : IntMap) (at : ℕ) (c : Cell) (j : ℕ) (r : Stored) : Type 0 where
  pub says : (bound : ℕ) (m : MemoryState) → HoldsMap limit bound cs a m → (key : ℕ) (v : RegDataType) → register_depth v ≤ 9 → SortedColumn (map_to_columntype v) → SmallRegister bound v → headed cs at c ≡ run_register key v → Tells limit bound ds r (store_register limit (int_of j) v m)
  pub leaves : Leaves limit ds a r
  pub frame : Frame cs ds a.base (limit + limit)

-- Copy and Move are one loop, and `moves` says which: what a turn does with the value of register i, where Move leaves null
abbrev pub carry_some : ℕ → Bool → ℤ → ℤ → Option RegDataType → MemoryState → Tried MemoryState
carry_some limit false i j v m = store_some limit j (λ u. u) v m
carry_some limit true i j v m = move_some limit i j v m

-- one turn, and n of them
unfoldable pub carry_one : ℕ → Bool → ℤ → ℤ → MemoryState → Tried MemoryState
carry_one limit moves i j m = read_register i m >>= λ v. carry_some limit moves i j v m

unfoldable pub carry_many : ℕ → Bool → ℕ → ℤ → ℤ → MemoryState → Tried MemoryState
carry_many limit false n i j m = copy_many limit n i j m
carry_many limit true n i j m = move_many limit n i j m
