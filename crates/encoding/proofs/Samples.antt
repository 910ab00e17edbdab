-- A small state and its cells: a register with a record of two columns, one with the number −1, a cursor and its table of one column.
-- Assumes nothing.
use mathlib.Core.Path.{◌≡◌, refl}
use mathlib.Core.Bool.{true, false}
use Rattle.std.specs.Prelude.{None, Some}
use mathlib.Core.List.{[], ◌∷◌, flatten}
use lib.IntN.{pos, negsuc}
use Rattle.type_info.specs.declared.DataType.TheVariants.{Null, Integer, Text}
use Rattle.model.specs.IntMap.{◌⇒◌}
use Rattle.model.specs.State.{Single, Record, end, entry, Column, Int, Normal, MemoryState}
use Rattle.area.specs.Cells.{cell}
use Rattle.intmap.specs.Entries.{Runs}
use Rattle.encoding.specs.Encode.{run_column, run_register, run_cursor, run_table, run_map, runs_of}

sample : MemoryState
sample =
    record {
      program_i = pos 8;
      r = 3 ⇒ Column (Record (entry 0 (Single Text (Some false)) (entry 2 (Single Null None) end))) ∷ 5 ⇒ Int (negsuc 0) ∷ [];
      p = 0 ⇒ Normal 7 ∷ [];
      t = 7 ⇒ record { cols = entry 0 (Single Integer None) end; is_empty = Some true } ∷ [];
    }

sample-runs : Runs
sample-runs =
    (cell 1099561959426 2 ∷ cell 66305 0 ∷ cell 33554433 0 ∷ [])
    ∷ (cell 1099595513859 9223372036854775807 ∷ [])
    ∷ (cell 2199023255556 7 ∷ [])
    ∷ (cell 3298652454914 1 ∷ cell 257 0 ∷ [])
    ∷ []

sample-is : runs_of sample ≡ sample-runs
unfolding sample sample-runs runs_of run_map run_register run_cursor run_table run_column flatten
sample-is = refl
