-- Stores of a run that stands among the cells which hold the state: its depth is read by place, and its length. From `Nesting`, `Standing` and
-- `HeldAfter`. Assumes nothing.
use mathlib.Core.Path.{◌≡◌, sym, ap, ap₂, subst, ◌∙◌}
use mathlib.Core.List.{List}
use Prim.Native.Nat.{ℕ, ◌-◌, ◌≤◌}
use native.Mathlib.Omega.{arith}
use lib.IntN.{ℤ}
use Rattle.model.specs.State.{RegDataType, Column, Int, TableDataType, MemoryState, map_to_columntype}
use Rattle.model.specs.Cells.{register_cells, table_cells, columns_depth, register_depth}
use Rattle.model.specs.Access.{store_register, store_table}
use Rattle.model.specs.Good.{SortedColumn, SortedColumns}
use Rattle.area.specs.declared.Cell.{Cell}
use Rattle.intmap.specs.Pack.{class_key}
use Rattle.intmap.specs.Runs.{size}
use Rattle.intmap.specs.Depth.{nesting}
use Rattle.intmap.specs.Store.{store_at, store_runs}
use Rattle.intmap.specs.Entries.{span, entries}
use Rattle.encoding.specs.Encode.{run_register, run_table}
use Rattle.encoding.specs.Holds.{Stands, SmallRegister, Holds}
use Rattle.encoding.proofs.Standing.{Whole, column_whole, register_whole, table-whole}
use Rattle.encoding.proofs.Nesting.{register_nesting, table-nesting}
use Rattle.encoding.proofs.HeldAfter.{Carried, held_register, held_table}

-- a record made of good columns may nest nine deep before it is judged
made-whole : (v : RegDataType) (key : ℕ) → register_depth v ≤ 9 → Whole 9 (run_register key v)
made-whole (Column c) key h = unfold run_register in column_whole c 9 key (unfold register_depth in h)
made-whole (Int i) key h = register_whole (Int i) key (unfold register_depth in omega arith)

run-there : (cs : List Cell) (p : ℕ) (run : List Cell) → Whole 9 run → Stands cs p run → span cs p (size cs 9 p) ≡ run
run-there cs p run whole e = ap (span cs p) (whole cs p e) ∙ e

module _ {limit bound : ℕ} {cs : List Cell} {base len used : ℕ} {m : MemoryState} (holds : Holds limit bound cs base len used m) (p key : ℕ) where
  pub held_register_from : (i : ℤ) (v : RegDataType) → Stands cs p (run_register key v) → register_depth v ≤ 9 → (register_cells v ≤ limit → SortedColumn (map_to_columntype v)) → SmallRegister bound v → Carried limit bound (store_runs limit 0 i (nesting cs 9 p) (span cs p (size cs 9 p)) (entries cs 9 len base)) (store_register limit i v m)
  held_register_from i v e deep sorted s =
      subst (λ u. Carried limit bound u (store_register limit i v m))
      (sym (ap₂ (λ d r. store_runs limit 0 i d r (entries cs 9 len base)) (register_nesting v cs p 9 key deep e) (run-there cs p (run_register key v) (made-whole v key deep) e)))
      (held_register holds i key v sorted s)

  -- a table is no nesting level
  pub held_table_from : (row : ℕ) (t : TableDataType) → row ≤ 65535 → Stands cs p (run_table key t) → columns_depth t.cols ≤ 8 → (table_cells t ≤ limit → SortedColumns t.cols 0) → Carried limit bound (store_at limit (class_key 2 row) (nesting cs 9 p - 1) (span cs p (size cs 9 p)) (entries cs 9 len base)) (store_table limit row t m)
  held_table_from row t h e deep sorted =
      let d : nesting cs 9 p - 1 ≡ columns_depth t.cols = omega (arith, table-nesting t cs p 9 key (omega arith) e) in
      subst (λ u. Carried limit bound u (store_table limit row t m))
      (sym (ap₂ (λ d r. store_at limit (class_key 2 row) d r (entries cs 9 len base)) d (run-there cs p (run_table key t) (table-whole t key deep) e)))
      (held_table holds row h key t sorted)
