-- An empty record stored in a register. Assumes nothing.
use Rattle.refusal.specs.declared.Refusal.TheVariants.{TooManyCells}
use Rattle.refusal.specs.declared.Refusal.{Refusal}
use Rattle.std.specs.Prelude.{Ok, Err}
use mathlib.Core.Path.{◌≡◌, refl, sym, ap, ◌∙◌}
use mathlib.Core.List.{List, [], ◌∷◌, flatten}
use Prim.Native.Nat.{ℕ, ◌+◌, ◌≤◌}
use native.Mathlib.Omega.{arith}
use lib.ListN.{set}
use borrow.Author.Tests.{lt-leb}
use Rattle.model.specs.Walk.{Tried}
use Rattle.model.specs.IntMap.{insert}
use Rattle.model.specs.State.{Record, end, RegDataType, Column, MemoryState}
use Rattle.model.specs.Cells.{column_cells, register_cells, cells, column_depth, register_depth}
use Rattle.model.specs.Access.{◌>>=◌, judge_depth, cells_if, judge_cells, with_registers, store_register}
use Rattle.model.specs.Good.{SortedColumn}
use Rattle.model.proofs.IntMap.{total_insert}
use Rattle.area.specs.Cells.{cell}
use Rattle.area.specs.declared.Cell.{Cell}
use Rattle.intmap.specs.Depth.{nesting}
use Rattle.intmap.specs.Entries.{span}
use Rattle.intmap.specs.Get.{index_of, Judges, Index}
use Rattle.intmap.specs.Map.{levels, HasRoom}
use Rattle.intmap.specs.Runs.{size}
use Rattle.intmap.specs.Signed.{int_of}
use Rattle.intmap.specs.Store.{Stores, RunAbove, Stored}
use Rattle.intmap.specs.declared.IntMap.{IntMap}
use Rattle.encoding.specs.Encode.{run_column, run_register}
use Rattle.encoding.specs.Holds.{Stands}
use Rattle.encoding.proofs.Standing.{column_whole}
use Rattle.state.specs.Leads.{Current, Leads}
use Rattle.state.proofs.LeadsLaws.{unchanged}
use Rattle.copy_arms.proofs.RunLaws.{Written, written, above_room, stored_leaves, stored_frame, stored_tells}

abbrev nothing : RegDataType
nothing = Column (Record end)

module _ (limit : ℕ) (cs : List Cell) (a : IntMap) (j : ℕ) (x : Index) (judges : Judges j x) where
  abbrev judged : MemoryState → Tried ℕ → Tried MemoryState
  judged m t = t >>= λ k. judge_depth (register_depth nothing) nothing >>= λ v. judge_cells limit (with_registers (insert k v m.r) m)

  pub empty_bad : (n : Refusal) → x ≡ Err n → Leads limit cs cs a (Err n) (store_register limit (int_of j) (Column (Record end)))
  unfolding store_register
  empty_bad n e = record { says = λ bound m le h. ap (judged m) (sym judges.answer ∙ ap index_of e); leaves = tt; frame = unchanged cs _ _ }

  -- there is no room for its one cell
  pub empty_full : (k : ℕ) → x ≡ Ok k → limit ≡ 0 → Leads limit cs cs a (Err TooManyCells) (store_register limit (int_of j) (Column (Record end)))
  unfolding store_register judge_depth judge_cells cells register_cells column_cells register_depth column_depth
  empty_full k e z =
      record {
        says = λ bound m le h.
            ap (judged m) (sym judges.answer ∙ ap index_of e)
            ∙ ap (λ b. cells_if b (with_registers (insert k nothing m.r) m))
            (lt-leb (cells (with_registers (insert k nothing m.r) m)) limit (omega (arith, total_insert register_cells k nothing m.r)));
        leaves = tt;
        frame = unchanged cs _ _;
      }

module _ (limit : ℕ) (cs fs : List Cell) (a : IntMap) (current : Current limit cs a) (some-room : limit ≡ 0 → ⊥) (is : fs ≡ set cs (a.base + limit) (cell 2 0)) where
  empty_put : Written limit cs cs fs a (cell 2 0)
  empty_put = written limit cs cs fs a (cell 2 0) current (omega arith) (λ i lt. refl) (unchanged cs _ _) is

  empty_stands : Stands fs (a.base + limit) (run_column 0 (Record end))
  unfolding span run_column flatten
  empty_stands = ap (λ c. c ∷ []) empty_put.here

  shallow : column_depth (Record end) ≤ 9
  unfolding column_depth
  shallow = omega arith

  sorted_end : SortedColumn (Record end)
  unfolding SortedColumn
  sorted_end = tt

  empty_size : size fs levels (a.base + limit) ≡ 1
  unfolding run_column flatten
  empty_size = column_whole (Record end) 9 0 shallow fs (a.base + limit) empty_stands

  pub empty_room : HasRoom fs limit a
  empty_room = empty_put.room

  pub empty_above : RunAbove fs limit a (a.base + limit) (size fs levels (a.base + limit))
  empty_above = above_room limit fs a (omega (arith, empty_size, empty_put.frame.long, current.scratch))

  pub empty_stored : (ds : List Cell) (j : ℕ) (r : Stored) → Stores fs ds limit a 0 j (nesting fs levels (a.base + limit)) (span fs (a.base + limit) (size fs levels (a.base + limit))) r → Leads limit cs ds a r (store_register limit (int_of j) (Column (Record end)))
  unfolding run_register register_depth
  empty_stored ds j r st =
      record {
        says = λ bound m le h. stored_tells empty_put ds j r st bound m h 0 nothing shallow sorted_end tt empty_stands;
        leaves = stored_leaves empty_put ds j r st;
        frame = stored_frame empty_put ds j r st;
      }
