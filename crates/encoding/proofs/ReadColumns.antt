-- Registers read as columns: of the runs of a good state, and of cells that hold it, these are the runs of what the definition reads, with the
-- same refusals; and under the keys 0, 1, 2, ... they are the columns of the record that is made of them. From `Accesses` and `Dense`.
-- Assumes nothing.
use mathlib.Core.Path.{◌≡◌, refl, sym, ap, ◌∙◌}
use Rattle.std.specs.Prelude.{Option, None, Some, option_map}
use mathlib.Core.List.{List, ◌∷◌, map}
use Prim.Native.Nat.{ℕ, zero, suc}
use lib.IntN.{ℤ, suc_ℤ}
use Rattle.model.specs.Walk.{Tried, refused, done}
use Rattle.model.specs.State.{ColumnType, RegDataType, MemoryState, from_dense_record}
use Rattle.model.specs.Offer.{turns}
use Rattle.model.specs.Access.{◌>>=◌, read_register, register_column, read_columns}
use Rattle.model.specs.Good.{SortedColumn, Each, Good}
use Rattle.model.proofs.Tried.{kept}
use Rattle.model.proofs.Access.{read_columns_good}
use Rattle.area.specs.declared.Cell.{Cell}
use Rattle.intmap.specs.Pack.{class_key}
use Rattle.intmap.specs.Entries.{Runs, entries}
use Rattle.intmap.specs.Change.{rekeyed}
use Rattle.encoding.specs.Encode.{run_column, column_runs, run_register, runs_of}
use Rattle.encoding.specs.Answers.{map_tried}
use Rattle.encoding.specs.Changes.{column_run, read_column_runs}
use Rattle.encoding.specs.Holds.{Holds}
use Rattle.encoding.proofs.Dense.{register_as_column, dense_runs}
use Rattle.encoding.proofs.Accesses.{register_read}

column_run_lem : (key : ℕ) (o : Option RegDataType) → column_run (option_map (run_register key) o) ≡ run_column 0 (register_column o)
column_run_lem key None = refl
column_run_lem key (Some v) = register_as_column v key 0

-- one more before the others
one_more : (key : ℕ) (t : Tried (Option RegDataType)) (u : Tried (List ColumnType))
    → (map_tried (option_map (run_register key)) t >>= λ r. map_tried (map (run_column 0)) u >>= λ rs. done (column_run r ∷ rs))
    ≡ map_tried (map (run_column 0)) (t >>= λ v. u >>= λ cs. done (register_column v ∷ cs))
one_more key (refused n) u = refl
one_more key (done v) (refused n) = refl
one_more key (done v) (done cs) = ap (λ r. done (r ∷ map (run_column 0) cs)) (column_run_lem key v)

pub read-columns : (limit : ℕ) (m : MemoryState) → Good limit m → (n : ℕ) (i : ℤ) → read_column_runs n i (runs_of m) ≡ map_tried (map (run_column 0)) (read_columns n i m)
unfolding read_column_runs read_columns
read-columns limit m good zero i = refl
read-columns limit m good (suc n) i =
    ap (λ t. t >>= λ r. read_column_runs n (suc_ℤ i) (runs_of m) >>= λ rs. done (column_run r ∷ rs)) (register_read limit m good i)
    ∙ ap (λ u. map_tried (option_map (run_register (class_key 0 (turns i)))) (read_register i m) >>= λ r. u >>= λ rs. done (column_run r ∷ rs)) (read-columns limit m good n (suc_ℤ i))
    ∙ one_more (class_key 0 (turns i)) (read_register i m) (read_columns n (suc_ℤ i) m)

-- columns that were read, and the runs of the record made of them
pub record ColumnsRead (rs : Runs) (t : Tried (List ColumnType)) : Type 0 where
  pub columns : List ColumnType
  pub answer : t ≡ done columns
  pub are : rs ≡ map (run_column 0) columns
  pub dense : column_runs (from_dense_record columns) ≡ rekeyed 0 rs
  pub sorted : Each SortedColumn columns

module _ {limit bound : ℕ} {cs : List Cell} {base len used : ℕ} {m : MemoryState} (holds : Holds limit bound cs base len used m) (n : ℕ) (i : ℤ) where
  same : map_tried (map (run_column 0)) (read_columns n i m) ≡ read_column_runs n i (entries cs 9 len base)
  same = sym (ap (read_column_runs n i) holds.runs ∙ read-columns limit m holds.good n i)

  pub told_columns : (rs : Runs) → read_column_runs n i (entries cs 9 len base) ≡ done rs → ColumnsRead rs (read_columns n i m)
  told_columns rs e = go (read_columns n i m) refl (same ∙ e)
    where
      go : (t : Tried (List ColumnType)) → read_columns n i m ≡ t → map_tried (map (run_column 0)) t ≡ done rs → ColumnsRead rs (read_columns n i m)
      go (refused k) is e = cc
      go (done x) is e =
          let are : rs ≡ map (run_column 0) x = cc in
          record { columns = x; answer = is; are = are; dense = dense_runs 0 x ∙ ap (rekeyed 0) (sym are); sorted = kept (read_columns_good holds.good n i) is }

  pub columns_refused : (k : ℕ) → read_column_runs n i (entries cs 9 len base) ≡ refused k → read_columns n i m ≡ refused k
  columns_refused k e = go (read_columns n i m) (same ∙ e)
    where
      go : (t : Tried (List ColumnType)) → map_tried (map (run_column 0)) t ≡ refused k → t ≡ refused k
      go (refused j) e = cc
      go (done x) e = cc
