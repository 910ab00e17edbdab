-- Registers one after the other as columns, as MakeRecord and ResultRow read them: which reads are refused, which columns they are otherwise, of a
-- state and of runs; whether a record of them nests too deep, by the cells; and its run, built column after column. Assumes nothing.
use Rattle.state.specs.declared.registers.Registers.{Registers}
use Rattle.refusal.specs.Numbers.{number_of}
use Rattle.refusal.specs.declared.Refusal.{Refusal}
use Rattle.std.specs.Prelude.{◌≡◌, Bool, true, false, ℕ, zero, suc, ◌+◌, ◌-◌, ◌<◌, ◌≤◌, leb, ltb, length, get_or, ℤ, Some, Ok, Err, None, Result, Option}
use mathlib.Core.List.{List, [], ◌∷◌, flatten}
use Rattle.model.specs.Walk.{Tried, refused, done}
use Rattle.model.specs.IntMap.{get}
use Rattle.model.specs.State.{ColumnType, Record, Column, MemoryState, from_dense_record}
use Rattle.model.specs.Access.{register_column, read_columns, store_register}
use Rattle.area.specs.Cells.{blank}
use Rattle.area.specs.declared.Cell.{Cell}
use Rattle.intmap.specs.Pack.{key_of, class_key}
use Rattle.intmap.specs.Pick.{pick}
use Rattle.intmap.specs.Runs.{size, sizes}
use Rattle.intmap.specs.Depth.{nesting}
use Rattle.intmap.specs.Entries.{Runs, span, entries, total}
use Rattle.intmap.specs.Swap.{lookup}
use Rattle.intmap.specs.Map.{levels, runs_at, Frame}
use Rattle.intmap.specs.Change.{rekey, rekeyed}
use Rattle.intmap.specs.Signed.{int_of}
use Rattle.intmap.specs.declared.IntMap.{IntMap}
use Rattle.encoding.specs.Changes.{column_run}
use Rattle.encoding.specs.Encode.{columns_head}
use Rattle.encoding.specs.Holds.{Stands}
use Rattle.record_arms.specs.declared.Progress.{Progress}

-- ---- reads

-- n registers from k on, as columns: of a state, and of runs
unfoldable pub columns_from : ℕ → ℕ → MemoryState → List ColumnType
columns_from zero k m = []
columns_from (suc n) k m = register_column (get k m.r) ∷ columns_from n (suc k) m

unfoldable pub runs_from : ℕ → ℕ → Runs → Runs
runs_from zero k es = []
runs_from (suc n) k es = column_run (lookup (class_key 0 k) es) ∷ runs_from n (suc k) es

-- registers one after the other, judged: why they are refused, or which they are
abbrev pub Range : Type 0
Range = Result Registers Refusal

-- the definition's reads of n registers are refused, or they are these
abbrev pub TellsRange : MemoryState → ℕ → Range → Tried (List ColumnType) → Type 0
TellsRange m n (Err e) t = t ≡ refused (number_of e)
TellsRange m n (Ok r) t = t ≡ done (columns_from n r.first m)

-- there are n of them
abbrev pub AreMany : ℕ → Range → Type 0
AreMany n (Err e) = Unit {0}
AreMany n (Ok r) = r.count ≡ n

-- the first is number k
abbrev pub FirstIs : ℕ → Range → Type 0
FirstIs k (Err e) = ⊥
FirstIs k (Ok r) = r.first ≡ k

-- where none is read, the first is 0
pub record JudgesRange (i n : ℕ) (r : Range) : Type 0 where
  pub none : n ≡ 0 → FirstIs 0 r
  pub says : (m : MemoryState) → TellsRange m n r (read_columns n (int_of i) m)
  pub many : AreMany n r

-- ---- depth

-- the entry at `at` has a key from low on, and nests more than seven deep
unfoldable pub deep_at : List Cell → ℕ → ℕ → Bool
deep_at cs low at = pick (ltb (key_of (get_or cs at blank)) low) false (ltb 7 (nesting cs levels at))

-- one of n entries from `at` on does, before the first that has a key from high on: entries are in the order of their keys
unfoldable pub any_deep : List Cell → ℕ → ℕ → ℕ → ℕ → Bool
any_deep cs low high zero at = false
any_deep cs low high (suc n) at =
    pick (leb high (key_of (get_or cs at blank))) false
    (pick (deep_at cs low at) true (any_deep cs low high n (at + size cs levels at)))

-- ---- the record's run

-- the run of register k, if there is one, is as long one level lower, wherever it stands
abbrev pub Flat : ℕ → Runs → Type 0
Flat k es = (run : List Cell) → lookup (class_key 0 k) es ≡ Some run → (cs : List Cell) (p : ℕ) → Stands cs p run → size cs 8 p ≡ length run

-- the entries from `at` on lie below `to`, and there is room from there up to `end`; a run of register k is as long one level lower
pub record Puttable (cs : List Cell) (at left k to end : ℕ) : Type 0 where
  pub below : at + sizes (size cs levels) left at ≤ to
  pub ordered : to ≤ end
  pub fits : end ≤ length cs
  pub small : length cs ≤ 1048576
  pub flat : Flat k (entries cs levels left at)

-- the column of register k stands at `to` under a key, up to q
pub record Put (ds : List Cell) (es : Runs) (k key to end q : ℕ) : Type 0 where
  pub within : q ≤ end
  pub ends : to + size ds 8 to ≡ q
  pub run : span ds to (size ds 8 to) ≡ rekey key (column_run (lookup (class_key 0 k) es))

-- of the entries from `at` on, those from p on have each register after k
pub record Ahead (cs : List Cell) (at left k p l : ℕ) : Type 0 where
  pub below : p + sizes (size cs levels) l p ≤ at + sizes (size cs levels) left at
  pub same : (j : ℕ) → k < j → lookup (class_key 0 j) (entries cs levels l p) ≡ lookup (class_key 0 j) (entries cs levels left at)

-- the column of register k stands there, and the entries for the next are these; or there is no room for it
abbrev pub PutOr : List Cell → List Cell → ℕ → ℕ → ℕ → ℕ → ℕ → ℕ → Option Progress → Type 0
PutOr cs ds at left k key to end None = end < to + length (column_run (lookup (class_key 0 k) (entries cs levels left at)))
PutOr cs ds at left k key to end (Some w) = Put ds (entries cs levels left at) k key to end w.to × Ahead cs at left k w.at w.left

pub record PutsColumn (cs ds : List Cell) (at left k key to end : ℕ) (r : Option Progress) : Type 0 where
  pub answer : PutOr cs ds at left k key to end r
  pub frame : Frame cs ds to (end - to)

-- the columns of n registers from k on stand at `low` under the keys from 0 on, up to q; or there is no room for them
pub record Laid (ds : List Cell) (es : Runs) (k n low end q : ℕ) : Type 0 where
  pub within : q ≤ end
  pub ends : low + sizes (size ds 8) n low ≡ q
  pub runs : entries ds 8 n low ≡ rekeyed 0 (runs_from n k es)

abbrev pub LaidOr : List Cell → Runs → ℕ → ℕ → ℕ → ℕ → Option ℕ → Type 0
LaidOr ds es k n low end None = end < low + total (runs_from n k es)
LaidOr ds es k n low end (Some q) = Laid ds es k n low end q

pub record PutsColumns (cs ds : List Cell) (es : Runs) (k n low end : ℕ) (r : Option ℕ) : Type 0 where
  pub answer : LaidOr ds es k n low end r
  pub frame : Frame cs ds low (end - low)

-- the record of n registers from k on stands at p, not beyond `end`; or it takes more than limit cells
pub record Built (ds : List Cell) (es : Runs) (k n low end p : ℕ) : Type 0 where
  pub above : low ≤ p
  pub ends : p + size ds levels p ≤ end
  pub run : span ds p (size ds levels p) ≡ columns_head n 0 0 ∷ flatten (rekeyed 0 (runs_from n k es))

abbrev pub BuiltOr : List Cell → Runs → ℕ → ℕ → ℕ → ℕ → ℕ → Option ℕ → Type 0
BuiltOr ds es k n limit low end None = limit ≤ total (runs_from n k es)
BuiltOr ds es k n limit low end (Some p) = Built ds es k n low end p

pub record BuildsRecord (cs ds : List Cell) (a : IntMap) (k n limit : ℕ) (r : Option ℕ) : Type 0 where
  pub answer : BuiltOr ds (runs_at cs a) k n limit (a.base + limit) (a.base + limit + limit) r
  pub frame : Frame cs ds (a.base + limit) limit

-- ---- the arm, from a register on

unfoldable pub record_from : ℕ → ℕ → ℕ → ℤ → MemoryState → Tried MemoryState
record_from limit n k i m = store_register limit i (Column (Record (from_dense_record (columns_from n k m)))) m
