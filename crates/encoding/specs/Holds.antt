-- When cells hold a state: `len` entries from `base` on, of `used` cells, are the state's runs; the state is good, and its numbers are small
-- enough for their words. Numbers grow with the walk, so their bound is a parameter, and so is the limit of cells. And when they hold the state
-- that an access answers. Assumes nothing.
use Rattle.std.specs.Prelude.{◌≡◌, List, ℕ, ◌≤◌, length}
use Rattle.model.specs.Walk.{Tried, done}
use Rattle.model.specs.IntMap.{Rising}
use Rattle.model.specs.State.{RegDataType, Column, Int, CursorDataType, Normal, Pseudo, MemoryState}
use Rattle.model.specs.Good.{Good}
use Rattle.area.specs.declared.Cell.{Cell}
use Rattle.intmap.specs.Runs.{size, sizes}
use Rattle.intmap.specs.Entries.{span, entries}
use Rattle.intmap.specs.Signed.{Small}
use Rattle.encoding.specs.Encode.{runs_of}

-- these cells stand at `at`
abbrev pub Stands : List Cell → ℕ → List Cell → Type 0
Stands cs at run = span cs at (length run) ≡ run

abbrev pub SmallRegister : ℕ → RegDataType → Type 0
SmallRegister bound (Column c) = Unit {0}
SmallRegister bound (Int i) = Small bound i

abbrev pub SmallCursor : ℕ → CursorDataType → Type 0
SmallCursor bound (Normal row) = Unit {0}
SmallCursor bound (Pseudo i) = Small bound i

-- 2^62: a word has room to spare
abbrev pub largest : ℕ
largest = 4611686018427387904

pub record SmallNumbers (bound : ℕ) (m : MemoryState) : Type 0 where
  pub registers : Rising (λ k v. SmallRegister bound v) 0 m.r
  pub cursors : Rising (λ k v. SmallCursor bound v) 0 m.p
  pub bounded : bound ≤ largest

pub record Holds (limit bound : ℕ) (cs : List Cell) (base len used : ℕ) (m : MemoryState) : Type 0 where
  pub runs : entries cs 9 len base ≡ runs_of m
  pub takes : used ≡ sizes (size cs 9) len base
  pub good : Good limit m
  pub small : SmallNumbers bound m

-- the state that was answered is held
pub record HeldNext (limit bound : ℕ) (cs : List Cell) (base len used : ℕ) (t : Tried MemoryState) : Type 0 where
  pub state : MemoryState
  pub answer : t ≡ done state
  pub holds : Holds limit bound cs base len used state
