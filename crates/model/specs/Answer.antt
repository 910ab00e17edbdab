-- An answer: what is printed of an answered walk. 01, "Sample runs": "columns is the width of the widest row counted (0 with none), charged the
-- units spent, the next three the counts". Assumes nothing.
use Rattle.std.specs.Prelude.{List, ℕ}
use Rattle.model.specs.Walk.{Tried, refused, done, Notes, Walked, refused_with, answered}
use Rattle.model.specs.State.{MemoryState}
use Rattle.model.specs.Results.{ResultColumn, ResultRow, columns_of}

pub record Answer : Type 0 where
  pub charged : ℕ
  pub loopstops : ℕ
  pub gasstops : ℕ
  pub repeats : ℕ
  pub columns : List ResultColumn

abbrev pub answer_of : Notes MemoryState ResultRow → Answer
answer_of n =
    record { charged = n.charged; loopstops = n.loopstops; gasstops = n.gasstops; repeats = n.repeats; columns = columns_of n.counted }

-- a refused walk has no answer
unfoldable pub outcome_of : Walked MemoryState ResultRow → Tried Answer
outcome_of (refused_with k n) = refused k
outcome_of (answered n) = done (answer_of n)
