-- Text written over a buffer, from a place on: what the buffer holds then, and how much there is to write. Assumes nothing.
use Rattle.std.specs.Prelude.{◌≡◌, List, ◌++◌, ℕ, ◌+◌, ◌≤◌, length, take, drop}
use Rattle.answer.specs.declared.Writer.{Writer}

-- the buffer with the text from `at` on
unfoldable pub patch : List ℕ → ℕ → List ℕ → List ℕ
patch out at text = (take at out ++ text) ++ drop (at + length text) out

-- the text fits where the writer is
pub record Room (w : Writer) (text : List ℕ) : Type 0 where
  pub fits : w.at + length text ≤ length w.out.now

-- it was written there, into the same buffer, and the writer is where it ends
pub record Put (w v : Writer) (text : List ℕ) : Type 0 where
  pub same_buffer : v.out.ghost_name ≡ w.out.ghost_name
  pub is : v.out.now ≡ patch w.out.now w.at text
  pub next : v.at ≡ w.at + length text

-- r is its length, which is at most so much
pub record Sized (text : List ℕ) (most r : ℕ) : Type 0 where
  pub is : r ≡ length text
  pub small : r ≤ most
