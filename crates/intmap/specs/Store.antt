-- An entry stored under its key, within a limit of cells, and one taken out; and both by an index, judged. 01, "Walk, refusals in order":
-- 6 and 7 are for the index, 9 for records nested deeper than 8, 8 for "a store that makes a state of more than 512 cells" (here the limit
-- is a number that is given), and "a store is judged on index, depth, cells". Assumes nothing.
use Rattle.std.specs.Prelude.{◌≡◌, List, [], ◌∷◌, ℕ, ◌+◌, ◌-◌, ◌<◌, ◌≤◌, length, leb, ℤ, Result, Ok, Err}
use Rattle.refusal.specs.Numbers.{number_of}
use Rattle.refusal.specs.declared.Refusal.{Refusal}
use Rattle.refusal.specs.declared.Refusal.TheVariants.{TooManyCells}
use Rattle.model.specs.Walk.{Tried, refused, done}
use Rattle.model.specs.Access.{index, judge_depth, ◌>>=◌}
use Rattle.area.specs.Moves.{moved}
use Rattle.area.specs.declared.Cell.{Cell}
use Rattle.intmap.specs.Pack.{class_key}
use Rattle.intmap.specs.Pick.{pick}
use Rattle.intmap.specs.Runs.{size}
use Rattle.intmap.specs.Entries.{Runs, key_run, total}
use Rattle.intmap.specs.Swap.{swap}
use Rattle.intmap.specs.Find.{place, seek, Sought, spot}
use Rattle.intmap.specs.Map.{levels, runs_at, IsMap, HasRoom, Frame}
use Rattle.intmap.specs.Change.{rekey}
use Rattle.intmap.specs.Signed.{int_of}
use Rattle.intmap.specs.declared.IntMap.{IntMap}

-- what a store gives: the map then, or why it is refused
abbrev pub Stored : Type 0
Stored = Result IntMap Refusal

-- ---- room for n cells in the place of `old` at `at`, with k entries then

-- there is none, and nothing has changed
pub record NoRoom (cs ds : List Cell) (limit : ℕ) (m : IntMap) (old n : ℕ) (e : Refusal) : Type 0 where
  pub is : e ≡ TooManyCells
  pub over : limit < m.used - old + n
  pub same : ds ≡ cs

-- the room is there: what comes after has moved
pub record Opened (cs ds : List Cell) (limit : ℕ) (m : IntMap) (at old n k : ℕ) (r : IntMap) : Type 0 where
  pub base : r.base ≡ m.base
  pub len : r.len ≡ k
  pub used : r.used ≡ m.used - old + n
  pub most : r.used ≤ limit
  pub cells : ds ≡ moved cs (at + old) (at + n) (m.base + m.used - at - old)
  pub long : length ds ≡ length cs

abbrev pub RoomMade : List Cell → List Cell → ℕ → IntMap → ℕ → ℕ → ℕ → ℕ → Stored → Type 0
RoomMade cs ds limit m at old n k (Err e) = NoRoom cs ds limit m old n e
RoomMade cs ds limit m at old n k (Ok r) = Opened cs ds limit m at old n k r

-- the cells of the entry that a search found, and the entries with one in its place
abbrev pub old_cells : List Cell → Sought → ℕ
old_cells cs (Ok w) = size cs levels w.at
old_cells cs (Err w) = 0

abbrev pub new_len : ℕ → Sought → ℕ
new_len n (Ok w) = n
new_len n (Err w) = n + 1

-- a search of the map led there
pub record IsFound (cs : List Cell) (m : IntMap) (r : Sought) : Type 0 where
  pub key : ℕ
  pub is : r ≡ seek cs levels key m.len m.base

-- room for n cells where a search led
abbrev pub Opens : List Cell → List Cell → ℕ → IntMap → Sought → ℕ → Stored → Type 0
Opens cs ds limit m r n p = RoomMade cs ds limit m (spot r).at (old_cells cs r) n (new_len m.len r) p

-- ---- an entry stored

-- the entries with a run under its own key
abbrev pub put : List Cell → Runs → Runs
put run es = swap (key_run run) (run ∷ []) es

-- at most `limit` cells, or refusal 8
abbrev pub judge_runs : ℕ → Runs → Tried Runs
judge_runs limit es = pick (leb (total es) limit) (done es) (refused 8)

-- the answer: 01's number, or the entries that the area then has
abbrev pub stored_of : List Cell → Stored → Tried Runs
stored_of ds (Err e) = refused (number_of e)
stored_of ds (Ok r) = done (runs_at ds r)

-- a refused store changes nothing, and one that is done leaves a map at the same place
pub record Next (ds : List Cell) (limit : ℕ) (m r : IntMap) : Type 0 where
  pub base : r.base ≡ m.base
  pub room : HasRoom ds limit r

abbrev pub StoreLeaves : List Cell → List Cell → ℕ → IntMap → Stored → Type 0
StoreLeaves cs ds limit m (Err e) = ds ≡ cs
StoreLeaves cs ds limit m (Ok r) = Next ds limit m r

pub record Inserts (cs ds : List Cell) (limit : ℕ) (m : IntMap) (run : List Cell) (r : Stored) : Type 0 where
  pub answer : stored_of ds r ≡ judge_runs limit (put run (runs_at cs m))
  pub leaves : StoreLeaves cs ds limit m r
  pub frame : Frame cs ds m.base limit

-- a search for the key leads there, and finds none
pub record NewAt (cs : List Cell) (m : IntMap) (key at : ℕ) : Type 0 where
  pub left : ℕ
  pub is : Err (place at left) ≡ seek cs levels key m.len m.base

-- a run of n cells above the map's room
pub record RunAbove (cs : List Cell) (limit : ℕ) (m : IntMap) (from n : ℕ) : Type 0 where
  pub whole : n ≡ size cs levels from
  pub above : m.base + limit ≤ from
  pub fits : from + n ≤ length cs

-- ---- an entry taken out

pub record Removes (cs ds : List Cell) (m : IntMap) (key : ℕ) (r : IntMap) : Type 0 where
  pub runs : runs_at ds r ≡ swap key [] (runs_at cs m)
  pub base : r.base ≡ m.base
  pub used : r.used ≡ total (swap key [] (runs_at cs m))
  pub fewer : r.used ≤ m.used
  pub frame : Frame cs ds m.base m.used

-- ---- both by an index in a class

-- a run of this depth stored under a key: its depth is judged, then the cells that there are with it
unfoldable pub store_at : ℕ → ℕ → ℕ → List Cell → Runs → Tried Runs
store_at limit key depth run es = judge_depth depth run >>= λ v. judge_runs limit (put (rekey key v) es)

-- and under an index, which is judged first
unfoldable pub store_runs : ℕ → ℕ → ℤ → ℕ → List Cell → Runs → Tried Runs
store_runs limit class i depth run es = index i >>= λ k. store_at limit (class_key class k) depth run es

-- the entry of an index taken out
unfoldable pub remove_runs : ℕ → ℤ → Runs → Tried Runs
remove_runs class i es = index i >>= λ k. done (swap (class_key class k) [] es)

pub record Stores (cs ds : List Cell) (limit : ℕ) (m : IntMap) (class i depth : ℕ) (run : List Cell) (r : Stored) : Type 0 where
  pub answer : stored_of ds r ≡ store_runs limit class (int_of i) depth run (runs_at cs m)
  pub leaves : StoreLeaves cs ds limit m r
  pub frame : Frame cs ds m.base limit

-- a refused removal changes nothing, and one that is done leaves a map at the same place with no more cells
pub record Fewer (ds : List Cell) (m r : IntMap) : Type 0 where
  pub base : r.base ≡ m.base
  pub fewer : r.used ≤ m.used
  pub map : IsMap ds r

abbrev pub RemovalLeaves : List Cell → List Cell → IntMap → Stored → Type 0
RemovalLeaves cs ds m (Err e) = ds ≡ cs
RemovalLeaves cs ds m (Ok r) = Fewer ds m r

pub record RemovesAt (cs ds : List Cell) (m : IntMap) (class i : ℕ) (r : Stored) : Type 0 where
  pub answer : stored_of ds r ≡ remove_runs class (int_of i) (runs_at cs m)
  pub leaves : RemovalLeaves cs ds m r
  pub frame : Frame cs ds m.base m.used
