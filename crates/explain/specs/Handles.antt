-- What handling a row says: it is refused exactly as the definition is, or the area holds its ways, in the definition's order: at most one
-- branch and the state that goes on, with whether it counts as a repeat; Jump's three branches and the state that goes on; or a result row, whose
-- columns are registers of the state, with the next row as a branch. Assumes nothing.
use Rattle.refusal.specs.Numbers.{number_of}
use Rattle.refusal.specs.declared.Refusal.{Refusal}
use Rattle.std.specs.Prelude.{◌≡◌, Bool, false, List, [], ◌∷◌, ℕ, ◌+◌, ◌-◌, ◌≤◌, pos, length, get_or, Option, None, Some, Ok, Err, Result}
use Rattle.model.specs.Walk.{refused, done}
use Rattle.model.specs.Row.{Row as Listed}
use Rattle.model.specs.State.{ColumnType, MemoryState as Defined}
use Rattle.model.specs.Access.{next, read_columns}
use Rattle.model.specs.Catalogue.{CatalogueRecord, columns_at}
use Rattle.root_block.specs.Blocks.{HasBlocks}
use Rattle.model.specs.Functions.{built_in, function_in}
use Rattle.model.specs.Meaning.{Meaning}
use Rattle.model.specs.Results.{result_columns}
use Rattle.model.specs.Operation.{operation_of}
use Rattle.model.specs.Offer.{Offer, turns}
use Rattle.model.specs.Explain.{arm}
use Rattle.area.specs.Cells.{blank}
use Rattle.area.specs.declared.Cell.{Cell}
use Rattle.intmap.specs.Map.{Frame}
use Rattle.intmap.specs.Signed.{offset}
use Rattle.encoding.specs.Holds.{largest}
use Rattle.rows.specs.Parts.{Parts}
use Rattle.rows.specs.Rows.{row_in}
use Rattle.rows.specs.Judged.{JudgedParts, HaveRows}
use Rattle.state.specs.Leads.{operands}
use Rattle.state.specs.Steps.{HoldsState, TellsWay, branch_of, StaysAt, Lies, LiesAt, Way}
use Rattle.state.specs.declared.MemoryState.{MemoryState}
use Rattle.state.specs.declared.registers.Registers.{Registers}
use Rattle.explain.specs.declared.Handling.{Handling}
use Rattle.explain.specs.declared.Handling.TheVariants as handling

-- the state on a row, with the map of these numbers
abbrev pub state_of : ℕ → ℕ → ℕ → ℕ → MemoryState
state_of row base len used = record { map = record { base = base; len = len; used = used }; row = row }

-- the row that a state on the row word `at` stands on, the listing's rows being in the cells from `from` on
abbrev pub row_on : List Cell → ℕ → ℕ → Parts
row_on cs from at = row_in (get_or cs (from + (at - offset)) blank)

-- what the rows mean: this limit of cells, this catalogue, and the built-in functions
abbrev pub meaning_of : ℕ → List CatalogueRecord → Meaning
meaning_of limit records = record { cell_limit = limit; columns_for = columns_at records; function_for = function_in built_in }

-- at most one branch, and the state that goes on
pub record OffersWays (limit bound : ℕ) (cs : List Cell) (branch stays : Way) (repeat : Bool) (o : Offer) : Type 0 where
  pub the_branch : Option Defined
  pub the_state : Option Defined
  pub answer : o ≡ done (record { branches = branch_of the_branch; stays = the_state; result = None; repeat = repeat })
  pub branches : TellsWay limit bound cs branch the_branch
  pub goes_on : TellsWay limit bound cs stays the_state

-- three branches, and the state that goes on
pub record OffersThree (limit bound : ℕ) (cs : List Cell) (a b c stays : MemoryState) (o : Offer) : Type 0 where
  pub first : Defined
  pub second : Defined
  pub third : Defined
  pub state : Defined
  pub answer : o ≡ done (record { branches = first ∷ second ∷ third ∷ []; stays = Some state; result = None; repeat = false })
  pub first_held : HoldsState limit bound cs a first
  pub second_held : HoldsState limit bound cs b second
  pub third_held : HoldsState limit bound cs c third
  pub state_held : HoldsState limit bound cs stays state

-- a result row of the state m, and its registers; the branch is on the next row
pub record OffersResult (limit bound : ℕ) (cs : List Cell) (m : Defined) (branch : MemoryState) (row : Registers) (o : Offer) : Type 0 where
  pub columns : List ColumnType
  pub answer : o ≡ done (record { branches = next m ∷ []; stays = None; result = Some (record { row = turns m.program_i; columns = result_columns columns }); repeat = false })
  pub read : read_columns row.count (pos row.first) (next m) ≡ done columns
  pub held : HoldsState limit bound cs branch (next m)

-- why a row is refused, or what handling it gives
abbrev pub Handled : Type 0
Handled = Result Handling Refusal

abbrev pub TellsHandling : ℕ → ℕ → List Cell → Defined → Handled → Offer → Type 0
TellsHandling limit bound cs m (Err e) o = o ≡ refused (number_of e)
TellsHandling limit bound cs m (Ok (handling.Ways w r)) o = OffersWays limit bound cs w.branch w.stays r o
TellsHandling limit bound cs m (Ok (handling.Three a b c s)) o = OffersThree limit bound cs a b c s o
TellsHandling limit bound cs m (Ok (handling.Result b row)) o = OffersResult limit bound cs m b row o

abbrev pub LeavesHandling : ℕ → List Cell → MemoryState → Handled → Type 0
LeavesHandling limit ds s (Err e) = Unit {0}
LeavesHandling limit ds s (Ok (handling.Ways w r)) = LiesAt limit ds s.map.base w.branch × StaysAt limit ds s.map.base w.stays
LeavesHandling limit ds s (Ok (handling.Three a b c w)) =
    Lies limit ds s.map.base a × Lies limit ds s.map.base b × Lies limit ds s.map.base c × StaysAt limit ds s.map.base (Some w)
LeavesHandling limit ds s (Ok (handling.Result b row)) = Lies limit ds s.map.base b × (row.count ≤ 2000)

-- the listing's n rows are in the cells from `from` on
pub record Handles (limit from n : ℕ) (cs ds : List Cell) (blocks : List ℕ) (s : MemoryState) (x : Parts) (again : Bool) (r : Handled) : Type 0 where
  pub says : (rows : List Listed) (records : List CatalogueRecord) (l : Listed) → HaveRows cs from rows → length rows ≡ n → HasBlocks blocks records → JudgedParts l x → (bound : ℕ) (m : Defined) → operands ≤ bound → bound + 1 ≤ largest → HoldsState limit bound cs s m → TellsHandling limit (bound + 1) ds m r (arm (meaning_of limit records) rows again m l (operation_of l.op))
  pub leaves : LeavesHandling limit ds s r
  pub frame : Frame cs ds s.map.base (limit + limit)
