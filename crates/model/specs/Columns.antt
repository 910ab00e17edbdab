-- What a column of the answer says of a set of result rows, after 01's "Results" and "What we will not take": "`null=yes` means that one of them
-- says true there, and `type` is Null exactly when none gives another kind there, otherwise a kind that one gives there." Assumes nothing.
use Rattle.std.specs.Prelude.{◌≡◌, Bool, true, false, List, [], ◌∷◌, ℕ, max, length, Option, None, Some, slice_get}
use Rattle.type_info.specs.declared.DataType.{DataType}
use Rattle.type_info.specs.declared.DataType.TheVariants.{Null}
use Rattle.model.specs.Results.{ResultColumn, ResultRow}

-- one of the rows has at place i a column of which P holds
pub record Gives (X : ResultRow → Type 0) (i : ℕ) (P : ResultColumn → Type 0) : Type 0 where
  pub row : ResultRow
  pub has : X row
  pub column : ResultColumn
  pub there : slice_get row.columns i ≡ Some column
  pub holds : P column

-- P holds of every column that one of the rows has at place i
abbrev pub Every : (ResultRow → Type 0) → ℕ → (ResultColumn → Type 0) → Type 0
Every X i P = (r : ResultRow) (d : ResultColumn) → X r → slice_get r.columns i ≡ Some d → P d

-- "`yes` if any says true, else `no` if any says false, else `unknown`"
abbrev pub NullableSays : (ResultRow → Type 0) → ℕ → Option Bool → Type 0
NullableSays X i (Some true) = Gives X i (λ d. d.nullable ≡ Some true)
NullableSays X i (Some false) = Gives X i (λ d. d.nullable ≡ Some false) × Every X i (λ d. d.nullable ≡ Some true → ⊥)
NullableSays X i None = Every X i (λ d. d.nullable ≡ None)

pub record Says (X : ResultRow → Type 0) (i : ℕ) (c : ResultColumn) : Type 0 where
  -- its kind is one that a row gives there
  pub kind_given : Gives X i (λ d. d.datatype ≡ c.datatype)
  -- and Null only where every row that has the column gives Null
  pub null_all : c.datatype ≡ Null → Every X i (λ d. d.datatype ≡ Null)
  pub nullable : NullableSays X i c.nullable

-- "its kind is that of the latest row whose kind isn't Null": the rows, the latest first
pub data LatestKind (i : ℕ) (k : DataType) : List ResultRow → Type 0 where
  this : {r : ResultRow} {rs : List ResultRow} (d : ResultColumn) → slice_get r.columns i ≡ Some d → d.datatype ≡ k → LatestKind i k (r ∷ rs)
  earlier : {r : ResultRow} {rs : List ResultRow} → ((d : ResultColumn) → slice_get r.columns i ≡ Some d → d.datatype ≡ Null) → LatestKind i k rs → LatestKind i k (r ∷ rs)

-- "the width of the widest row counted (0 with none)"
unfoldable pub widest : List ResultRow → ℕ
widest [] = 0
widest (r ∷ rs) = max (length r.columns) (widest rs)
