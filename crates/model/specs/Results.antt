-- Result rows, and the columns that those counted make. 01, "Results": "Over the rows counted so far that reach a column: its kind is that
-- of the latest row whose kind isn't Null, else Null. It may be blank: `yes` if any says true, else `no` if any says false, else `unknown`.
-- Records count as Null, unknown." In explain.rs: the loop over `result_states`. Assumes nothing.
use Rattle.std.specs.Prelude.{Bool, List, [], ◌∷◌, map, ℕ, Option}
use Rattle.type_info.specs.declared.DataType.{DataType}
use Rattle.model.specs.State.{ColumnType, column_to_datatype, column_to_nullable, first_datatype, either_nullable}

pub record ResultColumn : Type 0 where
  pub datatype : DataType
  pub nullable : Option Bool

pub record ResultRow : Type 0 where
  -- the number of its row in the listing
  pub row : ℕ
  pub columns : List ResultColumn

abbrev pub result_column : ColumnType → ResultColumn
result_column c = record { datatype = column_to_datatype c; nullable = column_to_nullable c }

unfoldable pub result_columns : List ColumnType → List ResultColumn
result_columns cs = map result_column cs

-- a column of the newer row, and what the older ones say
abbrev pub merge_column : ResultColumn → ResultColumn → ResultColumn
merge_column new old =
    record { datatype = first_datatype new.datatype old.datatype; nullable = either_nullable new.nullable old.nullable }

unfoldable pub merge : List ResultColumn → List ResultColumn → List ResultColumn
merge [] [] = []
merge [] (b ∷ bs) = b ∷ bs
merge (a ∷ more) [] = a ∷ more
merge (a ∷ more) (b ∷ bs) = merge_column a b ∷ merge more bs

-- of the rows counted, the latest first
unfoldable pub columns_of : List ResultRow → List ResultColumn
columns_of [] = []
columns_of (r ∷ rs) = merge r.columns (columns_of rs)
