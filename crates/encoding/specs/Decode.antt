-- What a run's head says of its value: a kind and a nullable by their codes, and the column that a single column's head stands for.
-- Assumes nothing.
use Rattle.std.specs.Prelude.{Bool, true, false, List, [], ◌∷◌, ◌/◌, ◌%◌, get_or, Option, None, Some}
use Rattle.type_info.specs.Codes.{kinds}
use Rattle.type_info.specs.declared.DataType.{DataType}
use Rattle.type_info.specs.declared.DataType.TheVariants.{Null}
use Rattle.model.specs.State.{ColumnType, Single}
use Rattle.area.specs.declared.Cell.{Cell}

abbrev pub datatypes : List DataType
datatypes = kinds

abbrev pub nullables : List (Option Bool)
nullables = None ∷ Some false ∷ Some true ∷ []

-- the kind and the nullable of a head
abbrev pub datatype_in : Cell → DataType
datatype_in c = get_or datatypes (c.head / 256 % 256) Null

abbrev pub nullable_in : Cell → Option Bool
nullable_in c = get_or nullables (c.head / 65536 % 256) None

abbrev pub column_in : Cell → ColumnType
column_in c = Single (datatype_in c) (nullable_in c)
