-- The names of kinds and affinities as bytes: a variant's name, as 01's "Sample runs" has the answer print it, and the datatype page's words.
-- Assumes nothing.
use Rattle.std.specs.Prelude.{List, ℕ}
use Rattle.type_info.specs.Ascii.{ascii}
use Rattle.type_info.specs.declared.Affinity.{Affinity}
use Rattle.type_info.specs.declared.Affinity.TheVariants as affinity
use Rattle.type_info.specs.declared.DataType.{DataType}
use Rattle.type_info.specs.declared.DataType.TheVariants as kind

unfoldable pub name_of : DataType → List ℕ
name_of kind.Null = ascii "Null"
name_of kind.Integer = ascii "Integer"
name_of kind.Float = ascii "Float"
name_of kind.Text = ascii "Text"
name_of kind.Blob = ascii "Blob"
name_of kind.Numeric = ascii "Numeric"
name_of kind.Bool = ascii "Bool"
name_of kind.Int4 = ascii "Int4"
name_of kind.Date = ascii "Date"
name_of kind.Time = ascii "Time"
name_of kind.Datetime = ascii "Datetime"

unfoldable pub affinity_name : Affinity → List ℕ
affinity_name affinity.Text = ascii "TEXT"
affinity_name affinity.Numeric = ascii "NUMERIC"
affinity_name affinity.Integer = ascii "INTEGER"
affinity_name affinity.Real = ascii "REAL"
affinity_name affinity.Blob = ascii "BLOB"
