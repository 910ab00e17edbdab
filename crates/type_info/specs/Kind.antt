-- The kind of a declared type: the Rust's `DataType::from_str` (type_info.rs), word by word in the order of its arms.
-- 01, "Leaves": the kind of a declared type is `DataType::from_str`, failure giving Null. Assumes nothing.
use Rattle.std.specs.Prelude.{Bool, true, false, List, [], ◌∷◌, ℕ, Option, None, Some}
use Prim.Native.String.{String}
use Rattle.type_info.specs.Ascii.{ascii, lowercase, equals, contains}
use Rattle.type_info.specs.declared.DataType.{DataType}
use Rattle.type_info.specs.declared.DataType.TheVariants.{Null, Integer, Float, Text, Blob, Bool as Boolean, Int4, Date, Time, Datetime}

-- a word of an arm: the whole text is the word, or the text contains it
pub data Arm : Type 0 where
  exactly : String → DataType → Arm
  containing : String → DataType → Arm

unfoldable pub takes : Arm → List ℕ → Bool
takes (exactly w k) s = equals s (ascii w)
takes (containing w k) s = contains s (ascii w)

abbrev pub gives : Arm → DataType
gives (exactly w k) = k
gives (containing w k) = k

unfoldable pub arms : List Arm
arms =
    exactly "int4" Int4
    ∷ exactly "int8" Integer
    ∷ exactly "boolean" Boolean
    ∷ exactly "bool" Boolean
    ∷ exactly "date" Date
    ∷ exactly "time" Time
    ∷ exactly "datetime" Datetime
    ∷ exactly "timestamp" Datetime
    ∷ containing "int" Integer
    ∷ containing "char" Text
    ∷ containing "clob" Text
    ∷ containing "text" Text
    ∷ containing "blob" Blob
    ∷ containing "real" Float
    ∷ containing "floa" Float
    ∷ containing "doub" Float
    ∷ []

abbrev pub first_if : Bool → DataType → Option DataType → Option DataType
first_if true k rest = Some k
first_if false k rest = rest

-- the first that takes the text decides
unfoldable pub first_arm : List Arm → List ℕ → Option DataType
first_arm [] s = None
first_arm (a ∷ more) s = first_if (takes a s) (gives a) (first_arm more s)

unfoldable pub from_str : List ℕ → Option DataType
from_str s = first_arm arms (lowercase s)

abbrev pub or_null : Option DataType → DataType
or_null None = Null
or_null (Some k) = k

unfoldable pub kind_of : List ℕ → DataType
kind_of s = or_null (from_str s)
