-- The ★ cases of 01, "Sample runs", on declared types: one table; proofs/Stars.antt has the one proof over it. Assumes nothing.
use Rattle.std.specs.Prelude.{◌≡◌, List, [], ◌∷◌, Ok}
use Prim.Native.String.{String}
use Rattle.type_info.specs.Ascii.{ascii}
use Rattle.type_info.specs.DeclaredType.{declared_type}
use Rattle.type_info.specs.declared.Affinity.{Affinity}
use Rattle.type_info.specs.declared.Affinity.TheVariants as affinity
use Rattle.type_info.specs.declared.DataType.{DataType}
use Rattle.type_info.specs.declared.DataType.TheVariants as kind
use Rattle.type_info.specs.declared.Declared.{Declared}

pub record Star : Type 0 where
  pub text : String
  pub is : Declared

abbrev pub star : String → DataType → Affinity → Star
star t k a = record { text = t; is = record { kind = k; affinity = a } }

unfoldable pub stars : List Star
stars =
    star "FLOATING POINT" kind.Integer affinity.Integer
    ∷ star "INT4" kind.Int4 affinity.Integer
    ∷ star "STRING" kind.Null affinity.Numeric
    ∷ star "TIMESTAMP" kind.Datetime affinity.Numeric
    ∷ []

abbrev pub Holds : Star → Type 0
Holds s = declared_type (ascii s.text) ≡ Ok s.is
