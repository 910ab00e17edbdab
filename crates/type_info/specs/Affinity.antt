-- The affinity of a declared type by SQLite's datatype page, section 3.1: the first rule whose word the type contains.
-- 01, "Leaves": in any letter case. Assumes nothing.
use Rattle.std.specs.Prelude.{Bool, true, false, List, [], ◌∷◌, ℕ}
use Prim.Native.String.{String}
use Rattle.type_info.specs.Ascii.{ascii, lowercase, contains}
use Rattle.type_info.specs.declared.Affinity.{Affinity}
use Rattle.type_info.specs.declared.Affinity.TheVariants.{Text, Numeric, Integer, Real, Blob}

-- a word of a rule, and the affinity that it gives
pub record Rule : Type 0 where
  pub word : String
  pub affinity : Affinity

abbrev pub rule : String → Affinity → Rule
rule w a = record { word = w; affinity = a }

-- rules 1 to 4 in their order
unfoldable pub rules : List Rule
rules =
    rule "INT" Integer
    ∷ rule "CHAR" Text
    ∷ rule "CLOB" Text
    ∷ rule "TEXT" Text
    ∷ rule "BLOB" Blob
    ∷ rule "REAL" Real
    ∷ rule "FLOA" Real
    ∷ rule "DOUB" Real
    ∷ []

unfoldable pub contains_any_case : List ℕ → List ℕ → Bool
contains_any_case s word = contains (lowercase s) (lowercase word)

abbrev pub affinity_if : Bool → Affinity → Affinity → Affinity
affinity_if true a rest = a
affinity_if false a rest = rest

-- rule 5: otherwise NUMERIC
unfoldable pub first_rule : List Rule → List ℕ → Affinity
first_rule [] s = Numeric
first_rule (r ∷ more) s = affinity_if (contains_any_case s (ascii r.word)) r.affinity (first_rule more s)

unfoldable pub affinity_of : List ℕ → Affinity
affinity_of s = first_rule rules s
