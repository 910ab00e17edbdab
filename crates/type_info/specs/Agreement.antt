-- How kind and affinity of a declared type go together: the statement; its proof is proofs/Agreement.antt.
-- Outside the words that the Rust treats by themselves the two say the same. Assumes nothing.
use Rattle.std.specs.Prelude.{◌≡◌, Bool, false, ◌||◌, List, [], ◌∷◌, ℕ}
use Prim.Native.String.{String}
use Rattle.type_info.specs.All.{All}
use Rattle.type_info.specs.Ascii.{ascii, lowercase, equals}
use Rattle.type_info.specs.Kind.{kind_of}
use Rattle.type_info.specs.Affinity.{affinity_of}
use Rattle.type_info.specs.declared.Affinity.{Affinity}
use Rattle.type_info.specs.declared.Affinity.TheVariants as affinity
use Rattle.type_info.specs.declared.DataType.{DataType}
use Rattle.type_info.specs.declared.DataType.TheVariants as kind

-- the kind that says the same as an affinity
abbrev pub kind_of_affinity : Affinity → DataType
kind_of_affinity affinity.Text = kind.Text
kind_of_affinity affinity.Numeric = kind.Null
kind_of_affinity affinity.Integer = kind.Integer
kind_of_affinity affinity.Real = kind.Float
kind_of_affinity affinity.Blob = kind.Blob

-- a word that the Rust treats by itself, with what the two say of it
pub record Word : Type 0 where
  pub text : String
  pub kind : DataType
  pub affinity : Affinity

abbrev pub word : String → DataType → Affinity → Word
word t k a = record { text = t; kind = k; affinity = a }

unfoldable pub words : List Word
words =
    word "int4" kind.Int4 affinity.Integer
    ∷ word "int8" kind.Integer affinity.Integer
    ∷ word "boolean" kind.Bool affinity.Numeric
    ∷ word "bool" kind.Bool affinity.Numeric
    ∷ word "date" kind.Date affinity.Numeric
    ∷ word "time" kind.Time affinity.Numeric
    ∷ word "datetime" kind.Datetime affinity.Numeric
    ∷ word "timestamp" kind.Datetime affinity.Numeric
    ∷ []

-- whether a text is one of the words, in any letter case
unfoldable pub is_one_of : List Word → List ℕ → Bool
is_one_of [] s = false
is_one_of (w ∷ ws) s = equals (lowercase s) (ascii w.text) || is_one_of ws s

-- what the two say of such a word, in any letter case
abbrev pub Says : Word → Type 0
Says w = (s : List ℕ) → lowercase s ≡ ascii w.text → (kind_of s ≡ w.kind) × (affinity_of s ≡ w.affinity)

pub record Agreement : Type 0 where
  pub outside : (s : List ℕ) → is_one_of words s ≡ false → kind_of s ≡ kind_of_affinity (affinity_of s)
  pub of_words : All Says words
