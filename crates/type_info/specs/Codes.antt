-- The codes of kinds: a kind's place among the variants, in the Rust's order from 0 on, and the kind that a code stands for.
-- Assumes nothing.
use Rattle.std.specs.Prelude.{◌≡◌, List, [], ◌∷◌, ℕ, ◌≤◌, length, get_or, Result, Ok, MatchResult}
use Rattle.std.specs.Result.{result_unwrap_or}
use Rattle.type_info.specs.declared.DataType.{DataType}
use Rattle.type_info.specs.declared.DataType.TheVariants.{Null, Integer, Float, Text, Blob, Numeric, Bool as Boolean, Int4, Date, Time, Datetime}
use Rattle.type_info.specs.declared.UnknownCode.{UnknownCode}

-- what `as u64` of a kind gives
abbrev pub code_of : DataType → ℕ
code_of Null = 0
code_of Integer = 1
code_of Float = 2
code_of Text = 3
code_of Blob = 4
code_of Numeric = 5
code_of Boolean = 6
code_of Int4 = 7
code_of Date = 8
code_of Time = 9
code_of Datetime = 10

-- the kinds by their codes
abbrev pub kinds : List DataType
kinds = Null ∷ Integer ∷ Float ∷ Text ∷ Blob ∷ Numeric ∷ Boolean ∷ Int4 ∷ Date ∷ Time ∷ Datetime ∷ []

-- the result is the kind with this code, or an error with a code that no kind has
abbrev pub Decodes : ℕ → Result DataType UnknownCode → Type 0
Decodes code r = MatchResult r (λ kind. code_of kind ≡ code) (λ e. (e.0 ≡ code) × (length kinds ≤ code))

-- What follows, proved in proofs/Codes.antt.
pub record Codes : Type 0 where
  -- a kind's code gives the kind back
  pub inverts : (kind : DataType) (r : Result DataType UnknownCode) → Decodes (code_of kind) r → r ≡ Ok kind
  -- with a kind for the codes of none, decoding is to look into the list
  pub listed : (code : ℕ) (r : Result DataType UnknownCode) (kind : DataType) → Decodes code r → result_unwrap_or r kind ≡ get_or kinds code kind
