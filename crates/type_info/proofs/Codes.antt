-- Codes and kinds, both ways. Assumes nothing.
use Rattle.std.proofs.Common.{◌≡◌, ◌<◌, ℕ, sym, ap, ◌∙◌, refl, get_or, length, arith}
use Rattle.std.specs.Prelude.{Result, Ok, Err}
use Rattle.std.proofs.lemmas.List.{get_or_past}
use Rattle.std.specs.Result.{result_unwrap_or}
use Rattle.type_info.specs.Codes.{code_of, kinds, Decodes, Codes}
use Rattle.type_info.specs.declared.DataType.{DataType}
use Rattle.type_info.specs.declared.DataType.TheVariants.{Null, Integer, Float, Text, Blob, Numeric, Bool as Boolean, Int4, Date, Time, Datetime}
use Rattle.type_info.specs.declared.UnknownCode.{UnknownCode}

-- the list has each kind at its code
pub coded : (kind fallback : DataType) → get_or kinds (code_of kind) fallback ≡ kind
coded Null d = refl
coded Integer d = refl
coded Float d = refl
coded Text d = refl
coded Blob d = refl
coded Numeric d = refl
coded Boolean d = refl
coded Int4 d = refl
coded Date d = refl
coded Time d = refl
coded Datetime d = refl

pub same : (a b : DataType) → code_of a ≡ code_of b → a ≡ b
same a b e = sym (coded a Null) ∙ ap (λ c. get_or kinds c Null) e ∙ coded b Null

code_below : (kind : DataType) → code_of kind < length kinds
code_below Null = omega arith
code_below Integer = omega arith
code_below Float = omega arith
code_below Text = omega arith
code_below Blob = omega arith
code_below Numeric = omega arith
code_below Boolean = omega arith
code_below Int4 = omega arith
code_below Date = omega arith
code_below Time = omega arith
code_below Datetime = omega arith

inverts : (kind : DataType) (r : Result DataType UnknownCode) → Decodes (code_of kind) r → r ≡ Ok kind
inverts kind (Ok other) h = ap Ok (same other kind h)
inverts kind (Err e) h = absurd (omega (arith, code_below kind, h.1))

listed : (code : ℕ) (r : Result DataType UnknownCode) (kind : DataType) → Decodes code r → result_unwrap_or r kind ≡ get_or kinds code kind
listed code (Ok other) kind h = sym (coded other kind) ∙ ap (λ c. get_or kinds c kind) h
listed code (Err e) kind h = sym (get_or_past kinds code kind h.1)

pub codes : Codes
codes = record { inverts = inverts; listed = listed }
