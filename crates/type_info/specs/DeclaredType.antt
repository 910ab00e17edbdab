-- The declared-type call: a kind and an affinity, or the refusal.
-- 01, "Declared type, refusal": for an empty text, one of over 64 bytes, or a byte outside 32 to 126. Assumes nothing.
use Rattle.std.specs.Prelude.{Bool, true, false, ◌&&◌, List, ℕ, length, Result, Ok, Err}
use Rattle.refusal.specs.declared.Refusal.{Refusal}
use Rattle.refusal.specs.declared.Refusal.TheVariants.{NotDeclared}
use Rattle.type_info.specs.All.{all_of}
use Rattle.type_info.specs.Ascii.{within}
use Rattle.type_info.specs.Kind.{kind_of}
use Rattle.type_info.specs.Affinity.{affinity_of}
use Rattle.type_info.specs.declared.Declared.{Declared}

unfoldable pub all_printable : List ℕ → Bool
all_printable s = all_of (within 32 126) s

abbrev pub answer_if : Bool → List ℕ → Result Declared Refusal
answer_if true s = Ok (record { kind = kind_of s; affinity = affinity_of s })
answer_if false s = Err NotDeclared

unfoldable pub declared_type : List ℕ → Result Declared Refusal
declared_type s = answer_if (within 1 64 (length s) && all_printable s) s
