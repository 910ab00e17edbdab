-- The listing's text. 01, "The call", Listing: six LF-ended lines a row, `addr=`, `op=`, `p1=`, `p2=`, `p3=`, `p4=`; addr counts from 0;
-- op is 1 to 32 ASCII letters or digits; P1 to P3 are signed 32-bit; P4 is 0 to 255 bytes. An empty file has no rows.
-- How many rows are too many is judged elsewhere. Assumes nothing.
use Rattle.std.specs.Prelude.{◌≡◌, Bool, true, ◌&&◌, ◌||◌, ℕ, ◌≤◌, ◌<◌, leb, length, Option, Some}
use mathlib.Core.List.{List, [], ◌∷◌, flatten}
use Rattle.type_info.specs.Ascii.{ascii, within}
use Rattle.model.specs.Row.{Row}
use Rattle.type_info.specs.All.{All, all_of}
use Rattle.model.specs.Reader.{Reader, ◌>>=◌, ◌>>◌, give, read_if}
use Rattle.model.specs.Numbers.{Int32, is_digit, print_natural, print_signed, print_hex, read_index, read_signed, read_hex}
use Rattle.model.specs.Fields.{take_field, print_field, read_items, print_items}

-- an ASCII letter or digit
abbrev pub is_alnum : ℕ → Bool
is_alnum b = is_digit b || (within 65 90 b || within 97 122 b)

unfoldable pub is_operation : List ℕ → Bool
is_operation s = within 1 32 (length s) && all_of is_alnum s

pub record ValidRow (r : Row) : Type 0 where
  pub op_named : is_operation r.op ≡ true
  pub p1_small : Int32 r.p1
  pub p2_small : Int32 r.p2
  pub p3_small : Int32 r.p3
  pub p4_short : length r.p4 ≤ 255
  pub p4_bytes : All (λ b. b < 256) r.p4

unfoldable pub print_row : ℕ → Row → List ℕ
print_row addr r = flatten (
    print_field (ascii "addr=") (print_natural addr)
    ∷ print_field (ascii "op=") r.op
    ∷ print_field (ascii "p1=") (print_signed r.p1)
    ∷ print_field (ascii "p2=") (print_signed r.p2)
    ∷ print_field (ascii "p3=") (print_signed r.p3)
    ∷ print_field (ascii "p4=") (print_hex r.p4)
    ∷ [])

unfoldable pub read_operation : List ℕ → Option (List ℕ)
read_operation = read_if is_operation Some

unfoldable pub read_p4 : List ℕ → Option (List ℕ)
read_p4 = read_if (λ bs. leb (length bs) 255) read_hex

unfoldable pub take_row : ℕ → Reader Row
take_row addr = do
  take_field (ascii "addr=") (read_index addr)
  op ← take_field (ascii "op=") read_operation
  p1 ← take_field (ascii "p1=") read_signed
  p2 ← take_field (ascii "p2=") read_signed
  p3 ← take_field (ascii "p3=") read_signed
  p4 ← take_field (ascii "p4=") read_p4
  give (record { op = op; p1 = p1; p2 = p2; p3 = p3; p4 = p4 })

unfoldable pub print_listing : List Row → List ℕ
print_listing rows = print_items print_row 0 rows

unfoldable pub read_listing : List ℕ → Option (List Row)
read_listing t = read_items take_row t
