-- The catalogue's text. 01, "The call", Catalogue: five LF-ended lines a record, `db=` (0 or 1), `page=` (0 to 2,147,483,647), `col=`
-- (0 to 65,535), `type=` (0 to 64 bytes, each 32 to 126), `notnull=` (0 or 1). All records stand in the file's order: which one holds,
-- and how many are too many, is judged elsewhere. Assumes nothing.
use Rattle.std.specs.Prelude.{◌≡◌, Bool, true, false, ◌&&◌, ℕ, ◌≤◌, leb, length, Option, Some}
use mathlib.Core.List.{List, [], ◌∷◌, flatten}
use Rattle.type_info.specs.Ascii.{ascii}
use Rattle.type_info.specs.DeclaredType.{all_printable}
use Rattle.model.specs.Catalogue.{CatalogueRecord}
use Rattle.model.specs.Reader.{Reader, ◌>>=◌, give, read_if, read_name}
use Rattle.model.specs.Numbers.{print_natural, read_up_to}
use Rattle.model.specs.Fields.{take_field, print_field, read_items, print_items}

unfoldable pub is_declared : List ℕ → Bool
is_declared s = leb (length s) 64 && all_printable s

pub record ValidRecord (r : CatalogueRecord) : Type 0 where
  pub db_small : r.db ≤ 1
  pub page_small : r.page ≤ 2147483647
  pub col_small : r.col ≤ 65535
  pub declared_printable : is_declared r.declared ≡ true

unfoldable pub print_flag : Bool → List ℕ
print_flag false = ascii "0"
print_flag true = ascii "1"

unfoldable pub print_record : CatalogueRecord → List ℕ
print_record r = flatten (
    print_field (ascii "db=") (print_natural r.db)
    ∷ print_field (ascii "page=") (print_natural r.page)
    ∷ print_field (ascii "col=") (print_natural r.col)
    ∷ print_field (ascii "type=") r.declared
    ∷ print_field (ascii "notnull=") (print_flag r.notnull)
    ∷ [])

unfoldable pub read_flag : List ℕ → Option Bool
read_flag = read_name print_flag (false ∷ true ∷ [])

unfoldable pub read_declared : List ℕ → Option (List ℕ)
read_declared = read_if is_declared Some

unfoldable pub take_record : Reader CatalogueRecord
take_record = do
  db ← take_field (ascii "db=") (read_up_to 1)
  page ← take_field (ascii "page=") (read_up_to 2147483647)
  col ← take_field (ascii "col=") (read_up_to 65535)
  declared ← take_field (ascii "type=") read_declared
  notnull ← take_field (ascii "notnull=") read_flag
  give (record { db = db; page = page; col = col; declared = declared; notnull = notnull })

unfoldable pub print_catalogue : List CatalogueRecord → List ℕ
print_catalogue records = print_items (λ _. print_record) 0 records

unfoldable pub read_catalogue : List ℕ → Option (List CatalogueRecord)
read_catalogue t = read_items (λ _. take_record) t
