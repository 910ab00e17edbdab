-- What a cell's two words stand for. The head packs four numbers: a tag (1 single column, 2 record or table, 3 known number, 4 normal cursor,
-- 5 pseudo cursor), a kind, whether it is nullable (0 not known, 1 no, 2 yes) and a key. Assumes nothing.
use Rattle.std.specs.Prelude.{ℕ, ◌+◌, ◌*◌, ◌/◌, ◌%◌, ◌<◌}
use Rattle.area.specs.Cells.{cell}
use Rattle.area.specs.declared.Cell.{Cell}
use Rattle.intmap.specs.declared.Class.{Class}
use Rattle.intmap.specs.declared.Class.TheVariants.{Registers, Cursors, Tables}

abbrev pub head : ℕ → ℕ → ℕ → ℕ → ℕ
head tag kind nullable key = tag + 256 * kind + 65536 * nullable + 16777216 * key

abbrev pub tag_of : Cell → ℕ
tag_of c = c.head % 256

abbrev pub kind_of : Cell → ℕ
kind_of c = c.head / 256 % 256

abbrev pub nullable_of : Cell → ℕ
nullable_of c = c.head / 65536 % 256

abbrev pub key_of : Cell → ℕ
key_of c = c.head / 16777216

-- the cell under another key, and with another nullable
abbrev pub with_key : ℕ → Cell → Cell
with_key key c = cell (c.head % 16777216 + 16777216 * key) c.payload

abbrev pub with_nullable : ℕ → Cell → Cell
with_nullable nullable c = cell (c.head % 65536 + 65536 * nullable + c.head / 16777216 * 16777216) c.payload

-- the number of a class
abbrev pub class_number : Class → ℕ
class_number Registers = 0
class_number Cursors = 1
class_number Tables = 2

-- the key of an index: class 0 has the registers, 1 the cursors, 2 the tables; a record's columns have the keys below these
abbrev pub class_key : ℕ → ℕ → ℕ
class_key class index = class * 65536 + 65536 + index

-- parts that fit their places
pub record Parts (tag kind nullable key : ℕ) : Type 0 where
  pub tag_small : tag < 256
  pub kind_small : kind < 256
  pub nullable_small : nullable < 256
  pub key_small : key < 1099511627776
