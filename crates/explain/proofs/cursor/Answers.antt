-- `explain::cursor`: each operation leads to its arm, and NullRow's is left. Assumes nothing.
use mathlib.Core.Path.{◌≡◌, refl, ap}
use mathlib.Core.List.{[], ◌∷◌}
use native.Mathlib.Omega.{arith}
use borrow.Author.Rules.{rules}
use Rattle.opcode.specs.Opcode.{arm_of}
use Rattle.opcode.specs.declared.Operation.TheVariants.{Column, RowData, Insert, Delete, OpenPseudo, OpenDup, OpenRead, OpenEphemeral, NullRow}
use Rattle.opcode.proofs.Arms.{numbers_from}
use Rattle.opcode.proofs.Numbers.{NotThese, number_past, operation_is}
use Rattle.state.proofs.Stores.{leaves}
use Rattle.explain.proofs.NumberLaws.{cursor_number, read_number}
use Rattle.explain.proofs.cursor.Goals as goal

pub returns-in-Column : goal.returns-in-Column
returns-in-Column c = (leaves c.column.ensures, λ from n. cursor_number (ap arm_of c.in-Column.is) (c.column.ensures.is _))

pub returns-in-RowData : goal.returns-in-RowData
returns-in-RowData c = (leaves c.row_data.ensures, λ from n. cursor_number (ap arm_of c.in-RowData.is) (c.row_data.ensures.is _))

pub returns-in-Insert : goal.returns-in-Insert
returns-in-Insert c = (leaves c.insert.ensures, λ from n. cursor_number (ap arm_of c.in-Insert.is) (c.insert.ensures.is _))

pub returns-in-Delete : goal.returns-in-Delete
returns-in-Delete c = (leaves c.delete.ensures, λ from n. cursor_number (ap arm_of c.in-Delete.is) (c.delete.ensures.is _ _ c.requires.0.current))

pub returns-in-OpenPseudo : goal.returns-in-OpenPseudo
returns-in-OpenPseudo c = (leaves c.open_pseudo.ensures, λ from n. cursor_number (ap arm_of c.in-OpenPseudo.is) (c.open_pseudo.ensures.is _))

pub returns-in-OpenDup : goal.returns-in-OpenDup
returns-in-OpenDup c = (leaves c.open_dup.ensures, λ from n. cursor_number (ap arm_of c.in-OpenDup.is) (c.open_dup.ensures.is _))

pub returns-in-OpenRead : goal.returns-in-OpenRead
returns-in-OpenRead c = (leaves c.open_read.ensures, λ from n. read_number (ap arm_of c.in-OpenRead.is) c.open_read.ensures.is)

pub returns-in-OpenEphemeral : goal.returns-in-OpenEphemeral
returns-in-OpenEphemeral c = (leaves c.open_ephemeral.ensures, λ from n. cursor_number (ap arm_of c.in-OpenEphemeral.is) c.open_ephemeral.ensures.is)

pub returns-in_default : goal.returns-in_default
unfolding NotThese numbers_from
returns-in_default c =
    let past = number_past c.args.x.op 33 8 (OpenEphemeral ∷ OpenRead ∷ OpenDup ∷ OpenPseudo ∷ Delete ∷ Insert ∷ RowData ∷ Column ∷ []) refl c.requires.2 (search rules) in
    let last : c.args.x.op ≡ NullRow = operation_is NullRow (omega (arith, past, c.requires.3)) in
    (leaves c.null_row.ensures, λ from n. cursor_number (ap arm_of last) (c.null_row.ensures.is _ _ c.requires.0.current))
