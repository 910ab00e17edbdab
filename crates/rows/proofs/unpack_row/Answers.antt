-- `rows::unpack_row` reads the parts. Assumes nothing.
use Prim.Native.Nat.{◌+◌, ◌/◌, ◌%◌}
use Rattle.opcode.proofs.Numbers.{numbered_is}
use Rattle.rows.specs.Parts.{least}
use Rattle.rows.proofs.unpack_row.Goals as goal

pub returns : goal.returns
returns c = λ i.
    record {
      op = numbered_is _ _ c.from.ensures i;
      p4 = c.args.c.head / 256 % 16777216;
      p1 = c.args.c.head / 4294967296 + least;
      p2 = c.args.c.payload % 4294967296 + least;
      p3 = c.args.c.payload / 4294967296 + least;
    }
