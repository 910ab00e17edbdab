-- `type_info::utf8::class_of`: an entry of the table. Assumes nothing.
use Rattle.std.proofs.Common.{arith}
use Rattle.type_info.proofs.Tables.{classes_right}
use Rattle.type_info.proofs.utf8.class_of.Goals as goal

pub returns : goal.returns
returns c = rw c.from.ensures (classes_right.at c.args.b (omega arith))
