-- `type_info::utf8::reads`: from its state the rest of the text reads as the whole does from the start. Assumes nothing.
use Rattle.std.proofs.Common.{◌≡◌, ◌<◌, drop}
use Rattle.type_info.specs.ByteClass.{expected}
use Rattle.type_info.specs.Utf8.{reads, is_utf8}
use Rattle.type_info.proofs.utf8.reads.Given as goal

abbrev pub invariant-loop-b : goal.invariant-loop-b
invariant-loop-b l = record { state : l.state < 8; rest : reads (expected l.state) (drop l.b-index l.s) ≡ is_utf8 l.s }
