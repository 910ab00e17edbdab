-- `type_info::utf8::is_utf8`: each byte of an ASCII text is a character, and the tables say the rest. Assumes nothing.
use Rattle.std.proofs.Common.{rules, sym, ◌∙◌}
use Rattle.std.specs.Str.{IsAscii}
use Rattle.type_info.proofs.Automaton.{ascii_utf8, checked}
use Rattle.type_info.proofs.utf8.is_utf8.Goals as goal

pub returns-then-is_ascii : goal.returns-then-is_ascii
returns-then-is_ascii c = let ascii : IsAscii c.args.s.now = search rules in checked c.args.s.now c.is_ascii.result (c.if-is_ascii.true ∙ sym (ascii_utf8 c.args.s.now ascii))

pub returns-else-is_ascii : goal.returns-else-is_ascii
returns-else-is_ascii c = checked c.args.s.now c.reads.result (c.reads.ensures ∙ c.behind_ascii.ensures)
