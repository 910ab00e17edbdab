-- `opcode::judge`: the three answers together; the empty text's are computed. Assumes nothing.
use mathlib.Core.Path.{◌≡◌, refl}
use mathlib.Core.List.{List, [], ◌∷◌}
use Prim.Native.Nat.{ℕ}
use borrow.Author.Rules.{rules}
use native.Mathlib.Omega.{arith}
use lib.ListN.{length}
use Rattle.std.specs.Prelude.{None}
use Rattle.type_info.specs.Ascii.{ascii, equals, starts_with}
use Rattle.type_info.specs.Utf8.{reads, is_utf8}
use Rattle.model.specs.TextTable.{first_for}
use Rattle.model.specs.Functions.{built_in, function_in, prefixes, aggregate_of}
use Rattle.opcode.specs.P4.{JudgedText}
use Rattle.opcode.specs.declared.Aggregate.TheVariants.{Operand}
use Rattle.opcode.proofs.judge.Goals as goal

-- the empty text is UTF-8, no built-in function and no aggregate
empty-text : (p4 : List ℕ) → length p4 ≡ 0 → JudgedText (record { function = None; aggregate = Operand }) p4
unfolding is_utf8 reads function_in built_in aggregate_of prefixes first_for equals starts_with ascii
empty-text [] e = record { is_text = refl; the_function = refl; the_aggregate = refl }
empty-text (b ∷ rest) e = absurd (omega arith)

pub returns-then-is_empty : goal.returns-then-is_empty
returns-then-is_empty c = empty-text c.args.p4.now (search rules)
