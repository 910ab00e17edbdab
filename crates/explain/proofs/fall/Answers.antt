-- `explain::fall` handles a row that falls through, by the range of the operation. Assumes nothing.
use mathlib.Core.Path.{sym, ap, ◌∙◌}
use borrow.Author.Rules.{rules}
use denote.Enum.Bare.{same_true}
use Rattle.opcode.specs.Opcode.{arm_of}
use Rattle.opcode.specs.contracts.Operation.{the_type}
use Rattle.opcode.specs.declared.Operation.TheVariants.{Other}
use Rattle.state.proofs.Stores.{untouched}
use Rattle.explain.proofs.NumberLaws.{none_number}
use Rattle.explain.proofs.fall.Goals as goal

pub returns-then-eq : goal.returns-then-eq
returns-then-eq c = (untouched, λ from n. none_number (ap arm_of (same_true the_type (search rules) _ Other (sym c.eq.ensures ∙ c.if-eq.true))) c.requires.0.current)

pub returns-then-lt : goal.returns-then-lt
returns-then-lt c = (c.register.ensures.0.same, λ from n. c.register.ensures.1 from n _ _)

pub returns : goal.returns
returns c = (c.cursor.ensures.0.same, c.cursor.ensures.1)
