-- `opcode::function_in`: each table has the built-in texts of one length. Assumes nothing.
use mathlib.Core.Path.{refl}
use mathlib.Core.List.{[], ◌∷◌}
use borrow.Author.Rules.{rules}
use Rattle.type_info.specs.Ascii.{ascii}
use Rattle.model.specs.Functions.{built_in, function_in}
use Rattle.opcode.specs.P4.{values_of}
use Rattle.opcode.proofs.Arms.{NoneOf, one_of}
use Rattle.opcode.proofs.Tables.{Agrees, lengths_in, look_up_length, look_up_none}
use Rattle.opcode.proofs.function_in.Goals as goal

pub returns-in-8 : goal.returns-in-8
unfolding function_in built_in Agrees
returns-in-8 c = look_up_length values_of (λ v. v) refl c.args.text.now built_in _ 8 c.find.ensures c.in-8.is refl

pub returns-in-12 : goal.returns-in-12
unfolding function_in built_in Agrees
returns-in-12 c = look_up_length values_of (λ v. v) refl c.args.text.now built_in _ 12 c.find-in-12.ensures c.in-12.is refl

pub returns-in-13 : goal.returns-in-13
unfolding function_in built_in Agrees
returns-in-13 c = look_up_length values_of (λ v. v) refl c.args.text.now built_in _ 13 c.find-in-13.ensures c.in-13.is refl

pub returns-in-20 : goal.returns-in-20
unfolding function_in built_in Agrees
returns-in-20 c = look_up_length values_of (λ v. v) refl c.args.text.now built_in _ 20 c.find-in-20.ensures c.in-20.is refl

pub returns-in_default : goal.returns-in_default
unfolding function_in built_in lengths_in NoneOf one_of ascii
returns-in_default c = look_up_none values_of (λ v. v) refl c.args.text.now built_in (20 ∷ 13 ∷ 12 ∷ 8 ∷ []) refl (search rules)
