-- `opcode::find_named`: each table has the definition's names of one length. Assumes nothing.
use mathlib.Core.Path.{refl}
use mathlib.Core.List.{[], ◌∷◌}
use borrow.Author.Rules.{rules}
use Rattle.type_info.specs.Ascii.{ascii}
use Rattle.model.specs.Operation.{operations}
use Rattle.opcode.specs.Opcode.{arms_of}
use Rattle.opcode.proofs.Arms.{NoneOf, one_of}
use Rattle.opcode.proofs.Tables.{Agrees, lengths_in, look_up_length, look_up_none}
use Rattle.opcode.proofs.find_named.Goals as goal

pub returns-in-2 : goal.returns-in-2
unfolding operations Agrees
returns-in-2 c = look_up_length arms_of (λ v. v) refl c.args.name.now operations _ 2 c.find.ensures c.in-2.is refl

pub returns-in-3 : goal.returns-in-3
unfolding operations Agrees
returns-in-3 c = look_up_length arms_of (λ v. v) refl c.args.name.now operations _ 3 c.find-in-3.ensures c.in-3.is refl

pub returns-in-4 : goal.returns-in-4
unfolding operations Agrees
returns-in-4 c = look_up_length arms_of (λ v. v) refl c.args.name.now operations _ 4 c.find-in-4.ensures c.in-4.is refl

pub returns-in-5 : goal.returns-in-5
unfolding operations Agrees
returns-in-5 c = look_up_length arms_of (λ v. v) refl c.args.name.now operations _ 5 c.find-in-5.ensures c.in-5.is refl

pub returns-in-6 : goal.returns-in-6
unfolding operations Agrees
returns-in-6 c = look_up_length arms_of (λ v. v) refl c.args.name.now operations _ 6 c.find-in-6.ensures c.in-6.is refl

pub returns-in-7 : goal.returns-in-7
unfolding operations Agrees
returns-in-7 c = look_up_length arms_of (λ v. v) refl c.args.name.now operations _ 7 c.find-in-7.ensures c.in-7.is refl

pub returns-in-8 : goal.returns-in-8
unfolding operations Agrees
returns-in-8 c = look_up_length arms_of (λ v. v) refl c.args.name.now operations _ 8 c.find-in-8.ensures c.in-8.is refl

pub returns-in-9 : goal.returns-in-9
unfolding operations Agrees
returns-in-9 c = look_up_length arms_of (λ v. v) refl c.args.name.now operations _ 9 c.find-in-9.ensures c.in-9.is refl

pub returns-in-10 : goal.returns-in-10
unfolding operations Agrees
returns-in-10 c = look_up_length arms_of (λ v. v) refl c.args.name.now operations _ 10 c.find-in-10.ensures c.in-10.is refl

pub returns-in-11 : goal.returns-in-11
unfolding operations Agrees
returns-in-11 c = look_up_length arms_of (λ v. v) refl c.args.name.now operations _ 11 c.find-in-11.ensures c.in-11.is refl

pub returns-in-12 : goal.returns-in-12
unfolding operations Agrees
returns-in-12 c = look_up_length arms_of (λ v. v) refl c.args.name.now operations _ 12 c.find-in-12.ensures c.in-12.is refl

pub returns-in-13 : goal.returns-in-13
unfolding operations Agrees
returns-in-13 c = look_up_length arms_of (λ v. v) refl c.args.name.now operations _ 13 c.find-in-13.ensures c.in-13.is refl

pub returns-in_default : goal.returns-in_default
unfolding operations lengths_in NoneOf one_of ascii
returns-in_default c = look_up_none arms_of (λ v. v) refl c.args.name.now operations (13 ∷ 12 ∷ 11 ∷ 10 ∷ 9 ∷ 8 ∷ 7 ∷ 6 ∷ 5 ∷ 4 ∷ 3 ∷ 2 ∷ []) refl (search rules)
