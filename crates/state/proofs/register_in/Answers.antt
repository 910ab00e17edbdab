-- `state::register_in` asks for the tag. Assumes nothing.
use mathlib.Core.Path.{sym, ap₂, ◌∙◌}
use Rattle.state.specs.declared.Register.TheVariants as register
use Rattle.state.proofs.ReadLaws.{in_single, in_record, in_int}
use Rattle.state.proofs.register_in.Goals as goal

pub returns-then-tag-eq-SINGLE : goal.returns-then-tag-eq-SINGLE
returns-then-tag-eq-SINGLE c = ap₂ register.Single c.datatype_in.ensures c.nullable_in.ensures ∙ in_single _ _ (sym c.tag_of-tag.ensures ∙ c.if-tag-eq-SINGLE.true)

pub returns-then-tag-eq-RECORD : goal.returns-then-tag-eq-RECORD
returns-then-tag-eq-RECORD c = in_record _ _ (sym c.tag_of-tag.ensures ∙ c.if-tag-eq-RECORD.true)

pub returns : goal.returns
returns c = in_int _ _ (λ e. c.if-tag-eq-SINGLE.false (c.tag_of-tag.ensures ∙ e)) (λ e. c.if-tag-eq-RECORD.false (c.tag_of-tag.ensures ∙ e))
