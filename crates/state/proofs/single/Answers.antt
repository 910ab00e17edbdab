-- `state::single` packs the parts. Assumes nothing.
use mathlib.Core.Path.{ap, ap₂, ◌∙◌}
use native.Mathlib.Omega.{arith}
use Rattle.area.specs.Cells.{cell}
use Rattle.intmap.specs.Pack.{head}
use Rattle.encoding.proofs.Packing.{code_small, nullable_small}
use Rattle.state.proofs.single.Goals as goal

pub pack-requires : goal.pack-requires
pack-requires c =
    record {
      tag_small = omega arith;
      kind_small = omega (arith, c.code.ensures, code_small c.args.d);
      nullable_small = omega (arith, c.nullable_code.ensures, nullable_small c.args.nullable);
      key_small = omega arith;
    }

pub returns : goal.returns
returns c = ap (λ h. cell h 0) (c.pack.ensures ∙ ap₂ (λ k n. head 1 k n 0) c.code.ensures c.nullable_code.ensures)
