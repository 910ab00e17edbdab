-- Packing and then reading a head gives its parts back, so that equal heads have equal parts; another key or nullable changes that part alone.
-- Assumes nothing.
use Rattle.intmap.specs.declared.Class.TheVariants.{Registers, Cursors, Tables}
use Rattle.intmap.specs.declared.Class.{Class}
use mathlib.Core.Path.{◌≡◌, ap}
use Prim.Native.Nat.{ℕ, ◌/◌, ◌%◌, ◌<◌}
use native.Mathlib.Omega.{arith}
use Rattle.area.specs.Cells.{cell}
use Rattle.area.specs.declared.Cell.{Cell}
use Rattle.intmap.specs.Pack.{head, tag_of, key_of, with_key, with_nullable, class_number}

module _ (tag kind nullable key : ℕ) (t : tag < 256) where
  pub head_tag : head tag kind nullable key % 256 ≡ tag
  head_tag = omega arith

  module _ (k : kind < 256) where
    pub head_kind : head tag kind nullable key / 256 % 256 ≡ kind
    head_kind = omega arith

    module _ (n : nullable < 256) where
      pub head_nullable : head tag kind nullable key / 65536 % 256 ≡ nullable
      head_nullable = omega arith

      pub head-key : head tag kind nullable key / 16777216 ≡ key
      head-key = omega arith

      pub head_injective : (tag' kind' nullable' key' : ℕ) → tag' < 256 → kind' < 256 → nullable' < 256 → head tag kind nullable key ≡ head tag' kind' nullable' key' → (tag ≡ tag') × (kind ≡ kind') × (nullable ≡ nullable') × (key ≡ key')
      head_injective tag' kind' nullable' key' t' k' n' e = omega arith

      pub head_with_key : (payload new : ℕ) → with_key new (cell (head tag kind nullable key) payload) ≡ cell (head tag kind nullable new) payload
      head_with_key payload new = ap (λ (h : ℕ). cell h payload) (omega arith)

      pub head_with_nullable : (payload new : ℕ) → with_nullable new (cell (head tag kind nullable key) payload) ≡ cell (head tag kind new key) payload
      head_with_nullable payload new = ap (λ (h : ℕ). cell h payload) (omega arith)

-- another key leaves the tag as it was, and is the key
pub keyed_tag : (key : ℕ) (c : Cell) → tag_of (with_key key c) ≡ tag_of c
keyed_tag key c = omega arith

pub keyed_key : (key : ℕ) (c : Cell) → key_of (with_key key c) ≡ key
keyed_key key c = omega arith

-- ---- a key by its whole head

pub class_small : (c : Class) → class_number c < 3
class_small Registers = omega arith
class_small Cursors = omega arith
class_small Tables = omega arith
