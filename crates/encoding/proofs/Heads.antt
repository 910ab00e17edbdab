-- Runs in a row, each with its head changed by place: the changed runs stand there, and nothing else changes. Assumes nothing.
use mathlib.Core.Path.{◌≡◌, refl, sym, ap, ap₂, subst, ◌∙◌}
use mathlib.Core.List.{List, [], ◌∷◌, ◌++◌, flatten, map}
use Prim.Native.Nat.{ℕ, zero, suc, ◌+◌, ◌<◌, ◌≤◌}
use native.Mathlib.Omega.{arith}
use lib.ListN.{length, get_or, set, length-set}
use lib.Seq.{get_or-set_same, get_or-set_other}
use Rattle.model.specs.Good.{Each}
use Rattle.area.specs.Cells.{blank}
use Rattle.area.specs.declared.Cell.{Cell}
use Rattle.intmap.specs.Runs.{size, sizes, Agree}
use Rattle.intmap.proofs.RunLaws.{size-pos}
use Rattle.intmap.proofs.SameCells.{size_same, sizes_same}
use Rattle.intmap.specs.Entries.{span, total, Runs}
use Rattle.intmap.proofs.EntryLaws.{span_same}
use Rattle.intmap.specs.Change.{on_head}
use Rattle.encoding.specs.Heads.{on_heads}
use Rattle.encoding.specs.Holds.{Stands}
use Rattle.encoding.proofs.Standing.{Whole, stands_first, stands_second, stands_both, stands_head, stands_rest}

module _ (f : Cell → Cell) (d : ℕ) where
  abbrev changed : List Cell → ℕ → List Cell
  changed cs p = set cs p (f (get_or cs p blank))

  other : (cs : List Cell) (p j : ℕ) → (j ≡ p → ⊥) → get_or (changed cs p) j blank ≡ get_or cs j blank
  other cs p j ne = get_or-set_other cs p j _ blank ne

  pub heads_length : (n : ℕ) (cs : List Cell) (p : ℕ) → length (on_heads f d cs n p) ≡ length cs
  unfolding on_heads
  heads_length zero cs p = refl
  heads_length (suc n) cs p = heads_length n (changed cs p) (p + size cs d p) ∙ length-set cs p _

  pub heads_below : (n : ℕ) (cs : List Cell) (p j : ℕ) → j < p → get_or (on_heads f d cs n p) j blank ≡ get_or cs j blank
  unfolding on_heads
  heads_below zero cs p j h = refl
  heads_below (suc n) cs p j h = heads_below n (changed cs p) (p + size cs d p) j (omega arith) ∙ other cs p j (omega arith)

  pub heads_above : (n : ℕ) (cs : List Cell) (p j : ℕ) → p + sizes (size cs d) n p ≤ j → get_or (on_heads f d cs n p) j blank ≡ get_or cs j blank
  unfolding on_heads sizes
  heads_above zero cs p j h = refl
  heads_above (suc n) cs p j h =
      let q = p + size cs d p in
      let s = size-pos cs d p in
      let same : Agree cs q (changed cs p) q (sizes (size cs d) n q) = λ i lt. other cs p (q + i) (omega arith) in
      heads_above n (changed cs p) q j (omega (arith, sizes_same (size cs d) (size (changed cs p) d) cs (changed cs p) (size_same cs (changed cs p) d) n q q same)) ∙ other cs p j (omega arith)

  pub heads_stand : (rs : Runs) → Each (Whole d) rs → (cs : List Cell) (p : ℕ) → p + total rs ≤ length cs → Stands cs p (flatten rs) → Stands (on_heads f d cs (length rs) p) p (flatten (map (on_head f) rs))
  unfolding on_heads flatten total span
  heads_stand [] w cs p h e = refl
  heads_stand ([] ∷ rs) w cs p h e = absurd (omega (arith, w.0 cs p refl, size-pos cs d p))
  heads_stand ((c ∷ r) ∷ rs) w cs p h e =
      let first = stands_first cs p (c ∷ r) (flatten rs) e in
      let ds = changed cs p in
      let q = p + suc (length r) in
      let s : size cs d p ≡ suc (length r) = w.0 cs p first in
      let rest : Stands ds q (flatten rs) = span_same cs ds (length (flatten rs)) q q (λ i lt. other cs p (q + i) (omega arith)) ∙ stands_second cs p (c ∷ r) (flatten rs) e in
      let tail = heads_stand rs w.1 ds q (omega (arith, length-set cs p (f (get_or cs p blank)))) rest in
      let es = on_heads f d ds (length rs) q in
      let head : get_or es p blank ≡ f c = heads_below (length rs) ds q p (omega arith) ∙ get_or-set_same cs p _ blank (omega arith) ∙ ap f (stands_head cs p c r first) in
      let body : Stands es (p + 1) r = span_same cs es (length r) (p + 1) (p + 1) (λ i lt. heads_below (length rs) ds q (p + 1 + i) (omega arith) ∙ other cs p (p + 1 + i) (omega arith)) ∙ stands_rest cs p c r first in
      subst (λ n. Stands (on_heads f d ds (length rs) (p + n)) p ((f c ∷ r) ++ flatten (map (on_head f) rs))) (sym s)
      (stands_both es p (f c ∷ r) (flatten (map (on_head f) rs)) (ap₂ (λ x y. x ∷ y) head body) tail)
