-- A search goes on from where another for a smaller key ended: from there on stands what a larger key has. Assumes nothing.
use mathlib.Core.Path.{◌≡◌, refl, sym, ap, ◌∙◌}
use mathlib.Core.Bool.{Bool, true, false}
use Rattle.std.specs.Prelude.{None, Some}
use mathlib.Core.List.{List}
use Prim.Native.Nat.{ℕ, zero, suc, ◌+◌, ◌-◌, ◌<◌, ◌≤◌}
use native.Mathlib.Omega.{arith}
use lib.Dec.{eqb, ltb}
use lib.ListN.{get_or}
use borrow.Author.Tests.{lt-ltb, ltb-true}
use Rattle.area.specs.Cells.{blank}
use Rattle.area.specs.declared.Cell.{Cell}
use Rattle.intmap.specs.Pack.{key_of, class_key}
use Rattle.intmap.specs.Pick.{pick}
use Rattle.intmap.specs.Runs.{size}
use Rattle.intmap.specs.Entries.{span, entries, key_run}
use Rattle.intmap.specs.Find.{place, seek_place, seek_found}
use Rattle.intmap.specs.Swap.{lookup}
use Rattle.intmap.specs.Map.{levels}
use Rattle.intmap.specs.declared.Place.{Place}
use Rattle.intmap.proofs.FindLaws.{entry_told, seek_ends, seek_left}
use Rattle.intmap.proofs.RunLaws.{size-pos, sizes_step}
use Rattle.intmap.proofs.EntryLaws.{key-span}
use Rattle.record_arms.specs.Records.{Ahead}

-- an entry with a smaller key is passed
passed : (cs : List Cell) (d n p j : ℕ) → key_of (get_or cs p blank) < j → lookup j (entries cs d n (p + size cs d p)) ≡ lookup j (entries cs d (suc n) p)
unfolding lookup entries
passed cs d n p j lt =
    let key = key-span cs p (size cs d p) (size-pos cs d p) in
    sym
    (ap (λ b. pick b (lookup j (entries cs d n (p + size cs d p))) (pick (eqb (key_run (span cs p (size cs d p))) j) (Some (span cs p (size cs d p))) None))
    (lt-ltb (key_run (span cs p (size cs d p))) j (omega (arith, key))))

module _ (cs : List Cell) (d key : ℕ) where
  abbrev next : ℕ → ℕ → Place
  next n p = seek_place cs d key n (p + size cs d p)

  -- from where the search ended
  seek_ahead : (n p j : ℕ) → key ≤ j → lookup j (entries cs d (seek_place cs d key n p).left (seek_place cs d key n p).at) ≡ lookup j (entries cs d n p)
  unfolding seek_place
  seek_ahead zero p j le = refl
  seek_ahead (suc n) p j le = go (ltb (key_of (get_or cs p blank)) key) refl (seek_ahead n (p + size cs d p) j le)
    where
      go : (t : Bool) → ltb (key_of (get_or cs p blank)) key ≡ t → lookup j (entries cs d (next n p).left (next n p).at) ≡ lookup j (entries cs d n (p + size cs d p)) → lookup j (entries cs d (pick t (next n p) (place p (suc n))).left (pick t (next n p) (place p (suc n))).at) ≡ lookup j (entries cs d (suc n) p)
      go true e rest = rest ∙ passed cs d n p j (omega (arith, ltb-true (key_of (get_or cs p blank)) key e))
      go false e rest = refl

  -- from behind the entry that it found
  seek_behind : (n p j : ℕ) → seek_found cs d key n p ≡ true → key < j → lookup j (entries cs d ((seek_place cs d key n p).left - 1) ((seek_place cs d key n p).at + size cs d (seek_place cs d key n p).at)) ≡ lookup j (entries cs d n p)
  seek_behind n p j h lt =
      let w = seek_place cs d key n p in
      let told = entry_told cs key w h in
      let one : suc (w.left - 1) ≡ w.left = omega (arith, told.0) in
      passed cs d (w.left - 1) w.at j (omega (arith, told.1, lt)) ∙ ap (λ m. lookup j (entries cs d m w.at)) one ∙ seek_ahead n p j (omega (arith, lt))

-- of registers
module _ (cs : List Cell) (at left k : ℕ) where
  abbrev its : Place
  its = seek_place cs levels (class_key 0 k) left at

  pub ahead_there : Ahead cs at left k its.at its.left
  ahead_there =
      record {
        below = omega (arith, seek_ends cs levels (class_key 0 k) left at);
        same = λ j lt. seek_ahead cs levels (class_key 0 k) left at (class_key 0 j) (omega arith);
      }

  pub ahead_behind : seek_found cs levels (class_key 0 k) left at ≡ true → Ahead cs at left k (its.at + size cs levels its.at) (its.left - 1)
  ahead_behind h =
      let ends = seek_ends cs levels (class_key 0 k) left at in
      let step = sizes_step (size cs levels) its.left its.at (seek_left cs levels (class_key 0 k) left at h) in
      record {
        below = omega (arith, ends, step);
        same = λ j lt. seek_behind cs levels (class_key 0 k) left at (class_key 0 j) h (omega arith);
      }
