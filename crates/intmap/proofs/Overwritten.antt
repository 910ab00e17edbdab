-- A cell that is no record's, overwritten by another such with its key, leaves all runs their places and keys, so every search its answer, and
-- a map a map. If it is the entry that a search for the key leads to, that is the store of the new cell. Assumes nothing.
use mathlib.Core.Path.{◌≡◌, refl, sym, ap, ◌∙◌}
use mathlib.Core.List.{List, [], ◌∷◌}
use Prim.Native.Nat.{ℕ, zero, suc, ◌+◌, ◌-◌, ◌<◌}
use native.Mathlib.Omega.{arith}
use native.Mathlib.Decide.{ℕ_discrete}
use lib.Dec.{eqb}
use lib.ListN.{length, get_or, set, length-set}
use lib.Seq.{get_or-set_same, get_or-set_other}
use Rattle.area.specs.Cells.{blank}
use Rattle.area.specs.declared.Cell.{Cell}
use Rattle.area.proofs.MoveLaws.{moved_same}
use Rattle.std.specs.Prelude.{Ok}
use Rattle.intmap.specs.Alike.{Alike}
use Rattle.intmap.specs.Entries.{key_run}
use Rattle.intmap.specs.Find.{has_entry, seek_place, seek, spot}
use Rattle.intmap.specs.Map.{levels, IsMap, HasRoom}
use Rattle.intmap.specs.Pack.{tag_of, key_of}
use Rattle.intmap.specs.Runs.{size, sizes, whole}
use Rattle.intmap.specs.Store.{Opens, Inserts}
use Rattle.intmap.specs.declared.IntMap.{IntMap}
use Rattle.intmap.specs.declared.Place.{Place}
use Rattle.intmap.proofs.RunLaws.{size-single}
use Rattle.intmap.proofs.StoreLaws.{room_map, few_entries, found_pos, opened_old, cell_done}

module _ (cs ds : List Cell) (q : ℕ) (c : Cell) (e : ds ≡ set cs q c) (fits : q < length cs) (old : tag_of (get_or cs q blank) ≡ 2 → ⊥) (new : tag_of c ≡ 2 → ⊥) where
  here : get_or ds q blank ≡ c
  here = ap (λ (l : List Cell). get_or l q blank) e ∙ get_or-set_same cs q c blank fits

  other : (p : ℕ) → (p ≡ q → ⊥) → get_or ds p blank ≡ get_or cs p blank
  other p ne = ap (λ (l : List Cell). get_or l p blank) e ∙ get_or-set_other cs q p c blank ne

  sizes_here : (d : ℕ) → size ds d q ≡ size cs d q
  sizes_here d = sym (size-single ds d q c (sym here) new) ∙ size-single cs d q (get_or cs q blank) refl old

  sizes_all : (d p : ℕ) → size ds d p ≡ size cs d p
  unfolding size
  sizes_all zero p = refl
  sizes_all (suc d) p = go (ℕ_discrete p q) (sizes_all d)
    where
      go : Dec (p ≡ q) → ((p : ℕ) → size ds d p ≡ size cs d p) → size ds (suc d) p ≡ size cs (suc d) p
      go (yes y) ih = ap (size ds (suc d)) y ∙ sizes_here (suc d) ∙ ap (size cs (suc d)) (sym y)
      go (no n) ih =
          ap (λ x. whole (size ds d) (eqb (tag_of x) 2) x.payload p) (other p n)
          ∙ ap (λ f. whole f (eqb (tag_of (get_or cs p blank)) 2) (get_or cs p blank).payload p) (λ i x. ih x i)

  pub alike : key_of c ≡ key_of (get_or cs q blank) → Alike cs ds
  alike k = record { long = ap length e ∙ length-set cs q c; sizes = sizes_all; keys = λ p. go p (ℕ_discrete p q) }
    where
      go : (p : ℕ) → Dec (p ≡ q) → key_of (get_or ds p blank) ≡ key_of (get_or cs p blank)
      go p (yes y) = ap (λ x. key_of (get_or ds x blank)) y ∙ ap key_of here ∙ k ∙ ap (λ x. key_of (get_or cs x blank)) (sym y)
      go p (no n) = ap key_of (other p n)

pub alike_same : (cs : List Cell) → Alike cs cs
alike_same cs = record { long = refl; sizes = λ d p. refl; keys = λ p. refl }

pub alike_then : {cs ds es : List Cell} → Alike cs ds → Alike ds es → Alike cs es
alike_then f g = record { long = g.long ∙ f.long; sizes = λ d p. g.sizes d p ∙ f.sizes d p; keys = λ p. g.keys p ∙ f.keys p }

module _ {cs ds : List Cell} (s : Alike cs ds) where
  alike_place : (d key n b : ℕ) → seek_place ds d key n b ≡ seek_place cs d key n b
  unfolding seek_place
  alike_place d key zero b = refl
  alike_place d key (suc n) b = rw (s.keys b, s.sizes d b, alike_place d key n (b + size cs d b))

  pub alike_seek : (d key n b : ℕ) → seek ds d key n b ≡ seek cs d key n b
  unfolding seek has_entry
  alike_seek d key n b = rw (alike_place d key n b, s.keys (seek_place cs d key n b).at)

  alike_sizes : (d n b : ℕ) → sizes (size cs d) n b ≡ sizes (size ds d) n b
  alike_sizes d n b = ap (λ f. sizes f n b) (λ i p. sym (s.sizes d p) i)

  pub alike_map : {a : IntMap} → IsMap cs a → IsMap ds a
  alike_map {a} is = record { used = is.used ∙ alike_sizes levels a.len a.base; inside = omega (arith, is.inside, s.long); small = omega (arith, is.small, s.long) }

  pub alike_room : {limit : ℕ} {a : IntMap} → HasRoom cs limit a → HasRoom ds limit a
  alike_room {a = a} has =
      record {
        used = has.used ∙ alike_sizes levels a.len a.base;
        most = has.most;
        room = omega (arith, has.room, s.long);
        small = omega (arith, has.small, s.long);
      }

-- ---- the store

module _ (cs ds : List Cell) (limit : ℕ) (m : IntMap) (key p : ℕ) (c : Cell) (has : HasRoom cs limit m) (old : tag_of (get_or cs p blank) ≡ 2 → ⊥) (new : tag_of c ≡ 2 → ⊥) (keyed : key_of c ≡ key)
    (w : Place) (there : Ok w ≡ seek cs levels key m.len m.base) (here : w.at ≡ p) (e : ds ≡ set cs p c)
  where
    one : size cs levels p ≡ 1
    one = sym (size-single cs levels p (get_or cs p blank) refl old)

    opens : Opens cs cs limit m (seek cs levels key m.len m.base) 1 (Ok m)
    opens =
        opened_old cs cs limit m _ w 1 (Ok m) 1 there (sym (ap (size cs levels) here ∙ one))
        (record {
          base = refl;
          len = refl;
          used = omega (arith, found_pos cs m key (room_map has) there, few_entries cs m (room_map has));
          most = has.most;
          cells = sym (moved_same cs (w.at + 1) (m.base + m.used - w.at - 1));
          long = refl;
        })

    pub overwritten : Inserts cs ds limit m (c ∷ []) (Ok m)
    unfolding key_run
    overwritten = cell_done cs cs limit m c key (Ok m) has new keyed opens ds p m (sym here ∙ ap (λ s. (spot s).at) there) refl e
