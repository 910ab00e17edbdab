-- Laws of `Path`: it is kept where links and states are only added, goes on by a link, and from a place leads there or on by a link. Which bits
-- lead on. Assumes nothing.
use Rattle.std.proofs.Common.{◌≡◌, ℕ, ◌+◌, ◌/◌, Bool, true, false, eqb, List, get_or, sym, refl, ap, ◌∙◌, subst, ap₂, eq-eqb, ne_eqb}
use Rattle.area.specs.Cells.{blank}
use Rattle.area.specs.declared.Cell.{Cell}
use Rattle.intmap.specs.Pick.{pick}
use Rattle.branches.specs.Header.{hash_at, child}
use Rattle.branches.specs.Entries.{Kept, Stands, next_bits, Path, here, down, OnPath}

-- where the hash is the looked-for one, those of another hash; else the next ones
module _ (cs : List Cell) (f : ℕ → ℕ) (p bits h : ℕ) (c : Cell) (read : c ≡ get_or cs p blank) (is : h ≡ f 0) where
  picks : (t : Bool) → eqb c.head h ≡ t → pick t (f (p + 1)) (bits / 3) ≡ next_bits cs f p bits
  unfolding next_bits
  picks t e = ap (λ x. pick x (f (p + 1)) (bits / 3)) (sym e ∙ ap₂ eqb (ap (λ (x : Cell). x.head) read) is)

  pub next_rehashed : c.head ≡ h → f (p + 1) ≡ next_bits cs f p bits
  next_rehashed e = picks true (eq-eqb c.head h e)

  pub next_digits : (c.head ≡ h → ⊥) → bits / 3 ≡ next_bits cs f p bits
  next_digits ne = picks false (ne_eqb c.head h ne)

-- they depend on the hash there
next-same : (cs ds : List Cell) (f : ℕ → ℕ) (p bits : ℕ) → hash_at ds p ≡ hash_at cs p → next_bits ds f p bits ≡ next_bits cs f p bits
unfolding next_bits
next-same cs ds f p bits e = ap (λ h. pick (eqb h (f 0)) (f (p + 1)) (bits / 3)) e

-- what leads somewhere still does, from a place with the same hash
abbrev pub Adds : List Cell → List Cell → List Kept → Type 0
Adds cs ds ks = (p bits : ℕ) → Stands ks p → (child cs p bits ≡ 0 → ⊥) → (hash_at ds p ≡ hash_at cs p) × (child ds p bits ≡ child cs p bits)

module _ (cs ds : List Cell) (ks more : List Kept) (f : ℕ → ℕ) (all : (p : ℕ) → Stands ks p → Stands more p) (adds : Adds cs ds ks) where
  pub path_kept : {p bits to left : ℕ} → Path cs ks f p bits to left → Path ds more f p bits to left
  path_kept here = here
  path_kept {p} {bits} {to} {left} (down l ne rest) =
      let e = adds p bits l ne in
      down (all p l) (λ z. ne (sym e.1 ∙ z)) (subst (λ x. Path ds more f x (next_bits ds f p bits) to left) (sym e.1) (subst (λ x. Path ds more f (child cs p bits) x to left) (sym (next-same cs ds f p bits e.0)) (path_kept rest)))

  pub on_kept : {p bits to : ℕ} → OnPath cs ks f p bits to → OnPath ds more f p bits to
  on_kept o = record { left = o.left; path = path_kept o.path }

module _ (cs : List Cell) (ks : List Kept) (f : ℕ → ℕ) where
  pub path_more : {p bits to left : ℕ} → Path cs ks f p bits to left → Stands ks to → (child cs to left ≡ 0 → ⊥) → Path cs ks f p bits (child cs to left) (next_bits cs f to left)
  path_more here l ne = down l ne here
  path_more (down m more rest) l ne = down m more (path_more rest l ne)

  path_next : {p bits to left : ℕ} → Path cs ks f p bits to left → (p ≡ to → ⊥) → (child cs p bits ≡ 0 → ⊥) × Path cs ks f (child cs p bits) (next_bits cs f p bits) to left
  path_next here ne = absurd (ne refl)
  path_next (down l more rest) ne = (more, rest)

  pub on_next : {p bits to : ℕ} → OnPath cs ks f p bits to → (p ≡ to → ⊥) → (child cs p bits ≡ 0 → ⊥) × OnPath cs ks f (child cs p bits) (next_bits cs f p bits) to
  on_next o ne = let x = path_next o.path ne in (x.0, record { left = o.left; path = x.1 })
