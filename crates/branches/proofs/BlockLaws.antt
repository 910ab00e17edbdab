-- Laws of `Blocks`: each lies between `first` and `top`, two of them are one or apart, the first is at `first`. Assumes nothing.
use Rattle.std.proofs.Common.{◌≡◌, ℕ, ◌+◌, ◌<◌, ◌≤◌, ◌⊎◌, List, [], ◌∷◌, sym, refl, ap, ◌∙◌, subst, inl, inr, arith, Option}
use Rattle.model.specs.Walk.{◌∈◌}
use Rattle.area.specs.declared.Cell.{Cell}
use Rattle.branches.specs.Header.{used_at, next_at, link_of, place_of}
use Rattle.branches.specs.Entries.{Kept, count_cells, Blocks, Stands, Waiting}
use Rattle.branches.proofs.HeaderLaws.{place_some}

-- where the one at p ends
abbrev pub end_at : List Cell → ℕ → ℕ → ℕ
end_at cs n p = p + 2 + used_at cs p + count_cells n

-- one place, or one before the other
abbrev pub Apart : List Cell → ℕ → ℕ → ℕ → Type 0
Apart cs n p q = (p ≡ q) ⊎ (end_at cs n p ≤ q) ⊎ (end_at cs n q ≤ p)

module _ (cs : List Cell) (n : ℕ) where
  pub blocks_low : (first top : ℕ) (ks : List Kept) → Blocks cs n first top ks → first ≤ top
  blocks_low first top [] b = omega arith
  blocks_low first top (k ∷ ks) b = omega (arith, blocks_low first k.at ks b.1, b.0)

  pub blocks_span : (first top : ℕ) (ks : List Kept) → Blocks cs n first top ks → (k : Kept) → k ∈ ks → (first ≤ k.at) × (end_at cs n k.at ≤ top)
  blocks_span first top [] b k e = absurd e
  blocks_span first top (j ∷ ks) b k (inl e) = subst (λ (x : Kept). (first ≤ x.at) × (end_at cs n x.at ≤ top)) e (blocks_low first j.at ks b.1, omega (arith, b.0))
  blocks_span first top (j ∷ ks) b k (inr e) = let t = blocks_span first j.at ks b.1 k e in (t.0, omega (arith, t.1, b.0))

  pub blocks_apart : (first top : ℕ) (ks : List Kept) → Blocks cs n first top ks → (k j : Kept) → k ∈ ks → j ∈ ks → Apart cs n k.at j.at
  blocks_apart first top [] b k j e f = absurd e
  blocks_apart first top (i ∷ ks) b k j (inl e) (inl f) = inl (ap (λ (x : Kept). x.at) (sym e ∙ f))
  blocks_apart first top (i ∷ ks) b k j (inl e) (inr f) = inr (inr (subst (λ (x : Kept). end_at cs n j.at ≤ x.at) e (blocks_span first i.at ks b.1 j f).1))
  blocks_apart first top (i ∷ ks) b k j (inr e) (inl f) = inr (inl (subst (λ (x : Kept). end_at cs n k.at ≤ x.at) f (blocks_span first i.at ks b.1 k e).1))
  blocks_apart first top (i ∷ ks) b k j (inr e) (inr f) = blocks_apart first i.at ks b.1 k j e f

  pub blocks_root : (first top : ℕ) (ks : List Kept) → first < top → Blocks cs n first top ks → Stands ks first
  blocks_root first top [] lt b = absurd (omega arith)
  blocks_root first top (k ∷ []) lt b = record { kept = k; among = inl refl; at = b.1 }
  blocks_root first top (k ∷ (j ∷ ks)) lt b =
      let r = blocks_root first k.at (j ∷ ks) (omega (arith, blocks_low first j.at ks b.1.1, b.1.0)) b.1 in
      record { kept = r.kept; among = inr r.among; at = r.at }

  pub blocks_none : (first top : ℕ) (ks : List Kept) → top ≤ first → Blocks cs n first top ks → ks ≡ []
  blocks_none first top [] le b = refl
  blocks_none first top (k ∷ ks) le b = absurd (omega (arith, blocks_low first k.at ks b.1, b.0))

-- they lie as they did where the sizes are as they were
pub blocks_same : (cs ds : List Cell) (n first top : ℕ) (ks : List Kept) → ((k : Kept) → k ∈ ks → used_at ds k.at ≡ used_at cs k.at) → Blocks cs n first top ks → Blocks ds n first top ks
blocks_same cs ds n first top [] same b = b
blocks_same cs ds n first top (k ∷ ks) same b = (omega (arith, same k (inl refl), b.0), blocks_same cs ds n first k.at ks (λ j e. same j (inr e)) b.1)

-- and those that wait
pub waiting_same : (cs ds : List Cell) (last : Option ℕ) (ws : List Kept) → ((k : Kept) → k ∈ ws → next_at ds k.at ≡ next_at cs k.at) → Waiting cs last ws → Waiting ds last ws
waiting_same cs ds last [] same w = w
waiting_same cs ds last (k ∷ ws) same w =
    let e = same k (inl refl) in
    let rest : Waiting ds (place_of (next_at cs k.at)) ws = waiting_same cs ds (place_of (next_at cs k.at)) ws (λ j a. same j (inr a)) w.2 in
    (w.0, omega (arith, w.1), subst (λ x. Waiting ds (place_of x) ws) (sym e) rest)

-- none is at place 0, so that the link's word tells the latest
pub waiting_link : (cs : List Cell) (last : Option ℕ) (ws : List Kept) → Waiting cs last ws → place_of (link_of last) ≡ last
waiting_link cs last [] w = subst (λ x. place_of (link_of x) ≡ x) (sym w) refl
waiting_link cs last (k ∷ ws) w = subst (λ x. place_of (link_of x) ≡ x) (sym w.0) (sym (place_some k.at (λ z. omega (arith, w.1, z))))

-- the latest that waits lies below the top
pub waiting_low : (cs : List Cell) (last : Option ℕ) (top : ℕ) (ws : List Kept) → 0 < top → ((k : Kept) → k ∈ ws → k.at < top) → Waiting cs last ws → link_of last < top
waiting_low cs last top [] lt below w = omega (arith, ap link_of w)
waiting_low cs last top (k ∷ ws) lt below w = omega (arith, below k (inl refl), ap link_of w.0)
