-- What `push` says: of a known state that it is dropped, of another that it is kept, where there is space. The new state lies at the top, a
-- free link on the way of its hashes leads to it, and all others are as they were. Assumes nothing.
use Rattle.std.proofs.Common.{◌≡◌, ℕ, ◌+◌, ◌-◌, ◌/◌, ◌%◌, ◌<◌, ◌≤◌, Bool, true, false, leb, ◌⊎◌, List, [], ◌∷◌, length, get_or, sym, refl, ap, ◌∙◌, subst, ap₂, inl, inr, arith, le-leb, Option, None, Some, Ok, Err}
use native.Mathlib.Decide.{ℕ_discrete}
use borrow.Author.Tests.{lt-leb}
use Rattle.model.specs.Walk.{◌∈◌, verdict, known, judge}
use Rattle.model.specs.State.{MemoryState as Defined}
use Rattle.model.specs.Equality.{eq_state}
use Rattle.refusal.specs.declared.Refusal.TheVariants.{NoSpace}
use Rattle.area.specs.Cells.{blank, cells}
use Rattle.area.specs.declared.Cell.{Cell}
use Rattle.area.proofs.CellLaws.{length-cells, cells-kept}
use Rattle.intmap.specs.Runs.{Agree}
use Rattle.intmap.specs.Map.{runs_at, IsMap}
use Rattle.intmap.proofs.MapLaws.{placed, placed_map, placed_runs}
use Rattle.intmap.proofs.StoreLaws.{few_entries}
use Rattle.encoding.proofs.Held.{held_used}
use Rattle.state.specs.Steps.{HoldsState}
use Rattle.state.specs.declared.MemoryState.{MemoryState}
use Rattle.branches.specs.Header.{half, sizes_word, hash_at, sizes_at, child, used_at, next_at, state_at, link_of, place_of}
use Rattle.branches.specs.Hash.{hash_from, hash_of}
use Rattle.branches.specs.Entries.{Kept, states, Counted, count_cells, IsKept, Blocks, Stands, next_bits, here, OnWay, Later, Links, Waiting, Remembers}
use Rattle.branches.specs.Lists.{units_for, Pushes}
use Rattle.branches.specs.Search.{Ends, EndsAt, Searches}
use Rattle.branches.specs.Changes.{Pushable, Savable, Saves, Linkable, Linked, Connects}
use Rattle.branches.specs.declared.BranchList.{BranchList}
use Rattle.branches.specs.declared.FreeLink.{FreeLink}
use Rattle.branches.proofs.HeaderLaws.{child-same, child_alike, child-none, len_part, used_part, next_part, state_parts}
use Rattle.branches.proofs.HashLaws.{hashes_equal}
use Rattle.branches.proofs.BlockLaws.{end_at, Apart, blocks_low, blocks_span, blocks_apart, blocks_same, waiting_same, waiting_link, waiting_low}
use Rattle.branches.proofs.PathLaws.{Adds, path_kept, path_more}
use Rattle.branches.proofs.RememberLaws.{Bytes, counted-kept, SameBlock, kept_same, way_same}
use Rattle.branches.proofs.SearchLaws.{at_equal, equal_at, known-true, known-false}

-- where a state ends that is added, the list with it, and what is kept of it
abbrev pub end_of : ℕ → BranchList → MemoryState → ℕ
end_of n b s = b.top + 2 + s.map.used + count_cells n

abbrev pub grown : ℕ → BranchList → MemoryState → BranchList
grown n b s = record { first = b.first; top = end_of n b s; last = Some b.top }

abbrev pub newest : BranchList → Defined → List ℕ → Kept
newest b m past = record { at = b.top; mem = m; past = past }

-- ---- the definition's verdict
judged : (n : ℕ) (m : Defined) (ks : List Kept) (space : ℕ) (t u : Bool) → known eq_state m (states ks) ≡ t → leb (units_for n m) space ≡ u → judge eq_state (units_for n) m (states ks) space ≡ verdict t u
unfolding judge
judged n m ks space t u e f = ap₂ verdict e f

module _ (limit n counts : ℕ) (xs : List ℕ) (b : BranchList) (s : MemoryState) (ok : Pushable limit n counts xs b s) where
  -- a known state
  pub push_known : Searches xs b s None → Pushes limit n counts xs xs b b s (Ok tt)
  push_known found =
      record {
        says = λ bound ks ws m past r held counted.
            let f = found.says limit bound n ks ws r in
            let e = known-true m ks f.kept f.among (at_equal limit bound n xs s m f.kept ok.offers.map held (r.kept f.kept f.among) f.there) in
            inl (judged n m ks (length (cells xs) - b.top) true _ e refl, record { same = refl; remembers = r });
        below = record { long = refl; same = λ j lt. refl };
        writes = (λ e. refl, λ j le. refl);
        bytes = refl;
      }

  module _ (free : FreeLink) (found : Searches xs b s (Some free)) where
    unknown : (bound : ℕ) (ks ws : List Kept) (m : Defined) → Remembers limit bound n xs b ks ws → HoldsState limit bound (cells xs) s m → known eq_state m (states ks) ≡ false
    unknown bound ks ws m r held =
        known-false m ks (λ k e h. (found.says limit bound n ks ws r).none k e (equal_at limit bound n xs s m k ok.offers.map held (r.kept k e) h))

    -- no space
    pub push_full : length xs / 16 < end_of n b s → Pushes limit n counts xs xs b b s (Err NoSpace)
    push_full over =
        record {
          says = λ bound ks ws m past r held counted.
              judged n m ks (length (cells xs) - b.top) false false (unknown bound ks ws m r held)
              (lt-leb (units_for n m) (length (cells xs) - b.top) (omega (arith, length-cells xs, held_used limit bound (cells xs) _ _ _ m held.map, r.inside)));
          below = record { long = refl; same = λ j lt. refl };
          writes = (refl, refl, refl);
          bytes = refl;
        }

-- ---- a state that is added

-- what holds of one and of the others holds of all
among_cons : (P : Kept → Type 0) (k₀ : Kept) (ks : List Kept) → P k₀ → ((k : Kept) → k ∈ ks → P k) → (k : Kept) → k ∈ (k₀ ∷ ks) → P k
among_cons P k₀ ks p f k (inl e) = subst P e p
among_cons P k₀ ks p f k (inr e) = f k e

-- one of them is one of more
stands_more : {k₀ : Kept} {ks : List Kept} {p : ℕ} → Stands ks p → Stands (k₀ ∷ ks) p
stands_more a = record { kept = a.kept; among = inr a.among; at = a.at }

-- a cell of the one at p, but its second, is not the second cell of the one at q
misses : (cs : List Cell) (n p q i : ℕ) → Apart cs n p q → (i ≡ p) ⊎ ((p + 2 ≤ i) × (i < end_at cs n p)) → i ≡ q + 1 → ⊥
misses cs n p q i (inl e) (inl f) z = omega arith
misses cs n p q i (inl e) (inr f) z = omega (arith, f.0)
misses cs n p q i (inr (inl e)) (inl f) z = omega arith
misses cs n p q i (inr (inl e)) (inr f) z = omega (arith, f.1)
misses cs n p q i (inr (inr e)) (inl f) z = omega arith
misses cs n p q i (inr (inr e)) (inr f) z = omega (arith, f.0)

-- us is the area with the state saved
module _
    (limit n counts : ℕ)
    (xs us ys : List ℕ)
    (b : BranchList)
    (s : MemoryState)
    (h : ℕ)
    (free : FreeLink)
    (ok : Pushable limit n counts xs b s)
    (is : h ≡ hash_of (cells xs) s)
    (fits : end_of n b s ≤ length (cells xs))
    (saves : Saves n xs us b.top s h b.last counts)
    (links : Connects us ys free b.top)
    (small : Bytes xs)
    (less : Bytes us)
    (few : Bytes ys)
    (bound : ℕ)
    (ks ws : List Kept)
    (m : Defined)
    (past : List ℕ)
    (r : Remembers limit bound n xs b ks ws)
    (held : HoldsState limit bound (cells xs) s m)
    (counted : Counted xs n counts past)
  where
    long : length (cells ys) ≡ length (cells xs)
    long = cells-kept xs ys (links.bytes ∙ saves.bytes)

    long_us : length (cells us) ≡ length (cells xs)
    long_us = cells-kept xs us saves.bytes

    -- what stands from the top on is what was saved
    module _ (above : (j : ℕ) → b.top ≤ j → get_or (cells ys) j blank ≡ get_or (cells us) j blank) where
      agree : Agree (cells us) (b.top + 2) (cells ys) (b.top + 2) s.map.used
      agree j lt = above (b.top + 2 + j) (omega arith)

      sizes_new : sizes_at (cells ys) b.top ≡ sizes_word s.map.len s.map.used (link_of b.last)
      sizes_new = ap (λ (c : Cell). c.payload) (above (b.top + 1) (omega arith) ∙ saves.second)

      hash_new : hash_at (cells ys) b.top ≡ h
      hash_new = ap (λ (c : Cell). c.head) (above b.top (omega arith) ∙ saves.first)

      most : s.map.used ≤ 65535
      most = omega (arith, ok.offers.most, r.limited)

      len_most : s.map.len ≤ 65535
      len_most = omega (arith, most, few_entries (cells xs) s.map ok.offers.map)

      used_new : used_at (cells ys) b.top ≡ s.map.used
      used_new = used_part (cells ys) b.top _ _ _ sizes_new len_most most

      next_new : next_at (cells ys) b.top ≡ link_of b.last
      next_new = next_part (cells ys) b.top _ _ _ sizes_new len_most most

      state_new : state_at (cells ys) b.top ≡ record { row = s.row; map = placed (b.top + 2) s.map }
      state_new = state_parts (cells ys) b.top s (ap (λ (c : Cell). c.payload) (above b.top (omega arith) ∙ saves.first)) (len_part (cells ys) b.top _ _ _ sizes_new len_most most) used_new

      map_new : IsMap (cells ys) (placed (b.top + 2) s.map)
      map_new = placed_map (cells us) (cells ys) (placed (b.top + 2) s.map) (b.top + 2) saves.map agree (long ∙ sym long_us) (omega (arith, long))

      runs_new : runs_at (cells ys) (placed (b.top + 2) s.map) ≡ runs_at (cells xs) s.map
      runs_new = placed_runs (cells us) (cells ys) (placed (b.top + 2) s.map) (b.top + 2) saves.map agree ∙ saves.runs

      holds_new : HoldsState limit bound (cells ys) (record { row = s.row; map = placed (b.top + 2) s.map }) m
      holds_new = record { row = held.row; map = record { runs = runs_new ∙ held.map.runs; takes = map_new.used; good = held.map.good; small = held.map.small } }

      hashes_new : hash_from (cells xs) s ≡ hash_from (cells ys) (state_at (cells ys) b.top)
      hashes_new = hashes_equal (cells xs) (cells ys) s (record { row = s.row; map = placed (b.top + 2) s.map }) ok.offers.map map_new refl (sym runs_new) ∙ ap (hash_from (cells ys)) (sym state_new)

      kept_new : IsKept limit bound n ys (newest b m past)
      kept_new =
          record {
            map = subst (λ (x : MemoryState). IsMap (cells ys) x.map) (sym state_new) map_new;
            holds = subst (λ (x : MemoryState). HoldsState limit bound (cells ys) x m) (sym state_new) holds_new;
            hash = hash_new ∙ is ∙ ap (λ (f : ℕ → ℕ). f 0) hashes_new;
            counts = subst (λ (u : ℕ). Counted ys n (b.top + 2 + u) past) (sym used_new)
                (counted-kept us ys n (b.top + 2 + s.map.used) past less few links.bytes (omega (arith, long_us, r.small)) (omega (arith, long_us))
                (λ j lt. above (b.top + 2 + s.map.used + j) (omega arith))
                (λ i lt. saves.counted i lt ∙ counted i lt));
          }

      -- all others are as they were, but that a link may lead to the new one
      module _
          (old : (k : Kept) → k ∈ ks → SameBlock (cells xs) (cells ys) n k.at)
          (adds : Adds (cells xs) (cells ys) ks)
          (leads : (k : Kept) → k ∈ ks → (q : ℕ) → (child (cells ys) k.at q ≡ child (cells xs) k.at q) ⊎ (child (cells ys) k.at q ≡ b.top))
          (way : OnWay (cells ys) (newest b m past ∷ ks) b.first (hash_from (cells xs) s) b.top)
        where
          lies : (k : Kept) → k ∈ ks → (b.first ≤ k.at) × (end_at (cells xs) n k.at ≤ b.top)
          lies = blocks_span (cells xs) n b.first b.top ks r.blocks

          links_old : (p : ℕ) → p < b.top → (q : ℕ) → (child (cells ys) p q ≡ child (cells xs) p q) ⊎ (child (cells ys) p q ≡ b.top) → (child (cells xs) p q ≡ 0) ⊎ Later ks p (child (cells xs) p q) → (child (cells ys) p q ≡ 0) ⊎ Later (newest b m past ∷ ks) p (child (cells ys) p q)
          links_old p lt q (inl e) (inl z) = inl (e ∙ z)
          links_old p lt q (inl e) (inr l) = inr (subst (Later (newest b m past ∷ ks) p) (sym e) (record { stands = stands_more l.stands; after = l.after }))
          links_old p lt q (inr e) z = inr (record { stands = record { kept = newest b m past; among = inl refl; at = sym e }; after = omega arith })

          pub assembled : Remembers limit bound n ys (grown n b s) (newest b m past ∷ ks) (newest b m past ∷ ws)
          assembled =
              record {
                blocks = (omega (arith, used_new), blocks_same (cells xs) (cells ys) n b.first b.top ks (λ k e. ap (λ (x : ℕ). x / 65536 % 65536) (old k e).sizes) r.blocks);
                kept = among_cons (IsKept limit bound n ys) _ ks kept_new (λ k e. kept_same limit bound n xs ys small few (links.bytes ∙ saves.bytes) r.small k (omega (arith, (lies k e).1, r.inside)) (old k e) (r.kept k e));
                paths =
                    among_cons (λ (k : Kept). OnWay (cells ys) (newest b m past ∷ ks) b.first (hash_from (cells ys) (state_at (cells ys) k.at)) k.at) _ ks
                    (subst (λ (f : ℕ → ℕ). OnWay (cells ys) (newest b m past ∷ ks) b.first f b.top) hashes_new way)
                    (λ k e. way_same (cells xs) (cells ys) n b.first ks (newest b m past ∷ ks) k.at (λ q a. stands_more a) adds (old k e) (r.paths k e));
                links =
                    among_cons (λ (k : Kept). Links (cells ys) (newest b m past ∷ ks) k.at) _ ks
                    (λ q. inl (child-none (cells ys) b.top q (ap (λ (c : Cell). c.head) (above (b.top + 1) (omega arith) ∙ saves.second))))
                    (λ k e q. links_old k.at (omega (arith, (lies k e).1)) q (leads k e q) (r.links k e q));
                waiting = (
                  refl,
                  omega (arith, next_new, waiting_low (cells xs) b.last b.top ws (omega (arith, r.positive, blocks_low (cells xs) n b.first b.top ks r.blocks)) (λ k e. omega (arith, (lies k (r.among k e)).1)) r.waiting),
                  subst (λ (x : Option ℕ). Waiting (cells ys) x ws) (sym (ap place_of next_new ∙ waiting_link (cells xs) b.last ws r.waiting)) (waiting_same (cells xs) (cells ys) b.last ws (λ k e. ap (λ (x : ℕ). x / half) (old k (r.among k e)).sizes) r.waiting),
                );
                among = among_cons (λ (k : Kept). k ∈ (newest b m past ∷ ks)) _ ws (inl refl) (λ k e. inr (r.among k e));
                positive = r.positive;
                inside = omega (arith, long);
                small = omega (arith, long, r.small);
                limited = r.limited;
              }

    -- it is the first
    alone : free.at ≡ None → ks ≡ [] → Remembers limit bound n ys (grown n b s) (newest b m past ∷ ks) (newest b m past ∷ ws)
    alone z e =
        let same : cells ys ≡ cells us = links.none z in
        let root : b.top ≡ b.first = subst (Blocks (cells xs) n b.first b.top) e r.blocks in
        assembled
        (λ j le. ap (λ (l : List Cell). get_or l j blank) same)
        (λ k a. absurd (subst (λ (l : List Kept). k ∈ l) e a))
        (λ p q a ne. absurd (subst (λ (l : List Kept). a.kept ∈ l) e a.among))
        (λ k a q. absurd (subst (λ (l : List Kept). k ∈ l) e a))
        (subst (OnWay (cells ys) (newest b m past ∷ ks) b.first (hash_from (cells xs) s)) (sym root) (record { left = hash_of (cells xs) s; path = here }))

    -- the way of its hashes ended at a free link
    module _ (at : ℕ) (there : free.at ≡ Some at) (ends : Ends (cells xs) b ks (hash_from (cells xs) s) at free.bits) where
      place_lies : (b.first ≤ at) × (end_at (cells xs) n at ≤ b.top)
      place_lies = subst (λ (p : ℕ). (b.first ≤ p) × (end_at (cells xs) n p ≤ b.top)) ends.reaches.stands.at (blocks_span (cells xs) n b.first b.top ks r.blocks ends.reaches.stands.kept ends.reaches.stands.among)

      linked : Linked (cells us) (cells ys) at free.bits b.top
      linked = links.linked at there

      -- of the cells below the top one alone has changed
      low : (j : ℕ) → j < b.top → (j ≡ at + 1 → ⊥) → get_or (cells ys) j blank ≡ get_or (cells xs) j blank
      low j lt ne = linked.elsewhere j ne ∙ saves.below.same j lt

      second_then : get_or (cells us) (at + 1) blank ≡ get_or (cells xs) (at + 1) blank
      second_then = saves.below.same (at + 1) (omega (arith, place_lies.1))

      sizes_old : (p : ℕ) → p + 2 ≤ b.top → Dec (p ≡ at) → sizes_at (cells ys) p ≡ sizes_at (cells xs) p
      sizes_old p le (yes e) = subst (λ (x : ℕ). sizes_at (cells ys) x ≡ sizes_at (cells xs) x) (sym e) (linked.sizes ∙ ap (λ (c : Cell). c.payload) second_then)
      sizes_old p le (no d) = ap (λ (c : Cell). c.payload) (low (p + 1) (omega arith) (λ z. d (omega arith)))

      old_block : (k : Kept) → k ∈ ks → SameBlock (cells xs) (cells ys) n k.at
      old_block k e =
          let lies = blocks_span (cells xs) n b.first b.top ks r.blocks k e in
          let apart : Apart (cells xs) n k.at at = subst (Apart (cells xs) n k.at) ends.reaches.stands.at (blocks_apart (cells xs) n b.first b.top ks r.blocks k ends.reaches.stands.kept e ends.reaches.stands.among) in
          record {
            head = low k.at (omega (arith, lies.1)) (misses (cells xs) n k.at at k.at apart (inl refl));
            sizes = sizes_old k.at (omega (arith, lies.1)) (ℕ_discrete k.at at);
            rest = λ j lt. low (k.at + 2 + j) (omega (arith, lies.1)) (misses (cells xs) n k.at at (k.at + 2 + j) apart (inr (omega arith, omega arith)));
          }

      -- each link leads where it led, but the free one
      leads_at : (p q : ℕ) → p + 2 ≤ b.top → Dec (p ≡ at) → Dec (q % 3 ≡ free.bits % 3) → (child (cells ys) p q ≡ child (cells xs) p q) ⊎ ((child (cells xs) p q ≡ 0) × (child (cells ys) p q ≡ b.top))
      leads_at p q le (yes e) (yes f) =
          inr (
            ap (λ (x : ℕ). child (cells xs) x q) e ∙ child_alike (cells xs) at q free.bits f ∙ ends.free,
            ap (λ (x : ℕ). child (cells ys) x q) e ∙ linked.alike q f,
          )
      leads_at p q le (yes e) (no d) =
          inl (ap (λ (x : ℕ). child (cells ys) x q) e ∙ linked.other q d ∙ child-same (cells xs) (cells us) at q second_then ∙ ap (λ (x : ℕ). child (cells xs) x q) (sym e))
      leads_at p q le (no d) f = inl (child-same (cells xs) (cells ys) p q (low (p + 1) (omega arith) (λ z. d (omega arith))))

      adds_link : Adds (cells xs) (cells ys) ks
      adds_link p q a ne =
          let lies = subst (λ (x : ℕ). end_at (cells xs) n x ≤ b.top) a.at (blocks_span (cells xs) n b.first b.top ks r.blocks a.kept a.among).1 in (
            subst (λ (x : ℕ). hash_at (cells ys) x ≡ hash_at (cells xs) x) a.at (ap (λ (c : Cell). c.head) (old_block a.kept a.among).head),
            elim (leads_at p q (omega (arith, lies)) (ℕ_discrete p at) (ℕ_discrete (q % 3) (free.bits % 3))) [ inl e ↦ e | inr z ↦ absurd (ne z.0) ],
          )

      leads_old : (k : Kept) → k ∈ ks → (q : ℕ) → (child (cells ys) k.at q ≡ child (cells xs) k.at q) ⊎ (child (cells ys) k.at q ≡ b.top)
      leads_old k e q =
          elim (leads_at k.at q (omega (arith, (blocks_span (cells xs) n b.first b.top ks r.blocks k e).1)) (ℕ_discrete k.at at) (ℕ_discrete (q % 3) (free.bits % 3))) [
            | inl e ↦ inl e
            | inr z ↦ inr z.1
          ]

      way_new : OnWay (cells ys) (newest b m past ∷ ks) b.first (hash_from (cells xs) s) b.top
      way_new =
          let to = linked.alike free.bits refl in
          let way = path_kept (cells xs) (cells ys) ks (newest b m past ∷ ks) (hash_from (cells xs) s) (λ q a. stands_more a) adds_link ends.reaches.path in
          let more = path_more (cells ys) (newest b m past ∷ ks) (hash_from (cells xs) s) way (stands_more ends.reaches.stands) (λ z. omega (arith, to, place_lies.1)) in
          subst (OnWay (cells ys) (newest b m past ∷ ks) b.first (hash_from (cells xs) s)) to (record { left = next_bits (cells ys) (hash_from (cells xs) s) at free.bits; path = more })

      under : Remembers limit bound n ys (grown n b s) (newest b m past ∷ ks) (newest b m past ∷ ws)
      under = assembled (λ j le. linked.elsewhere j (λ z. omega (arith, place_lies.1))) old_block adds_link leads_old way_new

    pub added : Searches xs b s (Some free) → Remembers limit bound n ys (grown n b s) (newest b m past ∷ ks) (newest b m past ∷ ws)
    added found = go free.at refl (found.says limit bound n ks ws r).place
      where
        go : (o : Option ℕ) → free.at ≡ o → EndsAt (cells xs) b ks s o free.bits → Remembers limit bound n ys (grown n b s) (newest b m past ∷ ks) (newest b m past ∷ ws)
        go None e place = alone e place
        go (Some at) e place = under at e place

-- ---- what the parts ask for
module _ (limit n counts : ℕ) (xs : List ℕ) (b : BranchList) (s : MemoryState) (ok : Pushable limit n counts xs b s) where
  pub low_top : b.first ≤ b.top
  low_top = let q = ok.remembering in blocks_low (cells xs) n b.first b.top q.all q.remembers.blocks

  pub save_ready : end_of n b s ≤ length (cells xs) → Savable n (cells xs) b.top s b.last counts
  save_ready fits =
      let q = ok.remembering in
      let r = q.remembers in
      let lies : (k : Kept) → k ∈ q.wait → k.at < b.top = λ k e. omega (arith, (blocks_span (cells xs) n b.first b.top q.all r.blocks k (r.among k e)).1) in
      record {
        map = ok.offers.map;
        few = omega (arith, ok.offers.most, r.limited);
        rows = ok.rows;
        later = omega (arith, waiting_low (cells xs) b.last b.top q.wait (omega (arith, r.positive, low_top)) lies r.waiting, r.inside, r.small);
        below = omega (arith, ok.below, low_top);
        room = fits;
      }

  module _ (us : List ℕ) (h : ℕ) (free : FreeLink) (saves : Saves n xs us b.top s h b.last counts) (found : Searches xs b s (Some free)) where
    -- where the link is
    pub record LinkAt (p : ℕ) : Type 0 where
      pub high : p + 2 ≤ b.top
      pub low : b.first ≤ p
      pub nowhere : child (cells us) p free.bits ≡ 0

    pub link_at : (p : ℕ) → free.at ≡ Some p → LinkAt p
    link_at p at =
        let q = ok.remembering in
        let r = q.remembers in
        let e : Ends (cells xs) b q.all (hash_from (cells xs) s) p free.bits = subst (λ (o : Option ℕ). EndsAt (cells xs) b q.all s o free.bits) at (found.says limit q.bound n q.all q.wait r).place in
        let lies = blocks_span (cells xs) n b.first b.top q.all r.blocks e.reaches.stands.kept e.reaches.stands.among in
        let is = e.reaches.stands.at in
        record {
          high = omega (arith, lies.1);
          low = omega (arith, lies.0);
          nowhere = child-same (cells xs) (cells us) p free.bits (saves.below.same _ (omega (arith, lies.1))) ∙ e.free;
        }

    pub link_ready : end_of n b s ≤ length (cells xs) → Linkable us free b.top
    link_ready fits =
        let len = cells-kept xs us saves.bytes in
        let small = ok.offers.map.small in
        record { header = λ p e. omega (arith, len, (link_at p e).high); small = omega (arith, len); free = λ p e. (link_at p e).nowhere; place = omega (arith, ok.remembering.remembers.inside) }

    pub push_added :
        (ys : List ℕ) →
        h ≡ hash_of (cells xs) s →
        end_of n b s ≤ length xs / 16 →
        Connects us ys free b.top →
        Bytes xs →
        Bytes us →
        Bytes ys →
        Pushes limit n counts xs ys b (grown n b s) s (Ok tt)
    push_added ys is room links small less few =
        let fits : end_of n b s ≤ length (cells xs) = omega (arith, length-cells xs) in
        record {
          says = λ bound ks ws m past r held counted.
              let used = held_used limit bound (cells xs) _ _ _ m held.map in
              inr (
                judged n m ks (length (cells xs) - b.top) false true (unknown limit n counts xs b s ok free found bound ks ws m r held)
                    (le-leb (units_for n m) (length (cells xs) - b.top) (omega (arith, used, fits))),
                record {
                  first = refl;
                  top = omega (arith, used);
                  remembers = added limit n counts xs us ys b s h free ok is fits saves links small less few bound ks ws m past r held counted found;
                },
              );
          below = record { long = cells-kept xs ys (links.bytes ∙ saves.bytes); same = λ j lt. kept j (inl lt) free.at refl ∙ saves.below.same j (omega (arith, low_top)) };
          writes = (λ e. absurd (omega (arith, ap (λ (c : BranchList). c.top) e)), λ j le. kept j (inr (omega arith)) free.at refl ∙ saves.above j le);
          bytes = links.bytes ∙ saves.bytes;
        }
      where
        kept : (j : ℕ) → (j < b.first) ⊎ (b.top + 2 ≤ j) → (o : Option ℕ) → free.at ≡ o → get_or (cells ys) j blank ≡ get_or (cells us) j blank
        kept j out None e = ap (λ (l : List Cell). get_or l j blank) (links.none e)
        kept j (inl lt) (Some p) e = (links.linked p e).elsewhere j (λ z. omega (arith, (link_at p e).low))
        kept j (inr le) (Some p) e = (links.linked p e).elsewhere j (λ z. omega (arith, (link_at p e).high))
