-- What `pop` says, and what `pop` and `load` ask for where states are remembered. Assumes nothing.
use Rattle.std.proofs.Common.{◌≡◌, ℕ, ◌+◌, ◌/◌, ◌≤◌, List, [], ◌∷◌, get_or, sym, refl, ap, ◌∙◌, subst, inl, inr, arith, Option, None, Some}
use Rattle.std.proofs.lemmas.Option.{none-some}
use Rattle.model.specs.Walk.{◌∈◌}
use Rattle.area.specs.Cells.{blank, cells, Inside}
use Rattle.area.specs.declared.Cell.{Cell}
use Rattle.encoding.proofs.Held.{held_fits}
use Rattle.branches.specs.Header.{half, next_at, link_of, place_of}
use Rattle.branches.specs.Entries.{Kept, count_cells, Waiting, Remembers}
use Rattle.branches.specs.Lists.{Taken}
use Rattle.branches.specs.Changes.{Latest, PopsAny, Loadable}
use Rattle.branches.specs.declared.BranchList.{BranchList}
use Rattle.branches.proofs.HeaderLaws.{link_place}
use Rattle.branches.proofs.BlockLaws.{blocks_span}

-- the latest that waits, if one does, lies inside
pub latest : (limit bound n : ℕ) (xs : List ℕ) (b : BranchList) (ks ws : List Kept) → Remembers limit bound n xs b ks ws → Latest xs b
latest limit bound n xs b ks [] r = record { header = λ p e. absurd (none-some _ (sym r.waiting ∙ e)); small = r.small }
latest limit bound n xs b ks (k ∷ ws) r =
    let lies = blocks_span (cells xs) n b.first b.top ks r.blocks k (r.among k (inl refl)) in
    record { header = λ p e. omega (arith, lies.1, ap link_of (sym e ∙ r.waiting.0), r.inside); small = r.small }

-- so does the header of each that is remembered
pub kept-inside : (limit bound n : ℕ) (xs : List ℕ) (b : BranchList) (ks ws : List Kept) (k : Kept) → Remembers limit bound n xs b ks ws → k ∈ ks → Inside xs k.at 2
kept-inside limit bound n xs b ks ws k r e = record { within = omega (arith, (blocks_span (cells xs) n b.first b.top ks r.blocks k e).1, r.inside); small = r.small }

-- a remembered state can be loaded
pub loadable : (limit bound n : ℕ) (xs : List ℕ) (b : BranchList) (ks ws : List Kept) (k : Kept) (base counts : ℕ) → Remembers limit bound n xs b ks ws → k ∈ ks → n ≤ 2048 → base + limit ≤ counts → counts + count_cells n ≤ b.first → Loadable limit n (cells xs) k.at base counts
loadable limit bound n xs b ks ws k base counts r e rows apart below =
    let lies = blocks_span (cells xs) n b.first b.top ks r.blocks k e in
    let is = r.kept k e in
    record {
      map = is.map;
      most = held_fits limit bound (cells xs) _ _ _ k.mem is.holds.map;
      rows = rows;
      whole = omega (arith, lies.1, r.inside);
      apart = apart;
      below = omega (arith, lies.0);
    }

-- none waits
none_waits : (limit bound n : ℕ) (xs : List ℕ) (b : BranchList) (ks ws : List Kept) → b.last ≡ None → Remembers limit bound n xs b ks ws → ws ≡ []
none_waits limit bound n xs b ks [] e r = refl
none_waits limit bound n xs b ks (k ∷ ws) e r = absurd (none-some _ (sym e ∙ r.waiting.0))

pub pop_none : (xs : List ℕ) (b : BranchList) → b.last ≡ None → PopsAny xs b b None
pop_none xs b e = record { none = λ z. (refl, refl); latest = λ p f. absurd (none-some _ (sym e ∙ f)); pops = λ limit n. record { says = λ bound ks ws r. none_waits limit bound n xs b ks ws e r } }

-- the latest is taken, and the one behind it is the latest then
abbrev behind : List ℕ → BranchList → ℕ → BranchList
behind xs b p = record { first = b.first; top = b.top; last = place_of (next_at (cells xs) p) }

takes : (limit bound n : ℕ) (xs : List ℕ) (b : BranchList) (p : ℕ) (ks ws : List Kept) → b.last ≡ Some p → Remembers limit bound n xs b ks ws → Taken limit bound n xs ks ws b (behind xs b p) p
takes limit bound n xs b p ks [] e r = absurd (none-some _ (sym r.waiting ∙ e))
takes limit bound n xs b p ks (k ∷ ws) e r =
    let w = r.waiting in
    let at : k.at ≡ p = ap link_of (sym w.0 ∙ e) in
    record {
      taken = k;
      rest = ws;
      is = refl;
      at = at;
      first = refl;
      top = refl;
      last = omega (arith, ap link_of w.0, w.1, at, ap (next_at (cells xs)) at, link_place (next_at (cells xs) p));
      remembers =
          record {
            blocks = r.blocks;
            kept = r.kept;
            paths = r.paths;
            links = r.links;
            waiting = subst (λ (x : ℕ). Waiting (cells xs) (place_of (next_at (cells xs) x)) ws) at w.2;
            among = λ j m. r.among j (inr m);
            positive = r.positive;
            inside = r.inside;
            small = r.small;
            limited = r.limited;
          };
    }

pub pop_one : (xs : List ℕ) (b : BranchList) (c : Cell) (p : ℕ) (last : Option ℕ) → b.last ≡ Some p → c ≡ get_or (cells xs) (p + 1) blank → last ≡ place_of (c.payload / half) → PopsAny xs b (record { first = b.first; top = b.top; last = last }) (Some p)
pop_one xs b c p last is read link =
    let next : last ≡ place_of (next_at (cells xs) p) = link ∙ ap (λ (x : Cell). place_of (x.payload / half)) read in
    subst (λ (x : Option ℕ). PopsAny xs b (record { first = b.first; top = b.top; last = x }) (Some p)) (sym next)
    (record {
      none = λ e. absurd (none-some _ (sym e ∙ is));
      latest = λ q e. let f : p ≡ q = ap link_of (sym is ∙ e) in (ap Some f, ap (behind xs b) f);
      pops = λ limit n. record { says = λ bound ks ws r. takes limit bound n xs b p ks ws is r };
    })
