-- What is remembered stays so: where the cells of a remembered state are as they were, but for its links, it is the same state; so with all
-- of them, under a larger bound too; and none are remembered at first. Counts are kept or copied with their cells. Assumes nothing.
use Rattle.std.proofs.Common.{◌≡◌, ℕ, ◌+◌, ◌/◌, ◌%◌, ◌<◌, ◌≤◌, ◌⊎◌, List, [], length, get_or, sym, refl, ap, ◌∙◌, subst, arith, w8, Fits}
use Rattle.model.specs.Walk.{◌∈◌}
use Rattle.area.specs.Cells.{blank, cells}
use Rattle.area.specs.declared.Cell.{Cell}
use Rattle.area.proofs.CellLaws.{cells-kept}
use Rattle.area.proofs.CountLaws.{count_same}
use Rattle.intmap.specs.Runs.{Agree}
use Rattle.intmap.specs.Map.{IsMap}
use Rattle.intmap.proofs.EntryLaws.{span_same}
use Rattle.intmap.proofs.MapLaws.{placed_map}
use Rattle.encoding.specs.Holds.{largest}
use Rattle.encoding.proofs.Held.{held_elsewhere, held_more}
use Rattle.state.specs.Steps.{HoldsState}
use Rattle.state.specs.declared.MemoryState.{MemoryState}
use Rattle.branches.specs.Header.{half, row_at, sizes_at, used_at, child, state_at}
use Rattle.branches.specs.Hash.{mix, mix_cells, hash_from}
use Rattle.branches.specs.Entries.{Kept, Counted, count_cells, IsKept, Stands, OnWay, Later, Links, Remembers, none}
use Rattle.branches.specs.declared.BranchList.{BranchList}
use Rattle.branches.proofs.HeaderLaws.{child-same, state_same}
use Rattle.branches.proofs.BlockLaws.{end_at, blocks_span, blocks_same, waiting_same}
use Rattle.branches.proofs.PathLaws.{Adds, on_kept}

-- these are bytes
abbrev pub Bytes : List ℕ → Type 0
Bytes xs = (i : ℕ) → Fits w8 (get_or xs i 0)

-- the counts of n rows are at `to` what they were at `from`, where the cells are
pub counted_same : (xs ys : List ℕ) (n from to : ℕ) (past : List ℕ) → Bytes xs → Bytes ys → length ys ≡ length xs → length (cells xs) ≤ 1048576 → from + count_cells n ≤ length (cells xs) → to + count_cells n ≤ length (cells xs) → Agree (cells xs) from (cells ys) to (count_cells n) → Counted xs n from past → Counted ys n to past
counted_same xs ys n from to past small less long most fits room same counted i lt =
    let e = cells-kept xs ys long in
    count_same ys xs to from i less small (record { within = omega arith; small = omega arith }) (record { within = omega arith; small = most }) (same (i / 16) (omega arith)) ∙ counted i lt

pub counted-kept : (xs ys : List ℕ) (n from : ℕ) (past : List ℕ) → Bytes xs → Bytes ys → length ys ≡ length xs → length (cells xs) ≤ 1048576 → from + count_cells n ≤ length (cells xs) → Agree (cells xs) from (cells ys) from (count_cells n) → Counted xs n from past → Counted ys n from past
counted-kept xs ys n from past small less long most fits same counted = counted_same xs ys n from from past small less long most fits fits same counted

-- a remembered state's cells are as they were, but for its links
pub record SameBlock (cs ds : List Cell) (n p : ℕ) : Type 0 where
  pub head : get_or ds p blank ≡ get_or cs p blank
  pub sizes : sizes_at ds p ≡ sizes_at cs p
  pub rest : Agree cs (p + 2) ds (p + 2) (used_at cs p + count_cells n)

-- so are its hashes
hashes_same : (cs ds : List Cell) (n p : ℕ) → SameBlock cs ds n p → hash_from ds (state_at ds p) ≡ hash_from cs (state_at cs p)
unfolding hash_from
hashes_same cs ds n p same =
    ap (hash_from ds) (state_same cs ds p same.head same.sizes)
    ∙ ap (λ l start. mix_cells (mix start (row_at cs p)) l) (span_same cs ds (used_at cs p) (p + 2) (p + 2) (λ j lt. same.rest j (omega arith)))

-- it lies on its way as before, where links and states are only added
pub way_same : (cs ds : List Cell) (n first : ℕ) (ks more : List Kept) (p : ℕ) → ((q : ℕ) → Stands ks q → Stands more q) → Adds cs ds ks → SameBlock cs ds n p → OnWay cs ks first (hash_from cs (state_at cs p)) p → OnWay ds more first (hash_from ds (state_at ds p)) p
way_same cs ds n first ks more p all adds same way =
    subst (λ (f : ℕ → ℕ). OnWay ds more first f p) (sym (hashes_same cs ds n p same)) (on_kept cs ds ks more (hash_from cs (state_at cs p)) all adds way)

module _ (limit bound n : ℕ) (xs ys : List ℕ) (small : Bytes xs) (less : Bytes ys) (long : length ys ≡ length xs) (most : length (cells xs) ≤ 1048576) where
  pub kept_same : (k : Kept) → end_at (cells xs) n k.at ≤ length (cells xs) → SameBlock (cells xs) (cells ys) n k.at → IsKept limit bound n xs k → IsKept limit bound n ys k
  kept_same k fits same is =
      let cs : List Cell = cells xs in
      let ds : List Cell = cells ys in
      let p : ℕ = k.at in
      let e : state_at ds p ≡ state_at cs p = state_same cs ds p same.head same.sizes in
      let len : length ds ≡ length cs = cells-kept xs ys long in
      let agree : Agree cs (p + 2) ds (p + 2) (used_at cs p) = λ j lt. same.rest j (omega arith) in
      let there : HoldsState limit bound ds (state_at cs p) k.mem = record { row = is.holds.row; map = held_elsewhere limit bound cs (p + 2) _ _ k.mem is.holds.map ds (p + 2) agree } in
      let map : IsMap ds (state_at cs p).map = placed_map cs ds (state_at cs p).map (p + 2) is.map agree len (omega arith) in
      let counts : Agree cs (p + 2 + used_at cs p) ds (p + 2 + used_at cs p) (count_cells n) =
      λ j lt. let a : p + 2 + used_at cs p + j ≡ p + 2 + (used_at cs p + j) = omega arith in rw a (same.rest (used_at cs p + j) (omega arith)) in
      record {
        map = subst (λ (s : MemoryState). IsMap ds s.map) (sym e) map;
        holds = subst (λ (s : MemoryState). HoldsState limit bound ds s k.mem) (sym e) there;
        hash = ap (λ (c : Cell). c.head) same.head ∙ is.hash ∙ ap (λ (f : ℕ → ℕ). f 0) (sym (hashes_same cs ds n p same));
        counts = subst (λ (u : ℕ). Counted ys n (p + 2 + u) k.past) (ap (λ (x : ℕ). x / 65536 % 65536) (sym same.sizes))
            (counted-kept xs ys n (p + 2 + used_at cs p) k.past small less long most (omega arith) counts is.counts);
      }

-- a link leads where it did
pub links_same : (cs ds : List Cell) (ks : List Kept) (p : ℕ) → ((bits : ℕ) → child ds p bits ≡ child cs p bits) → Links cs ks p → Links ds ks p
links_same cs ds ks p same links bits = subst (λ (q : ℕ). (q ≡ 0) ⊎ Later ks p q) (sym (same bits)) (links bits)

-- what is remembered from `first` on depends on the cells from there on
pub remembers_kept : (limit bound n : ℕ) (xs ys : List ℕ) (b : BranchList) (ks ws : List Kept) → Bytes xs → Bytes ys → length ys ≡ length xs → ((j : ℕ) → b.first ≤ j → get_or (cells ys) j blank ≡ get_or (cells xs) j blank) → Remembers limit bound n xs b ks ws → Remembers limit bound n ys b ks ws
remembers_kept limit bound n xs ys b ks ws small less long same r =
    let cs : List Cell = cells xs in
    let ds : List Cell = cells ys in
    let len : length ds ≡ length cs = cells-kept xs ys long in
    let lies : (k : Kept) → k ∈ ks → (b.first ≤ k.at) × (end_at cs n k.at ≤ b.top) = blocks_span cs n b.first b.top ks r.blocks in
    let block : (k : Kept) → k ∈ ks → SameBlock cs ds n k.at =
    λ k e. let t = lies k e in record { head = same k.at t.0; sizes = ap (λ (c : Cell). c.payload) (same (k.at + 1) (omega (arith, t.0))); rest = λ j lt. same (k.at + 2 + j) (omega (arith, t.0)) } in
    let child : (p bits : ℕ) → b.first ≤ p → child ds p bits ≡ child cs p bits = λ p bits le. child-same cs ds p bits (same (p + 1) (omega arith)) in
    let adds : Adds cs ds ks = λ p bits s ne. let at = s.at in let low : b.first ≤ p = omega (arith, (lies s.kept s.among).0) in (ap (λ (c : Cell). c.head) (same p low), child p bits low) in
    record {
      blocks = blocks_same cs ds n b.first b.top ks (λ k e. ap (λ (x : ℕ). x / 65536 % 65536) (block k e).sizes) r.blocks;
      kept = λ k e. kept_same limit bound n xs ys small less long r.small k (omega (arith, (lies k e).1, r.inside)) (block k e) (r.kept k e);
      paths = λ k e. way_same cs ds n b.first ks ks k.at (λ q s. s) adds (block k e) (r.paths k e);
      links = λ k e. links_same cs ds ks k.at (λ bits. child k.at bits (lies k e).0) (r.links k e);
      waiting = waiting_same cs ds b.last ws (λ k e. ap (λ (x : ℕ). x / half) (block k (r.among k e)).sizes) r.waiting;
      among = r.among;
      positive = r.positive;
      inside = omega (arith, len, r.inside);
      small = omega (arith, len, r.small);
      limited = r.limited;
    }

-- with a larger bound of numbers
pub remembers_more : (limit bound more n : ℕ) (xs : List ℕ) (b : BranchList) (ks ws : List Kept) → bound ≤ more → more ≤ largest → Remembers limit bound n xs b ks ws → Remembers limit more n xs b ks ws
remembers_more limit bound more n xs b ks ws le top r =
    record {
      blocks = r.blocks;
      kept = λ k e. let is = r.kept k e in record { map = is.map; holds = record { row = is.holds.row; map = held_more limit bound (cells xs) _ _ _ k.mem is.holds.map more le top }; hash = is.hash; counts = is.counts };
      paths = r.paths;
      links = r.links;
      waiting = r.waiting;
      among = r.among;
      positive = r.positive;
      inside = r.inside;
      small = r.small;
      limited = r.limited;
    }

-- none are remembered at first
pub remembers_none : (limit bound n : ℕ) (xs : List ℕ) (first : ℕ) → 0 < first → first ≤ length (cells xs) → length (cells xs) ≤ 1048576 → limit ≤ 65535 → Remembers limit bound n xs (none first) [] []
remembers_none limit bound n xs first lt le most small =
    record {
      blocks = refl;
      kept = λ k e. absurd e;
      paths = λ k e. absurd e;
      links = λ k e. absurd e;
      waiting = refl;
      among = λ k e. absurd e;
      positive = lt;
      inside = le;
      small = most;
      limited = small;
    }
