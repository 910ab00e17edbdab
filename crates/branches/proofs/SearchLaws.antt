-- The search: a state equals a remembered one exactly where it is the state there, and each turn goes down the way of its hashes, on which every
-- place lies where the state is. Assumes nothing.
use Rattle.std.proofs.Common.{◌≡◌, ℕ, ◌+◌, ◌<◌, ◌≤◌, Bool, true, false, ◌||◌, ◌⊎◌, List, [], ◌∷◌, length, sym, refl, ap, ◌∙◌, subst, inl, inr, arith, None, Some}
use mathlib.Core.Bool.{false≢true}
use native.Mathlib.Decide.{dec_lt}
use Rattle.model.specs.Walk.{◌∈◌, known}
use Rattle.model.specs.State.{MemoryState as Defined}
use Rattle.model.specs.Equality.{eq_state}
use Rattle.model.proofs.Same.{state_decides}
use Rattle.area.specs.Cells.{cells}
use Rattle.area.specs.declared.Cell.{Cell}
use Rattle.intmap.specs.Map.{runs_at, IsMap}
use Rattle.intmap.proofs.SignedLaws.{int_injective}
use Rattle.intmap.specs.Signed.{int_of}
use Rattle.encoding.specs.Encode.{runs_of}
use Rattle.encoding.proofs.Held.{held_states}
use Rattle.state.specs.Steps.{HoldsState}
use Rattle.state.specs.declared.MemoryState.{MemoryState}
use Rattle.branches.specs.Header.{row_at, child, state_at, place_of}
use Rattle.branches.specs.Hash.{hash_from, hash_of}
use Rattle.branches.specs.Entries.{Kept, states, IsKept, next_bits, here, OnPath, OnWay, Later, Remembers}
use Rattle.branches.specs.Search.{HasMap, IsAt, Tests, Reaches, Searches, SomeRemembering}
use Rattle.branches.specs.declared.BranchList.{BranchList}
use Rattle.branches.proofs.HeaderLaws.{place_at}
use Rattle.branches.proofs.HashLaws.{hashes_equal}
use Rattle.branches.proofs.BlockLaws.{blocks_span, blocks_root, blocks_none}
use Rattle.branches.proofs.PathLaws.{path_more, on_next}

-- ---- a remembered state that is equal is the state, and the other way round

module _ (limit bound n : ℕ) (xs : List ℕ) (s : MemoryState) (m : Defined) (k : Kept) (map : IsMap (cells xs) s.map) (held : HoldsState limit bound (cells xs) s m) (is : IsKept limit bound n xs k) where
  pub at_equal : IsAt (cells xs) s k.at → eq_state k.mem m ≡ true
  at_equal t =
      (held_states limit bound k.mem m (cells xs) (cells xs) _ _ _ _ _ _ is.holds.map held.map (sym is.holds.row ∙ ap int_of t.row ∙ held.row)).0 (sym t.runs)

  pub equal_at : eq_state k.mem m ≡ true → IsAt (cells xs) s k.at
  equal_at h =
      let cs : List Cell = cells xs in
      let e : k.mem ≡ m = state_decides.sound k.mem m h in
      let row : row_at cs k.at ≡ s.row = int_injective _ _ (is.holds.row ∙ ap (λ (x : Defined). x.program_i) e ∙ sym held.row) in
      let runs : runs_at cs s.map ≡ runs_at cs (state_at cs k.at).map = held.map.runs ∙ ap runs_of (sym e) ∙ sym is.holds.map.runs in
      record { hash = is.hash ∙ ap (λ (f : ℕ → ℕ). f 0) (hashes_equal cs cs (state_at cs k.at) s is.map map row (sym runs)); row = row; runs = runs }

or_true : (x y : Bool) → y ≡ true → x || y ≡ true
or_true true y e = refl
or_true false y e = e

-- the definition's test
pub known-true : (m : Defined) (ks : List Kept) (k : Kept) → k ∈ ks → eq_state k.mem m ≡ true → known eq_state m (states ks) ≡ true
unfolding known
known-true m [] k e h = absurd e
known-true m (j ∷ ks) k (inl e) h = ap (λ (t : Bool). t || known eq_state m (states ks)) (ap (λ (x : Kept). eq_state x.mem m) e ∙ h)
known-true m (j ∷ ks) k (inr e) h = or_true (eq_state j.mem m) _ (known-true m ks k e h)

pub known-false : (m : Defined) (ks : List Kept) → ((k : Kept) → k ∈ ks → eq_state k.mem m ≡ true → ⊥) → known eq_state m (states ks) ≡ false
unfolding known
known-false m [] h = refl
known-false m (j ∷ ks) h = go (eq_state j.mem m) refl (known-false m ks (λ k e. h k (inr e)))
  where
    go : (t : Bool) → eq_state j.mem m ≡ t → known eq_state m (states ks) ≡ false → t || known eq_state m (states ks) ≡ false
    go true e f = absurd (h j (inl refl) e)
    go false e f = f

-- ---- the turns

-- the way has led to p, and every place where the state is lies on the way from there
pub record Descends (cs : List Cell) (b : BranchList) (ks : List Kept) (s : MemoryState) (p bits : ℕ) : Type 0 where
  pub reaches : Reaches cs b ks (hash_from cs s) p bits
  pub left : (k : Kept) → k ∈ ks → IsAt cs s k.at → OnPath cs ks (hash_from cs s) p bits k.at

-- of all that are remembered between two places
pub record Searching (xs : List ℕ) (first top : ℕ) (s : MemoryState) (p bits : ℕ) : Type 0 where
  pub says : (limit bound n : ℕ) (b : BranchList) (ks ws : List Kept) → b.first ≡ first → b.top ≡ top → Remembers limit bound n xs b ks ws → Descends (cells xs) b ks s p bits

-- where the place lies
pub record Lies (xs : List ℕ) (first top p : ℕ) : Type 0 where
  pub low : first ≤ p
  pub high : p + 2 ≤ top
  pub map : HasMap xs p
  pub small : length (cells xs) ≤ 1048576

-- a link that leads somewhere leads to a later place
later : (ks : List Kept) (p q : ℕ) → (q ≡ 0 → ⊥) → (q ≡ 0) ⊎ Later ks p q → Later ks p q
later ks p q ne (inl e) = absurd (ne e)
later ks p q ne (inr l) = l

-- the test's answer
not_there : (cs : List Cell) (s : MemoryState) (p : ℕ) (r : Bool) → Tests cs s p r → r ≡ false → IsAt cs s p → ⊥
not_there cs s p r t e w = false≢true (sym e ∙ t.complete w)

module _ (xs : List ℕ) (first top : ℕ) (s : MemoryState) where
  pub search_first : (h : ℕ) → IsMap (cells xs) s.map → h ≡ hash_of (cells xs) s → first < top → Searching xs first top s first h
  search_first h map e lt =
      record {
        says = λ limit bound n b ks ws f t r.
            let cs : List Cell = cells xs in
            subst (λ (q : ℕ). Descends cs b ks s q h) f
            (subst (λ (q : ℕ). Descends cs b ks s b.first q) (sym e)
            (record {
              reaches = record { stands = blocks_root cs n b.first b.top ks (omega arith) r.blocks; path = here };
              left = λ k m w. subst (λ (g : ℕ → ℕ). OnWay cs ks b.first g k.at) (hashes_equal cs cs (state_at cs k.at) s (r.kept k m).map map w.row (sym w.runs)) (r.paths k m);
            }));
      }

  module _ (p bits : ℕ) (so : Searching xs first top s p bits) where
    pub search_lies : (b : BranchList) → b.first ≡ first → b.top ≡ top → SomeRemembering xs b → Lies xs first top p
    search_lies b f t some =
        let r = some.remembering.remembers in
        let d = (so.says some.limit some.remembering.bound some.rows b some.remembering.all some.remembering.wait f t r).reaches.stands in
        let lies = blocks_span (cells xs) some.rows b.first b.top some.remembering.all r.blocks d.kept d.among in
        let map : IsMap (cells xs) (state_at (cells xs) p).map = subst (λ (q : ℕ). IsMap (cells xs) (state_at (cells xs) q).map) d.at (r.kept d.kept d.among).map in
        let at = d.at in
        record {
          low = omega (arith, lies.0);
          high = omega (arith, lies.1);
          map = record { header = omega (arith, lies.1, r.inside); map = map };
          small = r.small;
        }

    module _ (limit bound n : ℕ) (b : BranchList) (ks ws : List Kept) (f : b.first ≡ first) (t : b.top ≡ top) (r : Remembers limit bound n xs b ks ws) (ne : child (cells xs) p bits ≡ 0 → ⊥) where
      -- the link of the place leads to a later one
      pub link_later : Later ks p (child (cells xs) p bits)
      link_later =
          let d = (so.says limit bound n b ks ws f t r).reaches.stands in
          later ks p (child (cells xs) p bits) ne
          (subst (λ (q : ℕ). (child (cells xs) q bits ≡ 0) ⊎ Later ks q (child (cells xs) q bits)) d.at (r.links d.kept d.among bits))

    pub search_later : (b : BranchList) → b.first ≡ first → b.top ≡ top → SomeRemembering xs b → (next : ℕ) → Some next ≡ place_of (child (cells xs) p bits) → p < next
    search_later b f t some next e =
        let at = place_at _ next e in
        omega (arith, at.0, (link_later some.limit some.remembering.bound some.rows b some.remembering.all some.remembering.wait f t some.remembering.remembers (λ z. at.1 (at.0 ∙ z))).after)

    module _ (test : Bool) (tests : Tests (cells xs) s p test) where
      pub search_next : test ≡ false → (next more : ℕ) → Some next ≡ place_of (child (cells xs) p bits) → more ≡ next_bits (cells xs) (hash_from (cells xs) s) p bits → Searching xs first top s next more
      search_next not next more e g =
          record {
            says = λ limit bound n b ks ws f t r.
                let cs : List Cell = cells xs in
                let d = so.says limit bound n b ks ws f t r in
                let at = place_at _ next e in
                let some : (child cs p bits ≡ 0 → ⊥) = λ z. at.1 (at.0 ∙ z) in
                subst (λ (q : ℕ). Descends cs b ks s next q) (sym g)
                (subst (λ (q : ℕ). Descends cs b ks s q (next_bits cs (hash_from cs s) p bits)) (sym at.0)
                (record {
                  reaches = record { stands = (link_later limit bound n b ks ws f t r some).stands; path = path_more cs ks (hash_from cs s) d.reaches.path d.reaches.stands some };
                  left = λ k m w. (on_next cs ks (hash_from cs s) (d.left k m w) (λ q. not_there cs s p test tests not (subst (IsAt cs s) (sym q) w))).1;
                }));
          }

      module _ (b : BranchList) (f : b.first ≡ first) (t : b.top ≡ top) where
        pub search_known : test ≡ true → Searches xs b s None
        search_known is =
            record {
              says = λ limit bound n ks ws r.
                  let d = (so.says limit bound n b ks ws f t r).reaches.stands in
                  record { kept = d.kept; among = d.among; there = subst (IsAt (cells xs) s) (sym d.at) (tests.sound is) };
            }

        pub search_free : test ≡ false → child (cells xs) p bits ≡ 0 → Searches xs b s (Some (record { at = Some p; bits = bits }))
        search_free not free =
            record {
              says = λ limit bound n ks ws r.
                  let cs : List Cell = cells xs in
                  let d = so.says limit bound n b ks ws f t r in
                  record {
                    none = λ k m w. (on_next cs ks (hash_from cs s) (d.left k m w) (λ q. not_there cs s p test tests not (subst (IsAt cs s) (sym q) w))).0 free;
                    place = record { reaches = d.reaches; free = free };
                  };
            }

-- nothing is remembered
pub search_none : (xs : List ℕ) (b : BranchList) (s : MemoryState) (h : ℕ) → b.top ≤ b.first → Searches xs b s (Some (record { at = None; bits = h }))
search_none xs b s h le =
    record {
      says = λ limit bound n ks ws r.
          let e = blocks_none (cells xs) n b.first b.top ks le r.blocks in
          record { none = λ k m w. subst (λ (l : List Kept). k ∈ l) e m; place = e };
    }

-- the way goes no further than the top
pub search_end : (xs : List ℕ) (b : BranchList) (s : MemoryState) (h p bits : ℕ) → SomeRemembering xs b → b.top ≤ p → (b.first < b.top → Searching xs b.first b.top s p bits) → Searches xs b s (Some (record { at = None; bits = h }))
search_end xs b s h p bits some le so = go (dec_lt b.first b.top)
  where
    go : Dec (b.first < b.top) → Searches xs b s (Some (record { at = None; bits = h }))
    go (yes lt) = absurd (omega (arith, (search_lies xs b.first b.top s p bits (so lt) b refl refl some).high))
    go (no ge) = search_none xs b s h (omega arith)
