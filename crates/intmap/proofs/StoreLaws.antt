-- The laws of a store and a removal, from the cells that they leave behind: what `swap` makes of the map's entries is what the area then has.
-- Below, m is the map, s what a search for the key answered, and n the number of new cells. Assumes nothing.
use mathlib.Core.Path.{◌≡◌, refl, sym, ap, ap₂, subst, ◌∙◌}
use mathlib.Core.List.{List, [], ◌∷◌, ◌++◌}
use mathlib.Core.Bool.{Bool}
use Prim.Native.Nat.{ℕ, suc, ◌+◌, ◌-◌, ◌<◌, ◌≤◌}
use native.Mathlib.Omega.{arith}
use lib.ListN.{length, get_or, set, length-set}
use lib.Seq.{get_or-set_same, get_or-set_other}
use borrow.Author.Tests.{le-leb, lt-leb}
use Rattle.model.specs.Walk.{refused, done}
use Rattle.area.specs.Cells.{blank}
use Rattle.area.specs.Moves.{moved}
use Rattle.area.specs.declared.Cell.{Cell}
use Rattle.area.proofs.MoveLaws.{moved_none, moved_below, moved_above, moved_in, length_moved}
use Rattle.intmap.specs.Pack.{tag_of, with_key}
use Rattle.intmap.specs.Pick.{pick}
use Rattle.intmap.specs.Runs.{size, sizes, IsColumn, Agree}
use Rattle.intmap.specs.Find.{place, seek_place, seek, Sought, spot}
use Rattle.intmap.specs.Entries.{Runs, span, entries, key_run, total}
use Rattle.intmap.specs.Swap.{swap, lookup}
use Rattle.intmap.specs.Map.{levels, runs_at, IsMap, HasRoom, Frame}
use Rattle.intmap.specs.Change.{rekey}
use Rattle.std.specs.Prelude.{Ok, Err}
use Rattle.refusal.specs.Numbers.{number_of}
use Rattle.refusal.specs.declared.Refusal.{Refusal}
use Rattle.refusal.specs.declared.Refusal.TheVariants.{TooManyCells}
use Rattle.intmap.specs.Store.{RoomMade, old_cells, new_len, NewAt, Opens, put, Stored, Inserts, RunAbove, Removes}
use Rattle.intmap.specs.declared.Place.{Place}
use Rattle.intmap.specs.declared.IntMap.{IntMap}
use Rattle.intmap.proofs.RunLaws.{size-pos, size-single}
use Rattle.intmap.proofs.SameCells.{size_same}
use Rattle.intmap.proofs.FindLaws.{answered_ok, answered_err, answers_end, sought_place, seek-pos, seek_behind, found_within, found-whole}
use Rattle.intmap.proofs.EntryLaws.{span_same, length-span, total-sizes, entries_few}
use Rattle.intmap.proofs.SwapLaws.{cells_of, total-swap}
use Rattle.intmap.proofs.ChangeLaws.{with, with_other, with_size, with_span, rekey_long, key-rekey}
use Rattle.intmap.proofs.Swapped.{seek_ok, seek_err, swapped_new, swapped_old}

pub room_map : {cs : List Cell} {limit : ℕ} {m : IntMap} → HasRoom cs limit m → IsMap cs m
room_map h = record { used = h.used; inside = omega (arith, h.most, h.room); small = h.small }

pub few_entries : (cs : List Cell) (m : IntMap) → IsMap cs m → m.len ≤ m.used
few_entries cs m is = omega (arith, entries_few cs levels m.len m.base, is.used)

-- the entries but for the one that has the key
abbrev rest_len : ℕ → Sought → ℕ
rest_len n (Ok w) = n - 1
rest_len n (Err w) = n

-- ---- where what a search found lies, and what the key has
module _ (cs : List Cell) (m : IntMap) (key : ℕ) (is : IsMap cs m) where
  pub found_in : (s : Sought) → s ≡ seek cs levels key m.len m.base → (m.base ≤ (spot s).at) × ((spot s).at ≤ m.base + m.used)
  found_in s e = let r = found_within cs levels key m.len m.base (spot s) (ap spot e ∙ sought_place cs levels key m.len m.base) in (r.0, omega (arith, r.1, is.used))

  module _ {w : Place} (there : Ok w ≡ seek cs levels key m.len m.base) where
    pub found_all : w.at + size cs levels w.at ≤ m.base + m.used
    found_all = omega (arith, found-whole cs levels key m.len m.base w there, is.used)

    pub found_column : IsColumn cs levels w.at
    found_column = record { fits = omega (arith, found_all, is.inside); small = is.small }

    pub found_pos : 0 < m.len
    found_pos = seek-pos cs levels key m.len m.base (answered_ok cs levels key m.len m.base w there).1

  old_held : (s : Sought) → s ≡ seek cs levels key m.len m.base → cells_of (lookup key (runs_at cs m)) ≡ old_cells cs s
  old_held (Ok w) e = ap cells_of (seek_ok cs levels key m.len m.base w e) ∙ length-span cs _ _
  old_held (Err w) e = ap cells_of (seek_err cs levels key m.len m.base w e)

  pub old_end : (s : Sought) → s ≡ seek cs levels key m.len m.base → (spot s).at + old_cells cs s ≤ m.base + m.used
  old_end (Ok w) e = found_all e
  old_end (Err w) e = omega (arith, (found_in (Err w) e).1)

  -- an entry more, or one in the place of the old
  one_entry : (s : Sought) → s ≡ seek cs levels key m.len m.base → new_len m.len s ≡ 1 + rest_len m.len s
  one_entry (Ok w) e = omega (arith, found_pos e)
  one_entry (Err w) e = omega arith

  -- how many cells there are with the runs rs in the place of the key's
  used_after : (s : Sought) → s ≡ seek cs levels key m.len m.base → (rs : Runs) → m.used - old_cells cs s + total rs ≡ total (swap key rs (runs_at cs m))
  used_after s e rs = omega (arith, total-swap key rs (runs_at cs m), total-sizes cs levels m.len m.base, is.used, old_held s e, old_end s e, (found_in s e).0)

  -- es is cs with the k runs rs, of n cells, in the place of the key's
  runs_after : (s : Sought) → s ≡ seek cs levels key m.len m.base → (es : List Cell) (k n : ℕ) (rs : Runs)
      → ((j : ℕ) → j < (spot s).at → get_or es j blank ≡ get_or cs j blank)
      → ((j : ℕ) → entries es levels (k + j) (spot s).at ≡ rs ++ entries es levels j ((spot s).at + n))
      → Agree cs ((spot s).at + old_cells cs s) es ((spot s).at + n) (m.base + m.used - (spot s).at - old_cells cs s)
      → entries es levels (k + rest_len m.len s) m.base ≡ swap key rs (runs_at cs m)
  runs_after (Ok w) e es k n rs before new after =
      let f = answered_ok cs levels key m.len m.base w e in
      swapped_old cs es levels key w.at k n rs before new m.len m.base (ap (λ (x : Place). x.at) (sym f.0)) f.1 (λ j lt. after j (omega (arith, is.used)))
  runs_after (Err w) e es k n rs before new after =
      let f = answered_err cs levels key m.len m.base w e in
      let z : w.at + 0 ≡ w.at = omega arith in
      swapped_new cs es levels key w.at k n rs before new m.len m.base (ap (λ (x : Place). x.at) (sym f.0)) f.1 (λ j lt. subst (λ (x : ℕ). get_or es (w.at + n + j) blank ≡ get_or cs (x + j) blank) z (after j (omega (arith, is.used))))

-- ---- room for an entry: the two ways of a search
module _ (cs ds : List Cell) (limit : ℕ) (m : IntMap) (s : Sought) (w : Place) (n : ℕ) (r : Stored) where
  pub opened_old : (old : ℕ) → Ok w ≡ s → old ≡ size cs levels w.at → RoomMade cs ds limit m w.at old n m.len r → Opens cs ds limit m s n r
  opened_old old h l t = subst (λ x. Opens cs ds limit m x n r) h (subst (λ x. RoomMade cs ds limit m w.at x n m.len r) l t)

  pub opened_new : Err w ≡ s → RoomMade cs ds limit m w.at 0 n (m.len + 1) r → Opens cs ds limit m s n r
  opened_new h t = subst (λ x. Opens cs ds limit m x n r) h t

-- the map with an entry of n cells more
abbrev pub longer : IntMap → ℕ → IntMap
longer m n = record { base = m.base; len = m.len + 1; used = m.used + n }

-- room for a new entry where a search led
module _ (cs : List Cell) (limit : ℕ) (m : IntMap) (s : Sought) (w : Place) (n : ℕ) (absent : Err w ≡ s) where
  pub new_full : limit < m.used + n → Opens cs cs limit m s n (Err TooManyCells)
  new_full over = opened_new cs cs limit m s w n (Err TooManyCells) absent (record { is = refl; over = omega arith; same = refl })

  pub new_opened : m.used + n ≤ limit → (es : List Cell) → es ≡ moved cs w.at (w.at + n) (m.base + m.used - w.at) → Opens cs es limit m s n (Ok (longer m n))
  new_opened most es e =
      let from : w.at ≡ w.at + 0 = omega arith in
      let rest : m.base + m.used - w.at ≡ m.base + m.used - w.at - 0 = omega arith in
      opened_new cs es limit m s w n (Ok (longer m n)) absent
      (record { base = refl; len = refl; used = omega arith; most = most; cells = e ∙ ap₂ (λ f k. moved cs f (w.at + n) k) from rest; long = ap length e ∙ length_moved cs w.at (w.at + n) (m.base + m.used - w.at) })

pub new_within : {cs : List Cell} {limit : ℕ} {m : IntMap} {key at : ℕ} → HasRoom cs limit m → NewAt cs m key at → (m.base ≤ at) × (at ≤ m.base + m.used)
new_within {cs} {limit} {m} {key} has new = found_in cs m key (room_map has) _ new.is

-- a search with no entry left leads to their end
pub behind_new : {cs : List Cell} {m : IntMap} {key : ℕ} → IsMap cs m → (seek_place cs levels key m.len m.base).left ≡ 0 → NewAt cs m key (m.base + m.used)
behind_new {cs} {m} {key} is none_left =
    let end = seek_behind cs levels key m.len m.base none_left in
    record { left = 0; is = answers_end cs levels key m.len m.base _ (ap (λ u. place (m.base + u) 0) is.used ∙ sym end) refl }

-- and there nothing moves
module _ (cs : List Cell) (limit : ℕ) (m : IntMap) (key n : ℕ) (has : HasRoom cs limit m) (new : NewAt cs m key (m.base + m.used)) where
  pub behind_full : limit < m.used + n → Opens cs cs limit m (seek cs levels key m.len m.base) n (Err TooManyCells)
  behind_full over = new_full cs limit m _ _ n new.is over

  pub behind_opened : m.used + n ≤ limit → Opens cs cs limit m (seek cs levels key m.len m.base) n (Ok (longer m n))
  behind_opened most = new_opened cs limit m _ _ n new.is most cs (moved_none cs _ _ _ (omega arith))

pub frame_same : (cs ds : List Cell) (base n : ℕ) → ds ≡ cs → Frame cs ds base n
frame_same cs ds base n e = record { long = ap length e; below = λ j lt. ap (λ (l : List Cell). get_or l j blank) e; above = λ j le. ap (λ (l : List Cell). get_or l j blank) e }

-- ---- a run stored: p is the answer of `open`, ds the cells that it leaves
module _ (cs ds : List Cell) (limit : ℕ) (m : IntMap) (key n : ℕ) (p : Stored) (has : HasRoom cs limit m)
    (o : Opens cs ds limit m (seek cs levels key m.len m.base) n p)
  where
    is : IsMap cs m
    is = room_map has

    abbrev W : Sought
    W = seek cs levels key m.len m.base

    -- the place lies in the map's room
    pub opened_in : (at : ℕ) (r : IntMap) → at ≡ (spot W).at → p ≡ Ok r → (at + n ≤ m.base + limit) × (length ds ≡ length cs)
    opened_in at r here e =
        let t = subst (Opens cs ds limit m W n) e o in
        let f = found_in cs m key is W refl in
        let old = old_end cs m key is W refl in
        (omega (arith, f.0, f.1, old, here, t.used, t.most), t.long)

    -- there is no room
    pub stored_full : (run : List Cell) → key_run run ≡ key → length run ≡ n → (r : Refusal) → p ≡ Err r → Inserts cs ds limit m run (Err r)
    unfolding total
    stored_full run k long r e =
        let t = subst (Opens cs ds limit m W n) e o in
        let over : limit < total (swap key (run ∷ []) (runs_at cs m)) = omega (arith, used_after cs m key is W refl (run ∷ []), t.over, long) in
        let over' : limit < total (put run (runs_at cs m)) = rw k over in
        record {
          answer = ap (λ x. refused (number_of x)) t.is ∙ ap (λ (b : Bool). pick b (done (put run (runs_at cs m))) (refused 8)) (sym (lt-leb (total (put run (runs_at cs m))) limit over'));
          leaves = t.same;
          frame = frame_same cs ds m.base limit t.same;
        }

    -- es has the run at the place
    module _ (es : List Cell) (run : List Cell) (at : ℕ) (r : IntMap) (k : key_run run ≡ key) (long : length run ≡ n) (q : at ≡ (spot W).at) (e : p ≡ Ok r)
        (before : (j : ℕ) → j < at → get_or es j blank ≡ get_or ds j blank)
        (new : (j : ℕ) → entries es levels (1 + j) at ≡ run ∷ entries es levels j (at + n))
        (after : (j : ℕ) → at + n ≤ j → get_or es j blank ≡ get_or ds j blank)
        (kept : length es ≡ length ds)
      where
        pub stored_done : Inserts cs es limit m run (Ok r)
        unfolding total
        stored_done =
            let t = subst (Opens cs ds limit m W n) e o in
            let f = found_in cs m key is W refl in
            let old = old_end cs m key is W refl in
            let tail = m.base + m.used - (spot W).at - old_cells cs W in
            let low : (j : ℕ) → j < (spot W).at → get_or es j blank ≡ get_or cs j blank = λ j lt. before j (omega (arith, q)) ∙ ap (λ (l : List Cell). get_or l j blank) t.cells ∙ moved_below cs ((spot W).at + old_cells cs W) ((spot W).at + n) tail j (omega arith) in
            let high : (j : ℕ) → (spot W).at + n ≤ j → get_or es j blank ≡ get_or (moved cs ((spot W).at + old_cells cs W) ((spot W).at + n) tail) j blank = λ j le. after j (omega (arith, q)) ∙ ap (λ (l : List Cell). get_or l j blank) t.cells in
            let new' : (j : ℕ) → entries es levels (1 + j) (spot W).at ≡ run ∷ entries es levels j ((spot W).at + n) = λ j. subst (λ (x : ℕ). entries es levels (1 + j) x ≡ run ∷ entries es levels j (x + n)) q (new j) in
            let rest : Agree cs ((spot W).at + old_cells cs W) es ((spot W).at + n) tail = λ j lt. high ((spot W).at + n + j) (omega arith) ∙ moved_in cs ((spot W).at + old_cells cs W) ((spot W).at + n) tail j (omega (arith, f.0, f.1, has.room, has.most, t.most, t.used, old)) lt in
            let count : r.len ≡ 1 + rest_len m.len W = t.len ∙ one_entry cs m key is W refl in
            let runs : entries es levels r.len m.base ≡ swap key (run ∷ []) (runs_at cs m) = rw count (runs_after cs m key is W refl es 1 n (run ∷ []) low new' rest) in
            let used : r.used ≡ total (swap key (run ∷ []) (runs_at cs m)) = omega (arith, t.used, used_after cs m key is W refl (run ∷ []), long) in
            let sized : total (put run (runs_at cs m)) ≤ limit = rw k (omega (arith, used, t.most)) in
            let same : runs_at es r ≡ put run (runs_at cs m) = ap (entries es levels r.len) t.base ∙ runs ∙ ap (λ (x : ℕ). swap x (run ∷ []) (runs_at cs m)) (sym k) in
            let same_length : length es ≡ length cs = kept ∙ t.long in
            record {
              answer = ap done same ∙ ap (λ (b : Bool). pick b (done (put run (runs_at cs m))) (refused 8)) (sym (le-leb (total (put run (runs_at cs m))) limit sized));
              leaves = record {
                base = t.base;
                room = record {
                  used = used ∙ sym (ap total runs) ∙ sym (total-sizes es levels r.len m.base) ∙ ap (sizes (size es levels) r.len) (sym t.base);
                  most = t.most;
                  room = omega (arith, has.room, t.base, same_length);
                  small = omega (arith, has.small, same_length);
                };
              };
              frame = record {
                long = same_length;
                below = λ j lt. low j (omega (arith, f.0));
                above = λ j le. high j (omega (arith, f.1, has.most, t.most, t.used, old)) ∙ moved_above cs ((spot W).at + old_cells cs W) ((spot W).at + n) tail j (omega (arith, f.0, f.1, has.most, t.most, t.used, old));
              };
            }

-- ---- one cell stored, and a run
module _ (cs ds : List Cell) (limit : ℕ) (m : IntMap) (c : Cell) (key : ℕ) (p : Stored) (has : HasRoom cs limit m) (plain : tag_of c ≡ 2 → ⊥) (k : key_run (c ∷ []) ≡ key)
    (o : Opens cs ds limit m (seek cs levels key m.len m.base) 1 p)
  where
    pub cell_full : (r : Refusal) → p ≡ Err r → Inserts cs ds limit m (c ∷ []) (Err r)
    cell_full r e = stored_full cs ds limit m key 1 p has o (c ∷ []) k refl r e

    pub cell_done : (es : List Cell) (at : ℕ) (r : IntMap) → at ≡ (spot (seek cs levels key m.len m.base)).at → p ≡ Ok r → es ≡ set ds at c → Inserts cs es limit m (c ∷ []) (Ok r)
    unfolding entries span
    cell_done es at r q e w =
        let t = opened_in cs ds limit m key 1 p has o at r q e in
        let here : c ≡ get_or es at blank = rw w (sym (get_or-set_same ds at c blank (omega (arith, t.0, t.1, has.room)))) in
        let one : 1 ≡ size es levels at = size-single es levels at c here plain in
        let other : (j : ℕ) → (j ≡ at → ⊥) → get_or es j blank ≡ get_or ds j blank = λ j ne. rw w (get_or-set_other ds at j c blank ne) in
        stored_done cs ds limit m key 1 p has o es (c ∷ []) at r k refl q e
        (λ j lt. other j (omega arith))
        (λ j. let x : 1 + j ≡ suc j = omega arith in rw (x, ← one, ← here))
        (λ j le. other j (omega arith))
        (rw w (length-set ds at c))

-- a run has its head, and under a key it is as long and has that key
module _ (cs : List Cell) (limit : ℕ) (m : IntMap) (from n : ℕ) (run : RunAbove cs limit m from n) where
  pub run_pos : 0 < n
  run_pos = omega (arith, run.whole, size-pos cs levels from)

  run_key : (key : ℕ) → key_run (rekey key (span cs from n)) ≡ key
  run_key key = key-rekey key (span cs from n) (omega (arith, length-span cs from n, run_pos))

  run_long : (key : ℕ) → length (rekey key (span cs from n)) ≡ n
  run_long key = rekey_long key (span cs from n) ∙ length-span cs from n

module _ (cs ds : List Cell) (limit : ℕ) (m : IntMap) (key from n : ℕ) (p : Stored) (has : HasRoom cs limit m) (run : RunAbove cs limit m from n)
    (o : Opens cs ds limit m (seek cs levels key m.len m.base) n p)
  where
    pub run_full : (r : Refusal) → p ≡ Err r → Inserts cs ds limit m (rekey key (span cs from n)) (Err r)
    run_full r e = stored_full cs ds limit m key n p has o (rekey key (span cs from n)) (run_key cs limit m from n run key) (run_long cs limit m from n run key) r e

    module _ (at : ℕ) (r : IntMap) (q : at ≡ (spot (seek cs levels key m.len m.base)).at) (e : p ≡ Ok r) where
      pub run_fits : (from + n ≤ length ds) × (at + n ≤ length ds) × (length ds ≤ 1048576)
      run_fits =
          let t = opened_in cs ds limit m key n p has o at r q e in
          (omega (arith, run.fits, t.1), omega (arith, t.0, t.1, has.room), omega (arith, has.small, t.1))

      -- the run is as it was once there is room
      kept_run : Agree cs from ds from n
      kept_run j lt =
          let W = seek cs levels key m.len m.base in
          let t = subst (Opens cs ds limit m W n) e o in
          let f = found_in cs m key (room_map has) W refl in
          let old = old_end cs m key (room_map has) W refl in
          ap (λ (l : List Cell). get_or l (from + j) blank) t.cells
          ∙ moved_above cs ((spot W).at + old_cells cs W) ((spot W).at + n) (m.base + m.used - (spot W).at - old_cells cs W) (from + j) (omega (arith, f.0, f.1, t.most, t.used, old, run.above, has.most))

      -- the copy, before its head is written again
      abbrev copy : List Cell
      copy = moved ds from at n

      copied : Agree cs from copy at n
      copied j lt = moved_in ds from at n j run_fits.1 lt ∙ kept_run j lt

      copied_size : size copy levels at ≡ n
      copied_size = size_same cs copy levels from at (λ j lt. copied j (omega (arith, run.whole))) ∙ sym run.whole

      copied_fits : at < length copy
      copied_fits = omega (arith, length_moved ds from at n, run_fits.1, run_pos cs limit m from n run)

      copied_head : get_or copy at blank ≡ get_or cs from blank
      copied_head =
          let x : at + 0 ≡ at = omega arith in
          let y : from + 0 ≡ from = omega arith in
          rw (x, y) at (copied 0 (run_pos cs limit m from n run))

      pub run_done : (mid es : List Cell) (c h : Cell) → c ≡ get_or cs from blank → mid ≡ copy → h ≡ with_key key c → es ≡ set mid at h → Inserts cs es limit m (rekey key (span cs from n)) (Ok r)
      unfolding entries
      run_done mid es c h ce me he w =
          let pos = run_pos cs limit m from n run in
          let is : es ≡ with copy levels key at = w ∙ ap₂ (λ (l : List Cell) (x : Cell). set l at x) me (he ∙ ap (with_key key) (ce ∙ sym copied_head)) in
          let sz : size es levels at ≡ n = ap (λ (l : List Cell). size l levels at) is ∙ with_size copy levels key at copied_fits ∙ copied_size in
          let same : span es at n ≡ rekey key (span cs from n) = ap (λ (l : List Cell). span l at n) is ∙ with_span copy levels key at copied_fits n pos ∙ ap (rekey key) (span_same cs copy n from at copied) in
          let other : (j : ℕ) → (j ≡ at → ⊥) → get_or es j blank ≡ get_or copy j blank = λ j ne. ap (λ (l : List Cell). get_or l j blank) is ∙ with_other copy levels key at j ne in
          stored_done cs ds limit m key n p has o es (rekey key (span cs from n)) at r (run_key cs limit m from n run key) (run_long cs limit m from n run key) q e
          (λ j lt. other j (omega arith) ∙ moved_below ds from at n j lt)
          (λ j. let x : 1 + j ≡ suc j = omega arith in rw (x, sz) (ap (λ (l : List Cell). l ∷ entries es levels j (at + n)) same))
          (λ j le. other j (omega (arith, pos)) ∙ moved_above ds from at n j le)
          (ap length is ∙ length-set copy at (with_key key (get_or copy at blank)) ∙ length_moved ds from at n)

-- ---- an entry taken out
nothing : (es : List Cell) (j p : ℕ) → entries es levels (0 + j) p ≡ [] ++ entries es levels j (p + 0)
nothing es j p = let x : 0 + j ≡ j = omega arith in let y : p + 0 ≡ p = omega arith in rw (x, y)

module _ (cs : List Cell) (m : IntMap) (key : ℕ) (is : IsMap cs m) {w : Place} where
  pub removed_none : Err w ≡ seek cs levels key m.len m.base → Removes cs cs m key m
  unfolding total
  removed_none e =
      let n : 0 + m.len ≡ m.len = omega arith in
      record {
        runs = subst (λ (x : ℕ). entries cs levels x m.base ≡ swap key [] (runs_at cs m)) n (runs_after cs m key is (Err w) e cs 0 0 [] (λ j lt. refl) (λ j. nothing cs j w.at) (λ j lt. refl));
        base = refl;
        used = omega (arith, used_after cs m key is (Err w) e []);
        fewer = omega arith;
        frame = frame_same cs cs m.base m.used refl;
      }

  pub removed_old : Ok w ≡ seek cs levels key m.len m.base → (es : List Cell) (old : ℕ) → old ≡ size cs levels w.at → es ≡ moved cs (w.at + old) w.at (m.base + m.used - w.at - old) → Removes cs es m key (record { base = m.base; len = m.len - 1; used = m.used - old })
  unfolding total
  removed_old there es old l e =
      let f = found_in cs m key is (Ok w) there in
      let a = found_all cs m key is there in
      let n : 0 + (m.len - 1) ≡ m.len - 1 = omega arith in
      let tail = m.base + m.used - w.at - old in
      record {
        runs = subst (λ (x : ℕ). entries es levels x m.base ≡ swap key [] (runs_at cs m)) n
            (runs_after cs m key is (Ok w) there es 0 0 []
            (λ j lt. rw e (moved_below cs (w.at + old) w.at tail j lt))
            (λ j. nothing es j w.at)
            (λ j lt.
            (let x : w.at + 0 + j ≡ w.at + j = omega arith in
            rw (x, ← l) (ap (λ (t : List Cell). get_or t (w.at + j) blank) e ∙ moved_in cs (w.at + old) w.at tail j (omega (arith, f.0, f.1, is.inside)) (omega (arith, l))))));
        base = refl;
        used = omega (arith, l, used_after cs m key is (Ok w) there []);
        fewer = omega arith;
        frame = record {
          long = ap length e ∙ length_moved cs (w.at + old) w.at tail;
          below = λ j lt. ap (λ (t : List Cell). get_or t j blank) e ∙ moved_below cs (w.at + old) w.at tail j (omega (arith, f.0));
          above = λ j le. ap (λ (t : List Cell). get_or t j blank) e ∙ moved_above cs (w.at + old) w.at tail j (omega (arith, f.0, f.1, a, l));
        };
      }

-- what is left is a map again, with the room that it had
pub removed_map : (cs ds : List Cell) (m : IntMap) (key : ℕ) (r : IntMap) → IsMap cs m → Removes cs ds m key r → IsMap ds r
removed_map cs ds m key r is d =
    record {
      used = d.used ∙ sym (ap total d.runs) ∙ sym (total-sizes ds levels r.len r.base);
      inside = omega (arith, is.inside, d.base, d.fewer, d.frame.long);
      small = omega (arith, is.small, d.frame.long);
    }

-- room where a search led, which is told otherwise
pub opened_as : (cs ds : List Cell) (limit : ℕ) (m : IntMap) (n : ℕ) (p : Stored) (s t : Sought) → s ≡ t → Opens cs ds limit m s n p → Opens cs ds limit m t n p
opened_as cs ds limit m n p s t e o = subst (λ x. Opens cs ds limit m x n p) e o
