-- A run put over another of as many cells: cells that are no records' are columns of one cell each, so a record's columns copied over as many
-- are such a run; and over the entry that a search for its key leads to, it is the store. Assumes nothing.
use mathlib.Core.Path.{◌≡◌, refl, sym, ap, ap₂, subst, ◌∙◌}
use mathlib.Core.Bool.{Bool, true, false, true≢false}
use mathlib.Core.List.{List, ◌∷◌}
use Prim.Native.Nat.{ℕ, zero, suc, ◌+◌, ◌-◌, ◌<◌, ◌≤◌}
use native.Mathlib.Omega.{arith}
use lib.ListN.{length, get_or, set, length-set}
use lib.Seq.{get_or-set_same, get_or-set_other}
use Rattle.area.specs.Cells.{blank}
use Rattle.area.specs.Moves.{moved}
use Rattle.area.specs.declared.Cell.{Cell}
use Rattle.area.proofs.MoveLaws.{length_moved, moved_same, moved_below, moved_above, moved_in}
use Rattle.std.specs.Prelude.{Ok}
use Rattle.std.specs.Bool.{MatchBool}
use Rattle.intmap.specs.Pack.{tag_of, key_of, with_key}
use Rattle.intmap.specs.Runs.{size, sizes, IsColumn, Agree}
use Rattle.intmap.specs.Entries.{span, entries, key_run}
use Rattle.intmap.specs.Find.{seek, spot}
use Rattle.intmap.specs.Map.{levels, HasRoom}
use Rattle.intmap.specs.Change.{rekey}
use Rattle.intmap.specs.Over.{Plain, ArePlain, Overlaid, CopiesOver}
use Rattle.intmap.specs.Store.{Opens, Inserts}
use Rattle.intmap.specs.declared.IntMap.{IntMap}
use Rattle.intmap.specs.declared.Place.{Place}
use Rattle.intmap.proofs.EntryLaws.{length-span, span_same, entries_few}
use Rattle.intmap.proofs.PackLaws.{keyed_tag}
use Rattle.intmap.proofs.RunLaws.{size-single, size_record}
use Rattle.intmap.proofs.StoreLaws.{room_map, opened_old, stored_done, found_in, found_all}

-- ---- plain cells

pub are_plain : (cs : List Cell) (at n : ℕ) (r : Bool) → MatchBool r ((k : ℕ) → k < n → tag_of (get_or cs (at + k) blank) ≡ 2 → ⊥) ((k : ℕ) × (k < n) × (tag_of (get_or cs (at + k) blank) ≡ 2)) → ArePlain cs at n r
are_plain cs at n true h = record { yes = λ _. record { none = h }; no = λ e. absurd (true≢false e) }
are_plain cs at n false h = record { yes = λ e. absurd (true≢false (sym e)); no = λ _ plain. plain.none h.0 h.1 h.2 }

-- they are columns of one cell each
pub plain-sizes : (cs : List Cell) (d n at : ℕ) → Plain cs at n → sizes (size cs d) n at ≡ n
unfolding sizes
plain-sizes cs d zero at plain = refl
plain-sizes cs d (suc n) at plain =
    let here : at + 0 ≡ at = omega arith in
    let one : 1 ≡ size cs d at = size-single cs d at (get_or cs at blank) refl (λ t. plain.none 0 (omega arith) (ap (λ p. tag_of (get_or cs p blank)) here ∙ t)) in
    let rest : Plain cs (at + 1) n = record { none = λ j lt t. plain.none (suc j) (omega (arith, lt)) (ap (λ p. tag_of (get_or cs p blank)) (omega arith) ∙ t) } in
    rw (← one) (omega (arith, plain-sizes cs d n (at + 1) rest))

-- a record of n of them
pub plain_record : (cs : List Cell) (p n : ℕ) → tag_of (get_or cs p blank) ≡ 2 → (get_or cs p blank).payload ≡ n → Plain cs (p + 1) n → size cs levels p ≡ suc n
plain_record cs p n tag number plain =
    sym (size_record cs levels p (get_or cs p blank) refl (omega arith) tag) ∙ ap (λ k. 1 + sizes (size cs 8) k (p + 1)) number ∙ omega (arith, plain-sizes cs 8 n (p + 1) plain)

-- ---- the columns of a record

-- a record has at least its head and a cell for each column
pub record_least : (cs : List Cell) (p : ℕ) (c : Cell) → c ≡ get_or cs p blank → tag_of c ≡ 2 → 1 + c.payload ≤ size cs levels p
record_least cs p c ce tag = omega (arith, size_record cs levels p c ce (omega arith) tag, entries_few cs 8 c.payload (p + 1))

-- so its columns are within the area
pub columns_room : {cs : List Cell} {p : ℕ} (c : Cell) → IsColumn cs levels p → tag_of c ≡ 2 → tag_of c ≡ tag_of (get_or cs p blank) → c.payload ≡ (get_or cs p blank).payload → p + 1 + c.payload ≤ length cs
columns_room {cs} {p} c column tag same load = omega (arith, column.fits, record_least cs p (get_or cs p blank) refl (sym same ∙ tag), load)

module _ (cs ms ds : List Cell) (from to n : ℕ) (c : Cell) (fits : to + suc n ≤ length cs)
    (tag : tag_of c ≡ 2) (head : tag_of (get_or cs from blank) ≡ 2) (number : (get_or cs from blank).payload ≡ n) (load : c.payload ≡ n)
    (tag' : tag_of (get_or cs to blank) ≡ 2) (number' : (get_or cs to blank).payload ≡ n)
    (source : Plain cs (from + 1) n) (target : Plain cs (to + 1) n)
    (me : ms ≡ moved cs (from + 1) (to + 1) n) (key : ℕ) (ke : key ≡ key_of (get_or cs to blank)) (h : Cell) (he : h ≡ with_key key c) (de : ds ≡ set ms to h)
  where
    inside : to < length ms
    inside = omega (arith, ap length me, length_moved cs (from + 1) (to + 1) n, fits)

    here : get_or ds to blank ≡ h
    here = ap (λ (l : List Cell). get_or l to blank) de ∙ get_or-set_same ms to h blank inside

    other : (j : ℕ) → (j ≡ to → ⊥) → get_or ds j blank ≡ get_or (moved cs (from + 1) (to + 1) n) j blank
    other j ne = ap (λ (l : List Cell). get_or l j blank) de ∙ get_or-set_other ms to j h blank ne ∙ ap (λ (l : List Cell). get_or l j blank) me

    copied : Agree cs (from + 1) ds (to + 1) n
    copied j lt = other (to + 1 + j) (omega arith) ∙ moved_in cs (from + 1) (to + 1) n j (omega (arith, fits)) lt

    abbrev run : List Cell
    run = rekey (key_of (get_or cs to blank)) (c ∷ span cs (from + 1) (size cs levels from - 1))

    source_size : size cs levels from - 1 ≡ n
    source_size = omega (arith, plain_record cs from n head number source)

    long : length run ≡ suc n
    long = ap suc (length-span cs (from + 1) (size cs levels from - 1) ∙ source_size)

    headed : h ≡ with_key (key_of (get_or cs to blank)) c
    headed = he ∙ ap (λ k. with_key k c) ke

    stands : span ds to (suc n) ≡ run
    unfolding span
    stands = ap₂ (λ x l. x ∷ l) (here ∙ headed) (span_same cs ds n (from + 1) (to + 1) copied ∙ ap (span cs (from + 1)) (sym source_size))

    is : size ds levels to ≡ suc n
    is =
        plain_record ds to n (ap tag_of (here ∙ he) ∙ keyed_tag key c ∙ tag) (ap (λ (x : Cell). x.payload) (here ∙ he) ∙ load)
        (record { none = λ j lt t. source.none j lt (sym (ap tag_of (copied j lt)) ∙ t) })

    pub overlaid : Overlaid cs ds to run
    overlaid =
        record {
          was = plain_record cs to n tag' number' target ∙ sym long;
          is = is ∙ sym long;
          stands = ap (span ds to) long ∙ stands;
          frame =
              record {
                long = ap length de ∙ length-set ms to h ∙ ap length me ∙ length_moved cs (from + 1) (to + 1) n;
                below = λ j lt. other j (omega (arith, lt)) ∙ moved_below cs (from + 1) (to + 1) n j (omega (arith, lt));
                above = λ j le. other j (omega (arith, le, long)) ∙ moved_above cs (from + 1) (to + 1) n j (omega (arith, le, long));
              };
        }

pub copied_it : {cs ms ds : List Cell} {from to : ℕ} {c : Cell} → IsColumn cs levels to → tag_of c ≡ 2 → tag_of c ≡ tag_of (get_or cs from blank) → c.payload ≡ (get_or cs from blank).payload → (d : Cell) → d ≡ get_or cs to blank → tag_of d ≡ 2 → d.payload ≡ c.payload → Plain cs (from + 1) c.payload → Plain cs (to + 1) c.payload
    → ms ≡ moved cs (from + 1) (to + 1) c.payload → (key : ℕ) → key ≡ key_of d → (h : Cell) → h ≡ with_key key c → ds ≡ set ms to h → CopiesOver cs ds from to c true
copied_it {cs} {ms} {ds} {from} {to} {c} column tag same load d de tag' load' source target me key ke h he dse =
    record {
      flat = λ _. (tag, subst (Plain cs (from + 1)) (omega (arith, plain_record cs from c.payload (sym same ∙ tag) (sym load) source)) source);
      yes = λ _.
          overlaid cs ms ds from to c.payload c (omega (arith, column.fits, record_least cs to d de tag', load')) tag (sym same ∙ tag) (sym load) refl (ap tag_of (sym de) ∙ tag') (ap (λ (x : Cell). x.payload) (sym de) ∙ load') source target me key
          (ke ∙ ap key_of de) h he dse;
      none = λ e. absurd (true≢false e);
      no = λ e. absurd (true≢false e);
    }

-- ---- the store

module _ (cs ds : List Cell) (limit : ℕ) (m : IntMap) (key p : ℕ) (run : List Cell) (has : HasRoom cs limit m)
    (w : Place) (there : Ok w ≡ seek cs levels key m.len m.base) (here : w.at ≡ p) (keyed : key_run run ≡ key) (over : Overlaid cs ds p run)
  where
    opens : Opens cs cs limit m (seek cs levels key m.len m.base) (length run) (Ok m)
    opens =
        let n = length run in
        let few = found_all cs m key (room_map has) there in
        opened_old cs cs limit m _ w n (Ok m) n there (sym (ap (size cs levels) here ∙ over.was))
        (record {
          base = refl;
          len = refl;
          used = omega (arith, few, here, ap (size cs levels) here, over.was, (found_in cs m key (room_map has) (Ok w) there).0);
          most = has.most;
          cells = sym (moved_same cs (w.at + n) (m.base + m.used - w.at - n));
          long = refl;
        })

    pub overwritten_run : Inserts cs ds limit m run (Ok m)
    unfolding entries
    overwritten_run =
        stored_done cs cs limit m key (length run) (Ok m) has opens ds run p m keyed refl (sym here ∙ ap (λ s. (spot s).at) there) refl
        over.frame.below
        (λ j. let x : 1 + j ≡ suc j = omega arith in rw (x, over.is) (ap (λ (l : List Cell). l ∷ entries ds levels j (p + length run)) over.stands))
        over.frame.above
        over.frame.long
