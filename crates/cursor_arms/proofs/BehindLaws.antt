-- A run copied to the room behind the map, and its head changed there. Assumes nothing.
use mathlib.Core.Path.{◌≡◌, sym, ap, ap₂, ◌∙◌}
use mathlib.Core.List.{List, ◌∷◌}
use Prim.Native.Nat.{ℕ, ◌+◌, ◌-◌, ◌<◌, ◌≤◌}
use native.Mathlib.Omega.{arith}
use lib.ListN.{length, get_or, set}
use Rattle.area.specs.Cells.{blank}
use Rattle.area.specs.declared.Cell.{Cell}
use Rattle.intmap.specs.Change.{on_head}
use Rattle.intmap.specs.Entries.{span}
use Rattle.intmap.specs.Map.{levels, Frame}
use Rattle.intmap.specs.Pack.{with_nullable}
use Rattle.intmap.specs.Runs.{size, Agree, Copied}
use Rattle.intmap.specs.declared.IntMap.{IntMap}
use Rattle.intmap.proofs.EntryLaws.{span_same, opened}
use Rattle.intmap.proofs.MapLaws.{copied_frame, copied_agree, placed_room}
use Rattle.intmap.proofs.RunLaws.{size-pos}
use Rattle.intmap.proofs.SameCells.{size_same}
use Rattle.state.specs.Leads.{Current}
use Rattle.cursor_arms.specs.Behind.{RunBehind}
use Rattle.cursor_arms.proofs.TableLaws.{size_kept, here, other, long}
use Rattle.std.specs.Prelude.{Option}
use mathlib.Core.Bool.{Bool}
use Rattle.encoding.specs.Encode.{nullable_code}

module _ {limit : ℕ} {cs es : List Cell} {a : IntMap} {at n : ℕ} (current : Current limit cs a) (above : a.base ≤ at) (below : at + size cs levels at ≤ a.base + a.used) (new : Copied cs es at (a.base + limit) (size cs levels at) n) where
  moved_frame : Frame cs es (a.base + limit) (size cs levels at)
  moved_frame = copied_frame cs es at (a.base + limit) (size cs levels at) n new

  moved_agree : Agree cs at es (a.base + limit) (size cs levels at)
  moved_agree = copied_agree cs es at (a.base + limit) (size cs levels at) n new (omega (arith, current.scratch, current.room.most))

  behind_within : a.base + limit < length es
  behind_within = omega (arith, new.long, current.scratch, current.room.most, size-pos cs levels at)

  pub behind_inside : (a.base + limit < length es) × (length es ≤ 1048576)
  behind_inside = (behind_within, omega (arith, new.long, current.room.small))

  module _ (nullable : Option Bool) (ds : List Cell) (b c : Cell) (be : b ≡ get_or es (a.base + limit) blank) (ce : c ≡ with_nullable (nullable_code nullable) b) (written : ds ≡ set es (a.base + limit) c) where
    abbrev k : ℕ
    k = nullable_code nullable

    is : ds ≡ set es (a.base + limit) (with_nullable k (get_or es (a.base + limit) blank))
    is = written ∙ ap (set es (a.base + limit)) (ce ∙ ap (with_nullable k) be)

    behind_other : (j : ℕ) → (j ≡ a.base + limit → ⊥) → get_or ds j blank ≡ get_or es j blank
    behind_other = other es ds (a.base + limit) k behind_within is

    behind_long : length ds ≡ length cs
    behind_long = long es ds (a.base + limit) k behind_within is ∙ new.long

    kept : Agree cs a.base ds a.base a.used
    kept j lt = behind_other (a.base + j) (omega (arith, current.room.most)) ∙ moved_frame.below (a.base + j) (omega (arith, current.room.most))

    run : span ds (a.base + limit) n ≡ on_head (with_nullable k) (span cs at (size cs levels at))
    run =
        let p = a.base + limit in
        let some : 0 < n = omega (arith, new.count, size-pos cs levels at) in
        sym (opened ds p n some)
        ∙ ap₂ (λ (h : Cell) (r : List Cell). h ∷ r) (here es ds p k behind_within is)
        (span_same es ds (n - 1) (p + 1) (p + 1) (λ j lt. behind_other (p + 1 + j) (omega arith)))
        ∙ ap (on_head (with_nullable k)) (opened es p n some ∙ ap (span es p) new.count ∙ span_same cs es (size cs levels at) at p moved_agree)

    pub run_behind : RunBehind limit cs ds a at nullable n
    run_behind =
        record {
          run = run;
          count = new.count ∙ sym (size_kept es ds (a.base + limit) k behind_within is levels (a.base + limit) ∙ size_same cs es levels at (a.base + limit) moved_agree);
          fits = omega (arith, behind_long, current.scratch, current.room.most, new.count);
          kept = kept;
          room =
              placed_room cs ds a a.base (record { used = current.room.used; inside = omega (arith, current.room.room, current.room.most); small = current.room.small }) kept behind_long limit
              current.room.most (omega (arith, behind_long, current.room.room));
          frame =
              record {
                long = behind_long;
                below = λ j lt. behind_other j (omega arith) ∙ moved_frame.below j lt;
                above = λ j le. behind_other j (omega (arith, size-pos cs levels at, current.room.most)) ∙ moved_frame.above j (omega (arith, current.room.most));
              };
        }
