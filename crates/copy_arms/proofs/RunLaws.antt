-- An entry of the map stored in a register, with another head: from behind the map; a cell alone; and a record of plain columns put over another
-- where that stands. Assumes nothing.
use Rattle.std.specs.Prelude.{Ok}
use mathlib.Core.Path.{◌≡◌, refl, sym, ap, ap₂, subst, ◌∙◌}
use mathlib.Core.Bool.{Bool, true, false}
use mathlib.Core.List.{List, [], ◌∷◌, flatten}
use Prim.Native.Nat.{ℕ, zero, suc, ◌+◌, ◌-◌, ◌<◌, ◌≤◌}
use native.Mathlib.Omega.{arith}
use lib.Dec.{eqb}
use lib.ListN.{length, get_or, set, length-set}
use lib.Seq.{get_or-set_same, get_or-set_other}
use borrow.Author.Tests.{eqb-true, eqb-false}
use Rattle.model.specs.State.{Single, Record, Columns, end, entry, RegDataType, Column, Int, MemoryState, map_to_columntype, datatype_code}
use Rattle.model.specs.Cells.{column_depth, columns_depth, register_depth}
use Rattle.model.specs.Access.{store_register}
use Rattle.model.specs.Good.{SortedColumn}
use Rattle.area.specs.Cells.{blank, cell}
use Rattle.area.specs.Moves.{moved}
use Rattle.area.specs.declared.Cell.{Cell}
use Rattle.intmap.specs.Depth.{nesting}
use Rattle.intmap.specs.Entries.{span}
use Rattle.intmap.specs.Map.{levels, runs_at, HasRoom, Frame}
use Rattle.intmap.specs.Over.{Plain}
use Rattle.intmap.specs.Pack.{head, tag_of}
use Rattle.intmap.specs.Runs.{size, sizes, Agree}
use Rattle.intmap.specs.Signed.{int_of}
use Rattle.intmap.specs.Store.{store_runs, Stores, RunAbove, Stored}
use Rattle.intmap.specs.declared.IntMap.{IntMap}
use Rattle.intmap.proofs.EntryLaws.{length-span, span_same, opened}
use Rattle.intmap.proofs.MapLaws.{copied_frame, copied_agree, placed_room}
use Rattle.intmap.proofs.RunLaws.{size-pos, size-single, size_record}
use Rattle.intmap.proofs.SameCells.{copied, agree_part, sizes_same, size_same}
use Rattle.encoding.specs.Encode.{nullable_code, count, single, run_column, run_columns, run_register}
use Rattle.encoding.specs.Holds.{SmallRegister, Stands}
use Rattle.encoding.proofs.Held.{held_elsewhere}
use Rattle.encoding.proofs.HeldAfter.{Carried, held_register}
use Rattle.encoding.proofs.HeldFrom.{held_register_from}
use Rattle.state.specs.Leads.{Current, HoldsMap, Tells, Leaves}
use Rattle.state.specs.Own.{StoresCell}
use Rattle.state.specs.Over.{headed, OverRegister}
use Rattle.state.proofs.LeadsLaws.{frame-within, frame_then, tells_stored, leaves_stored}
use Rattle.state.proofs.StoreLeads.{wider}
use Rattle.copy_arms.specs.Copies.{StoresFrom}

-- ---- a cell written behind the map

-- fs is es with c there, and es has the map as it was in cs
pub record Written (limit : ℕ) (cs es fs : List Cell) (a : IntMap) (c : Cell) : Type 0 where
  pub here : get_or fs (a.base + limit) blank ≡ c
  pub other : (i : ℕ) → (i ≡ a.base + limit → ⊥) → get_or fs i blank ≡ get_or es i blank
  pub kept : Agree cs a.base fs a.base a.used
  pub frame : Frame cs fs (a.base + limit) limit
  pub room : HasRoom fs limit a

pub written : (limit : ℕ) (cs es fs : List Cell) (a : IntMap) (c : Cell) → Current limit cs a → 0 < limit → Agree cs a.base es a.base a.used → Frame cs es (a.base + limit) limit → fs ≡ set es (a.base + limit) c → Written limit cs es fs a c
written limit cs es fs a c current some-room same framed is =
    record {
      here = ap (λ l. get_or l (a.base + limit) blank) is ∙ get_or-set_same es (a.base + limit) c blank (omega (arith, current.scratch, framed.long));
      other = other;
      kept = kept;
      frame = record { long = long; below = λ i lt. other i (omega arith) ∙ framed.below i lt; above = λ i le. other i (omega arith) ∙ framed.above i le };
      room =
          placed_room cs fs a a.base (record { used = current.room.used; inside = omega (arith, current.room.room, current.room.most); small = current.room.small }) kept long limit
          current.room.most (omega (arith, long, current.room.room));
    }
  where
    other : (i : ℕ) → (i ≡ a.base + limit → ⊥) → get_or fs i blank ≡ get_or es i blank
    other i ne = ap (λ l. get_or l i blank) is ∙ get_or-set_other es (a.base + limit) i c blank ne

    long : length fs ≡ length cs
    long = ap length is ∙ length-set es (a.base + limit) c ∙ framed.long

    kept : Agree cs a.base fs a.base a.used
    kept i lt = other (a.base + i) (omega (arith, current.room.most)) ∙ same i lt

-- ---- a run behind the map stored

pub above_room : (limit : ℕ) (fs : List Cell) (a : IntMap) → a.base + limit + size fs levels (a.base + limit) ≤ length fs → RunAbove fs limit a (a.base + limit) (size fs levels (a.base + limit))
above_room limit fs a fits = record { whole = refl; above = omega arith; fits = fits }

module _ {limit : ℕ} {cs es fs : List Cell} {a : IntMap} {c : Cell} (put : Written limit cs es fs a c) (ds : List Cell) (j : ℕ) (r : Stored)
    (st : Stores fs ds limit a 0 j (nesting fs levels (a.base + limit)) (span fs (a.base + limit) (size fs levels (a.base + limit))) r)
  where
    pub stored_leaves : Leaves limit ds a r
    stored_leaves = leaves_stored fs ds limit a j _ _ r st

    pub stored_frame : Frame cs ds a.base (limit + limit)
    stored_frame =
        frame_then cs fs ds a.base (limit + limit) (frame-within cs fs (a.base + limit) limit a.base (limit + limit) (omega arith) (omega arith) put.frame)
        (frame-within fs ds a.base limit a.base (limit + limit) (omega arith) (omega arith) st.frame)

    pub stored_tells : (bound : ℕ) (m : MemoryState) → HoldsMap limit bound cs a m → (key : ℕ) (v : RegDataType) → register_depth v ≤ 9 → SortedColumn (map_to_columntype v) → SmallRegister bound v → Stands fs (a.base + limit) (run_register key v) → Tells limit bound ds r (store_register limit (int_of j) v m)
    stored_tells bound m h key v deep sorted small stands =
        let there = held_elsewhere limit bound cs a.base a.len a.used m h fs a.base put.kept in
        tells_stored limit bound ds a r (store_register limit (int_of j) v m)
        (subst (λ u. Carried limit bound u (store_register limit (int_of j) v m)) (sym st.answer)
        (held_register_from there (a.base + limit) key (int_of j) v stands deep (λ _. sorted) small)) stored_leaves

-- ---- the run of an entry, with another head

module _ (limit : ℕ) (cs es : List Cell) (a : IntMap) (at n : ℕ) (current : Current limit cs a) (above : a.base ≤ at) (below : at + size cs levels at ≤ a.base + a.used) (counted : n ≡ size cs levels at) (moves : es ≡ moved cs at (a.base + limit) n) where
  some_run : 0 < n
  some_run = omega (arith, counted, size-pos cs levels at)

  agree : Agree cs at es (a.base + limit) n
  agree = copied_agree cs es at (a.base + limit) n n (copied refl moves) (omega (arith, current.scratch, current.room.most))

  frame : Frame cs es (a.base + limit) n
  frame = copied_frame cs es at (a.base + limit) n n (copied refl moves)

  pub head_within : (a.base + limit < length es) × (length es ≤ 1048576)
  head_within = (omega (arith, some_run, frame.long, current.scratch, current.room.most), omega (arith, frame.long, current.room.small))

  module _ (fs : List Cell) (c : Cell) (tag : tag_of c ≡ tag_of (get_or cs at blank)) (load : c.payload ≡ (get_or cs at blank).payload) (is : fs ≡ set es (a.base + limit) c) where
    put : Written limit cs es fs a c
    put =
        written limit cs es fs a c current (omega (arith, some_run, current.room.most)) (λ j lt. frame.below (a.base + j) (omega (arith, current.room.most)))
        (frame-within cs es (a.base + limit) n (a.base + limit) limit (omega arith) (omega (arith, current.room.most)) frame) is

    -- the cells behind the head are those of the entry
    columns : Agree cs (at + 1) fs (a.base + limit + 1) (n - 1)
    columns j lt = put.other (a.base + limit + 1 + j) (omega arith) ∙ agree_part cs es at (a.base + limit) n 1 (n - 1) (omega (arith, some_run)) agree j lt

    headed_there : span fs (a.base + limit) n ≡ headed cs at c
    headed_there =
        sym (opened fs (a.base + limit) n some_run)
        ∙ ap₂ (λ (y : Cell) (l : List Cell). y ∷ l) put.here (span_same cs fs (n - 1) (at + 1) (a.base + limit + 1) columns)
        ∙ ap (λ k. c ∷ span cs (at + 1) (k - 1)) counted

    pub run_room : HasRoom fs limit a
    run_room = put.room

    above_record : tag_of c ≡ 2 → RunAbove fs limit a (a.base + limit) (size fs levels (a.base + limit))
    above_record many =
        let whole : 1 + sizes (size cs 8) c.payload (at + 1) ≡ size cs levels at = ap (λ k. 1 + sizes (size cs 8) k (at + 1)) load ∙ size_record cs 9 at (get_or cs at blank) refl (omega arith) (sym tag ∙ many) in
        let few : sizes (size cs 8) c.payload (at + 1) ≡ n - 1 = omega (arith, whole, counted) in
        let same = sizes_same (size cs 8) (size fs 8) cs fs (size_same cs fs 8) c.payload (at + 1) (a.base + limit + 1) (rw few columns) in
        above_room limit fs a (omega (arith, size_record fs 9 (a.base + limit) c (sym put.here) (omega arith) many, same, few, put.frame.long, current.scratch, current.room.most))

    pub run_above : RunAbove fs limit a (a.base + limit) (size fs levels (a.base + limit))
    run_above = go (eqb (tag_of c) 2) refl
      where
        go : (b : Bool) → eqb (tag_of c) 2 ≡ b → RunAbove fs limit a (a.base + limit) (size fs levels (a.base + limit))
        go true t = above_record (eqb-true (tag_of c) 2 t)
        go false t =
            above_room limit fs a
            (omega (arith, size-single fs levels (a.base + limit) c (sym put.here) (eqb-false (tag_of c) 2 t), some_run, put.frame.long, current.scratch, current.room.most))

    pub stores_run : (ds : List Cell) (j : ℕ) (r : Stored) → Stores fs ds limit a 0 j (nesting fs levels (a.base + limit)) (span fs (a.base + limit) (size fs levels (a.base + limit))) r → StoresFrom limit cs ds a at c j r
    stores_run ds j r st =
        record {
          says = λ bound m h key v deep sorted small is.
              (let run : span fs (a.base + limit) n ≡ run_register key v = headed_there ∙ is in
              let all : length (run_register key v) ≡ n = ap length (sym run) ∙ length-span fs (a.base + limit) n in
              stored_tells put ds j r st bound m h key v deep sorted small (ap (span fs (a.base + limit)) all ∙ run));
          leaves = stored_leaves put ds j r st;
          frame = stored_frame put ds j r st;
        }

-- ---- a cell alone

module _ (limit : ℕ) (cs : List Cell) (a : IntMap) (at : ℕ) (c : Cell) (tag : tag_of c ≡ tag_of (get_or cs at blank)) (other : tag_of c ≡ 2 → ⊥) where
  alone : headed cs at c ≡ c ∷ []
  unfolding span
  alone =
      let none : size cs levels at - 1 ≡ 0 = omega (arith, size-single cs levels at (get_or cs at blank) refl (λ e. other (tag ∙ e))) in
      ap (λ n. c ∷ span cs (at + 1) n) none

  -- it is no record
  no_record : (key : ℕ) (v : RegDataType) → c ∷ [] ≡ run_register key v → 0 ≡ register_depth v
  unfolding run_register register_depth run_column column_depth
  no_record key (Int i) e = refl
  no_record key (Column (Single d n)) e = refl
  no_record key (Column (Record x)) e = absurd (other (let f : c ≡ cell (head 2 0 0 key) (count x) = cc in omega (arith, ap (λ (y : Cell). y.head) f)))

  pub stores-alone : (ds : List Cell) (j : ℕ) (r : Stored) → StoresCell limit cs ds a 0 j c r → StoresFrom limit cs ds a at c j r
  stores-alone ds j r st =
      record {
        says = λ bound m h key v deep sorted small is.
            (let run = sym alone ∙ is in
            let stores = st.says bound m h in
            tells_stored limit bound ds a r (store_register limit (int_of j) v m)
            (subst (λ u. Carried limit bound u (store_register limit (int_of j) v m))
            (sym (stores.answer ∙ ap₂ (λ d l. store_runs limit 0 (int_of j) d l (runs_at cs a)) (no_record key v run) run))
            (held_register h (int_of j) key v (λ _. sorted) small)) st.leaves);
        leaves = st.leaves;
        frame = frame-within cs ds a.base limit a.base (limit + limit) (omega arith) (omega arith) st.frame;
      }

-- ---- a record of plain columns put over another where that stands

-- no cell of the run is a record's
abbrev AllPlain : List Cell → Type 0
AllPlain [] = Unit {0}
AllPlain (c ∷ cs) = (tag_of c ≡ 2 → ⊥) × AllPlain cs

plain-span : (cs : List Cell) (n p : ℕ) → Plain cs p n → AllPlain (span cs p n)
unfolding span
plain-span cs zero p f = tt
plain-span cs (suc n) p f = (
  λ e. f.none 0 (omega arith) (let here : p + 0 ≡ p = omega arith in ap (λ q. tag_of (get_or cs q blank)) here ∙ e),
  plain-span cs n (p + 1) (record { none = λ j lt e. f.none (suc j) (omega arith) (let there : p + suc j ≡ p + 1 + j = omega arith in ap (λ q. tag_of (get_or cs q blank)) there ∙ e) }),
)

-- so no column of them is a record
plain-columns : (x : Columns) → AllPlain (run_columns x) → columns_depth x ≡ 0
unfolding run_column flatten column_depth
plain-columns end f = refl
plain-columns (entry k (Single d n) cs) f = omega (arith, plain-columns cs f.1)
plain-columns (entry k (Record y) cs) f = absurd (f.0 (omega arith))

plain_depth : (cs : List Cell) (p n : ℕ) (c : Cell) → (tag_of c ≡ 2) × Plain cs p n → (key : ℕ) (v : RegDataType) → c ∷ span cs p n ≡ run_register key v → register_depth v ≤ 8
unfolding run_register register_depth run_column column_depth
plain_depth cs p n c flat key (Int i) e = omega arith
plain_depth cs p n c flat key (Column (Single d k)) e =
    absurd (let f : c ≡ single (datatype_code d) (nullable_code k) key = cc in omega (arith, ap (λ (y : Cell). y.head) f, flat.0))
plain_depth cs p n c flat key (Column (Record x)) e =
    let f : span cs p n ≡ run_columns x = cc in
    omega (arith, plain-columns x (subst AllPlain f (plain-span cs n p flat.1)))

pub stores-over : (limit : ℕ) (cs ds : List Cell) (a : IntMap) (at : ℕ) (c : Cell) (j : ℕ) (r : Bool) → HasRoom cs limit a → OverRegister cs ds a at c j r → r ≡ true → StoresFrom limit cs ds a at c j (Ok a)
stores-over limit cs ds a at c j r room over e =
    record {
      says = λ bound m h key v deep sorted small is.
          (let low = plain_depth cs (at + 1) (size cs levels at - 1) c (over.flat e) key v is in
          let st = over.yes e limit (register_depth v) room low in
          (held_register h (int_of j) key v (λ _. sorted) small).next ds a.base a.len a.used (runs_at ds a)
          (ap (λ l. store_runs limit 0 (int_of j) (register_depth v) l (runs_at cs a)) (sym is) ∙ sym st.answer) refl st.leaves.room.used);
      leaves = leaves_stored cs ds limit a j 0 (headed cs at c) (Ok a) (over.yes e limit 0 room (omega arith));
      frame = wider cs ds a.base limit (over.yes e limit 0 room (omega arith)).frame;
    }
