-- Changes in place, told by the cells alone: by what the search for a key finds among held cells, and by the head that stands where it leads.
-- Where nothing is found, or what the change does not concern, the state stays. From `HeldRead`, `Reading`, `Updates` and `HeldInPlace`.
-- Assumes nothing.
use mathlib.Core.Path.{◌≡◌, sym, ap, subst, ◌∙◌}
use mathlib.Core.Bool.{Bool, true, false}
use Rattle.std.specs.Prelude.{Option, None, Some}
use mathlib.Core.List.{List, ◌∷◌}
use Prim.Native.Nat.{ℕ, zero, suc, ◌+◌, ◌-◌, ◌<◌, ◌≤◌}
use native.Mathlib.Omega.{arith}
use lib.ListN.{length, get_or, set}
use lib.IntN.{ℤ}
use Rattle.model.specs.Walk.{done}
use Rattle.model.specs.IntMap.{get}
use Rattle.model.specs.State.{RegDataType, TableDataType, MemoryState, to_not_null}
use Rattle.model.specs.Access.{◌>>=◌, index, read_register, update_register, update_table}
use Rattle.model.specs.Cursor.{set_empty, null_table, null_record}
use Rattle.model.specs.Good.{GoodRegister, GoodTable, OnSome}
use Rattle.model.proofs.Tried.{kept, done-same}
use Rattle.model.proofs.Access.{index_small}
use Rattle.area.specs.Cells.{blank}
use Rattle.area.specs.declared.Cell.{Cell}
use Rattle.intmap.specs.Pack.{class_key, with_nullable, tag_of}
use Rattle.intmap.specs.Runs.{size}
use Rattle.intmap.specs.Entries.{span}
use Rattle.intmap.specs.Find.{seek_place, seek_found}
use Rattle.intmap.proofs.RunLaws.{size-pos}
use Rattle.intmap.proofs.Swapped.{seek_some, seek_none}
use Rattle.encoding.specs.Encode.{nullable_code, run_register, run_table}
use Rattle.encoding.specs.Decode.{nullable_in}
use Rattle.encoding.specs.Heads.{single_nullable, on_heads, null_heads}
use Rattle.encoding.specs.Holds.{SmallRegister, Holds, HeldNext}
use Rattle.encoding.proofs.Reading.{register_record, register_plain, table_columns_lem, table_is_empty_lem}
use Rattle.encoding.proofs.Updates.{update_kept, table_kept}
use Rattle.encoding.proofs.HeldRead.{Value, told_register_at, told_table}
use Rattle.encoding.proofs.HeldInPlace.{held_not_null, held_record_null, held_empty, held_table_null}

-- a run is its head and what follows
head-rest : (cs : List Cell) (p n : ℕ) → 0 < n → span cs p n ≡ get_or cs p blank ∷ span cs (p + 1) (n - 1)
unfolding span
head-rest cs p zero lt = absurd (omega arith)
head-rest cs p (suc n) lt = let e : suc n - 1 ≡ n = omega arith in rw e

module _ {limit bound : ℕ} {cs : List Cell} {base len used : ℕ} {m : MemoryState} (holds : Holds limit bound cs base len used m) where
  abbrev rest : ℕ → List Cell
  rest p = span cs (p + 1) (size cs 9 p - 1)

  -- ---- a register
  module _ (i : ℤ) (k : ℕ) (at : index i ≡ done k) where
    abbrev key : ℕ
    key = class_key 0 k

    abbrev place : ℕ
    place = (seek_place cs 9 key len base).at

    read : read_register i m ≡ done (get k m.r)
    unfolding read_register
    read = ap (λ t. t >>= λ k. done (get k m.r)) at

    pub search_no_register : seek_found cs 9 (class_key 0 k) len base ≡ false → get k m.r ≡ None
    search_no_register h = done-same ((told_register_at holds k (kept (index_small i) at)).absent (ap done (seek_none cs 9 key len base h)))

    -- none is changed
    pub search_kept : (f : RegDataType → RegDataType) → seek_found cs 9 (class_key 0 k) len base ≡ false → update_register i f m ≡ done m
    search_kept f h = update_kept holds.good i f None (read ∙ ap done (search_no_register h)) tt

    module _ (h : seek_found cs 9 (class_key 0 k) len base ≡ true) where
      found : Value (λ v. GoodRegister v × SmallRegister bound v) (run_register key) (span cs place (size cs 9 place)) (done (get k m.r))
      found = (told_register_at holds k (kept (index_small i) at)).present _ (ap done (seek_some cs 9 key len base h))

      headed : get_or cs place blank ∷ rest place ≡ run_register key found.value
      headed = sym (head-rest cs place (size cs 9 place) (size-pos cs 9 place)) ∙ found.is

      -- made not null
      pub search_not_null : (ds : List Cell) → base + used ≤ length cs → ds ≡ set cs (seek_place cs 9 (class_key 0 k) len base).at (single_nullable 1 (get_or cs (seek_place cs 9 (class_key 0 k) len base).at blank)) → HeldNext limit bound ds base len used (update_register i to_not_null m)
      search_not_null ds room e = held_not_null holds i k at found.value (done-same found.answer) ds room e

      -- NullRow
      pub search_null : (ds : List Cell) → tag_of (get_or cs (seek_place cs 9 (class_key 0 k) len base).at blank) ≡ 2 → base + used ≤ length cs → ds ≡ null_heads cs (seek_place cs 9 (class_key 0 k) len base).at → HeldNext limit bound ds base len used (update_register i null_record m)
      search_null ds tag room e =
          let r = register_record (get_or cs place blank) (rest place) key found.value headed tag in
          held_record_null holds i k at r.0 (done-same found.answer ∙ ap Some r.1) ds room (e ∙ ap (λ n. on_heads (single_nullable 2) 8 cs n (place + 1)) r.2.number)

      pub search_plain : (tag_of (get_or cs (seek_place cs 9 (class_key 0 k) len base).at blank) ≡ 2 → ⊥) → update_register i null_record m ≡ done m
      search_plain tag =
          update_kept holds.good i null_record (Some found.value) (read ∙ found.answer) (register_plain (get_or cs place blank) (rest place) key found.value headed tag)

  -- ---- a table
  module _ (row : ℕ) where
    abbrev own : ℕ
    own = class_key 2 row

    abbrev spot : ℕ
    spot = (seek_place cs 9 own len base).at

    pub search_no_table : seek_found cs 9 (class_key 2 row) len base ≡ false → get row m.t ≡ None
    search_no_table h = done-same ((told_table holds row).absent (ap done (seek_none cs 9 own len base h)))

    pub search_table_kept : (f : TableDataType → TableDataType) → seek_found cs 9 (class_key 2 row) len base ≡ false → update_table row f m ≡ m
    search_table_kept f h = table_kept holds.good row f (subst (OnSome (λ t. f t ≡ t)) (sym (search_no_table h)) tt)

    module _ (h : seek_found cs 9 (class_key 2 row) len base ≡ true) where
      table_there : Value (λ t. (row ≤ 65535) × GoodTable t) (run_table own) (span cs spot (size cs 9 spot)) (done (get row m.t))
      table_there = (told_table holds row).present _ (ap done (seek_some cs 9 own len base h))

      table_headed : get_or cs spot blank ∷ rest spot ≡ run_table own table_there.value
      table_headed = sym (head-rest cs spot (size cs 9 spot) (size-pos cs 9 spot)) ∙ table_there.is

      -- its emptiness set, to what depends on what it was
      pub search_empty : (e : Option Bool → Option Bool) (ds : List Cell) → base + used ≤ length cs → ds ≡ set cs (seek_place cs 9 (class_key 2 row) len base).at (with_nullable (nullable_code (e (nullable_in (get_or cs (seek_place cs 9 (class_key 2 row) len base).at blank)))) (get_or cs (seek_place cs 9 (class_key 2 row) len base).at blank)) → Holds limit bound ds base len used (update_table row (λ t. set_empty (e t.is_empty) t) m)
      search_empty e ds room is =
          held_empty holds row table_there.value (done-same table_there.answer) (λ t. e t.is_empty) ds room
          (is ∙ ap (λ n. set cs spot (with_nullable (nullable_code (e n)) (get_or cs spot blank))) (sym (table_is_empty_lem (get_or cs spot blank) (rest spot) own table_there.value table_headed)))

      -- NullRow
      pub search_table_null : (ds : List Cell) → base + used ≤ length cs → ds ≡ null_heads cs (seek_place cs 9 (class_key 2 row) len base).at → Holds limit bound ds base len used (update_table row null_table m)
      search_table_null ds room e =
          held_table_null holds row table_there.value (done-same table_there.answer) ds room
          (e ∙ ap (λ n. on_heads (single_nullable 2) 8 cs n (spot + 1)) (table_columns_lem (get_or cs spot blank) (rest spot) own table_there.value table_headed).number)
