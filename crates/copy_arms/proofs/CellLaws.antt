-- A register's cell overwritten where it stands, by the cell of another value, is the definition's store of that value; and so a register that is
-- carried from one cell to another. From encoding's changes in place. Assumes nothing.
use mathlib.Core.Path.{◌≡◌, refl, sym, ap, subst, ◌∙◌}
use mathlib.Core.Bool.{Bool, true, false}
use Rattle.std.specs.Prelude.{Some}
use mathlib.Core.List.{List, [], ◌∷◌}
use Prim.Native.Nat.{ℕ, ◌+◌, ◌<◌, ◌≤◌}
use native.Mathlib.Omega.{arith}
use native.Mathlib.Decide.{ℕ_discrete}
use lib.IntN.{pos}
use lib.ListN.{length, get_or, set, length-set}
use lib.Seq.{get_or-set_same, get_or-set_other}
use Rattle.type_info.specs.declared.DataType.TheVariants.{Null}
use Rattle.model.specs.Walk.{done}
use Rattle.model.specs.IntMap.{get}
use Rattle.model.specs.State.{RegDataType, Column, MemoryState, null, datatype_code}
use Rattle.model.specs.Cells.{register_cells}
use Rattle.model.specs.Access.{◌>>=◌, index, read_register, store_register}
use Rattle.model.specs.Good.{GoodRegister}
use Rattle.model.proofs.InPlace.{NeverLarger, plain_good, to_int}
use Rattle.model.proofs.Tried.{done-same}
use Rattle.area.specs.Cells.{blank}
use Rattle.area.specs.declared.Cell.{Cell}
use Rattle.intmap.specs.Change.{rekey}
use Rattle.intmap.specs.Entries.{span}
use Rattle.intmap.specs.declared.Place.{Place}
use Rattle.intmap.specs.Map.{levels, IsMap, Frame}
use Rattle.intmap.specs.Pack.{tag_of, with_key, class_key}
use Rattle.intmap.specs.Runs.{size}
use Rattle.intmap.specs.Signed.{offset, int_of}
use Rattle.intmap.specs.declared.IntMap.{IntMap}
use Rattle.intmap.specs.Alike.{Alike}
use Rattle.intmap.proofs.FindLaws.{answered_ok}
use Rattle.intmap.proofs.Overwritten.{alike, alike_then, alike_room, alike_map}
use Rattle.intmap.proofs.PackLaws.{keyed_tag, keyed_key}
use Rattle.intmap.proofs.RunLaws.{size-single}
use Rattle.intmap.proofs.SignedLaws.{index_within}
use Rattle.intmap.proofs.StoreLaws.{found_in}
use Rattle.intmap.proofs.Swapped.{seek_ok}
use Rattle.encoding.specs.Encode.{single, run_column, run_register}
use Rattle.encoding.specs.Holds.{Stands, SmallRegister, HeldNext}
use Rattle.encoding.proofs.Dense.{register_rekey}
use Rattle.encoding.proofs.HeldAfter.{SmallChange}
use Rattle.encoding.proofs.HeldInPlace.{held_register_changed}
use Rattle.encoding.proofs.HeldRead.{Value, told_register_at}
use Rattle.encoding.proofs.Lengths.{register_length}
use Rattle.encoding.proofs.Replaced.{Replaced}
use Rattle.encoding.proofs.Updates.{update_stored}
use Rattle.state.specs.Leads.{Current, HoldsMap}
use Rattle.state.proofs.LeadsLaws.{frame_then}
use Rattle.copy_arms.specs.Copies.{carry_some, carry_one}
use Rattle.copy_arms.specs.InPlace.{Alone, FoundAt, CarriesCell}
use Rattle.copy_arms.proofs.PlaceLaws.{alike_found}

-- a value of one cell takes the place of any other
one_cell : (v : RegDataType) → register_cells v ≡ 1 → GoodRegister v → NeverLarger register_cells GoodRegister (λ u. v)
unfolding register_cells
one_cell v one good u = record { smaller = omega (arith, one, (to_int (pos 0) u).smaller); good = λ p. good }

one_span : (cs : List Cell) (p : ℕ) → span cs p 1 ≡ get_or cs p blank ∷ []
unfolding span
one_span cs p = refl

-- ---- register k of a held state, which is the cell at p

module _ {limit bound : ℕ} {cs : List Cell} {a : IntMap} {m : MemoryState} (h : HoldsMap limit bound cs a m) (is : IsMap cs a) {p k : ℕ} (alone : Alone cs a p k) (found : FoundAt cs a p k) where
  abbrev key : ℕ
  key = class_key 0 k

  judged : index (int_of (offset + k)) ≡ done k
  judged = index_within (offset + k) (omega arith) (omega (arith, alone.small)) ∙ ap done (omega arith)

  pub there : Value (λ v. GoodRegister v × SmallRegister bound v) (run_register (class_key 0 k)) (span cs p (size cs 9 p)) (done (get k m.r))
  there = (told_register_at h k alone.small).present _ (ap done (seek_ok cs 9 key a.len a.base _ found.is))

  abbrev pub value : RegDataType
  value = there.value

  pub value_has : GoodRegister value × SmallRegister bound value
  value_has = there.has

  pub value_read : read_register (int_of (offset + k)) m ≡ done (Some value)
  unfolding read_register
  value_read = ap (λ t. t >>= λ k. done (get k m.r)) judged ∙ there.answer

  one : size cs 9 p ≡ 1
  one = sym (size-single cs 9 p (get_or cs p blank) refl alone.plain)

  pub value_run : run_register (class_key 0 k) value ≡ get_or cs p blank ∷ []
  value_run = sym there.is ∙ ap (span cs p) one ∙ one_span cs p

  -- a value of one cell stored there
  module _ (v : RegDataType) (c : Cell) (other : ℕ) (good : GoodRegister v) (small : SmallRegister bound v) (run : run_register other v ≡ c ∷ []) (ds : List Cell) (e : ds ≡ set cs p (with_key (class_key 0 k) c)) where
    fits : p < length cs
    fits = omega (arith, alone.inside, is.inside)

    length_one : register_cells v ≡ 1
    length_one = sym (register_length v other) ∙ ap length run

    new : run_register key v ≡ with_key (class_key 0 k) c ∷ []
    new = sym (register_rekey v other key) ∙ ap (rekey key) run

    stands : Stands ds p (run_register key v)
    stands =
        ap (span ds p) (ap length new) ∙ one_span ds p
        ∙ ap (λ x. x ∷ []) (ap (λ l. get_or l p blank) e ∙ get_or-set_same cs p (with_key (class_key 0 k) c) blank fits) ∙ sym new

    aside : (j : ℕ) → (j ≡ p → ⊥) → get_or ds j blank ≡ get_or cs j blank
    aside j ne = ap (λ l. get_or l j blank) e ∙ get_or-set_other cs p j (with_key (class_key 0 k) c) blank ne

    replaced : Replaced cs ds p (run_register key v)
    replaced =
        record {
          long = ap length new ∙ sym one;
          stands = stands;
          before = λ j lt. aside j (omega arith);
          after = λ j le. aside j (omega (arith, one));
        }

    never_larger : NeverLarger register_cells GoodRegister (λ u. v)
    never_larger = one_cell v length_one good

    change : SmallChange bound bound (λ u. v)
    change = record { rises = omega arith; most = h.small.bounded; no_larger = never_larger; keeps = λ u s. small }

    pub stored_there : HeldNext limit bound ds a.base a.len a.used (store_register limit (int_of (offset + k)) v m)
    stored_there =
        subst (HeldNext limit bound ds a.base a.len a.used) (update_stored h.good (int_of (offset + k)) (λ u. v) value value_read never_larger)
        (held_register_changed h (int_of (offset + k)) k judged value (done-same there.answer) bound (λ u. v) change ds
        (subst (λ x. Replaced cs ds x (run_register key v)) (ap (λ (x : Place). x.at) (answered_ok cs levels key a.len a.base _ found.is).0) replaced))

-- ---- what is written

module _ {cs : List Cell} {a : IntMap} (is : IsMap cs a) {p k : ℕ} (alone : Alone cs a p k) (found : FoundAt cs a p k) (c : Cell) (plain : tag_of c ≡ 2 → ⊥) (ds : List Cell) (e : ds ≡ set cs p (with_key (class_key 0 k) c)) where
  written_alike : Alike cs ds
  written_alike =
      alike cs ds p (with_key (class_key 0 k) c) e (omega (arith, alone.inside, is.inside)) alone.plain (λ t. plain (sym (keyed_tag (class_key 0 k) c) ∙ t)) (keyed_key (class_key 0 k) c ∙ sym alone.key)

  written_frame : (limit : ℕ) → Current limit cs a → Frame cs ds a.base (limit + limit)
  written_frame limit current =
      let low : a.base ≤ p = (found_in cs a (class_key 0 k) is _ found.is).0 in
      record {
        long = ap length e ∙ length-set cs p (with_key (class_key 0 k) c);
        below = λ j lt. ap (λ l. get_or l j blank) e ∙ get_or-set_other cs p j (with_key (class_key 0 k) c) blank (omega arith);
        above = λ j le. ap (λ l. get_or l j blank) e ∙ get_or-set_other cs p j (with_key (class_key 0 k) c) blank (omega (arith, alone.inside, current.room.most));
      }

  -- what was one cell is still
  written_alone : {q l : ℕ} → Alone cs a q l → Alone ds a q l
  written_alone {q} {l} other =
      record { inside = other.inside; small = other.small; key = written_alike.keys q ∙ other.key; plain = go (ℕ_discrete q p) }
    where
      go : Dec (q ≡ p) → tag_of (get_or ds q blank) ≡ 2 → ⊥
      go (yes y) t =
          plain (
          sym (keyed_tag (class_key 0 k) c)
          ∙ ap tag_of (sym (get_or-set_same cs p (with_key (class_key 0 k) c) blank (omega (arith, alone.inside, is.inside))) ∙ ap (λ l. get_or l p blank) (sym e) ∙ ap (λ x. get_or ds x blank) (sym y))
          ∙ t
          )
      go (no n) t = other.plain (ap tag_of (sym (ap (λ l. get_or l q blank) e ∙ get_or-set_other cs p q (with_key (class_key 0 k) c) blank n)) ∙ t)

-- ---- one register carried

module _ {cs : List Cell} {a : IntMap} (is : IsMap cs a) {p q k l : ℕ} (source : Alone cs a p k) (from : FoundAt cs a p k) (target : Alone cs a q l) (to : FoundAt cs a q l)
    (c x : Cell) (ce : c ≡ get_or cs p blank) (xe : x ≡ with_key (class_key 0 l) c) (ds : List Cell) (e : ds ≡ set cs q x) (moves : Bool)
  where
    plain : tag_of c ≡ 2 → ⊥
    plain t = source.plain (ap tag_of (sym ce) ∙ t)

    same : ds ≡ set cs q (with_key (class_key 0 l) c)
    same = e ∙ ap (set cs q) xe

    first : {limit bound : ℕ} {m : MemoryState} (h : HoldsMap limit bound cs a m) → HeldNext limit bound ds a.base a.len a.used (store_register limit (int_of (offset + l)) (value h is source from) m)
    first h =
        let has = value_has h is source from in
        stored_there h is target to (value h is source from) c (class_key 0 k) has.0 has.1 (value_run h is source from ∙ ap (λ y. y ∷ []) (sym ce)) ds same

    opened : {limit bound : ℕ} {m : MemoryState} (h : HoldsMap limit bound cs a m) → carry_one limit moves (int_of (offset + k)) (int_of (offset + l)) m ≡ carry_some limit moves (int_of (offset + k)) (int_of (offset + l)) (Some (value h is source from)) m
    unfolding carry_one
    opened {limit} {m = m} h = ap (λ t. t >>= λ v. carry_some limit moves (int_of (offset + k)) (int_of (offset + l)) v m) (value_read h is source from)

    pub cell_copied : moves ≡ false → CarriesCell cs ds a moves k l
    cell_copied stays =
        let like = written_alike is target to c plain ds same in
        record {
          leads = λ limit current.
              record {
                says = λ bound m le h.
                    subst (HeldNext limit bound ds a.base a.len a.used)
                    (sym (opened h ∙ ap (λ b. carry_some limit b (int_of (offset + k)) (int_of (offset + l)) (Some (value h is source from)) m) stays))
                    (first h);
                leaves = record { base = refl; room = alike_room like current.room };
                frame = written_frame is target to c plain ds same limit current;
              };
          alike = like;
        }

    -- the source is null then
    module _ (n y : Cell) (ne : n ≡ single (datatype_code Null) 2 0) (ye : y ≡ with_key (class_key 0 k) n) (es : List Cell) (f : es ≡ set ds p y) where
      like : Alike cs ds
      like = written_alike is target to c plain ds same

      is_then : IsMap ds a
      is_then = alike_map like is

      source_then : Alone ds a p k
      source_then = written_alone is target to c plain ds same source

      from_then : FoundAt ds a p k
      from_then = alike_found like from

      plain_null : tag_of n ≡ 2 → ⊥
      plain_null t = omega (arith, ap tag_of (sym ne) ∙ t)

      same_then : es ≡ set ds p (with_key (class_key 0 k) n)
      same_then = f ∙ ap (set ds p) ye

      like_then : Alike ds es
      like_then = written_alike is_then source_then from_then n plain_null es same_then

      second : {limit bound : ℕ} {m : MemoryState} (h : HoldsMap limit bound ds a m) → HeldNext limit bound es a.base a.len a.used (store_register limit (int_of (offset + k)) (Column null) m)
      unfolding run_register run_column
      second h = stored_there h is_then source_then from_then (Column null) n 0 (plain_good Null (Some true)) tt (ap (λ z. z ∷ []) (sym ne)) es same_then

      pub cell_moved : moves ≡ true → CarriesCell cs es a moves k l
      cell_moved goes =
          record {
            leads = λ limit current.
                (let room = alike_room like current.room in
                let next = first current.holds in
                let current_then : Current limit ds a = record { room = room; scratch = omega (arith, current.scratch, like.long); bound = current.bound; large = current.large; fits = current.fits; state = next.state; holds = next.holds } in
                record {
                  says = λ bound m le h.
                      (let w = first h in
                      let v = second w.holds in
                      record {
                        state = v.state;
                        answer =
                            opened h ∙ ap (λ b. carry_some limit b (int_of (offset + k)) (int_of (offset + l)) (Some (value h is source from)) m) goes
                            ∙ ap (λ t. t >>= store_register limit (int_of (offset + k)) (Column null)) w.answer ∙ v.answer;
                        holds = v.holds;
                      });
                  leaves = record { base = refl; room = alike_room like_then room };
                  frame =
                      frame_then cs ds es a.base (limit + limit) (written_frame is target to c plain ds same limit current)
                      (written_frame is_then source_then from_then n plain_null es same_then limit current_then);
                });
            alike = alike_then like like_then;
          }
