-- A table's emptiness changed where it stands: every run takes the same cells, and the map holds the definition's state. Assumes nothing.
use mathlib.Core.Path.{◌≡◌, refl, sym, ap, ap₂, subst, ◌∙◌}
use mathlib.Core.Bool.{Bool, true, false}
use Rattle.std.specs.Prelude.{Option, None, Some}
use mathlib.Core.List.{List}
use Prim.Native.Nat.{ℕ, zero, suc, ◌+◌, ◌<◌, ◌≤◌}
use native.Mathlib.Omega.{arith}
use lib.Dec.{eqb}
use borrow.Author.Tests.{eqb-true, eqb-false}
use lib.ListN.{length, get_or, set, length-set}
use lib.Seq.{get_or-set_same, get_or-set_other}
use Rattle.model.specs.Walk.{done}
use Rattle.model.specs.State.{TableDataType}
use Rattle.model.specs.Cursor.{set_empty, update_cursor_table}
use Rattle.model.proofs.Tried.{done-same}
use Rattle.area.specs.Cells.{blank}
use Rattle.area.specs.declared.Cell.{Cell}
use Rattle.intmap.specs.Pack.{tag_of, class_key, with_nullable}
use Rattle.intmap.specs.Runs.{size, sizes, whole}
use Rattle.intmap.specs.Find.{seek_found}
use Rattle.intmap.specs.Map.{levels, IsMap, HasRoom, Frame}
use Rattle.intmap.specs.declared.IntMap.{IntMap}
use Rattle.intmap.proofs.RunLaws.{size-pos}
use Rattle.encoding.specs.Encode.{nullable_code}
use Rattle.encoding.specs.Decode.{nullable_in}
use Rattle.encoding.proofs.BySearch.{search_table_kept, search_empty}
use Rattle.state.specs.Leads.{HoldsMap}
use Rattle.state.proofs.OwnLaws.{case}
use Rattle.state.proofs.LeadsLaws.{unchanged}
use Rattle.cursor_arms.proofs.StandsLaws.{Led, led_at, led_nowhere, led_inside}
use Rattle.cursor_arms.specs.Cursors.{TellsCursor, TableChanged}
use Rattle.cursor_arms.specs.StandsFor.{table_slot, FindsTable, CursorTableChanged}
use Rattle.cursor_arms.specs.declared.CursorDataType.{CursorDataType}
use Rattle.cursor_arms.specs.declared.CursorDataType.TheVariants as cursor

-- ---- sizes, where tags and payloads are the same

pub sizes_alike : (f g : ℕ → ℕ) → ((p : ℕ) → g p ≡ f p) → (n p : ℕ) → sizes g n p ≡ sizes f n p
unfolding sizes
sizes_alike f g e zero p = refl
sizes_alike f g e (suc n) p = ap₂ (λ x y. x + y) (e p) (sizes_alike f g e n (p + g p) ∙ ap (λ q. sizes f n (p + q)) (e p))

whole_alike : (f g : ℕ → ℕ) → ((p : ℕ) → g p ≡ f p) → (b : Bool) (n p : ℕ) → whole g b n p ≡ whole f b n p
unfolding whole
whole_alike f g e true n p = ap (λ x. 1 + x) (sizes_alike f g e n (p + 1))
whole_alike f g e false n p = refl

module _ (cs ds : List Cell) (tags : (p : ℕ) → tag_of (get_or ds p blank) ≡ tag_of (get_or cs p blank)) (loads : (p : ℕ) → (get_or ds p blank).payload ≡ (get_or cs p blank).payload) where
  pub size_alike : (d p : ℕ) → size ds d p ≡ size cs d p
  unfolding size
  size_alike zero p = refl
  size_alike (suc d) p =
      ap₂ (λ t n. whole (size ds d) (eqb t 2) n p) (tags p) (loads p)
      ∙ whole_alike (size cs d) (size ds d) (size_alike d) (eqb (tag_of (get_or cs p blank)) 2) (get_or cs p blank).payload p

-- ---- a cell with another nullable

module _ (cs ds : List Cell) (p n : ℕ) (fits : p < length cs) (is : ds ≡ set cs p (with_nullable n (get_or cs p blank))) where
  pub here : get_or ds p blank ≡ with_nullable n (get_or cs p blank)
  here = ap (λ l. get_or l p blank) is ∙ get_or-set_same cs p (with_nullable n (get_or cs p blank)) blank fits

  pub other : (j : ℕ) → (j ≡ p → ⊥) → get_or ds j blank ≡ get_or cs j blank
  other j ne = ap (λ l. get_or l j blank) is ∙ get_or-set_other cs p j (with_nullable n (get_or cs p blank)) blank ne

  pub long : length ds ≡ length cs
  long = ap length is ∙ length-set cs p (with_nullable n (get_or cs p blank))

  tag_kept : tag_of (get_or ds p blank) ≡ tag_of (get_or cs p blank)
  tag_kept = omega (arith, ap (λ (c : Cell). c.head) here)

  load_kept : (get_or ds p blank).payload ≡ (get_or cs p blank).payload
  load_kept = ap (λ (c : Cell). c.payload) here

  -- what both cells say alike is said alike everywhere
  everywhere : (f : Cell → ℕ) → f (get_or ds p blank) ≡ f (get_or cs p blank) → (j : ℕ) → f (get_or ds j blank) ≡ f (get_or cs j blank)
  everywhere f e j = go (eqb j p) refl
    where
      go : (b : Bool) → eqb j p ≡ b → f (get_or ds j blank) ≡ f (get_or cs j blank)
      go true t = subst (λ q. f (get_or ds q blank) ≡ f (get_or cs q blank)) (sym (eqb-true j p t)) e
      go false t = ap f (other j (eqb-false j p t))

  pub size_kept : (d q : ℕ) → size ds d q ≡ size cs d q
  size_kept d q = size_alike cs ds (everywhere (λ c. tag_of c) tag_kept) (everywhere (λ c. c.payload) load_kept) d q

  sizes_kept : (d k q : ℕ) → sizes (size ds d) k q ≡ sizes (size cs d) k q
  sizes_kept d k q = sizes_alike (size cs d) (size ds d) (size_kept d) k q

  room_kept : (a : IntMap) (limit : ℕ) → HasRoom cs limit a → HasRoom ds limit a
  room_kept a limit r =
      record { used = r.used ∙ sym (sizes_kept levels a.len a.base); most = r.most; room = omega (arith, r.room, long); small = omega (arith, r.small, long) }

  frame_kept : (base k : ℕ) → base ≤ p → p < base + k → Frame cs ds base k
  frame_kept base k above below = record { long = long; below = λ j h. other j (omega arith); above = λ j h. other j (omega arith) }

-- ---- the emptiness of a row's table, set to what depends on what it was, where the search finds it

module _ (e : Option Bool → Option Bool) (cs : List Cell) (a : IntMap) (row : ℕ) where
  abbrev f : TableDataType → TableDataType
  f t = set_empty (e t.is_empty) t

  pub none_changed : seek_found cs levels (class_key 2 row) a.len a.base ≡ false → TableChanged f cs cs a row
  none_changed h =
      record {
        holds = λ limit bound m held. subst (λ s. HoldsMap limit bound cs a s) (sym (search_table_kept held row f h)) held;
        room = λ limit r. r;
        frame = unchanged cs a.base a.used;
      }

  module _ (p : ℕ) (is : IsMap cs a) (led : Led cs a 2 row p) where
    pub led_within : p < a.base + a.used
    led_within = omega (arith, (led_inside cs a 2 row p is.used led).1, size-pos cs levels p)

    pub one_changed : (ds : List Cell) (c x : Cell) → c ≡ get_or cs p blank → x ≡ with_nullable (nullable_code (e (nullable_in c))) c → ds ≡ set cs p x → TableChanged f cs ds a row
    one_changed ds c x ce xe de =
        let written : ds ≡ set cs p (with_nullable (nullable_code (e (nullable_in (get_or cs p blank)))) (get_or cs p blank)) = de ∙ ap (set cs p) (xe ∙ ap (λ y. with_nullable (nullable_code (e (nullable_in y))) y) ce) in
        let fits : p < length cs = omega (arith, led_within, is.inside) in
        record {
          holds = λ limit bound m h.
              search_empty h row led.present e ds is.inside
              (written ∙ ap (λ q. set cs q (with_nullable (nullable_code (e (nullable_in (get_or cs q blank)))) (get_or cs q blank))) (sym led.at));
          room = room_kept cs ds p _ fits written a;
          frame = frame_kept cs ds p _ fits written a.base a.used (led_inside cs a 2 row p is.used led).0 led_within;
        }

-- ---- the emptiness of a cursor's table

module _ (cs : List Cell) (a : IntMap) (c : CursorDataType) (r : Option ℕ) (finds : FindsTable cs a c r) where
  -- of a table that is changed, so is the cursor's
  of_table : (g : TableDataType → TableDataType) (ds : List Cell) (row : ℕ) → c ≡ cursor.Normal row → TableChanged g cs ds a row → CursorTableChanged g cs ds a c
  unfolding update_cursor_table
  of_table g ds row e changed =
      record {
        holds = λ limit bound m h o told.
            subst (λ u. HoldsMap limit bound ds a (update_cursor_table g u m)) (sym (done-same (subst (λ y. TellsCursor bound y (done o)) e told).answer)) (changed.holds limit bound m h);
        other = λ no. absurd (no row e);
        room = changed.room;
        frame = changed.frame;
      }

  module _ (e : Option Bool → Option Bool) where
    abbrev g : TableDataType → TableDataType
    g t = set_empty (e t.is_empty) t

    -- no table
    none_by : (d : CursorDataType) → c ≡ d → r ≡ table_slot cs a d → r ≡ None → CursorTableChanged g cs cs a c
    unfolding update_cursor_table
    none_by (cursor.Pseudo w) is _ _ =
        record {
          holds = λ limit bound m h o told.
              subst (λ u. HoldsMap limit bound cs a (update_cursor_table g u m)) (sym (done-same (subst (λ y. TellsCursor bound y (done o)) is told).answer)) h;
          other = λ no. refl;
          room = λ limit x. x;
          frame = unchanged cs a.base a.used;
        }
    none_by (cursor.Normal row) is p none = of_table g cs row is (none_changed e cs a row (led_nowhere cs a 2 row (sym p ∙ none)))

    pub table_none : r ≡ None → CursorTableChanged (λ t. set_empty (e t.is_empty) t) cs cs a c
    table_none none = none_by c refl finds.place none

    -- a table
    module _ (p : ℕ) (there : r ≡ Some p) where
      led_by : (d : CursorDataType) → c ≡ d → r ≡ table_slot cs a d → (row : ℕ) × (c ≡ cursor.Normal row) × Led cs a 2 row p
      led_by (cursor.Pseudo w) f q = absurd (omega (arith, ap case there, ap case q))
      led_by (cursor.Normal row) f q = (row, f, led_at cs a 2 row p (sym q ∙ there))

      its_row : (row : ℕ) × (c ≡ cursor.Normal row) × Led cs a 2 row p
      its_row = led_by c refl finds.place

      pub table-within : IsMap cs a → p < a.base + a.used
      table-within is = led_within e cs a its_row.0 p is its_row.2

      pub table_there : IsMap cs a → (ds : List Cell) (b x : Cell) → b ≡ get_or cs p blank → x ≡ with_nullable (nullable_code (e (nullable_in b))) b → ds ≡ set cs p x → CursorTableChanged (λ t. set_empty (e t.is_empty) t) cs ds a c
      table_there is ds b x be xe de = of_table g ds its_row.0 its_row.1 (one_changed e cs a its_row.0 p is its_row.2 ds b x be xe de)
