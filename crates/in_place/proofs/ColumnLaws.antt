-- Column of a cursor on a table, where the cursor, the table, the column and the register were found with few tests. Assumes nothing.
use Rattle.std.proofs.lemmas.Option.{same_Some}
use Rattle.std.specs.Prelude.{Ok, Some, Option}
use mathlib.Core.Path.{◌≡◌, refl, sym, ap, subst, ◌∙◌}
use mathlib.Core.Bool.{Bool, true}
use mathlib.Core.List.{List}
use Prim.Native.Nat.{ℕ, ◌+◌, ◌-◌, ◌<◌, ◌≤◌, ◌%◌}
use native.Mathlib.Omega.{arith}
use lib.Dec.{eqb}
use lib.ListN.{get_or}
use Rattle.model.specs.Operation.{op_column}
use Rattle.area.specs.Cells.{blank}
use Rattle.area.specs.declared.Cell.{Cell}
use Rattle.intmap.specs.Get.{Judges, Index}
use Rattle.intmap.specs.Map.{levels}
use Rattle.intmap.specs.Pack.{tag_of, key_of}
use Rattle.intmap.specs.Runs.{size}
use Rattle.intmap.specs.Signed.{int_of}
use Rattle.intmap.specs.declared.IntMap.{IntMap}
use Rattle.model.specs.Walk.{done}
use Rattle.rows.specs.declared.row.Row.{Row}
use Rattle.state.specs.Leads.{Current}
use Rattle.state.specs.Arms.{CursorArm}
use Rattle.state.specs.Own.{HeldAmong, WritesNear, EntryNear, FlatBefore}
use Rattle.state.proofs.LeadsLaws.{current_held}
use Rattle.state.proofs.OwnLaws.{entry_gets, flat_told}
use Rattle.cursor_arms.specs.StandsFor.{head_slot, FindsCursor}
use Rattle.cursor_arms.specs.declared.CursorDataType.TheVariants as cursor
use Rattle.cursor_arms.proofs.CursorLaws.{in_normal, read_at}
use Rattle.cursor_arms.proofs.StandsLaws.{head_there, finds_columns}
use Rattle.column_arms.specs.Columns.{DirectAt, LeadsWith, store_column}
use Rattle.column_arms.proofs.ColumnLaws.{column_direct, direct_at}
use Rattle.copy_arms.proofs.RunLaws.{stores-alone}
use Rattle.column_arms.proofs.ArmLaws.{column_there, column_goes, head_run, head_tag, arm_there}
use Rattle.in_place.specs.InPlace.{Operands, TableNear, ColumnStored, ColumnNear, CursorNear}

-- ---- the table that a cursor is on

module _ {cs : List Cell} {base end i k p q : ℕ} {x : Index} {g r : Option ℕ} (judges : Judges i x) (xe : x ≡ Ok k) (near : EntryNear cs base end 1 k g) (ge : g ≡ Some p) {c : Cell} (ce : c ≡ get_or cs p blank) (normal : tag_of c ≡ 4) where
  pub on_table : EntryNear cs base end 2 (c.payload % 65536) r → r ≡ Some q → {h : Cell} → h ≡ get_or cs q blank → tag_of h ≡ 2 → TableNear cs base end i (Some q)
  on_table t re {h} he tag =
      record {
        low = λ z e. subst (λ z. base ≤ z) (same_Some q z e) (t.low q re);
        inside = λ z e. subst (λ z. z < end) (same_Some q z e) (t.inside q re);
        is = λ z e a first last limit current.
            (let held = current_held current in
            subst (λ z. FindsCursor cs a i (Ok (Some z))) (same_Some q z e)
            (record {
              reading = Ok (Some (cursor.Normal (c.payload % 65536)));
              reads = read_at cs a i (Ok (Some p)) (entry_gets cs a 1 i k x judges held.map xe (Some p) (near.is p ge a first last held)) p refl c (cursor.Normal (c.payload % 65536)) ce (in_normal c normal);
              finds = finds_columns cs a (cursor.Normal (c.payload % 65536)) (Ok (Some q)) (ap done (head_there cs (Some q) q refl h he tag ∙ ap (head_slot cs) (t.is q re a first last held)));
            }));
      }

-- ---- one of its columns

-- so many cells are behind the head
pub flat_place : {cs : List Cell} {base end p n : ℕ} {f : Bool} → HeldAmong cs base end → FlatBefore cs end p n f → f ≡ true → p + n < end
flat_place {cs} {base} {end} {p} {n} h flat fe =
    let a : IntMap = record { base = base; len = 0; used = end - base } in
    let last : base + (end - base) ≡ end = omega (arith, h.ordered) in
    omega (arith, last, (flat_told cs a p n (sym (flat.is a last) ∙ fe)).0)

pub stored_near : {cs ds : List Cell} {base end p key j : ℕ} {r : Bool} {h c : Cell} → h ≡ get_or cs p blank → key < h.payload → {f : Bool} → FlatBefore cs end p h.payload f → f ≡ true → c ≡ get_or cs (p + 1 + key) blank → (t : ℕ) → t ≡ tag_of c → (t ≡ 2 → ⊥) → (b : Bool) → b ≡ eqb (key_of c) key → b ≡ true → WritesNear cs ds base end j c r → ColumnNear cs ds base end p key j r
stored_near {cs} {ds} {p = p} {key} {h = h} {c} he lt flat fe ce t te plain b be yes-key w =
    record {
      yes = λ e a first last limit room.
          record {
            cell = c;
            there = ce;
            direct = subst (λ z. DirectAt cs a p z key) (ap (λ (y : Cell). y.payload) he) (direct_at cs a p h.payload key lt (sym (flat.is a last) ∙ fe) c ce t te plain b be yes-key);
            stored = w.yes e a first last limit room;
          };
      no = w.no;
    }

module _ {cs ds : List Cell} {base end i j k p key : ℕ} {x : Index} {r : Bool} (judges : Judges j x) (xe : x ≡ Ok key) {g : Option ℕ} (t : TableNear cs base end i g) (ge : g ≡ Some p) (w : ColumnNear cs ds base end p key k r) where
  module _ (e : r ≡ true) (y : Row) (ops : Operands y i j k) (a : IntMap) (first : a.base ≡ base) (last : a.base + a.used ≡ end) (limit : ℕ) (current : Current limit cs a) where
    found : FindsCursor cs a y.p1 (Ok (Some p))
    found = subst (λ z. FindsCursor cs a z (Ok (Some p))) (sym ops.first) (t.is p ge a first last limit current)

    below : p + size cs levels p ≤ a.base + a.used
    below = (head_run limit cs a y current (Ok (Some p)) found p refl).1

    tag : tag_of (get_or cs p blank) ≡ 2
    tag = head_tag limit cs a y current (Ok (Some p)) found p refl

    made : ColumnStored limit cs ds a p key k
    made = w.yes e a first last limit current.room

    leads : LeadsWith limit cs ds a p (Ok a) (store_column limit (int_of j) (int_of k))
    leads =
        column_there limit cs a p j k x judges key xe (Ok (Some (p + 1 + key)))
        (column_direct cs a p key (record { fits = omega (arith, below, current.room.room, current.room.most); small = current.room.small }) tag below (get_or cs p blank) refl made.direct)
        (p + 1 + key) refl made.cell made.there ds (Ok a)
        (stores-alone limit cs a (p + 1 + key) made.cell (ap tag_of made.there) (λ q. made.direct.plain (ap tag_of (sym made.there) ∙ q)) ds k (Ok a) made.stored)

    arm : (row : ℕ) → CursorArm limit cs ds a row y op_column (Ok a)
    arm =
        arm_there limit cs a y current (Ok (Some p)) found op_column (store_column limit (int_of y.p2) (int_of y.p3)) (λ row. column_goes limit row y) p refl ds (Ok a)
        (subst (λ z. LeadsWith limit cs ds a p (Ok a) (store_column limit (int_of z) (int_of y.p3))) (sym ops.second) (subst (λ z. LeadsWith limit cs ds a p (Ok a) (store_column limit (int_of j) (int_of z))) (sym ops.third) leads))

  pub column_near : CursorNear cs ds base end i j k op_column r
  column_near = record { yes = arm; no = w.no }
