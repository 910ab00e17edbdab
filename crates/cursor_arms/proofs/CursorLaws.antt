-- What a cursor's cell says is what the definition reads. Assumes nothing.
use Rattle.refusal.specs.Numbers.{number_of}
use Rattle.refusal.specs.declared.Refusal.{Refusal}
use mathlib.Core.Path.{◌≡◌, refl, sym, ap, subst, ◌∙◌}
use mathlib.Core.Bool.{Bool, true, false}
use Rattle.std.specs.Prelude.{Option, Some, Ok, Err, None}
use mathlib.Core.List.{List, [], ◌∷◌}
use Prim.Native.Nat.{ℕ, ◌+◌, ◌-◌, ◌%◌, ◌<◌, ◌≤◌}
use native.Mathlib.Omega.{arith}
use lib.Dec.{eqb}
use lib.ListN.{get_or}
use borrow.Author.Tests.{eq-eqb, ne_eqb}
use Rattle.model.specs.Walk.{Tried, done}
use Rattle.model.specs.State.{CursorDataType as Cursor, Normal, Pseudo}
use Rattle.model.specs.Good.{GoodCursor}
use Rattle.model.specs.Offer.{turns}
use Rattle.model.specs.Access.{read_cursor}
use Rattle.area.specs.Cells.{blank}
use Rattle.area.specs.declared.Cell.{Cell}
use Rattle.intmap.specs.Pack.{tag_of, class_key}
use Rattle.intmap.specs.Pick.{pick}
use Rattle.intmap.specs.Runs.{size}
use Rattle.intmap.specs.Entries.{span}
use Rattle.intmap.specs.Signed.{Small, int_of, word_of}
use Rattle.intmap.specs.Map.{levels}
use Rattle.intmap.specs.Get.{Gets, Slot}
use Rattle.intmap.specs.declared.IntMap.{IntMap}
use Rattle.intmap.proofs.RunLaws.{size-pos}
use Rattle.intmap.proofs.SignedLaws.{int_word}
use Rattle.intmap.proofs.EntryLaws.{opened}
use Rattle.encoding.specs.Encode.{run_cursor}
use Rattle.encoding.specs.Holds.{SmallCursor}
use Rattle.encoding.proofs.Injective.{first-is}
use Rattle.encoding.proofs.HeldRead.{told_cursor}
use Rattle.cursor_arms.specs.Cursors.{cursor_in, TellsCursor, RowWithin, ReadsCursor}
use Rattle.cursor_arms.specs.declared.CursorDataType.{CursorDataType}
use Rattle.cursor_arms.specs.declared.CursorDataType.TheVariants as cursor

-- the two tags
module _ (c : Cell) where
  pub in_normal : tag_of c ≡ 4 → cursor.Normal (c.payload % 65536) ≡ cursor_in c
  unfolding cursor_in
  in_normal t = rw (eq-eqb (tag_of c) 4 t)

  pub in_within : RowWithin (cursor_in c)
  unfolding cursor_in
  in_within = go (eqb (tag_of c) 4)
    where
      go : (b : Bool) → RowWithin (pick b (cursor.Normal (c.payload % 65536)) (cursor.Pseudo c.payload))
      go true = omega arith
      go false = tt

  pub in_pseudo : (tag_of c ≡ 4 → ⊥) → cursor.Pseudo c.payload ≡ cursor_in c
  unfolding cursor_in
  in_pseudo t = rw (ne_eqb (tag_of c) 4 t)

-- the cell c, with the rest behind it, is the run of v
module _ (bound : ℕ) (c : Cell) (rest : List Cell) (key : ℕ) (t : Tried (Option Cursor)) (most : bound ≤ 9223372036854775808) where
  cursor_told : (v : Cursor) → c ∷ rest ≡ run_cursor key v → GoodCursor v → SmallCursor bound v → t ≡ done (Some v) → TellsCursor bound (cursor_in c) t
  unfolding run_cursor
  cursor_told (Normal row) e g s answer =
      let h = first-is c _ rest [] e in
      let same : c.payload % 65536 ≡ row = omega (arith, h.1, g) in
      subst (λ r. TellsCursor bound r t) (in_normal c (omega (arith, h.0)))
      (record { answer = answer ∙ ap (λ x. done (Some (Normal x))) (sym same); index = subst (λ x. x ≤ 65535) (sym same) g })
  cursor_told (Pseudo i) e g s answer =
      let h = first-is c _ rest [] e in
      let word : c.payload ≡ word_of i = h.1 in
      let same : int_of c.payload ≡ i = ap int_of word ∙ int_word bound i most s in
      subst (λ r. TellsCursor bound r t) (in_pseudo c (omega (arith, h.0)))
      (record { answer = answer ∙ ap (λ x. done (Some (Pseudo x))) (sym same); small = subst (Small bound) (sym same) s })

-- as the code has it: what `get` gives, and the cell at the place
module _ (cs : List Cell) (a : IntMap) (i : ℕ) (x : Slot) (g : Gets cs a 1 i x) where
  pub read_bad : (n : Refusal) → x ≡ Err n → ReadsCursor cs a i (Err n)
  read_bad n e = record { says = λ limit bound m h. (told_cursor h (int_of i)).refuses (number_of n) (sym (subst (Gets cs a 1 i) e g).answer); within = tt }

  pub read_absent : x ≡ (Ok None) → ReadsCursor cs a i (Ok None)
  read_absent e = record { says = λ limit bound m h. (told_cursor h (int_of i)).absent (sym (subst (Gets cs a 1 i) e g).answer); within = tt }

  module _ (p : ℕ) (e : x ≡ Ok (Some p)) where
    there : Gets cs a 1 i (Ok (Some p))
    there = subst (Gets cs a 1 i) e g

    pub read_within : p < a.base + a.used
    read_within = omega (arith, there.place.1, size-pos cs levels p)

    pub read_at : (c : Cell) (r : CursorDataType) → c ≡ get_or cs p blank → r ≡ cursor_in c → ReadsCursor cs a i (Ok (Some r))
    read_at c r ce re =
        record {
          says = λ limit bound m h.
              (let v = (told_cursor h (int_of i)).present (span cs p (size cs levels p)) (sym there.answer) in
              subst (λ y. TellsCursor bound y (read_cursor (int_of i) m)) (sym re)
              (cursor_told bound c (span cs (p + 1) (size cs levels p - 1)) (class_key 1 (turns (int_of i))) (read_cursor (int_of i) m) (omega (arith, h.small.bounded)) v.value
              (ap (λ y. y ∷ span cs (p + 1) (size cs levels p - 1)) ce ∙ opened cs p (size cs levels p) (size-pos cs levels p) ∙ v.is) v.has.0 v.has.1 v.answer));
          within = subst RowWithin (sym re) (in_within c);
        }

-- some cursor of the definition is the one that was read
pub told_some : (bound : ℕ) (c : CursorDataType) (t : Tried (Option Cursor)) → TellsCursor bound c t → (o : Option Cursor) × (t ≡ done o) × TellsCursor bound c (done o)
told_some bound (cursor.Normal row) t told = (Some (Normal row), told.answer, record { answer = refl; index = told.index })
told_some bound (cursor.Pseudo w) t told = (Some (Pseudo (int_of w)), told.answer, record { answer = refl; small = told.small })
