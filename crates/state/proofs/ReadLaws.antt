-- What a register's first cell says is what the definition reads. Assumes nothing.
use Rattle.refusal.specs.Numbers.{number_of}
use Rattle.refusal.specs.declared.Refusal.{Refusal}
use mathlib.Core.Path.{◌≡◌, sym, ap, ap₂, subst, ◌∙◌}
use Rattle.std.specs.Prelude.{Option, None, Some, Ok, Err}
use mathlib.Core.List.{List, [], ◌∷◌}
use Prim.Native.Nat.{ℕ, ◌+◌, ◌-◌, ◌<◌, ◌≤◌}
use native.Mathlib.Omega.{arith}
use lib.ListN.{length, get_or}
use borrow.Author.Tests.{eq-eqb, ne_eqb}
use Rattle.type_info.specs.declared.DataType.TheVariants.{Null}
use Rattle.model.specs.Walk.{Tried, done}
use Rattle.model.specs.State.{Single, Record, RegDataType, Column, Int, datatype_code}
use Rattle.model.specs.Offer.{turns}
use Rattle.model.specs.Access.{read_register}
use Rattle.area.specs.Cells.{cell, blank}
use Rattle.area.specs.declared.Cell.{Cell}
use Rattle.intmap.specs.Pack.{tag_of, kind_of, nullable_of, class_key}
use Rattle.intmap.specs.Runs.{size}
use Rattle.intmap.specs.Entries.{span}
use Rattle.intmap.specs.Signed.{Small, int_of, word_of}
use Rattle.intmap.specs.Map.{levels}
use Rattle.intmap.specs.Get.{Gets, Slot}
use Rattle.intmap.specs.declared.IntMap.{IntMap}
use Rattle.intmap.proofs.EntryLaws.{length-span, opened}
use Rattle.intmap.proofs.PackLaws.{head_tag, head_kind, head_nullable}
use Rattle.intmap.proofs.RunLaws.{size-pos}
use Rattle.intmap.proofs.SignedLaws.{int_word}
use Rattle.encoding.specs.Encode.{nullable_code, single, run_column, run_columns, run_register}
use Rattle.encoding.specs.Holds.{Stands, SmallRegister}
use Rattle.encoding.proofs.Injective.{first-is}
use Rattle.encoding.proofs.Packing.{code_small, nullable_small, datatype_coded, nullable_coded}
use Rattle.encoding.proofs.HeldRead.{told_register}
use Rattle.state.specs.Reads.{register_in, TellsRegister, Reads}
use Rattle.state.specs.declared.Register.{Register}
use Rattle.state.specs.declared.Register.TheVariants as register
use Rattle.encoding.specs.Decode.{datatype_in, nullable_in, datatypes, nullables}

-- the three tags
module _ (c : Cell) (at : ℕ) where
  pub in_single : tag_of c ≡ 1 → register.Single (datatype_in c) (nullable_in c) ≡ register_in c at
  unfolding register_in
  in_single t = rw (eq-eqb (tag_of c) 1 t)

  pub in_record : tag_of c ≡ 2 → register.Record at ≡ register_in c at
  unfolding register_in
  in_record t = rw (ne_eqb (tag_of c) 1 (omega arith), eq-eqb (tag_of c) 2 t)

  pub in_int : (tag_of c ≡ 1 → ⊥) → (tag_of c ≡ 2 → ⊥) → register.Int c.payload ≡ register_in c at
  unfolding register_in
  in_int s t = rw (ne_eqb (tag_of c) 1 s, ne_eqb (tag_of c) 2 t)

-- the cell c, with the rest behind it, is the run of v, which stands at `at`
module _ (bound : ℕ) (cs : List Cell) (a : IntMap) (c : Cell) (rest : List Cell) (key at : ℕ) (t : Tried (Option RegDataType)) (most : bound ≤ 9223372036854775808) where
  pub value_told : (v : RegDataType) → c ∷ rest ≡ run_register key v → SmallRegister bound v → t ≡ done (Some v) → Stands cs at (run_register key v) → a.base ≤ at → at + length (run_register key v) ≤ a.base + a.used → TellsRegister bound cs a (Ok (Some (register_in c at))) t
  unfolding run_register run_column
  value_told (Column (Single d n)) e s answer stands above below =
      let h = (first-is c (single (datatype_code d) (nullable_code n) key) rest [] e).0 in
      let tag : tag_of c ≡ 1 = ap (λ x. tag_of (cell x 0)) h ∙ head_tag 1 (datatype_code d) (nullable_code n) key (omega arith) in
      let kind : datatype_in c ≡ d = ap (λ k. get_or datatypes k Null) (ap (λ x. kind_of (cell x 0)) h ∙ head_kind 1 (datatype_code d) (nullable_code n) key (omega arith) (code_small d)) ∙ datatype_coded d in
      let nullable : nullable_in c ≡ n = ap (λ k. get_or nullables k None) (ap (λ x. nullable_of (cell x 0)) h ∙ head_nullable 1 (datatype_code d) (nullable_code n) key (omega arith) (code_small d) (nullable_small n)) ∙ nullable_coded n in
      subst (λ r. TellsRegister bound cs a (Ok (Some r)) t) (ap₂ register.Single (sym kind) (sym nullable) ∙ in_single c at tag) answer
  value_told (Column (Record x)) e s answer stands above below =
      let h = (first-is c _ rest (run_columns x) e).0 in
      subst (λ r. TellsRegister bound cs a (Ok (Some r)) t) (in_record c at (omega (arith, h)))
      (record { columns = x; key = key; answer = answer; stands = stands; above = above; below = below })
  value_told (Int i) e s answer stands above below =
      let h = first-is c _ rest [] e in
      let word : c.payload ≡ word_of i = h.1 in
      let same : int_of c.payload ≡ i = ap int_of word ∙ int_word bound i most s in
      subst (λ r. TellsRegister bound cs a (Ok (Some r)) t) (in_int c at (omega (arith, h.0)) (omega (arith, h.0)))
      (record { answer = answer ∙ ap (λ x. done (Some (Int x))) (sym same); small = subst (Small bound) (sym same) s })

-- as the code has it: what `get` gives, and the cell at the place
module _ (cs : List Cell) (a : IntMap) (i : ℕ) (x : Slot) (g : Gets cs a 0 i x) where
  pub read_bad : (n : Refusal) → x ≡ Err n → Reads cs a i (Err n)
  read_bad n e = record { says = λ limit bound m h. (told_register h (int_of i)).refuses (number_of n) (sym (subst (Gets cs a 0 i) e g).answer) }

  pub read_absent : x ≡ (Ok None) → Reads cs a i (Ok None)
  read_absent e = record { says = λ limit bound m h. (told_register h (int_of i)).absent (sym (subst (Gets cs a 0 i) e g).answer) }

  module _ (p : ℕ) (e : x ≡ Ok (Some p)) where
    there : Gets cs a 0 i (Ok (Some p))
    there = subst (Gets cs a 0 i) e g

    pub read_within : p < a.base + a.used
    read_within = omega (arith, there.place.1, size-pos cs levels p)

    pub read_at : (c : Cell) (r : Register) → c ≡ get_or cs p blank → r ≡ register_in c p → Reads cs a i (Ok (Some r))
    read_at c r ce re =
        record {
          says = λ limit bound m h.
              (let v = (told_register h (int_of i)).present (span cs p (size cs levels p)) (sym there.answer) in
              let long : size cs levels p ≡ length (run_register (class_key 0 (turns (int_of i))) v.value) = sym (length-span cs p (size cs levels p)) ∙ ap length v.is in
              subst (λ y. TellsRegister bound cs a (Ok (Some y)) (read_register (int_of i) m)) (sym re)
              (value_told bound cs a c (span cs (p + 1) (size cs levels p - 1)) (class_key 0 (turns (int_of i))) p (read_register (int_of i) m) (omega (arith, h.small.bounded)) v.value
              (ap (λ y. y ∷ span cs (p + 1) (size cs levels p - 1)) ce ∙ opened cs p (size cs levels p) (size-pos cs levels p) ∙ v.is) v.has.1 v.answer
              (ap (span cs p) (sym long) ∙ v.is) there.place.0 (omega (arith, long, there.place.1))));
        }
