-- What Cast and HaltIfNull store is what the definition changes in place: neither makes a register larger. Assumes nothing.
use Rattle.refusal.specs.Numbers.{number_of}
use Rattle.refusal.specs.declared.Refusal.{Refusal}
use mathlib.Core.Path.{◌≡◌, refl, sym, ap, ap₂, subst, ◌∙◌}
use mathlib.Core.Bool.{false, Bool}
use Rattle.std.specs.Prelude.{Option, None, Some, Ok, Err}
use mathlib.Core.List.{List}
use Prim.Native.Nat.{ℕ, ◌%◌}
use lib.IntN.{ℤ}
use Rattle.type_info.specs.declared.DataType.{DataType}
use Rattle.model.specs.Walk.{Tried, refused, done}
use Rattle.model.specs.Row.{Row as Listed}
use Rattle.model.specs.State.{Single, Record, RegDataType, Column, Int, MemoryState, to_not_null}
use Rattle.model.specs.Access.{◌>>=◌, read_register, store_register, update_register}
use Rattle.model.specs.Cells.{register_cells}
use Rattle.model.specs.Good.{Good, GoodRegister}
use Rattle.model.specs.Meaning.{Meaning}
use Rattle.model.specs.Operation.{op_cast, op_halt_if_null}
use Rattle.model.specs.RegisterArms.{register_arm, low_byte, affinity_to_type, cast_to, store_some, copy_to}
use Rattle.model.proofs.InPlace.{NeverLarger, cast_to_no_larger, to_not_null_no_larger}
use Rattle.area.specs.declared.Cell.{Cell}
use Rattle.intmap.specs.Signed.{int_of}
use Rattle.intmap.specs.declared.IntMap.{IntMap}
use Rattle.intmap.proofs.SignedLaws.{int_low}
use Rattle.encoding.proofs.Updates.{update_stored, update_kept, update_refused}
use Rattle.rows.specs.Judged.{Judged}
use Rattle.rows.specs.declared.row.Row.{Row}
use Rattle.state.specs.Arms.{Standard}
use Rattle.state.specs.Leads.{HoldsMap}
use Rattle.state.specs.Reads.{Reads, TellsRegister, Reading}
use Rattle.state.specs.declared.Register.TheVariants as register

-- a copy of a register to itself changes it in place, if it never gets larger
copy_updates : {limit : ℕ} {m : MemoryState} → Good limit m → (i : ℤ) (f : RegDataType → RegDataType) → NeverLarger register_cells GoodRegister f → copy_to limit i i f m ≡ update_register i f m
unfolding copy_to
copy_updates {limit} {m} good i f no_larger = go (read_register i m) refl
  where
    go : (t : Tried (Option RegDataType)) → read_register i m ≡ t → (t >>= λ v. store_some limit i f v m) ≡ update_register i f m
    go (refused n) e = sym (update_refused good i f n e)
    go (done None) e = sym (update_kept good i f None e tt)
    go (done (Some v)) e = sym (update_stored good i f v e no_larger)

pub cast_is : (limit : ℕ) (meaning : Meaning) (l : Listed) (x : Row) → Judged l x → (m : MemoryState) → Good limit m → copy_to limit (int_of x.p1) (int_of x.p1) (cast_to (affinity_to_type (x.p2 % 256))) m ≡ register_arm meaning l m op_cast
unfolding register_arm
cast_is limit meaning l x j m good =
    copy_updates good (int_of x.p1) (cast_to _) (cast_to_no_larger _)
    ∙ ap₂ (λ i k. update_register i (cast_to (affinity_to_type k)) m) j.p1 (sym (int_low x.p2) ∙ ap low_byte j.p2)

module _
    (limit : ℕ) (meaning : Meaning) (l : Listed) (x : Row) (s : Standard limit meaning) (j : Judged l x)
    (cs : List Cell) (a : IntMap) (r : Reading) (bound : ℕ) (m : MemoryState) (h : HoldsMap limit bound cs a m)
  where
    -- what was read, of a register that is known
    told : (i : ℕ) → Reads cs a i r → (q : Reading) → r ≡ q → TellsRegister bound cs a q (read_register (int_of i) m)
    told i g q e = (subst (Reads cs a i) e g).says limit bound m h

    halt_is : register_arm meaning l m op_halt_if_null ≡ update_register (int_of x.p3) to_not_null m
    unfolding register_arm
    halt_is = ap (λ i. update_register i to_not_null m) (sym j.p3)

    module _ (g : Reads cs a x.p3 r) where
      pub halt_refused : (n : Refusal) → r ≡ Err n → register_arm meaning l m op_halt_if_null ≡ refused (number_of n)
      halt_refused n e = halt_is ∙ update_refused h.good (int_of x.p3) to_not_null (number_of n) (told x.p3 g (Err n) e)

      pub halt_nothing : r ≡ (Ok None) → register_arm meaning l m op_halt_if_null ≡ done m
      halt_nothing e = halt_is ∙ update_kept h.good (int_of x.p3) to_not_null None (told x.p3 g (Ok None) e) tt

      pub halt_record : (at : ℕ) → r ≡ Ok (Some (register.Record at)) → register_arm meaning l m op_halt_if_null ≡ done m
      halt_record at e =
          let t = told x.p3 g (Ok (Some (register.Record at))) e in
          halt_is ∙ update_kept h.good (int_of x.p3) to_not_null (Some (Column (Record t.columns))) t.answer refl

      pub halt_int : (w : ℕ) → r ≡ Ok (Some (register.Int w)) → register_arm meaning l m op_halt_if_null ≡ done m
      halt_int w e =
          halt_is ∙ update_kept h.good (int_of x.p3) to_not_null (Some (Int (int_of w))) (told x.p3 g (Ok (Some (register.Int w))) e).answer refl

      pub halt_stored : (d : DataType) (n : Option Bool) → r ≡ Ok (Some (register.Single d n)) → store_register limit (int_of x.p3) (Column (Single d (Some false))) m ≡ register_arm meaning l m op_halt_if_null
      halt_stored d n e = sym (halt_is ∙ update_stored h.good (int_of x.p3) to_not_null (Column (Single d n)) (told x.p3 g (Ok (Some (register.Single d n))) e) to_not_null_no_larger)
