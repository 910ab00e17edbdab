-- From an arm that was met in place to the row's handling. Assumes nothing.
use Rattle.std.proofs.lemmas.Option.{none-some}
use Rattle.std.specs.Prelude.{Ok, Some, None, Option}
use mathlib.Core.Path.{◌≡◌, refl, sym, ap, subst, ◌∙◌}
use mathlib.Core.Bool.{Bool, true, false, true≢false}
use mathlib.Core.List.{List}
use Prim.Native.Nat.{ℕ, ◌+◌, ◌-◌}
use Rattle.model.specs.State.{Int}
use Rattle.model.specs.Access.{store_register}
use Rattle.model.specs.Operation.{JumpOperation, CursorOperation, jumps, cursors, no_arm, op_goto, op_gosub, op_init_coroutine, op_null}
use Rattle.area.specs.declared.Cell.{Cell}
use Rattle.intmap.specs.Signed.{offset, int_of}
use Rattle.opcode.specs.Opcode.{arm_of}
use Rattle.opcode.specs.declared.Operation.{Operation}
use Rattle.rows.specs.Rows.{parts}
use Rattle.rows.specs.declared.row.Row.{Row}
use Rattle.state.specs.Leads.{Leads}
use Rattle.state.specs.Own.{LeadsNear}
use Rattle.state.specs.Steps.{JumpArm, offered}
use Rattle.state.specs.declared.MemoryState.{MemoryState}
use Rattle.jump_arms.specs.Arms.{Ready, at, step_after, InitTo}
use Rattle.jump_arms.proofs.StepLaws.{goto_arm}
use Rattle.jump_arms.proofs.StoreSteps.{gosub_arm, init_arm}
use Rattle.explain.specs.Handles.{Handles}
use Rattle.explain.specs.Numbers.{NumberArm}
use Rattle.explain.specs.declared.Handling.TheVariants as handling
use Rattle.explain.proofs.NumberLaws.{jump_number, register_number, cursor_number, none_number}
use Rattle.explain.proofs.HandlingLaws.{number_handles}
use Rattle.in_place.specs.InPlace.{Operands, RegisterNear, CursorNear, WithinListing, StandsAt, JumpNear, HandlesNear}
use Rattle.in_place.proofs.NearLaws.{arm-not}

-- ---- the arms that name the next row

pub jump_not : {cs ds : List Cell} {row base end : ℕ} {op : Operation} {i j k n : ℕ} → ds ≡ cs → JumpNear cs ds row base end op i j k n None
jump_not same = record { arm = op_goto; is = λ w e. absurd (none-some w e); within = λ w e. absurd (none-some w e); goes = λ w e. absurd (none-some w e); no = λ _. same }

-- an arm o that leads to `to`, which is the row r of the listing
module _ {cs ds : List Cell} {row base end : ℕ} {op : Operation} {i j k n to : ℕ} {r : Option ℕ} {o : JumpOperation} (is : arm_of op ≡ jumps o) (in_List : WithinListing to n r) (changes : r ≡ None → ds ≡ cs) where
  jump_near : ((limit : ℕ) (s : MemoryState) (x : Row) → Ready limit cs s → Operands x i j k → StandsAt s row base end → JumpArm limit cs ds s x o (offered None (Some (at to s.map)))) → JumpNear cs ds row base end op i j k n r
  jump_near leads =
      record {
        arm = o;
        is = λ _ _. is;
        within = λ w e. ((in_List.yes w e).1, (in_List.yes w e).2);
        goes = λ w e. record { arm = λ limit s x ready ops stands. subst (λ w. JumpArm limit cs ds s x o (offered None (Some (at w s.map)))) (sym (in_List.yes w e).0) (leads limit s x ready ops stands) };
        no = changes;
      }

pub goto_near : {cs : List Cell} {row base end : ℕ} {op : Operation} {i j k n : ℕ} {r : Option ℕ} → arm_of op ≡ jumps op_goto → WithinListing j n r → JumpNear cs cs row base end op i j k n r
goto_near {cs} is in_List =
    jump_near is in_List (λ _. refl)
    (λ limit s x ready ops stands.
    subst (λ w. JumpArm limit cs cs s x op_goto (offered None (Some (at w s.map)))) ops.second (goto_arm limit cs s x ready.current))

module _ {cs ds : List Cell} {row base end i j k : ℕ} {b : Bool} (made : b ≡ true) where
  -- the number that is stored, in the words of the arm
  stored_as : {v : ℕ} → LeadsNear cs ds base end (λ limit. store_register limit (int_of i) (Int (int_of v))) b → (limit : ℕ) (s : MemoryState) (x : Row) → Ready limit cs s → Operands x i j k → StandsAt s row base end → (u : ℕ) → u ≡ v → Leads limit cs ds s.map (Ok s.map) (store_register limit (int_of x.p1) (Int (int_of u)))
  stored_as w limit s x ready ops stands u ue =
      subst (λ z. Leads limit cs ds s.map (Ok s.map) (store_register limit (int_of z) (Int (int_of u)))) (sym ops.first)
      (subst (λ z. Leads limit cs ds s.map (Ok s.map) (store_register limit (int_of i) (Int (int_of z)))) (sym ue) (w.yes made s.map stands.from stands.to limit ready.current))

  module _ {op : Operation} {n w : ℕ} {r : Option ℕ} (some : r ≡ Some w) where
    pub gosub_near : arm_of op ≡ jumps op_gosub → WithinListing j n r → LeadsNear cs ds base end (λ limit. store_register limit (int_of i) (Int (int_of row))) b → JumpNear cs ds row base end op i j k n (Some w)
    gosub_near is in_List led =
        jump_near is (subst (WithinListing _ n) some in_List) (λ e. absurd (none-some w (sym e)))
        (λ limit s x ready ops stands.
        subst (λ z. JumpArm limit cs ds s x op_gosub (step_after z (Ok s.map))) ops.second
        (gosub_arm limit cs ds s x (Ok s.map) (stored_as led limit s x ready ops stands s.row stands.on)))

    pub init_near : {to : ℕ} → arm_of op ≡ jumps op_init_coroutine → InitTo row j to → WithinListing to n r → LeadsNear cs ds base end (λ limit. store_register limit (int_of i) (Int (int_of k))) b → JumpNear cs ds row base end op i j k n (Some w)
    init_near {to} is goes in_List led =
        jump_near is (subst (WithinListing _ n) some in_List) (λ e. absurd (none-some w (sym e)))
        (λ limit s x ready ops stands.
        init_arm limit cs ds s x (Ok s.map) (stored_as led limit s x ready ops stands x.p3 ops.third) to
        (subst (λ z. InitTo z x.p2 to) (sym stands.on) (subst (λ z. InitTo row z to) (sym ops.second) goes)))

-- ---- handling

pub jump_handles : {cs ds : List Cell} {row base end : ℕ} {op : Operation} {i j k n : ℕ} {r : Option ℕ} → JumpNear cs ds row base end op i j k n r → HandlesNear cs ds row base end op i j k n r
jump_handles jumped =
    record {
      within = jumped.within;
      yes = λ w e limit s x ready num ops stands first size blocks again.
          number_handles (offered None (Some (at w s.map))) (sym num) (jump_number (jumped.is w e) ((jumped.goes w e).arm limit s x ready ops stands) blocks);
      no = jumped.no;
    }

pub none_of : {cs ds : List Cell} {row base end : ℕ} {op : Operation} {i j k n : ℕ} → ds ≡ cs → HandlesNear cs ds row base end op i j k n None
none_of same = jump_handles (jump_not same)

-- the next row
next_as : {cs ds : List Cell} {row base end : ℕ} {op : Operation} {n w limit first size : ℕ} {r : Option ℕ} {blocks : List ℕ} {s : MemoryState} {x : Row} {again : Bool} → WithinListing (row + 1) n r → r ≡ Some w → StandsAt s row base end → x.op ≡ op → NumberArm limit first size cs ds blocks s x op (step_after (s.row + 1) (Ok s.map)) → Handles limit first size cs ds blocks s (parts x) again (Ok (handling.Ways (record { branch = None; stays = Some (at w s.map) }) false))
next_as {cs} {ds} {limit = limit} {first} {size} {blocks} {s} {x} {again} in_List e stands num arm =
    subst (λ z. Handles limit first size cs ds blocks s (parts x) again (Ok (handling.Ways (record { branch = None; stays = Some (at z s.map) }) false))) (ap (λ z. z + 1) stands.on ∙ sym (in_List.yes _ e).0)
    (number_handles (offered None (Some (at (s.row + 1) s.map))) (sym num) arm)

pub register_handles : {cs ds : List Cell} {row base end : ℕ} {op : Operation} {i j k n w : ℕ} {r : Option ℕ} {b : Bool} → WithinListing (row + 1) n r → b ≡ true → r ≡ Some w → RegisterNear cs ds base end op i j k b → HandlesNear cs ds row base end op i j k n (Some w)
register_handles in_List made some led =
    record {
      within = λ w e. (((subst (WithinListing _ _) some in_List).yes w e).1, ((subst (WithinListing _ _) some in_List).yes w e).2);
      yes = λ w e limit s x ready num ops stands first size blocks again.
          next_as (subst (WithinListing _ _) some in_List) e stands num (register_number (led.is made) (led.near.yes made x ops s.map stands.from stands.to limit ready.current));
      no = λ e. absurd (none-some _ (sym e));
    }

pub column_handles : {cs ds : List Cell} {row base end : ℕ} {op : Operation} {i j k n w : ℕ} {r : Option ℕ} {b : Bool} {o : CursorOperation} → arm_of op ≡ cursors o → WithinListing (row + 1) n r → b ≡ true → r ≡ Some w → CursorNear cs ds base end i j k o b → HandlesNear cs ds row base end op i j k n (Some w)
column_handles is in_List made some led =
    record {
      within = λ w e. (((subst (WithinListing _ _) some in_List).yes w e).1, ((subst (WithinListing _ _) some in_List).yes w e).2);
      yes = λ w e limit s x ready num ops stands first size blocks again.
          next_as (subst (WithinListing _ _) some in_List) e stands num (cursor_number is (led.yes made x ops s.map stands.from stands.to limit ready.current (s.row - offset)));
      no = λ e. absurd (none-some _ (sym e));
    }

pub none_handles : {cs : List Cell} {row base end : ℕ} {op : Operation} {i j k n : ℕ} {r : Option ℕ} → arm_of op ≡ no_arm → WithinListing (row + 1) n r → HandlesNear cs cs row base end op i j k n r
none_handles is in_List =
    record {
      within = λ w e. ((in_List.yes w e).1, (in_List.yes w e).2);
      yes = λ w e limit s x ready num ops stands first size blocks again. next_as {x = x} in_List e stands num (none_number is ready.current);
      no = λ _. refl;
    }

pub register_not : {cs : List Cell} {base end : ℕ} {op : Operation} {i j k : ℕ} → RegisterNear cs cs base end op i j k false
register_not = record { arm = op_null; is = λ e. absurd (true≢false (sym e)); near = arm-not }
