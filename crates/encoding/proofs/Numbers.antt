-- The numbers of a state stay small: under every access of a row, with another row, and under a larger bound. Assumes nothing.
use mathlib.Core.Bool.{Bool, true, false}
use mathlib.Core.List.{List, [], ◌∷◌}
use Prim.Native.Nat.{ℕ, suc, ◌≤◌}
use native.Mathlib.Omega.{arith}
use lib.Dec.{eqb}
use lib.IntN.{ℤ}
use Rattle.model.specs.IntMap.{Entry, get, insert, remove, update_if, update, Rising}
use Rattle.model.specs.State.{RegDataType, Column, Int, CursorDataType, Normal, Pseudo, TableDataType, MemoryState, fresh}
use Rattle.model.specs.Access.{go_to, with_registers, with_cursors, with_tables}
use Rattle.model.specs.Good.{OnSome}
use Rattle.model.proofs.IntMap.{rising_insert, rising_remove, rising_get}
use Rattle.encoding.specs.Holds.{largest, SmallRegister, SmallCursor, SmallNumbers}
use Rattle.intmap.proofs.SignedLaws.{small_more}

-- of each value, changed at one key
module _ {A : Type 0} (P Q : A → Type 0) (kept : (v : A) → P v → Q v) where
  rising_kept : (low : ℕ) (es : List (Entry A)) → Rising (λ k v. P v) low es → Rising (λ k v. Q v) low es
  rising_kept low [] s = tt
  rising_kept low (e ∷ es) s = (s.0, kept e.value s.1, rising_kept (suc e.key) es s.2)

  rising_changed : (k : ℕ) (f : A → A) → ((v : A) → P v → Q (f v)) → (low : ℕ) (es : List (Entry A)) → Rising (λ k v. P v) low es → Rising (λ k v. Q v) low (update k f es)
  unfolding update
  rising_changed k f change low [] s = tt
  rising_changed k f change low (e ∷ es) s = (s.0, by (eqb e.key k), rising_changed k f change (suc e.key) es s.2)
    where
      by : (b : Bool) → Q (update_if b f e.value)
      by true = change e.value s.1
      by false = kept e.value s.1

-- under a larger bound
module _ (bound more : ℕ) (h : bound ≤ more) where
  register_more : (v : RegDataType) → SmallRegister bound v → SmallRegister more v
  register_more (Column c) s = tt
  register_more (Int i) s = small_more bound more i h s

  cursor_more : (v : CursorDataType) → SmallCursor bound v → SmallCursor more v
  cursor_more (Normal row) s = tt
  cursor_more (Pseudo i) s = small_more bound more i h s

  module _ (top : more ≤ largest) (m : MemoryState) (small : SmallNumbers bound m) where
    pub numbers_more : SmallNumbers more m
    numbers_more =
        record {
          registers = rising_kept (SmallRegister bound) (SmallRegister more) register_more 0 m.r small.registers;
          cursors = rising_kept (SmallCursor bound) (SmallCursor more) cursor_more 0 m.p small.cursors;
          bounded = top;
        }

    -- and a register changed
    pub numbers_update : (k : ℕ) (f : RegDataType → RegDataType) → ((v : RegDataType) → SmallRegister bound v → SmallRegister more (f v)) → SmallNumbers more (with_registers (update k f m.r) m)
    numbers_update k f change =
        record {
          registers = rising_changed (SmallRegister bound) (SmallRegister more) register_more k f change 0 m.r small.registers;
          cursors = numbers_more.cursors;
          bounded = top;
        }

pub numbers_fresh : (bound : ℕ) → bound ≤ largest → SmallNumbers bound fresh
numbers_fresh bound h = record { registers = tt; cursors = tt; bounded = h }

module _ (bound : ℕ) (m : MemoryState) (small : SmallNumbers bound m) where
  pub numbers_go_to : (i : ℤ) → SmallNumbers bound (go_to i m)
  numbers_go_to i = record { registers = small.registers; cursors = small.cursors; bounded = small.bounded }

  pub numbers_tables : (t : List (Entry TableDataType)) → SmallNumbers bound (with_tables t m)
  numbers_tables t = record { registers = small.registers; cursors = small.cursors; bounded = small.bounded }

  module _ (k : ℕ) where
    pub numbers_register : OnSome (SmallRegister bound) (get k m.r)
    numbers_register = rising_get (λ k v. SmallRegister bound v) k 0 m.r small.registers

    pub numbers_cursor : OnSome (SmallCursor bound) (get k m.p)
    numbers_cursor = rising_get (λ k v. SmallCursor bound v) k 0 m.p small.cursors

    pub numbers_insert : (v : RegDataType) → SmallRegister bound v → SmallNumbers bound (with_registers (insert k v m.r) m)
    numbers_insert v s =
        record { registers = rising_insert (λ k v. SmallRegister bound v) k v s 0 (omega arith) m.r small.registers; cursors = small.cursors; bounded = small.bounded }

    pub numbers_insert_cursor : (v : CursorDataType) → SmallCursor bound v → SmallNumbers bound (with_cursors (insert k v m.p) m)
    numbers_insert_cursor v s =
        record { registers = small.registers; cursors = rising_insert (λ k v. SmallCursor bound v) k v s 0 (omega arith) m.p small.cursors; bounded = small.bounded }

    pub numbers_remove : SmallNumbers bound (with_registers (remove k m.r) m)
    numbers_remove = record { registers = rising_remove (λ k v. SmallRegister bound v) k 0 m.r small.registers; cursors = small.cursors; bounded = small.bounded }
