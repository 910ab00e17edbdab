-- A judged row has Yield's operation exactly when its name is "Yield"; the row that a number names, and where it goes. Assumes nothing.
use mathlib.Core.Path.{◌≡◌, refl, sym, ap, subst, ◌∙◌}
use mathlib.Core.Bool.{Bool, true, false, not, ◌&&◌, ◌||◌, false≢true, and-eq-true_iff}
use Rattle.std.specs.Prelude.{Option, None, Some, slice_get, option_map}
use mathlib.Core.List.{List, [], ◌∷◌}
use Prim.Native.Nat.{ℕ, zero, suc, ◌+◌, ◌-◌, ◌<◌, ◌≤◌}
use native.Mathlib.Omega.{arith}
use lib.Dec.{eqb, ltb}
use lib.ListN.{length, get_or}
use borrow.Author.Tests.{eqb-true, ltb-true, ltb-false}
use Rattle.std.proofs.lemmas.Option.{slice_get_past}
use Rattle.type_info.specs.Ascii.{ascii, equals}
use Rattle.type_info.proofs.Tables.{passes, passes_at}
use Rattle.type_info.proofs.Words.{same_equals}
use Rattle.model.specs.Row.{Row as Listed}
use Rattle.model.specs.TextTable.{Named, first_for, or_else}
use Rattle.model.specs.IntMap.{get_if}
use Rattle.model.specs.Operation.{Operation as Arm, JumpOperation, jumps, op_if_pos, registers, cursors, op_result_row, no_arm, op_goto, op_gosub, op_branch, op_is_null, op_not_null, op_must_be_int, op_if, op_rewind, op_init_coroutine, op_end_coroutine, op_return, op_yield, op_jump, op_halt, operations as names, operation_of}
use Rattle.model.specs.Offer.{row_at}
use Rattle.model.specs.JumpArms.{is_yield, target_if, yield_target, row_after_yield}
use Rattle.model.proofs.TestLaws.{cases}
use Rattle.model.proofs.ReaderLaws.{never}
use Rattle.area.specs.Cells.{blank}
use Rattle.area.specs.declared.Cell.{Cell}
use Rattle.intmap.specs.Signed.{offset, int_of}
use Rattle.intmap.proofs.SignedLaws.{iff, row_below, row_above, int_suc}
use Rattle.opcode.specs.Opcode.{arm_of, number, operations, operation_at}
use Rattle.opcode.specs.declared.Operation.{Operation}
use Rattle.opcode.specs.declared.Operation.TheVariants.{Yield}
use Rattle.opcode.proofs.Numbers.{read_again, number-below}
use Rattle.rows.specs.Rows.{parts, row_in}
use Rattle.rows.specs.Judged.{JudgedParts, Judged, HaveRows}
use Rattle.rows.specs.declared.row.Row.{Row}
use Rattle.jump_arms.specs.Arms.{RowAfter}
use Rattle.coroutine_arms.specs.Arms.{RowsInside, Targets, Follows}

-- ---- the number and the name

abbrev yield_jump : JumpOperation → Bool
yield_jump op_goto = false
yield_jump op_gosub = false
yield_jump op_branch = false
yield_jump op_is_null = false
yield_jump op_not_null = false
yield_jump op_must_be_int = false
yield_jump op_if = false
yield_jump op_rewind = false
yield_jump op_init_coroutine = false
yield_jump op_end_coroutine = false
yield_jump op_return = false
yield_jump op_yield = true
yield_jump op_jump = false
yield_jump op_halt = false

abbrev yields : Arm → Bool
yields (jumps o) = yield_jump o
yields op_if_pos = false
yields (registers o) = false
yields (cursors o) = false
yields op_result_row = false
yields no_arm = false

-- of the operations, Yield alone
only : ℕ → Bool
only n = not (yields (arm_of (operation_at n))) || eqb n 12

all_only : passes only 0 43 ≡ true
unfolding passes only operation_at operations
all_only = refl

implied : {a b : Bool} → not a || b ≡ true → a ≡ true → b ≡ true
implied {a} {b} e h = sym (ap (λ c. not c || b) h) ∙ e

yield_is : (o : Operation) → yields (arm_of o) ≡ true → o ≡ Yield
unfolding only operation_at operations
yield_is o y =
    let tested : only (number o) ≡ true = passes_at only 0 43 all_only (number o) (omega arith) (number-below o) in
    sym (read_again o) ∙ ap operation_at (eqb-true (number o) 12 (implied tested (ap (λ p. yields (arm_of p)) (read_again o) ∙ y)))

-- of the names, "Yield" alone
named : List (Named Arm) → Bool
named [] = true
named (n ∷ more) = (not (yields n.value) || equals n.text (ascii "Yield")) && named more

all_named : named names ≡ true
unfolding named names equals ascii
all_named = refl

name_is : (name : List ℕ) (table : List (Named Arm)) → named table ≡ true → yields (or_else no_arm (first_for equals name table)) ≡ true → equals name (ascii "Yield") ≡ true
unfolding named first_for
name_is name [] e y = absurd (false≢true y)
name_is name (n ∷ more) e y =
    let (first, rest) = (and-eq-true_iff (not (yields n.value) || equals n.text (ascii "Yield")) (named more)).0 e in
    cases (equals name n.text)
    (λ same. ap (λ t. equals t (ascii "Yield")) (same_equals name n.text same) ∙ implied first (sym (ap (λ b. yields (or_else no_arm (get_if b n.value (first_for equals name more)))) same) ∙ y))
    (λ other. name_is name more rest (sym (ap (λ b. yields (or_else no_arm (get_if b n.value (first_for equals name more)))) other) ∙ y))

yield_named : yields (operation_of (ascii "Yield")) ≡ true
unfolding names operation_of first_for equals ascii
yield_named = refl

pub yield_named_only : (l : Listed) (x : Row) → Judged l x → is_yield l ≡ yields (arm_of x.op)
unfolding is_yield operation_of
yield_named_only l x j =
    iff
    (λ e. ap yields j.op ∙ ap (λ t. yields (operation_of t)) (same_equals l.op (ascii "Yield") e) ∙ yield_named)
    (λ e. name_is l.op names all_named (sym (ap yields j.op) ∙ e))

-- ---- the row that a word names

within-some : {A : Type 0} (xs : List A) (k : ℕ) → k < length xs → slice_get xs k ≡ None → ⊥
within-some [] k h e = absurd (omega arith)
within-some (a ∷ xs) zero h e = never (sym e)
within-some (a ∷ xs) (suc k) h e = within-some xs k (omega arith) e

abbrev found : Bool → ℕ → Option ℕ
found true p = Some p
found false p = None

module _ (cs : List Cell) (from n w : ℕ) where
  pub target_below : w < offset → Targets cs from n w None
  target_below h = record { says = λ rows have len. sym (ap yield_target (row_below w rows h)) }

  module _ (above : offset ≤ w) where
    pub target_past : n ≤ w - offset → Targets cs from n w None
    target_past h = record { says = λ rows have len. sym (ap yield_target (row_above w rows above ∙ slice_get_past rows (w - offset) (omega (arith, len)))) }

    module _ (x : Row) (lt : w - offset < n) (is : parts x ≡ row_in (get_or cs (from + (w - offset)) blank)) where
      -- a row of the listing stands there
      row_told : (t : Bool) → yields (arm_of x.op) ≡ t → (rows : List Listed) → HaveRows cs from rows → length rows ≡ n → option_map int_of (found t x.p2) ≡ yield_target (row_at rows (int_of w))
      row_told t e rows have len = go (slice_get rows (w - offset)) refl
        where
          goes : (t : Bool) (l : Listed) → Judged l x → target_if t l ≡ option_map int_of (found t x.p2)
          goes true l j = ap Some (sym j.p2)
          goes false l j = refl

          go : (o : Option Listed) → slice_get rows (w - offset) ≡ o → option_map int_of (found t x.p2) ≡ yield_target (row_at rows (int_of w))
          go None q = absurd (within-some rows (w - offset) (omega (arith, len)) q)
          go (Some l) q =
              let j : Judged l x = subst (JudgedParts l) (sym is) (have (w - offset) l q).judged in
              sym (ap yield_target (row_above w rows above ∙ q) ∙ ap (λ b. target_if b l) (yield_named_only l x j ∙ e) ∙ goes t l j)

      pub target_yield : x.op ≡ Yield → Targets cs from n w (Some x.p2)
      target_yield e = record { says = row_told true (ap (λ o. yields (arm_of o)) e) }

      pub target_other : (x.op ≡ Yield → ⊥) → Targets cs from n w None
      target_other ne = record { says = row_told false (cases (yields (arm_of x.op)) (λ y. absurd (ne (yield_is x.op y))) (λ no. no)) }

  -- a word that names a Yield row is not the last word
  named_low : RowsInside cs from n → (t : Option ℕ) (p : ℕ) → Targets cs from n w t → t ≡ Some p → (rows : List Listed) → HaveRows cs from rows → length rows ≡ n → w < 18446744073709551615
  named_low inside t p told e rows have len =
      cases (ltb w 18446744073709551615) (ltb-true w 18446744073709551615)
      (λ f.
      let high = ltb-false w 18446744073709551615 f in
      absurd (never (sym (ap (option_map int_of) (sym e) ∙ told.says rows have len ∙ ap yield_target (row_above w rows (omega (arith, high)) ∙ slice_get_past rows (w - offset) (omega (arith, high, len, inside.small, inside.held.inside)))))))

  pub follows_next : RowsInside cs from n → (t : Option ℕ) (p r : ℕ) → Targets cs from n w t → t ≡ Some p → RowAfter w r → Follows cs from n w r
  follows_next inside t p r told e after =
      record {
        says = λ rows have len.
            ap int_of (after.next (named_low inside t p told e rows have len)) ∙ sym (int_suc w) ∙ ap (λ o. row_after_yield o (int_of w)) (ap (option_map int_of) (sym e) ∙ told.says rows have len);
      }
