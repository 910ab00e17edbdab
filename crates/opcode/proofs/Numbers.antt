-- Numbers of operations: each is read as it was written. Assumes nothing.
use mathlib.Core.Path.{◌≡◌, refl, sym, ap, subst, ◌∙◌}
use mathlib.Core.List.{List, [], ◌∷◌, map}
use Prim.Native.Nat.{ℕ, ◌+◌, ◌<◌, ◌≤◌}
use native.Mathlib.Omega.{arith}
use lib.Dec.{leb}
use lib.ListN.{get_or-eq_default}
use borrow.Author.Tests.{leb-true, leb-false}
use Rattle.model.proofs.TestLaws.{cases}
use Rattle.opcode.specs.declared.Operation.{Operation}
use Rattle.opcode.specs.declared.Operation.TheVariants.{Other, Goto, Gosub, Branch, IsNull, NotNull, MustBeInt, If, Rewind, InitCoroutine, EndCoroutine, Return, Yield, Jump, Halt, IfPos, MakeRecord, Variable, HaltIfNull, Function, AggStep, AggFinal, Cast, CopyOne, Copy, Move, Integer, Null, Arithmetic, ConstantInteger, ConstantFloat, ConstantText, ConstantBlob, Column, RowData, Insert, Delete, OpenPseudo, OpenDup, OpenRead, OpenEphemeral, NullRow, ResultRow}
use Rattle.opcode.specs.Opcode.{number, operations, operation_at, Numbered}
use Rattle.opcode.proofs.Arms.{NoneOf, numbers_from, number_behind}

pub read_again : (o : Operation) → operation_at (number o) ≡ o
unfolding operation_at operations
read_again Other = refl
read_again Goto = refl
read_again Gosub = refl
read_again Branch = refl
read_again IsNull = refl
read_again NotNull = refl
read_again MustBeInt = refl
read_again If = refl
read_again Rewind = refl
read_again InitCoroutine = refl
read_again EndCoroutine = refl
read_again Return = refl
read_again Yield = refl
read_again Jump = refl
read_again Halt = refl
read_again IfPos = refl
read_again MakeRecord = refl
read_again Variable = refl
read_again HaltIfNull = refl
read_again Function = refl
read_again AggStep = refl
read_again AggFinal = refl
read_again Cast = refl
read_again CopyOne = refl
read_again Copy = refl
read_again Move = refl
read_again Integer = refl
read_again Null = refl
read_again Arithmetic = refl
read_again ConstantInteger = refl
read_again ConstantFloat = refl
read_again ConstantText = refl
read_again ConstantBlob = refl
read_again Column = refl
read_again RowData = refl
read_again Insert = refl
read_again Delete = refl
read_again OpenPseudo = refl
read_again OpenDup = refl
read_again OpenRead = refl
read_again OpenEphemeral = refl
read_again NullRow = refl
read_again ResultRow = refl

pub number-below : (o : Operation) → number o < 43
unfolding operation_at operations
number-below o = cases (leb 43 (number o)) (λ e. absurd (past (leb-true 43 (number o) e))) (λ e. leb-false 43 (number o) e)
  where
    past : 43 ≤ number o → ⊥
    past le =
        let other : number Other ≡ number o = ap number (sym (get_or-eq_default operations Other le) ∙ read_again o) in
        omega (arith, le, other)

-- a number is read as the operation at it
pub numbered_is : (n : ℕ) (o : Operation) → Numbered n o → o ≡ operation_at n
unfolding operation_at operations
numbered_is n o h =
    cases (leb 43 n)
    (λ e. h.other (leb-true 43 n e) ∙ sym (get_or-eq_default operations Other (leb-true 43 n e)))
    (λ e. sym (read_again o) ∙ ap operation_at (h.known (leb-false 43 n e)))

pub operation_is : {o : Operation} (p : Operation) → number o ≡ number p → o ≡ p
operation_is {o} p e = sym (read_again o) ∙ ap operation_at e ∙ read_again p

-- an operation that is none of some has another number than they
unfoldable pub NotThese : Operation → List Operation → Type 0
NotThese o [] = Unit
NotThese o (p ∷ ps) = NotThese o ps × (o ≡ p → ⊥)

pub other_numbers : (o : Operation) (ps : List Operation) → NotThese o ps → NoneOf (number o) (map number ps)
unfolding NotThese NoneOf
other_numbers o [] h = tt
other_numbers o (p ∷ ps) h = (other_numbers o ps h.0, λ e. h.1 (operation_is p e))

-- none of the `count` operations from the number `first` on is a number past them
pub number_past : (o : Operation) (first count : ℕ) (ps : List Operation) → map number ps ≡ numbers_from first count → first ≤ number o → NotThese o ps → first + count ≤ number o
number_past o first count ps same low h = number_behind (number o) first count low (subst (NoneOf (number o)) same (other_numbers o ps h))
