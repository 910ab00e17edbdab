-- What is read of held cells: a run is that of the value which the definition reads, good and with a small number; where there is none the
-- definition has none, and what is refused is refused there, with the same number. From `Accesses` and `Numbers`. Assumes nothing.
use mathlib.Core.Path.{◌≡◌, refl, sym, ap, ◌∙◌}
use Rattle.std.specs.Prelude.{Option, None, Some, option_map}
use Rattle.std.proofs.lemmas.Option.{none-some}
use mathlib.Core.List.{List}
use Prim.Native.Nat.{ℕ, ◌≤◌}
use lib.IntN.{ℤ}
use Rattle.model.specs.Walk.{Tried, refused, done}
use Rattle.model.specs.IntMap.{get}
use Rattle.model.specs.State.{MemoryState}
use Rattle.model.specs.Offer.{turns}
use Rattle.model.specs.Access.{read_register, read_cursor}
use Rattle.model.specs.Good.{GoodRegister, GoodCursor, GoodTable, OnSome}
use Rattle.model.proofs.Tried.{Kept, value, ◌>>◌}
use Rattle.model.proofs.IntMap.{rising_get}
use Rattle.model.proofs.Access.{index_small, table_good}
use Rattle.area.specs.declared.Cell.{Cell}
use Rattle.intmap.specs.Pack.{class_key}
use Rattle.intmap.specs.Get.{read_runs}
use Rattle.intmap.specs.Entries.{entries}
use Rattle.intmap.specs.Swap.{lookup}
use Rattle.encoding.specs.Encode.{run_register, run_cursor, run_table}
use Rattle.encoding.specs.Answers.{map_tried}
use Rattle.encoding.specs.Holds.{SmallRegister, SmallCursor, Holds}
use Rattle.encoding.proofs.StateRuns.{get_register}
use Rattle.encoding.proofs.Numbers.{numbers_register, numbers_cursor}
use Rattle.encoding.proofs.Accesses.{register_read, cursor_read, read_table}

-- a value that was read, and its run
pub record Value {A : Type 0} (P : A → Type 0) (run : A → List Cell) (r : List Cell) (t : Tried (Option A)) : Type 0 where
  pub value : A
  pub answer : t ≡ done (Some value)
  pub is : r ≡ run value
  pub has : P value

-- an answer in runs tells the definition's t
pub record Told {A : Type 0} (P : A → Type 0) (run : A → List Cell) (answer : Tried (Option (List Cell))) (t : Tried (Option A)) : Type 0 where
  pub present : (r : List Cell) → answer ≡ done (Some r) → Value P run r t
  pub absent : answer ≡ done None → t ≡ done None
  pub refuses : (n : ℕ) → answer ≡ refused n → t ≡ refused n

module _ {A : Type 0} {P : A → Type 0} {run : A → List Cell} where
  told : {answer : Tried (Option (List Cell))} {t : Tried (Option A)} → answer ≡ map_tried (option_map run) t → Kept (OnSome P) t → Told P run answer t
  told {t = t} same good = record { present = λ r e. here r t (sym same ∙ e) good; absent = λ e. gone t (sym same ∙ e); refuses = λ n e. stops n t (sym same ∙ e) }
    where
      here : (r : List Cell) (t : Tried (Option A)) → map_tried (option_map run) t ≡ done (Some r) → Kept (OnSome P) t → Value P run r t
      here r (refused k) e good = cc
      here r (done None) e good = absurd (none-some r cc)
      here r (done (Some v)) e (value p) = record { value = v; answer = refl; is = cc; has = p }

      gone : (t : Tried (Option A)) → map_tried (option_map run) t ≡ done None → t ≡ done None
      gone (refused k) e = cc
      gone (done None) e = refl
      gone (done (Some v)) e = absurd (none-some (run v) cc)

      stops : (n : ℕ) (t : Tried (Option A)) → map_tried (option_map run) t ≡ refused n → t ≡ refused n
      stops n (refused k) e = cc
      stops n (done o) e = cc

-- two properties of what was found
both : {A : Type 0} (k : ℕ) (P Q : A → Type 0) (o : Option A) → OnSome (λ v. (k ≤ 65535) × P v) o → OnSome Q o → OnSome (λ v. P v × Q v) o
both k P Q None p q = tt
both k P Q (Some v) p q = (p.1, q)

module _ {limit bound : ℕ} {cs : List Cell} {base len used : ℕ} {m : MemoryState} (holds : Holds limit bound cs base len used m) where
  -- a register, by a judged index and by any
  register_has : (k : ℕ) → OnSome (λ v. GoodRegister v × SmallRegister bound v) (get k m.r)
  register_has k = both k GoodRegister (SmallRegister bound) (get k m.r) (rising_get (λ j v. (j ≤ 65535) × GoodRegister v) k 0 m.r holds.good.registers) (numbers_register bound m holds.small k)

  pub told_register_at : (k : ℕ) → k ≤ 65535 → Told (λ v. GoodRegister v × SmallRegister bound v) (run_register (class_key 0 k)) (done (lookup (class_key 0 k) (entries cs 9 len base))) (done (get k m.r))
  told_register_at k h = told (ap (λ es. done (lookup (class_key 0 k) es)) holds.runs ∙ ap done (get_register limit m holds.good k h)) (value (register_has k))

  pub told_register : (i : ℤ) → Told (λ v. GoodRegister v × SmallRegister bound v) (run_register (class_key 0 (turns i))) (read_runs 0 i (entries cs 9 len base)) (read_register i m)
  told_register i = told (ap (read_runs 0 i) holds.runs ∙ register_read limit m holds.good i) (unfold read_register in (index_small i >> λ k _. value (register_has k)))

  -- a cursor
  pub told_cursor : (i : ℤ) → Told (λ v. GoodCursor v × SmallCursor bound v) (run_cursor (class_key 1 (turns i))) (read_runs 1 i (entries cs 9 len base)) (read_cursor i m)
  told_cursor i = told (ap (read_runs 1 i) holds.runs ∙ cursor_read limit m holds.good i) (unfold read_cursor in (index_small i >> λ k _. value (cursor_has k)))
    where
      cursor_has : (k : ℕ) → OnSome (λ v. GoodCursor v × SmallCursor bound v) (get k m.p)
      cursor_has k = both k GoodCursor (SmallCursor bound) (get k m.p) (rising_get (λ j v. (j ≤ 65535) × GoodCursor v) k 0 m.p holds.good.cursors) (numbers_cursor bound m holds.small k)

  -- a table, by its row
  pub told_table : (row : ℕ) → Told (λ t. (row ≤ 65535) × GoodTable t) (run_table (class_key 2 row)) (done (lookup (class_key 2 row) (entries cs 9 len base))) (done (get row m.t))
  told_table row = told (ap (λ es. done (lookup (class_key 2 row) es)) holds.runs ∙ ap done (read_table limit m holds.good row)) (value (table_good holds.good row))
