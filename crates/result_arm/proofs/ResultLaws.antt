-- The width of a result row is judged first, then the range of its registers, as the definition's arm does. Assumes nothing.
use Rattle.refusal.specs.declared.Refusal.TheVariants.{TooWide}
use mathlib.Core.Path.{◌≡◌, sym, ap, ◌∙◌}
use mathlib.Core.Bool.{false}
use Rattle.std.specs.Prelude.{None, Some, Ok, Err}
use mathlib.Core.List.{List, [], ◌∷◌}
use Prim.Native.Nat.{ℕ, ◌-◌, ◌<◌, ◌≤◌}
use native.Mathlib.Omega.{arith}
use borrow.Author.Tests.{le-leb, lt-leb}
use Rattle.model.specs.Walk.{Tried, done}
use Rattle.model.specs.Row.{Row as Listed}
use Rattle.model.specs.State.{ColumnType, MemoryState}
use Rattle.model.specs.Access.{◌>>=◌, next, read_columns}
use Rattle.model.specs.Results.{result_columns}
use Rattle.model.specs.Offer.{Offer, turns}
use Rattle.model.specs.ResultArm.{result_if, result_row_arm}
use Rattle.intmap.specs.Signed.{offset, int_of}
use Rattle.intmap.proofs.SignedLaws.{int_turns}
use Rattle.rows.specs.Judged.{Judged}
use Rattle.rows.specs.declared.row.Row.{Row}
use Rattle.record_arms.specs.Records.{JudgesRange, Range, columns_from}
use Rattle.result_arm.specs.Results.{JudgesRow}

-- n is the width
module _ (x : Row) (n : ℕ) (ne : n ≡ x.p2 - offset) where
  width : (l : Listed) → Judged l x → n ≡ turns l.p2
  width l j = ne ∙ sym (int_turns x.p2) ∙ ap turns j.p2

  pub row_wide : 2000 < n → JudgesRow x (Err TooWide)
  unfolding result_row_arm
  row_wide h = record { says = λ row l j m. ap (λ b. result_if b row l m) (lt-leb (turns l.p2) 2000 (omega (arith, width l j))); narrow = tt }

  module _ (h : n ≤ 2000) where
    -- the arm, with what it reads
    abbrev after : Tried (List ColumnType) → ℕ → MemoryState → Offer
    after t row m =
        t >>= λ cs. done (record { branches = next m ∷ []; stays = None; result = Some (record { row = row; columns = result_columns cs }); repeat = false })

    reads : (l : Listed) → Judged l x → (m : MemoryState) → read_columns (turns l.p2) l.p1 m ≡ read_columns n (int_of x.p1) m
    reads l j m = ap (λ k. read_columns k l.p1 m) (sym (width l j)) ∙ ap (λ z. read_columns n z m) (sym j.p1)

    arm_is : (row : ℕ) (l : Listed) → Judged l x → (m : MemoryState) → result_row_arm row l m ≡ after (read_columns (turns l.p2) l.p1 m) row m
    unfolding result_row_arm
    arm_is row l j m = ap (λ b. result_if b row l m) (le-leb (turns l.p2) 2000 (omega (arith, width l j)))

    pub row_judged : (r : Range) → JudgesRange x.p1 n r → JudgesRow x r
    row_judged (Err k) g = record { says = λ row l j m. arm_is row l j m ∙ ap (λ t. after t row m) (reads l j m ∙ g.says m); narrow = tt }
    row_judged (Ok r) g =
        let read = λ (l : Listed) (j : Judged l x) (m : MemoryState). reads l j m ∙ g.says m ∙ ap (λ k. done (columns_from k r.first m)) (sym g.many) in
        record {
          says = λ row l j m. record {
            width = g.many ∙ width l j;
            read = read l j m;
            answer = arm_is row l j m ∙ ap (λ t. after t row m) (read l j m);
          };
          narrow = omega (arith, g.many, h);
        }
