-- The top theorem, `call_claims`: the claims of specs/CallClaims.antt hold of every call. Assumes nothing.
use mathlib.Core.Path.{◌≡◌, refl, sym, ap, subst, ◌∙◌}
use mathlib.Core.Logic.{◌⊎◌, inl, inr, ◌↔◌}
use mathlib.Core.Bool.{Bool, true, false, ◌&&◌, ◌||◌}
use Rattle.std.specs.Prelude.{Option, None, Some, slice_get}
use mathlib.Core.List.{List, [], ◌∷◌, ◌++◌}
use Prim.Native.Nat.{ℕ, zero, suc, ◌≤◌, max}
use native.Mathlib.Omega.{arith}
use lib.Dec.{leb, eqb}
use lib.ListN.{length, drop}
use borrow.Author.Tests.{leb-true, leb-false, eqb-true}
use Rattle.type_info.specs.All.{All, all_nil, all_cons}
use Rattle.model.specs.Walk.{◌∈◌, Tried, refused, done, Ways, Notes, Walked, refused_with, answered, notes_of}
use Rattle.model.specs.Steps.{pick}
use Rattle.model.specs.WalkClaims.{RepeatsCounted, Quiet, Coverage}
use Rattle.model.specs.Row.{Row}
use Rattle.model.specs.State.{MemoryState, fresh}
use Rattle.model.specs.Equality.{eq_state}
use Rattle.model.specs.Access.{◌>>=◌}
use Rattle.model.specs.Catalogue.{CatalogueRecord}
use Rattle.model.specs.Meaning.{standard}
use Rattle.model.specs.Explain.{row_of, ways, units, space_of}
use Rattle.model.specs.Refusals.{of_row}
use Rattle.model.specs.Good.{Good, GoodWays, Each, OnSome}
use Rattle.model.specs.Results.{ResultColumn, ResultRow, columns_of}
use Rattle.model.specs.Columns.{widest}
use Rattle.model.specs.Run.{gas_given, walk_listing}
use Rattle.model.specs.Answer.{Answer, answer_of, outcome_of}
use Rattle.model.specs.ListingText.{read_listing}
use Rattle.model.specs.CatalogueText.{ValidRecord, read_catalogue}
use Rattle.model.specs.AnswerText.{print_answer}
use Rattle.model.specs.Call.{or_refused, done_if, rows_of, records_of, area_fits, print_into, outcome, leave, call}
use Rattle.model.specs.CallClaims.{ColumnsSay, Reached, WalkClaims, AnswerClaims, Walks, Answered, CallClaims}
use Rattle.model.proofs.Refuses.{Refuses, refusal, value, ◌>>◌}
use Rattle.model.proofs.Refusals.{row_refusals}
use Rattle.model.proofs.RefusedWalk.{refused_because}
use Rattle.model.proofs.Same.{state_decides}
use Rattle.model.proofs.Repeats.{repeats_counted}
use Rattle.model.proofs.Columns.{columns_say, columns_width, says_as}
use Rattle.model.proofs.Catalogue.{SmallColumn, standard_good}
use Rattle.model.proofs.Good.{fresh_good, ways_good}
use Rattle.model.proofs.States.{everywhere}
use Rattle.model.proofs.TextTheorems.{catalogue_text}
use Rattle.model.proofs.WalkTheorems.{limits, taken_up_lem, coverage}

-- the numbers of a call's refusals
abbrev Number : ℕ → Type 0
Number k = (1 ≤ k) × (k ≤ 12)

of_row-number : (k : ℕ) → of_row k ≡ true → Number k
unfolding of_row
of_row-number k e = go (leb 6 k) (leb k 10) refl refl e
  where
    go : (a b : Bool) → leb 6 k ≡ a → leb k 10 ≡ b → ((a && b) || eqb k 12) ≡ true → Number k
    go true true ea eb h = (omega (arith, leb-true 6 k ea), omega (arith, leb-true k 10 eb))
    go true false ea eb h = (omega (arith, eqb-true k 12 h), omega (arith, eqb-true k 12 h))
    go false b ea eb h = (omega (arith, eqb-true k 12 h), omega (arith, eqb-true k 12 h))

read_number : {A : Type 0} (k : ℕ) → Number k → (o : Option A) → Refuses Number (or_refused k o)
read_number k h None = refusal h
read_number k h (Some a) = value

test_number : {A : Type 0} (k : ℕ) → Number k → (b : Bool) (a : A) → Refuses Number (done_if k b a)
test_number k h true a = value
test_number k h false a = refusal h

no_space_lem : (k : ℕ) → k ≡ 11 → Number k
no_space_lem k e = (omega arith, omega arith)

module _ (rows : List Row) (records : List CatalogueRecord) (area : ℕ) where
  walk_number : Refuses Number (outcome_of (walk_listing (standard records) rows area))
  unfolding outcome_of
  walk_number = go (walk_listing (standard records) rows area) refl
    where
      go : (w : Walked MemoryState ResultRow) → walk_listing (standard records) rows area ≡ w → Refuses Number (outcome_of w)
      go (refused_with k n) e =
          elim (refused_because eq_state (row_of rows) (ways (standard records) rows) (units rows) gas_given fresh (space_of (standard records) rows area) k n e) [
            | inl is ↦ refusal (no_space_lem k is)
            | inr why ↦ refusal (of_row-number k (row_refusals (standard records) rows why.0 why.1 k why.2))
          ]
      go (answered n) e = value

outcome-number : (listing catalogue : List ℕ) (area room : ℕ) → Refuses Number (outcome listing catalogue area room)
unfolding outcome rows_of records_of print_into
outcome-number listing catalogue area room =
    (read_number 1 (omega arith, omega arith) (read_listing listing) >> λ rows. test_number 3 (omega arith, omega arith) (leb (length rows) 2048) rows)
    >> λ rows. ((read_number 2 (omega arith, omega arith) (read_catalogue catalogue) >> λ records. test_number 3 (omega arith, omega arith) (leb (length records) 4096) records)
    >> λ records. (test_number 4 (omega arith, omega arith) (area_fits (standard records) rows area) rows
    >> λ _. (walk_number rows records area
    >> λ a. test_number 5 (omega arith, omega arith) (leb (length (print_answer a)) room) (print_answer a))))

-- what a call leaves of an outcome
module _ (answer : List ℕ) where
  left_number : {t : Tried (List ℕ)} → Refuses Number t → (leave answer t).number ≤ 12
  unfolding leave
  left_number (refusal h) = h.1
  left_number value = omega arith

  left_refused : (t : Tried (List ℕ)) → ((leave answer t).number ≡ 0 → ⊥) → ((leave answer t).size ≡ 0) × ((leave answer t).answer ≡ answer)
  unfolding leave
  left_refused (refused k) h = (refl, refl)
  left_refused (done text) h = absurd (h refl)

  left_answered : {t : Tried (List ℕ)} → Refuses Number t → (leave answer t).number ≡ 0 → (text : List ℕ) × (t ≡ done text)
  unfolding leave
  left_answered (refusal h) e = absurd (omega (arith, h.0))
  left_answered (value {a = text}) e = (text, refl)

-- what stands behind a value
tried_done : {A B : Type 0} (t : Tried A) (f : A → Tried B) {b : B} → (t >>= f) ≡ done b → (a : A) × (t ≡ done a) × (f a ≡ done b)
tried_done (refused k) f e = cc
tried_done (done a) f e = (a, refl, e)

test_done : {A : Type 0} (k : ℕ) (b : Bool) (a : A) {c : A} → done_if k b a ≡ done c → (b ≡ true) × (a ≡ c)
test_done k true a e = (refl, cc)
test_done k false a e = cc

read_done : {A : Type 0} (k : ℕ) (o : Option A) {c : A} → or_refused k o ≡ done c → o ≡ Some c
read_done k None e = cc
read_done k (Some a) e = cc

walked-done : (w : Walked MemoryState ResultRow) {a : Answer} → outcome_of w ≡ done a → (n : Notes MemoryState ResultRow) × (w ≡ answered n) × (answer_of n ≡ a)
unfolding outcome_of
walked-done (refused_with k n) e = cc
walked-done (answered n) e = (n, refl, cc)

-- the columns of a set of rows and of an equal one
columns_as :
    (X Y : ResultRow → Type 0) (same : (r : ResultRow) → X r ↔ Y r) (columns : List ResultColumn) →
    ColumnsSay X columns →
    ColumnsSay Y columns
columns_as X Y same columns s =
    record {
      wide = λ r h. s.wide r ((same r).1 h);
      widest = elim s.widest [ inl e ↦ inl e | inr x ↦ inr (x.0, (same x.0).0 x.1, x.2) ];
      each = λ i c e. says_as X Y same i c (s.each i c e);
    }

-- the width
wide_enough : (rs : List ResultRow) (r : ResultRow) → r ∈ rs → length r.columns ≤ widest rs
unfolding widest
wide_enough [] r i = elim i [ ]
wide_enough (x ∷ rs) r (inl e) = subst (λ (y : ResultRow). length y.columns ≤ max (length x.columns) (widest rs)) e (omega arith)
wide_enough (x ∷ rs) r (inr i) = omega (arith, wide_enough rs r i)

widest-there : (rs : List ResultRow) → (widest rs ≡ 0) ⊎ ((r : ResultRow) × (r ∈ rs) × (length r.columns ≡ widest rs))
unfolding widest
widest-there [] = inl refl
widest-there (x ∷ rs) = go (leb (widest rs) (length x.columns)) refl (widest-there rs)
  where
    go :
        (b : Bool) →
        leb (widest rs) (length x.columns) ≡ b →
        (widest rs ≡ 0) ⊎ ((r : ResultRow) × (r ∈ rs) × (length r.columns ≡ widest rs)) →
        (max (length x.columns) (widest rs) ≡ 0) ⊎ ((r : ResultRow) × (r ∈ (x ∷ rs)) × (length r.columns ≡ max (length x.columns) (widest rs)))
    go true e h = inr (x, inl refl, omega (arith, leb-true (widest rs) (length x.columns) e))
    go false e (inl z) = absurd (omega (arith, leb-false (widest rs) (length x.columns) e))
    go false e (inr y) = inr (y.0, inr y.1, omega (arith, y.2, leb-false (widest rs) (length x.columns) e))

counted_say : (rs : List ResultRow) → ColumnsSay (λ r. r ∈ rs) (columns_of rs)
counted_say rs =
    record {
      wide = λ r i. omega (arith, wide_enough rs r i, columns_width rs);
      widest = elim (widest-there rs) [ inl e ↦ inl (columns_width rs ∙ e) | inr x ↦ inr (x.0, x.1, x.2 ∙ sym (columns_width rs)) ];
      each = columns_say rs;
    }

module _ (rows : List Row) (records : List CatalogueRecord) (area : ℕ) where
  sound : (a b : MemoryState) → eq_state a b ≡ true → a ≡ b
  sound = state_decides.sound

  repeats : RepeatsCounted (ways (standard records) rows)
  repeats m w e u = sym (repeats_counted (standard records) rows m w u e) ∙ e

  answer_claims : (n : Notes MemoryState ResultRow) → walk_listing (standard records) rows area ≡ answered n → AnswerClaims rows records n
  answer_claims n e =
      record {
        taken_up = taken_up_lem eq_state (row_of rows) (ways (standard records) rows) (units rows) gas_given fresh (space_of (standard records) rows area) sound n e;
        counted = counted_say n.counted;
        coverage = covered;
        reached = λ q. columns_as (λ r. r ∈ n.counted) (Reached rows records) (covered q).exact (columns_of n.counted) (counted_say n.counted);
      }
    where
      covered : Quiet n → Coverage (row_of rows) (ways (standard records) rows) fresh n
      covered = coverage eq_state (row_of rows) (ways (standard records) rows) (units rows) gas_given fresh (space_of (standard records) rows area) sound repeats n e

-- every way of good ways is good
picked_good : (limit : ℕ) (w : Ways MemoryState ResultRow) → GoodWays limit w → (k : ℕ) (s : MemoryState) → pick k w ≡ Some s → Good limit s
unfolding pick
picked_good limit w g zero s e = subst (OnSome (Good limit)) e g.stays
picked_good limit w g (suc k) s e = nth w.branches k g.branches e
  where
    nth : (ms : List MemoryState) (k : ℕ) → Each (Good limit) ms → slice_get ms k ≡ Some s → Good limit s
    nth [] k h e = cc
    nth (m ∷ ms) zero h e = subst (OnSome (Good limit)) e h.0
    nth (m ∷ ms) (suc k) h e = nth ms k h.1 e

pub small_columns : (xs : List CatalogueRecord) → All ValidRecord xs → Each SmallColumn xs
small_columns [] all_nil = tt
small_columns (x ∷ xs) (all_cons h more) = (h.col_small, small_columns xs more)

module _ (listing catalogue : List ℕ) (area : ℕ) where
  few_rows : (rows : List Row) → rows_of listing ≡ done rows → length rows ≤ 2048
  unfolding rows_of
  few_rows rows e =
      let x = tried_done (or_refused 1 (read_listing listing)) (λ rs. done_if 3 (leb (length rs) 2048) rs) e in
      let y = test_done 3 (leb (length x.0) 2048) x.0 x.2 in
      subst (λ rs. length rs ≤ 2048) y.1 (leb-true (length x.0) 2048 y.0)

  valid_records : (records : List CatalogueRecord) → records_of catalogue ≡ done records → All ValidRecord records
  unfolding records_of
  valid_records records e =
      let x = tried_done (or_refused 2 (read_catalogue catalogue)) (λ rs. done_if 3 (leb (length rs) 4096) rs) e in
      let y = test_done 3 (leb (length x.0) 4096) x.0 x.2 in
      subst (All ValidRecord) y.1 ((catalogue_text.is catalogue x.0).0 (read_done 2 (read_catalogue catalogue) x.1)).0

  walk_claims : (rows : List Row) (records : List CatalogueRecord) → Walks listing catalogue area rows records → WalkClaims rows records (notes_of (walk_listing (standard records) rows area))
  walk_claims rows records w =
      record {
        limits = limits eq_state (row_of rows) (ways (standard records) rows) (units rows) gas_given fresh (space_of (standard records) rows area);
        good = everywhere eq_state (row_of rows) (ways (standard records) rows) (units rows) (Good 512) handed gas_given fresh (space_of (standard records) rows area) (fresh_good 512);
      }
    where
      handed : (again : Bool) (m : MemoryState) (o : Ways MemoryState ResultRow) → Good 512 m → ways (standard records) rows again m ≡ done o → (k : ℕ) (s : MemoryState) → pick k o ≡ Some s → Good 512 s
      handed again m o g e =
          picked_good 512 o
          (ways_good (standard records) (standard_good records (small_columns records (valid_records records w.catalogued))) rows
          (omega (arith, few_rows rows w.listed)) again m g o e)

  module _ (answer : List ℕ) where
    -- the parts of an answer, put together
    together :
        (rows : List Row) (records : List CatalogueRecord) (n : Notes MemoryState ResultRow) (text : List ℕ) →
        Walks listing catalogue area rows records →
        walk_listing (standard records) rows area ≡ answered n →
        print_answer (answer_of n) ≡ text →
        length text ≤ length answer →
        outcome listing catalogue area (length answer) ≡ done text →
        Answered listing catalogue area answer
    unfolding call leave
    together rows records n text w e same room o =
        record {
          rows = rows;
          records = records;
          walks = w;
          notes = n;
          ends = e;
          size = ap (λ t. (leave answer t).size) o ∙ ap length (sym same);
          room = subst (λ t. length t ≤ length answer) (sym same) room;
          bytes = ap (λ t. (leave answer t).answer) o ∙ ap (λ t. t ++ drop (length t) answer) (sym same);
          claims = answer_claims rows records area n e;
        }

    -- an answer's parts, taken from the outcome one by one
    printed :
        (rows : List Row) (records : List CatalogueRecord) (text : List ℕ) →
        Walks listing catalogue area rows records →
        (outcome_of (walk_listing (standard records) rows area) >>= λ a. print_into (length answer) a) ≡ done text →
        outcome listing catalogue area (length answer) ≡ done text →
        Answered listing catalogue area answer
    unfolding print_into
    printed rows records text w e o =
        let a = tried_done (outcome_of (walk_listing (standard records) rows area)) _ e in
        let n = walked-done (walk_listing (standard records) rows area) a.1 in
        let p = test_done 5 (leb (length (print_answer a.0)) (length answer)) (print_answer a.0) a.2 in
        together rows records n.0 text w n.1 (ap print_answer n.2 ∙ p.1)
        (subst (λ t. length t ≤ length answer) p.1 (leb-true (length (print_answer a.0)) (length answer) p.0)) o

    answered_claims : (text : List ℕ) → outcome listing catalogue area (length answer) ≡ done text → Answered listing catalogue area answer
    unfolding outcome
    answered_claims text e =
        let r = tried_done (rows_of listing) _ e in
        let c = tried_done (records_of catalogue) _ r.2 in
        let f = tried_done (done_if 4 (area_fits (standard c.0) r.0 area) r.0) _ c.2 in
        let fits = (test_done 4 (area_fits (standard c.0) r.0 area) r.0 f.1).0 in
        printed r.0 c.0 text (record { listed = r.1; catalogued = c.1; fits = fits }) f.2 e

    pub call_claims : CallClaims listing catalogue area answer
    unfolding call
    call_claims =
        let h = outcome-number listing catalogue area (length answer) in
        let t = outcome listing catalogue area (length answer) in
        record {
          number = left_number answer h;
          refused = λ z. let x = left_refused answer t z in record { size = x.0; bytes = x.1 };
          answered = λ z. let x = left_answered answer h z in answered_claims x.0 x.1;
          walk = walk_claims;
        }
