-- A register that is copied or moved, one or many of them, where absent ones are passed over; and the definition's arms in the words of a judged
-- row. Assumes nothing.
use Rattle.refusal.specs.Numbers.{number_of}
use Rattle.refusal.specs.declared.Refusal.{Refusal}
use mathlib.Core.Path.{◌≡◌, refl, sym, ap, subst, ◌∙◌}
use mathlib.Core.Bool.{Bool, true, false}
use Rattle.std.specs.Prelude.{Option, None, Some, Ok, Err}
use mathlib.Core.List.{List}
use Prim.Native.Nat.{ℕ, zero, suc, ◌+◌, ◌-◌, ◌<◌, ◌≤◌}
use native.Mathlib.Omega.{arith}
use lib.ListN.{get_or}
use lib.IntN.{ℤ, suc_ℤ}
use Rattle.model.specs.Walk.{Tried, refused, done}
use Rattle.model.specs.Row.{Row as Listed}
use Rattle.model.specs.State.{RegDataType, Column, MemoryState, null}
use Rattle.model.specs.Offer.{turns}
use Rattle.model.specs.Access.{◌>>=◌, read_register, store_register}
use Rattle.model.specs.Good.{GoodRegister}
use Rattle.model.specs.Meaning.{Meaning}
use Rattle.model.specs.Operation.{op_copy_one, op_copy, op_move}
use Rattle.model.specs.RegisterArms.{copy_to, copy_many, move_some, move_many, register_arm}
use Rattle.area.specs.Cells.{blank}
use Rattle.area.specs.declared.Cell.{Cell}
use Rattle.intmap.specs.Pack.{class_key}
use Rattle.intmap.specs.Runs.{size}
use Rattle.intmap.specs.Entries.{span}
use Rattle.intmap.specs.Map.{levels}
use Rattle.intmap.specs.Signed.{int_of}
use Rattle.intmap.specs.Store.{Stored}
use Rattle.intmap.specs.Get.{Gets, Slot}
use Rattle.intmap.specs.declared.IntMap.{IntMap}
use Rattle.intmap.proofs.StoreLaws.{frame_same}
use Rattle.intmap.proofs.SignedLaws.{int_suc, int_turns}
use Rattle.encoding.specs.Encode.{run_register}
use Rattle.encoding.specs.Holds.{SmallRegister}
use Rattle.encoding.proofs.HeldRead.{Value, told_register}
use Rattle.rows.specs.Judged.{Judged}
use Rattle.rows.specs.declared.row.Row.{Row}
use Rattle.state.specs.Leads.{Current, HoldsMap, Tells, Leaves, Leads}
use Rattle.state.specs.Arms.{Standard}
use Rattle.state.specs.Reads.{Reads}
use Rattle.state.proofs.OverLaws.{headed_here}
use Rattle.state.proofs.ReadLaws.{read_bad, read_absent}
use Rattle.state.proofs.LeadsLaws.{Reached, reached_next, reached_as}
use Rattle.copy_arms.specs.Copies.{StoresFrom, carry_some, carry_one, carry_many}
use Rattle.copy_arms.specs.Gaps.{gap_if, gap, Gap}

-- ---- a register that is read first

-- `next` is what the definition does with it
module _ (limit : ℕ) (cs : List Cell) (a : IntMap) (i : ℕ) (next : Option RegDataType → MemoryState → Tried MemoryState) where
  read_stop : (n : Refusal) → Reads cs a i (Err n) → Leads limit cs cs a (Err n) (λ m. read_register (int_of i) m >>= λ v. next v m)
  read_stop n reads =
      record {
        says = λ bound m le h. ap (λ t. t >>= λ v. next v m) (reads.says limit bound m h);
        leaves = tt;
        frame = frame_same cs cs a.base (limit + limit) refl;
      }

  read_none : Current limit cs a → ((m : MemoryState) → next None m ≡ done m) → Reads cs a i (Ok None) → Leads limit cs cs a (Ok a) (λ m. read_register (int_of i) m >>= λ v. next v m)
  read_none current same reads =
      record {
        says = λ bound m le h. record { state = m; answer = ap (λ t. t >>= λ v. next v m) (reads.says limit bound m h) ∙ same m; holds = h };
        leaves = record { base = refl; room = current.room };
        frame = frame_same cs cs a.base (limit + limit) refl;
      }

-- nothing is read
carries_none : (limit : ℕ) (moves : Bool) (i j : ℤ) (m : MemoryState) → carry_some limit moves i j None m ≡ done m
carries_none limit false i j m = refl
carries_none limit true i j m = refl

-- what is read can't be stored
carries_stop : (limit : ℕ) (moves : Bool) (i j : ℤ) (v : RegDataType) (m : MemoryState) (n : ℕ) → store_register limit j v m ≡ refused n → carry_some limit moves i j (Some v) m ≡ refused n
carries_stop limit false i j v m n e = e
carries_stop limit true i j v m n e = ap (λ t. t >>= store_register limit i (Column null)) e

-- ---- by the place of its run

module _ (limit : ℕ) (cs : List Cell) (a : IntMap) (i : ℕ) (current : Current limit cs a) (x : Slot) (g : Gets cs a 0 i x) where
  module _ (p : ℕ) (e : x ≡ Ok (Some p)) where
    there : Gets cs a 0 i (Ok (Some p))
    there = subst (Gets cs a 0 i) e g

    pub found_value : (bound : ℕ) (m : MemoryState) → HoldsMap limit bound cs a m → Value (λ v. GoodRegister v × SmallRegister bound v) (run_register (class_key 0 (turns (int_of i)))) (span cs p (size cs levels p)) (read_register (int_of i) m)
    found_value bound m h = (told_register h (int_of i)).present (span cs p (size cs levels p)) (sym there.answer)

  -- it is carried
  module _ (moves : Bool) (j : ℕ) where
    pub carry_bad : (n : Refusal) → x ≡ Err n → Leads limit cs cs a (Err n) (carry_one limit moves (int_of i) (int_of j))
    unfolding carry_one
    carry_bad n e = read_stop limit cs a i (carry_some limit moves (int_of i) (int_of j)) n (read_bad cs a i x g n e)

    pub carry_absent : x ≡ Ok None → Leads limit cs cs a (Ok a) (carry_one limit moves (int_of i) (int_of j))
    unfolding carry_one
    carry_absent e = read_none limit cs a i (carry_some limit moves (int_of i) (int_of j)) current (carries_none limit moves (int_of i) (int_of j)) (read_absent cs a i x g e)

    module _ (p : ℕ) (e : x ≡ Ok (Some p)) (c : Cell) (ce : c ≡ get_or cs p blank) (ds : List Cell) (s : Stored) (stores : StoresFrom limit cs ds a p c j s) where
      -- the definition, where there is a value
      opened : (bound : ℕ) (m : MemoryState) (h : HoldsMap limit bound cs a m) → carry_one limit moves (int_of i) (int_of j) m ≡ carry_some limit moves (int_of i) (int_of j) (Some (found_value p e bound m h).value) m
      unfolding carry_one
      opened bound m h = ap (λ t. t >>= λ v. carry_some limit moves (int_of i) (int_of j) v m) (found_value p e bound m h).answer

      told : (bound : ℕ) (m : MemoryState) (h : HoldsMap limit bound cs a m) → Tells limit bound ds s (store_register limit (int_of j) (found_value p e bound m h).value m)
      told bound m h =
          let v = found_value p e bound m h in
          stores.says bound m h (class_key 0 (turns (int_of i))) v.value (omega (arith, v.has.0.depth)) v.has.0.sorted v.has.1 (headed_here cs p c ce ∙ v.is)

      pub carry_copies : moves ≡ false → Leads limit cs ds a s (carry_one limit moves (int_of i) (int_of j))
      carry_copies q =
          record {
            says = λ bound m le h.
                subst (Tells limit bound ds s) (sym (opened bound m h ∙ ap (λ b. carry_some limit b (int_of i) (int_of j) (Some (found_value p e bound m h).value) m) q)) (told bound m h);
            leaves = stores.leaves;
            frame = stores.frame;
          }

      pub carry_stop : (n : Refusal) → s ≡ Err n → Leads limit cs ds a (Err n) (carry_one limit moves (int_of i) (int_of j))
      carry_stop n r =
          record {
            says = λ bound m le h.
                opened bound m h
                ∙ carries_stop limit moves (int_of i) (int_of j) (found_value p e bound m h).value m (number_of n)
                (subst (λ z. Tells limit bound ds z (store_register limit (int_of j) (found_value p e bound m h).value m)) r (told bound m h));
            leaves = tt;
            frame = stores.frame;
          }

      module _ (q : moves ≡ true) where
        moved_as : (bound : ℕ) (m : MemoryState) (h : HoldsMap limit bound cs a m) → carry_one limit moves (int_of i) (int_of j) m ≡ store_register limit (int_of j) (found_value p e bound m h).value m >>= store_register limit (int_of i) (Column null)
        moved_as bound m h = opened bound m h ∙ ap (λ b. carry_some limit b (int_of i) (int_of j) (Some (found_value p e bound m h).value) m) q

        pub carry_next : (b : IntMap) → s ≡ Ok b → Reached limit cs ds a b (carry_one limit moves (int_of i) (int_of j)) (store_register limit (int_of i) (Column null))
        carry_next b r =
            let stays = subst (Leaves limit ds a) r stores.leaves in
            record {
              says = λ bound m le h.
                  (let w = subst (λ z. Tells limit bound ds z (store_register limit (int_of j) (found_value p e bound m h).value m)) r (told bound m h) in
                  record { state = w.state; same = moved_as bound m h ∙ ap (λ t. t >>= store_register limit (int_of i) (Column null)) w.answer; holds = w.holds });
              base = stays.base;
              current =
                  (let w = subst (λ z. Tells limit current.bound ds z (store_register limit (int_of j) (found_value p e current.bound current.state current.holds).value current.state)) r (told current.bound current.state current.holds) in
                  record { room = stays.room; scratch = omega (arith, stays.base, stores.frame.long, current.scratch); bound = current.bound; large = current.large; fits = current.fits; state = w.state; holds = w.holds });
              frame = stores.frame;
            }

-- ---- turns of the definition's loops

-- one register on, in words
onward : (g : ℕ → ℤ → ℤ → MemoryState → Tried MemoryState) (t : Tried MemoryState) (n i j : ℕ) → t >>= g n (suc_ℤ (int_of i)) (suc_ℤ (int_of j)) ≡ t >>= g (suc n - 1) (int_of (i + 1)) (int_of (j + 1))
onward g t n i j =
    let e : n ≡ suc n - 1 = omega arith in
    ap (λ k. t >>= g n k (suc_ℤ (int_of j))) (int_suc i) ∙ ap (λ k. t >>= g n (int_of (i + 1)) k) (int_suc j) ∙ ap (λ k. t >>= g k (int_of (i + 1)) (int_of (j + 1))) e

pub regroup : {A B C : Type 0} (t : Tried A) (f : A → Tried B) (g : B → Tried C) → (t >>= λ v. f v >>= g) ≡ t >>= f >>= g
regroup (refused n) f g = refl
regroup (done v) f g = refl

module _ (limit : ℕ) where
  pub carries_open : (moves : Bool) (n i j : ℕ) → 0 < n → (m : MemoryState) → carry_many limit moves n (int_of i) (int_of j) m ≡ carry_one limit moves (int_of i) (int_of j) m >>= carry_many limit moves (n - 1) (int_of (i + 1)) (int_of (j + 1))
  unfolding carry_many carry_one copy_many copy_to move_many
  carries_open moves zero i j lt m = absurd (omega arith)
  carries_open false (suc n) i j lt m = onward (copy_many limit) (copy_to limit (int_of i) (int_of j) (λ v. v) m) n i j
  carries_open true (suc n) i j lt m =
      regroup (read_register (int_of i) m) (λ v. move_some limit (int_of i) (int_of j) v m) (move_many limit n (suc_ℤ (int_of i)) (suc_ℤ (int_of j)))
      ∙ onward (move_many limit) (read_register (int_of i) m >>= λ v. move_some limit (int_of i) (int_of j) v m) n i j

  pub carries_end : (moves : Bool) (n i j : ℕ) → n ≤ 0 → (m : MemoryState) → carry_many limit moves n (int_of i) (int_of j) m ≡ done m
  unfolding carry_many copy_many move_many
  carries_end false zero i j le m = refl
  carries_end true zero i j le m = refl
  carries_end moves (suc n) i j le m = absurd (omega arith)

  -- the same turns, said otherwise
  pub carries_same : (moves : Bool) (n i j k p q : ℕ) → n ≡ k → i ≡ p → j ≡ q → (m : MemoryState) → carry_many limit moves n (int_of i) (int_of j) m ≡ carry_many limit moves k (int_of p) (int_of q) m
  carries_same moves n i j k p q ne ie je m =
      ap (λ z. carry_many limit moves z (int_of i) (int_of j) m) ne ∙ ap (λ z. carry_many limit moves k (int_of z) (int_of j) m) ie ∙ ap (λ z. carry_many limit moves k (int_of p) (int_of z) m) je

  -- one that reads nothing does nothing
  carries_past : (moves : Bool) (n i j : ℕ) (m : MemoryState) → read_register (int_of i) m ≡ done None → carry_many limit moves (suc n) (int_of i) (int_of j) m ≡ carry_many limit moves n (int_of (i + 1)) (int_of (j + 1)) m
  unfolding carry_one
  carries_past moves n i j m e =
      let less : suc n - 1 ≡ n = omega arith in
      carries_open moves (suc n) i j (omega arith) m
      ∙ ap (λ t. t >>= (λ v. carry_some limit moves (int_of i) (int_of j) v m) >>= carry_many limit moves (suc n - 1) (int_of (i + 1)) (int_of (j + 1))) e
      ∙ ap (λ t. t >>= carry_many limit moves (suc n - 1) (int_of (i + 1)) (int_of (j + 1))) (carries_none limit moves (int_of i) (int_of j) m)
      ∙ carries_same moves (suc n - 1) (i + 1) (j + 1) n (i + 1) (j + 1) less refl refl m

  -- nor do the turns of a gap
  carries_gap : (moves : Bool) (n i j r : ℕ) (m : MemoryState) → r ≡ gap n (int_of i) m → carry_many limit moves n (int_of i) (int_of j) m ≡ carry_many limit moves (n - r) (int_of (i + r)) (int_of (j + r)) m
  unfolding gap
  carries_gap moves zero i j r m e = carries_same moves zero i j (zero - r) (i + r) (j + r) (omega arith) (omega arith) (omega arith) m
  carries_gap moves (suc n) i j r m e = go (read_register (int_of i) m) refl e (carries_gap moves n (i + 1) (j + 1) (gap n (int_of (i + 1)) m) m refl)
    where
      go : (t : Tried (Option RegDataType)) → read_register (int_of i) m ≡ t → r ≡ gap_if t (gap n (suc_ℤ (int_of i)) m)
          → carry_many limit moves n (int_of (i + 1)) (int_of (j + 1)) m ≡ carry_many limit moves (n - gap n (int_of (i + 1)) m) (int_of (i + 1 + gap n (int_of (i + 1)) m)) (int_of (j + 1 + gap n (int_of (i + 1)) m)) m
          → carry_many limit moves (suc n) (int_of i) (int_of j) m ≡ carry_many limit moves (suc n - r) (int_of (i + r)) (int_of (j + r)) m
      go (refused k) read e ih = carries_same moves (suc n) i j (suc n - r) (i + r) (j + r) (omega arith) (omega arith) (omega arith) m
      go (done (Some v)) read e ih = carries_same moves (suc n) i j (suc n - r) (i + r) (j + r) (omega arith) (omega arith) (omega arith) m
      go (done None) read e ih =
          let long : r ≡ suc (gap n (int_of (i + 1)) m) = e ∙ ap (λ z. suc (gap n z m)) (int_suc i) in
          carries_past moves n i j m read ∙ ih
          ∙ carries_same moves (n - gap n (int_of (i + 1)) m) (i + 1 + gap n (int_of (i + 1)) m) (j + 1 + gap n (int_of (i + 1)) m) (suc n - r) (i + r) (j + r) (omega arith) (omega arith) (omega arith) m

  -- a turn of the loop, and the gap behind it
  pub carries_on : {cs ds es : List Cell} {a b : IntMap} (moves : Bool) (n i j k p q : ℕ) {whole : MemoryState → Tried MemoryState} → Reached limit cs ds a b whole (carry_many limit moves n (int_of i) (int_of j)) → 0 < n
      → (s : Stored) → Leads limit ds es b s (carry_one limit moves (int_of i) (int_of j)) → (c : IntMap) → s ≡ Ok c
      → (r : ℕ) → Gap es c (i + 1) (n - 1) r → k ≡ n - (1 + r) → p ≡ i + (1 + r) → q ≡ j + (1 + r)
      → Reached limit cs es a c whole (carry_many limit moves k (int_of p) (int_of q))
  carries_on {es = es} moves n i j k p q reached lt s led c e r gapped ke pe qe =
      reached_as (reached_next reached es _ _ (carries_open moves n i j lt) s led c e) _
      (λ bound m h.
      carries_gap moves (n - 1) (i + 1) (j + 1) r m (gapped.says limit bound m h)
      ∙ carries_same moves (n - 1 - r) (i + 1 + r) (j + 1 + r) k p q (omega arith) (omega arith) (omega arith) m)

-- ---- the definition's arms

pub carry_copy-one : (limit : ℕ) (i j : ℤ) (m : MemoryState) → carry_one limit false i j m ≡ copy_to limit i j (λ v. v) m
unfolding carry_one copy_to
carry_copy-one limit i j m = refl

module _ (limit : ℕ) (meaning : Meaning) (l : Listed) (x : Row) (s : Standard limit meaning) (j : Judged l x) where
  pub arm_copy_one : (m : MemoryState) → copy_to limit (int_of x.p1) (int_of x.p2) (λ v. v) m ≡ register_arm meaning l m op_copy_one
  unfolding register_arm
  arm_copy_one m = rw (s.cells, j.p1, j.p2)

  pub arm_copy : (n : ℕ) → n ≡ x.p3 + 1 - 9223372036854775808 → (m : MemoryState) → carry_many limit false n (int_of x.p1) (int_of x.p2) m ≡ register_arm meaning l m op_copy
  unfolding register_arm carry_many
  arm_copy n e m =
      let t : n ≡ turns (suc_ℤ l.p3) = e ∙ sym (int_turns (x.p3 + 1)) ∙ ap turns (sym (int_suc x.p3)) ∙ ap (λ k. turns (suc_ℤ k)) j.p3 in
      ap (λ k. copy_many limit k (int_of x.p1) (int_of x.p2) m) t ∙ rw (s.cells, j.p1, j.p2)

  pub arm_move : (n : ℕ) → n ≡ x.p3 - 9223372036854775808 → (m : MemoryState) → carry_many limit true n (int_of x.p1) (int_of x.p2) m ≡ register_arm meaning l m op_move
  unfolding register_arm carry_many
  arm_move n e m =
      let t : n ≡ turns l.p3 = e ∙ sym (int_turns x.p3) ∙ ap turns j.p3 in
      ap (λ k. move_many limit k (int_of x.p1) (int_of x.p2) m) t ∙ rw (s.cells, j.p1, j.p2)
