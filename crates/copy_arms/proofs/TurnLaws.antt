-- Turns of the definition's loop, first some and then the rest; registers carried where they stand, one after the other; and the loop over all.
-- Assumes nothing.
use Rattle.refusal.specs.declared.Refusal.{Refusal}
use Rattle.std.specs.Prelude.{Ok, Err}
use Rattle.intmap.specs.Store.{Stored}
use mathlib.Core.Path.{◌≡◌, refl, sym, ap, subst, ◌∙◌}
use mathlib.Core.Bool.{Bool}
use mathlib.Core.List.{List}
use Prim.Native.Nat.{ℕ, zero, suc, ◌+◌, ◌-◌, ◌<◌, ◌≤◌}
use native.Mathlib.Omega.{arith}
use Rattle.model.specs.Walk.{Tried, refused, done}
use Rattle.model.specs.State.{MemoryState}
use Rattle.model.specs.Access.{◌>>=◌}
use Rattle.area.specs.declared.Cell.{Cell}
use Rattle.intmap.specs.Get.{index_of, Judges, Index}
use Rattle.intmap.specs.Map.{IsMap}
use Rattle.intmap.specs.Signed.{offset, int_of}
use Rattle.intmap.specs.declared.IntMap.{IntMap}
use Rattle.state.specs.Leads.{Current, Leads}
use Rattle.state.proofs.LeadsLaws.{led_current, Reached, reached_first, reached_next, reached_as, reached_stop, reached_end, leads_then}
use Rattle.state.proofs.StoreLeads.{leads_as}
use Rattle.copy_arms.specs.Copies.{carry_one, carry_many}
use Rattle.copy_arms.specs.Gaps.{Gap}
use Rattle.copy_arms.specs.InPlace.{Alone, Leading, CarriesCell, CarriesRun}
use Rattle.copy_arms.proofs.CopyLaws.{regroup, carries_open, carries_end, carries_same, carries_on}
use Rattle.copy_arms.proofs.GapLaws.{index-place}
use Rattle.intmap.proofs.Overwritten.{alike_map}
use Rattle.copy_arms.proofs.PlaceLaws.{leading_next}

-- ---- turns of the definition's loop

pub bind_same : {A B : Type 0} (t : Tried A) (f g : A → Tried B) → ((v : A) → f v ≡ g v) → t >>= f ≡ t >>= g
bind_same (refused n) f g e = refl
bind_same (done v) f g e = e v

pub bind_done : {A : Type 0} (t : Tried A) (f : A → Tried A) → ((v : A) → f v ≡ done v) → t >>= f ≡ t
bind_done (refused n) f e = refl
bind_done (done v) f e = e v

module _ (limit : ℕ) (moves : Bool) where
  -- n turns from i and j on
  abbrev many : ℕ → ℕ → ℕ → MemoryState → Tried MemoryState
  many n i j = carry_many limit moves n (int_of i) (int_of j)

  -- r of n, and then the rest
  carries_split : (r n i j : ℕ) → r ≤ n → (m : MemoryState) → many n i j m ≡ many r i j m >>= many (n - r) (i + r) (j + r)
  carries_split zero n i j le m =
      carries_same limit moves n i j (n - 0) (i + 0) (j + 0) (omega arith) (omega arith) (omega arith) m
      ∙ sym (ap (λ t. t >>= many (n - 0) (i + 0) (j + 0)) (carries_end limit moves 0 i j (omega arith) m))
  carries_split (suc r) n i j le m =
      let less : suc r - 1 ≡ r = omega arith in
      let one = carry_one limit moves (int_of i) (int_of j) m in
      let rest = many (n - suc r) (i + suc r) (j + suc r) in
      carries_open limit moves n i j (omega arith) m
      ∙ bind_same one (many (n - 1) (i + 1) (j + 1)) (λ s. many r (i + 1) (j + 1) s >>= rest)
      (λ s.
      carries_split r (n - 1) (i + 1) (j + 1) (omega arith) s
      ∙ bind_same (many r (i + 1) (j + 1) s) (many (n - 1 - r) (i + 1 + r) (j + 1 + r)) rest (carries_same limit moves (n - 1 - r) (i + 1 + r) (j + 1 + r) (n - suc r) (i + suc r) (j + suc r) (omega arith) (omega arith) (omega arith)))
      ∙ regroup one (many r (i + 1) (j + 1)) rest
      ∙ ap (λ t. t >>= rest)
      (sym (carries_open limit moves (suc r) i j (omega arith) m ∙ bind_same one (many (suc r - 1) (i + 1) (j + 1)) (many r (i + 1) (j + 1)) (carries_same limit moves (suc r - 1) (i + 1) (j + 1) r (i + 1) (j + 1) less refl refl)))

  -- one more
  carries_more : (r i j p q : ℕ) → p ≡ i + r → q ≡ j + r → (m : MemoryState) → many r i j m >>= carry_one limit moves (int_of p) (int_of q) ≡ many (r + 1) i j m
  carries_more r i j p q pe qe m =
      let last : r + 1 - r ≡ 1 = omega arith in
      sym (
      carries_split r (r + 1) i j (omega arith) m
      ∙ bind_same (many r i j m) (many (r + 1 - r) (i + r) (j + r)) (carry_one limit moves (int_of p) (int_of q))
      (λ s.
      carries_same limit moves (r + 1 - r) (i + r) (j + r) 1 p q last (sym pe) (sym qe) s
      ∙ carries_open limit moves 1 p q (omega arith) s
      ∙ bind_done (carry_one limit moves (int_of p) (int_of q) s) (many (1 - 1) (p + 1) (q + 1)) (carries_end limit moves (1 - 1) (p + 1) (q + 1) (omega arith)))
      )

-- ---- registers carried where they stand

no_turns : (limit : ℕ) (cs : List Cell) (a : IntMap) (moves : Bool) (i j : ℕ) → Current limit cs a → Leads limit cs cs a (Ok a) (carry_many limit moves 0 (int_of i) (int_of j))
no_turns limit cs a moves i j current = reached_end (reached_first limit cs a (carry_many limit moves 0 (int_of i) (int_of j)) current) (carries_end limit moves 0 i j (omega arith))

-- d of them are carried from cs to ds, and the next are to be looked for at p + d and q + d
pub record Carrying (cs ds : List Cell) (a : IntMap) (moves : Bool) (p q k l d : ℕ) : Type 0 where
  pub map : IsMap ds a
  pub source : Leading ds a (p + d) (k + d)
  pub target : Leading ds a (q + d) (l + d)
  pub leads : (limit : ℕ) → Current limit cs a → Leads limit cs ds a (Ok a) (carry_many limit moves d (int_of (offset + k)) (int_of (offset + l)))

-- a place and a register, said otherwise
leading_as : {ds : List Cell} {a : IntMap} (p k q l : ℕ) → p ≡ q → k ≡ l → Leading ds a p k → Leading ds a q l
leading_as {ds} {a} p k q l pe ke h = subst (λ x. Leading ds a x l) pe (subst (λ x. Leading ds a p x) ke h)

pub carrying_first : (cs : List Cell) (a : IntMap) (moves : Bool) (p q k l : ℕ) → IsMap cs a → Leading cs a p k → Leading cs a q l → Carrying cs cs a moves p q k l 0
carrying_first cs a moves p q k l is source target =
    record {
      map = is;
      source = leading_as p k (p + 0) (k + 0) (omega arith) (omega arith) source;
      target = leading_as q l (q + 0) (l + 0) (omega arith) (omega arith) target;
      leads = λ limit current. no_turns limit cs a moves (offset + k) (offset + l) current;
    }

pub carrying_on : {cs ds es : List Cell} {a : IntMap} {moves : Bool} {p q k l d : ℕ} → Carrying cs ds a moves p q k l d → Alone ds a (p + d) (k + d) → Alone ds a (q + d) (l + d) → CarriesCell ds es a moves (k + d) (l + d) → Carrying cs es a moves p q k l (d + 1)
carrying_on {cs} {ds} {es} {a} {moves} {p} {q} {k} {l} {d} c source target cell =
    record {
      map = alike_map cell.alike c.map;
      source = leading_as (p + d + 1) (k + d + 1) (p + (d + 1)) (k + (d + 1)) (omega arith) (omega arith) (leading_next c.map source (c.source.found source) cell.alike);
      target = leading_as (q + d + 1) (l + d + 1) (q + (d + 1)) (l + (d + 1)) (omega arith) (omega arith) (leading_next c.map target (c.target.found target) cell.alike);
      leads = λ limit current.
          (let led = c.leads limit current in
          leads_as (Ok a) (carries_more limit moves d (offset + k) (offset + l) (offset + (k + d)) (offset + (l + d)) (omega arith) (omega arith))
          (leads_then limit cs ds a (carry_many limit moves d (int_of (offset + k)) (int_of (offset + l))) (carry_one limit moves (int_of (offset + (k + d))) (int_of (offset + (l + d)))) current es a (Ok a) led (cell.leads limit (led_current current a led))));
    }

pub carrying_end : {cs ds : List Cell} {a : IntMap} {moves : Bool} {p q k l d : ℕ} (n : ℕ) → Carrying cs ds a moves p q k l d → d ≤ n → CarriesRun cs ds a moves (offset + k) (offset + l) n d
carrying_end n c le = record { most = le; leads = c.leads }

-- ---- by the words of registers

pub run_none : (cs : List Cell) (a : IntMap) (moves : Bool) (i j n : ℕ) → CarriesRun cs cs a moves i j n 0
run_none cs a moves i j n = record { most = omega arith; leads = λ limit current. no_turns limit cs a moves i j current }

word : (i k : ℕ) (x : Index) → Judges i x → x ≡ Ok k → offset + k ≡ i
word i k x judged e = let p = index-place i k (sym judged.answer ∙ ap index_of e) in omega (arith, p.0, p.1)

pub run_of : {cs ds : List Cell} {a : IntMap} {moves : Bool} {n r : ℕ} (i k : ℕ) (x : Index) → Judges i x → x ≡ Ok k → (j l : ℕ) (y : Index) → Judges j y → y ≡ Ok l
    → CarriesRun cs ds a moves (offset + k) (offset + l) n r → CarriesRun cs ds a moves i j n r
run_of {cs} {ds} {a} {moves} {n} {r} i k x ij xe j l y jj ye c =
    subst (λ z. CarriesRun cs ds a moves i z n r) (word j l y jj ye) (subst (λ z. CarriesRun cs ds a moves z (offset + l) n r) (word i k x ij xe) c)

-- ---- the loop over all: d of n turns are done

pub leads_to : {limit : ℕ} {cs ds : List Cell} {a b c : IntMap} {f : MemoryState → Tried MemoryState} → b ≡ c → Leads limit cs ds a (Ok c) f → Leads limit cs ds a (Ok b) f
leads_to {limit} {cs} {ds} {a} {b} {c} {f} e = subst (λ x. Leads limit cs ds a (Ok x) f) (sym e)

module _ (limit : ℕ) (moves : Bool) (n i j : ℕ) where
  -- what is still to come
  abbrev pub rest : ℕ → MemoryState → Tried MemoryState
  rest d = carry_many limit moves (n - d) (int_of (i + d)) (int_of (j + d))

  module _ {cs ds : List Cell} {a b : IntMap} {whole : MemoryState → Tried MemoryState} (d : ℕ) (reached : Reached limit cs ds a b whole (carry_many limit moves (n - d) (int_of (i + d)) (int_of (j + d)))) where
    -- r more, where they stand
    pub turns_run : {es : List Cell} (r : ℕ) → CarriesRun ds es b moves (i + d) (j + d) (n - d) r → Reached limit cs es a b whole (carry_many limit moves (n - (d + r)) (int_of (i + (d + r))) (int_of (j + (d + r))))
    turns_run {es} r run =
        reached_as
        (reached_next reached es (carry_many limit moves r (int_of (i + d)) (int_of (j + d))) (carry_many limit moves (n - d - r) (int_of (i + d + r)) (int_of (j + d + r))) (carries_split limit moves r (n - d) (i + d) (j + d) run.most) (Ok b) (run.leads limit reached.current) b refl)
        (rest (d + r))
        (λ bound m h. carries_same limit moves (n - d - r) (i + d + r) (j + d + r) (n - (d + r)) (i + (d + r)) (j + (d + r)) (omega arith) (omega arith) (omega arith) m)

    -- all of them
    pub turns_end : n ≤ d → Leads limit cs ds a (Ok b) whole
    turns_end le = reached_end reached (carries_end limit moves (n - d) (i + d) (j + d) (omega arith))

    module _ (lt : d < n) {es : List Cell} (s : Stored) (led : Leads limit ds es b s (carry_one limit moves (int_of (i + d)) (int_of (j + d)))) where
      opens : (m : MemoryState) → carry_many limit moves (n - d) (int_of (i + d)) (int_of (j + d)) m ≡ carry_one limit moves (int_of (i + d)) (int_of (j + d)) m >>= carry_many limit moves (n - d - 1) (int_of (i + d + 1)) (int_of (j + d + 1))
      opens = carries_open limit moves (n - d) (i + d) (j + d) (omega arith)

      -- one that is refused
      pub turns_stop : (k : Refusal) → s ≡ Err k → Leads limit cs es a (Err k) whole
      turns_stop k e = reached_stop reached es (carry_one limit moves (int_of (i + d)) (int_of (j + d))) (carry_many limit moves (n - d - 1) (int_of (i + d + 1)) (int_of (j + d + 1))) opens s led k e

      -- one that is stored, and the gap behind it
      pub turns_on : (c : IntMap) → s ≡ Ok c → (r : ℕ) → Gap es c (i + d + 1) (n - d - 1) r → Reached limit cs es a c whole (carry_many limit moves (n - (d + (1 + r))) (int_of (i + (d + (1 + r)))) (int_of (j + (d + (1 + r)))))
      turns_on c e r gap =
          carries_on limit moves (n - d) (i + d) (j + d) (n - (d + (1 + r))) (i + (d + (1 + r))) (j + (d + (1 + r))) reached (omega arith) s led c e r gap (omega arith) (omega arith) (omega arith)
