-- A column depends on its own cells alone: where the same cells stand elsewhere, they are the same column. What a copy of columns goes by.
-- Assumes nothing.
use mathlib.Core.Path.{◌≡◌, refl, ap, ◌∙◌}
use mathlib.Core.List.{List}
use mathlib.Core.Bool.{Bool, true, false}
use Prim.Native.Nat.{ℕ, zero, suc, ◌+◌, ◌-◌, ◌<◌, ◌≤◌}
use native.Mathlib.Omega.{arith}
use native.Mathlib.Nat.{add-zero, add_assoc, add-suc}
use lib.ListN.{length, get_or, set}
use lib.Dec.{eqb}
use Rattle.area.specs.Cells.{blank}
use Rattle.area.specs.Moves.{moved}
use Rattle.area.specs.declared.Cell.{Cell}
use Rattle.area.proofs.MoveLaws.{moved_below, length_moved}
use Rattle.intmap.specs.Pack.{tag_of}
use Rattle.intmap.specs.Runs.{sizes, whole, size, Agree, Copyable, Copied}
use Rattle.intmap.proofs.RunLaws.{size-pos, size-single, size_record, sizes_room, sizes-turn}

pub agree_part : (cs ds : List Cell) (p q n k m : ℕ) → k + m ≤ n → Agree cs p ds q n → Agree cs (p + k) ds (q + k) m
agree_part cs ds p q n k m le a j lt =
    let x : q + k + j ≡ q + (k + j) = omega arith in
    let y : p + k + j ≡ p + (k + j) = omega arith in
    rw (x, y) (a (k + j) (omega arith))

pub agree_first : (cs ds : List Cell) (p q n m : ℕ) → m ≤ n → Agree cs p ds q n → Agree cs p ds q m
agree_first cs ds p q n m le a j lt = a j (omega arith)

-- of n columns, where it holds of each
module _ (f g : ℕ → ℕ) (cs ds : List Cell) (one : (p q : ℕ) → Agree cs p ds q (f p) → g q ≡ f p) where
  pub sizes_same : (n p q : ℕ) → Agree cs p ds q (sizes f n p) → sizes g n q ≡ sizes f n p
  unfolding sizes
  sizes_same zero p q a = refl
  sizes_same (suc n) p q a =
      let e : g q ≡ f p = one p q (agree_first cs ds p q (f p + sizes f n (p + f p)) (f p) (omega arith) a) in
      rw e (ap (λ (x : ℕ). f p + x) (sizes_same n (p + f p) (q + f p) (agree_part cs ds p q (f p + sizes f n (p + f p)) (f p) (sizes f n (p + f p)) (omega arith) a)))

  whole_same : (t : Bool) (n p q : ℕ) → Agree cs p ds q (whole f t n p) → whole g t n q ≡ whole f t n p
  unfolding whole
  whole_same true n p q a = ap (λ (x : ℕ). 1 + x) (sizes_same n (p + 1) (q + 1) (agree_part cs ds p q (1 + sizes f n (p + 1)) 1 (sizes f n (p + 1)) (omega arith) a))
  whole_same false n p q a = refl

pub agree_head : (cs ds : List Cell) (p q n : ℕ) → 0 < n → Agree cs p ds q n → get_or ds q blank ≡ get_or cs p blank
agree_head cs ds p q n lt a =
    let x : q + 0 ≡ q = omega arith in
    let y : p + 0 ≡ p = omega arith in
    rw (x, y) at (a 0 lt)

pub size_same : (cs ds : List Cell) (d p q : ℕ) → Agree cs p ds q (size cs d p) → size ds d q ≡ size cs d p
unfolding size
size_same cs ds zero p q a = refl
size_same cs ds (suc d) p q a =
    let e : get_or ds q blank ≡ get_or cs p blank = agree_head cs ds p q (size cs (suc d) p) (size-pos cs (suc d) p) a in
    rw e (whole_same (size cs d) (size ds d) cs ds (size_same cs ds d) (eqb (tag_of (get_or cs p blank)) 2) (get_or cs p blank).payload p q a)

-- a copy that is done in two parts, the source below the place that it goes to
pub moved_on : (cs : List Cell) (f t k r : ℕ) → f + k + r ≤ t → moved (moved cs f t k) (f + k) (t + k) r ≡ moved cs f t (k + r)
unfolding moved
moved_on cs f t k zero le = simp add-zero
moved_on cs f t k (suc r) le =
    let ih = moved_on cs f t k r (omega arith) in
    let read : get_or (moved cs f t k) (f + k + r) blank ≡ get_or cs (f + k + r) blank = moved_below cs f t k (f + k + r) (omega arith) in
    rw (read, ih, add-suc) (simp add_assoc)

-- what lies below the place that a copy goes to is as it was
pub agree_below : (cs : List Cell) (f t k p n : ℕ) → p + n ≤ t → Agree cs p (moved cs f t k) p n
agree_below cs f t k p n le j lt = moved_below cs f t k (p + j) (omega arith)

-- columns that lie below the place that a copy goes to are as they were
module _ (cs ds : List Cell) (f t k : ℕ) (e : ds ≡ moved cs f t k) where
  pub size_below : (d p : ℕ) → p + size cs d p ≤ t → size ds d p ≡ size cs d p
  size_below d p le = rw e (size_same cs (moved cs f t k) d p p (agree_below cs f t k p (size cs d p) le))

  pub sizes_below : (d n p : ℕ) → p + sizes (size cs d) n p ≤ t → sizes (size ds d) n p ≡ sizes (size cs d) n p
  sizes_below d n p le =
      rw e (sizes_same (size cs d) (size (moved cs f t k) d) cs (moved cs f t k) (size_same cs (moved cs f t k) d) n p p (agree_below cs f t k p (sizes (size cs d) n p) le))

-- a store of the cell at f to t is a copy of one cell
pub one-moved : (cs ds : List Cell) (f t s : ℕ) (c : Cell) → c ≡ get_or cs f blank → ds ≡ set cs t c → 1 ≡ s → ds ≡ moved cs f t s
unfolding moved
one-moved cs ds f t s c r w e = w ∙ rw (← e, r) (simp add-zero)

-- a record's cell, and then its columns
pub record_moved : (cs ds es : List Cell) (d f t r : ℕ) (x : Cell) → x ≡ get_or cs f blank → ds ≡ set cs t x → 0 < d → tag_of x ≡ 2 → f + size cs d f ≤ t → r ≡ sizes (size ds (d - 1)) x.payload (f + 1) → es ≡ moved ds (f + 1) (t + 1) (sizes (size ds (d - 1)) x.payload (f + 1)) → (1 + r ≡ size cs d f) × (es ≡ moved cs f t (size cs d f))
record_moved cs ds es d f t r x p w deep tag le c m =
    let e : ds ≡ moved cs f t 1 = one-moved cs ds f t 1 x p w refl in
    let s = size_record cs d f x p deep tag in
    let b = sizes_below cs ds f t 1 e (d - 1) x.payload (f + 1) (omega arith) in
    let q : 1 + r ≡ size cs d f = omega arith in
    (q, m ∙ rw (← c, e) (moved_on cs f t 1 r (omega arith)) ∙ ap (moved cs f t) q)

-- a copy of as many cells as were counted
pub copied : {cs ds : List Cell} {from to n r : ℕ} → r ≡ n → ds ≡ moved cs from to n → Copied cs ds from to n r
copied {cs} {ds} {from} {to} {n} e w = record { count = e; cells = w; long = ap length w ∙ length_moved cs from to n }

-- the loop that copies n columns, when k cells are copied: the columns left have the rest
pub record Copying (cs now : List Cell) (d f t n left k : ℕ) : Type 0 where
  pub able : Copyable cs f t (sizes (size cs d) n f)
  pub done : now ≡ moved cs f t k
  pub rest : k + sizes (size cs d) left (f + k) ≡ sizes (size cs d) n f

-- a turn of it: the next column can be copied, and a copy of it, or of its cell where it is alone, leads to the next turn
module _ {cs now : List Cell} {d f t n left k : ℕ} (turn : Copying cs now d f t n left k) (more : 0 < left) where
  fits : k + size cs d (f + k) ≤ sizes (size cs d) n f
  fits = sizes_room (size cs d) left f k (sizes (size cs d) n f) more turn.rest

  as_was : size now d (f + k) ≡ size cs d (f + k)
  as_was = size_below cs now f t k turn.done d (f + k) (omega (arith, turn.able.apart, fits))

  pub next_able : Copyable now (f + k) (t + k) (size now d (f + k))
  next_able =
      let long : length now ≡ length cs = ap length turn.done ∙ length_moved cs f t k in
      record { apart = omega (arith, turn.able.apart, fits, as_was); room = omega (arith, turn.able.room, fits, as_was); small = omega (arith, turn.able.small) }

  pub next_copied : {after : List Cell} {r : ℕ} → Copied now after (f + k) (t + k) (size now d (f + k)) r → Copying cs after d f t n (left - 1) (k + r)
  next_copied {after} {r} new =
      record {
        able = turn.able;
        done = new.cells ∙ rw (← new.count, turn.done) (moved_on cs f t k r (omega (arith, turn.able.apart, fits, as_was, new.count)));
        rest = sizes-turn (size cs d) left f k r (sizes (size cs d) n f) more (new.count ∙ as_was) turn.rest;
      }

  pub next_single : {after : List Cell} (c : Cell) → c ≡ get_or now (f + k) blank → (tag_of c ≡ 2 → ⊥) → after ≡ set now (t + k) c → Copying cs after d f t n (left - 1) (k + 1)
  next_single {after} c r alone w =
      let one = size-single now d (f + k) c r alone in
      next_copied (copied one (one-moved now after (f + k) (t + k) (size now d (f + k)) c r w one))
