-- Accesses one after the other lead to the definition's, one after the other: what is still to come from the state now is what the whole gives,
-- which is the invariant of a loop. Assumes nothing.
use Rattle.refusal.specs.declared.Refusal.{Refusal}
use Rattle.std.specs.Prelude.{Ok, Err}
use Rattle.intmap.specs.Store.{Stored, stored_of, Stores}
use mathlib.Core.Path.{◌≡◌, refl, sym, ap, subst, ◌∙◌}
use mathlib.Core.List.{List}
use Prim.Native.Nat.{ℕ, ◌+◌, ◌≤◌, ◌<◌}
use native.Mathlib.Omega.{arith}
use lib.ListN.{length, get_or, set, length-set}
use lib.Seq.{get_or-set_other}
use Rattle.refusal.specs.Numbers.{number_of}
use Rattle.model.specs.Walk.{Tried, done}
use Rattle.model.specs.State.{MemoryState}
use Rattle.model.specs.Access.{◌>>=◌}
use Rattle.area.specs.declared.Cell.{Cell}
use Rattle.area.specs.Cells.{blank}
use Rattle.intmap.specs.Map.{IsMap, Frame, runs_at, levels}
use Rattle.intmap.specs.declared.IntMap.{IntMap}
use Rattle.intmap.specs.Runs.{size}
use Rattle.intmap.proofs.StoreLaws.{room_map, frame_same}
use Rattle.intmap.proofs.RunLaws.{size-pos}
use Rattle.encoding.proofs.HeldAfter.{Carried}
use Rattle.state.specs.Leads.{Held, Current, HoldsMap, Tells, Leaves, operands, Leads}

-- ---- frames

-- nothing has changed
pub unchanged : (cs : List Cell) (base n : ℕ) → Frame cs cs base n
unchanged cs base n = record { long = refl; below = λ j h. refl; above = λ j h. refl }

pub frame-set : (cs ds : List Cell) (p : ℕ) (c : Cell) → ds ≡ set cs p c → Frame cs ds p 1
frame-set cs ds p c e =
    record {
      long = ap length e ∙ length-set cs p c;
      below = λ j lt. ap (λ l. get_or l j blank) e ∙ get_or-set_other cs p j c blank (omega arith);
      above = λ j le. ap (λ l. get_or l j blank) e ∙ get_or-set_other cs p j c blank (omega arith);
    }

pub frame-within : (cs ds : List Cell) (inner few base n : ℕ) → base ≤ inner → inner + few ≤ base + n → Frame cs ds inner few → Frame cs ds base n
frame-within cs ds inner few base n low high f = record { long = f.long; below = λ j lt. f.below j (omega arith); above = λ j le. f.above j (omega arith) }

pub frame_then : (cs ds es : List Cell) (base n : ℕ) → Frame cs ds base n → Frame ds es base n → Frame cs es base n
frame_then cs ds es base n f g =
    record { long = g.long ∙ f.long; below = λ j lt. g.below j lt ∙ f.below j lt; above = λ j le. g.above j le ∙ f.above j le }

-- ---- a store

-- an answer in runs is the definition's
pub tells_stored : (limit bound : ℕ) (ds : List Cell) (a : IntMap) (r : Stored) (t : Tried MemoryState) → Carried limit bound (stored_of ds r) t → Leaves limit ds a r → Tells limit bound ds r t
tells_stored limit bound ds a (Err n) t c l = c.refuses (number_of n) refl
tells_stored limit bound ds a (Ok b) t c l = c.next ds b.base b.len b.used (runs_at ds b) refl refl l.room.used

pub leaves_stored : (cs ds : List Cell) (limit : ℕ) (a : IntMap) (j depth : ℕ) (run : List Cell) (r : Stored) → Stores cs ds limit a 0 j depth run r → Leaves limit ds a r
leaves_stored cs ds limit a j depth run (Err n) st = tt
leaves_stored cs ds limit a j depth run (Ok b) st = record { base = st.leaves.base; room = st.leaves.room }

-- ---- what is held then

-- the state that an access leaves is held
pub led_current : {limit : ℕ} {cs ds : List Cell} {a : IntMap} {f : MemoryState → Tried MemoryState} → Current limit cs a → (b : IntMap) → Leads limit cs ds a (Ok b) f → Current limit ds b
led_current {limit} {cs} {ds} {a} current b led =
    let next = led.says current.bound current.state current.large current.holds in
    record {
      room = led.leaves.room;
      scratch = omega (arith, led.leaves.base, led.frame.long, current.scratch);
      bound = current.bound;
      large = current.large;
      fits = current.fits;
      state = next.state;
      holds = next.holds;
    }

pub current_held : {limit : ℕ} {cs : List Cell} {a : IntMap} → Current limit cs a → Held cs a
current_held {limit} current = record { map = room_map current.room; limit = limit; bound = current.bound; large = current.large; fits = current.fits; state = current.state; holds = current.holds }

-- an entry of the map lies in the area
pub value-within : {limit : ℕ} {cs : List Cell} {a : IntMap} {at : ℕ} → Current limit cs a → at + size cs levels at ≤ a.base + a.used → at < length cs
value-within {cs = cs} {at = at} current below = omega (arith, below, size-pos cs levels at, current.room.most, current.room.room)

-- ---- where a loop is

-- the state that is held now, and the definition's rest from there
pub record Rest (limit bound : ℕ) (ds : List Cell) (b : IntMap) (whole : Tried MemoryState) (rest : MemoryState → Tried MemoryState) : Type 0 where
  pub state : MemoryState
  pub same : whole ≡ rest state
  pub holds : HoldsMap limit bound ds b state

-- from the map a in cs it came to b in ds: what is still to come is `rest`
pub record Reached (limit : ℕ) (cs ds : List Cell) (a b : IntMap) (whole rest : MemoryState → Tried MemoryState) : Type 0 where
  pub says : (bound : ℕ) (m : MemoryState) → operands ≤ bound → HoldsMap limit bound cs a m → Rest limit bound ds b (whole m) rest
  pub base : b.base ≡ a.base
  pub current : Current limit ds b
  pub frame : Frame cs ds a.base (limit + limit)

pub reached_first : (limit : ℕ) (cs : List Cell) (a : IntMap) (whole : MemoryState → Tried MemoryState) → Current limit cs a → Reached limit cs cs a a whole whole
reached_first limit cs a whole c =
    record { says = λ bound m le h. record { state = m; same = refl; holds = h }; base = refl; current = c; frame = frame_same cs cs a.base (limit + limit) refl }

module _ {limit : ℕ} {cs ds : List Cell} {a b : IntMap} {whole rest : MemoryState → Tried MemoryState} (r : Reached limit cs ds a b whole rest) where
  -- the frame of what comes next
  framed : (es : List Cell) → Frame ds es b.base (limit + limit) → Frame cs es a.base (limit + limit)
  framed es f = frame_then cs ds es a.base (limit + limit) r.frame (subst (λ p. Frame ds es p (limit + limit)) r.base f)

  stays : (es : List Cell) (s : Stored) → Leaves limit es b s → Leaves limit es a s
  stays es (Err n) l = tt
  stays es (Ok c) l = record { base = l.base ∙ r.base; room = l.room }

  -- all that is still to come is done at once
  pub reached_last : (es : List Cell) (s : Stored) → Leads limit ds es b s rest → Leads limit cs es a s whole
  reached_last es s l =
      record {
        says = λ bound m le h. (let w = r.says bound m le h in subst (Tells limit bound es s) (sym w.same) (l.says bound w.state le w.holds));
        leaves = stays es s l.leaves;
        frame = framed es l.frame;
      }

  -- f is done, and g is still to come
  module _ (es : List Cell) (f g : MemoryState → Tried MemoryState) (opens : (m : MemoryState) → rest m ≡ f m >>= g) where
    pub reached_next : (s : Stored) → Leads limit ds es b s f → (c : IntMap) → s ≡ Ok c → Reached limit cs es a c whole g
    reached_next s led c e =
        let l = subst (λ z. Leads limit ds es b z f) e led in
        record {
          says = λ bound m le h.
              (let w = r.says bound m le h in
              let v = l.says bound w.state le w.holds in
              record { state = v.state; same = w.same ∙ opens w.state ∙ ap (λ t. t >>= g) v.answer; holds = v.holds });
          base = l.leaves.base ∙ r.base;
          current = led_current r.current c l;
          frame = framed es l.frame;
        }

    -- f refused
    pub reached_stop : (s : Stored) → Leads limit ds es b s f → (n : Refusal) → s ≡ Err n → Leads limit cs es a (Err n) whole
    reached_stop s led n e =
        let l = subst (λ z. Leads limit ds es b z f) e led in
        record {
          says = λ bound m le h.
              (let w = r.says bound m le h in w.same ∙ opens w.state ∙ ap (λ t. t >>= g) (l.says bound w.state le w.holds));
          leaves = tt;
          frame = framed es l.frame;
        }

  -- what is still to come, said otherwise of every state that is held
  pub reached_as : (other : MemoryState → Tried MemoryState) → ((bound : ℕ) (m : MemoryState) → HoldsMap limit bound ds b m → rest m ≡ other m) → Reached limit cs ds a b whole other
  reached_as other same =
      record {
        says = λ bound m le h. (let w = r.says bound m le h in record { state = w.state; same = w.same ∙ same bound w.state w.holds; holds = w.holds });
        base = r.base;
        current = r.current;
        frame = r.frame;
      }

  -- nothing is still to come
  pub reached_end : ((m : MemoryState) → rest m ≡ done m) → Leads limit cs ds a (Ok b) whole
  reached_end ends =
      record {
        says = λ bound m le h. (let w = r.says bound m le h in record { state = w.state; answer = w.same ∙ ends w.state; holds = w.holds });
        leaves = record { base = r.base; room = r.current.room };
        frame = r.frame;
      }

-- the map that an access leaves
pub led_map : {limit : ℕ} {cs ds : List Cell} {a : IntMap} {f : MemoryState → Tried MemoryState} (s : Stored) → Leads limit cs ds a s f → (b : IntMap) → s ≡ Ok b → IsMap ds b
led_map {limit} {ds = ds} {a} s led b e = room_map (subst (Leaves limit ds a) e led.leaves).room

-- ---- two accesses, one after the other

module _ (limit : ℕ) (cs ds : List Cell) (a : IntMap) (f g : MemoryState → Tried MemoryState) (current : Current limit cs a) where
  here : Reached limit cs cs a a (λ m. f m >>= g) (λ m. f m >>= g)
  here = reached_first limit cs a (λ m. f m >>= g) current

  pub leads_then : (es : List Cell) (b : IntMap) (r : Stored) → Leads limit cs ds a (Ok b) f → Leads limit ds es b r g → Leads limit cs es a r (λ m. f m >>= g)
  leads_then es b r first second = reached_last (reached_next here ds f g (λ m. refl) (Ok b) first b refl) es r second

  pub leads_stop : (n : Refusal) → Leads limit cs ds a (Err n) f → Leads limit cs ds a (Err n) (λ m. f m >>= g)
  leads_stop n first = reached_stop here ds f g (λ m. refl) (Err n) first n refl
