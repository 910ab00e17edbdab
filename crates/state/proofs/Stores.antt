-- A store after a call: the same buffer and limit, and the same map where it was refused. Assumes nothing.
use mathlib.Core.Path.{◌≡◌, refl, subst, ◌∙◌}
use mathlib.Core.List.{List}
use Prim.Native.Nat.{ℕ}
use Rattle.std.specs.Prelude.{Ok, Err, Result}
use Rattle.area.specs.declared.Cell.{Cell}
use Rattle.intmap.specs.Store.{Stored}
use Rattle.intmap.specs.declared.IntMap.{IntMap}
use Rattle.refusal.specs.declared.Refusal.{Refusal}
use Rattle.state.specs.Stores.{SameStore, LeavesStore, Changes}
use Rattle.state.specs.declared.store.Store.{Store}

pub untouched : {s : Store} → SameStore s s
untouched = record { buffer = refl; length = refl; limit = refl }

pub same_then : {s t u : Store} → SameStore s t → SameStore t u → SameStore s u
same_then p q = record { buffer = q.buffer ∙ p.buffer; length = q.length ∙ p.length; limit = q.limit ∙ p.limit }

-- another map does not change that
pub same_at : {s t : Store} (a : IntMap) → SameStore s t → SameStore s (record { map = a; area = t.area; limit = t.limit })
same_at a p = record { buffer = p.buffer; length = p.length; limit = p.limit }

-- an answer is no refusal
abbrev is_answer : {A : Type 0} → Result A Refusal → Type 0
is_answer (Ok v) = Unit {0}
is_answer (Err e) = ⊥

pub no_refusal : {A B : Type 0} {v : A} (e : Refusal) → Ok v ≡ Err e → B
no_refusal e is = absurd (subst is_answer is tt)

-- what nothing changed
pub stays : {s : Store} {A : Type 0} {r : Result A Refusal} → LeavesStore s s r
stays = record { same = untouched; kept = λ e is. refl }

-- behind an answer the map may be another
pub leaves_ok : {s t : Store} {A : Type 0} {v : A} → SameStore s t → LeavesStore s t (Ok v)
leaves_ok same = record { same = same; kept = no_refusal }

module _ {P : ℕ → List Cell → List Cell → IntMap → Stored → Type 0} {s t : Store} {q : Result (Unit {0}) Refusal} (c : Changes P s t q) where
  pub leaves : LeavesStore s t q
  leaves = record { same = c.same; kept = c.kept }

  -- what is refused as a change was
  pub leaves_err : {k : Refusal} → q ≡ Err k → {A : Type 0} {r : Result A Refusal} → LeavesStore s t r
  leaves_err was = record { same = c.same; kept = λ e is. c.kept _ was }
