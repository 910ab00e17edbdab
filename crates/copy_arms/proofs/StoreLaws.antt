-- A store whose limit and map are known, and what a call of it gives said of the store before. Assumes nothing.
use mathlib.Core.Path.{◌≡◌, sym, subst}
use mathlib.Core.List.{List}
use Prim.Native.Nat.{ℕ}
use Rattle.std.specs.Prelude.{Result}
use Rattle.area.specs.declared.Cell.{Cell}
use Rattle.intmap.specs.Store.{Stored}
use Rattle.intmap.specs.declared.IntMap.{IntMap}
use Rattle.refusal.specs.declared.Refusal.{Refusal}
use Rattle.state.specs.Leads.{Current}
use Rattle.state.specs.Stores.{cells_in, IsCurrent, stored_in, Changes}
use Rattle.state.specs.declared.store.Store.{Store}

-- of a store whose limit and map are known
module _ (s : Store) {limit : ℕ} {a : IntMap} (l : s.limit ≡ limit) (m : s.map ≡ a) where
  pub put_at : (F : ℕ → IntMap → Type 0) → F limit a → F s.limit s.map
  put_at F f = subst (λ z. F z s.map) (sym l) (subst (F limit) (sym m) f)

  pub current_at : Current limit (cells_in s) a → IsCurrent s
  current_at = put_at (λ z b. Current z (cells_in s) b)

pub said_of : {s : Store} {limit : ℕ} {a : IntMap} → s.limit ≡ limit → s.map ≡ a → {P : ℕ → List Cell → List Cell → IntMap → Stored → Type 0} {t : Store} {r : Result (Unit {0}) Refusal} → Changes P s t r → P limit (cells_in s) (cells_in t) a (stored_in t r)
said_of {s} {limit} {a} l m {P} {t} {r} change =
    subst (λ b. P limit (cells_in s) (cells_in t) b (stored_in t r)) m (subst (λ z. P z (cells_in s) (cells_in t) s.map (stored_in t r)) l change.is)
