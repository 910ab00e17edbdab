-- An arm that writes registers is an access to the map, a refusal, or nothing. Assumes nothing.
use Rattle.refusal.specs.Numbers.{number_of}
use Rattle.refusal.specs.declared.Refusal.{Refusal}
use Rattle.std.specs.Prelude.{Ok, Err, None}
use mathlib.Core.Path.{◌≡◌, refl, ap₂, subst}
use mathlib.Core.List.{List}
use Prim.Native.Nat.{ℕ, ◌+◌}
use Rattle.model.specs.Walk.{Tried, refused, done}
use Rattle.model.specs.Row.{Row as Listed}
use Rattle.model.specs.State.{MemoryState}
use Rattle.model.specs.Meaning.{Meaning}
use Rattle.model.specs.Operation.{RegisterOperation}
use Rattle.model.specs.RegisterArms.{register_arm}
use Rattle.area.specs.declared.Cell.{Cell}
use Rattle.intmap.specs.Store.{Stored}
use Rattle.intmap.specs.declared.IntMap.{IntMap}
use Rattle.intmap.proofs.StoreLaws.{frame_same}
use Rattle.rows.specs.Judged.{Judged}
use Rattle.rows.specs.declared.row.Row.{Row}
use Rattle.state.specs.Leads.{Current, HoldsMap, Tells, Leads}
use Rattle.state.specs.Arms.{Standard, RegisterArm}
use Rattle.state.specs.Steps.{Way}
use Rattle.state.specs.declared.Ways.{Ways}

-- none of the ways, which is what `Default` gives
pub no_ways : {w : Ways} → (w.branch ≡ None) × (w.stays ≡ None) → w ≡ record { branch = None; stays = None }
no_ways e = ap₂ (λ (b : Way) (s : Way). record { branch = b; stays = s }) e.0 e.1

-- f is what the arm gives, of every state that is held
module _ {limit : ℕ} {cs ds : List Cell} {a : IntMap} {r : Stored} {f : MemoryState → Tried MemoryState} (led : Leads limit cs ds a r f) {x : Row} {o : RegisterOperation} where
  pub register_arm_where : ((meaning : Meaning) (l : Listed) → Standard limit meaning → Judged l x → (bound : ℕ) (m : MemoryState) → HoldsMap limit bound cs a m → f m ≡ register_arm meaning l m o) → RegisterArm limit cs ds a x o r
  register_arm_where is =
      record {
        says = λ meaning l s j bound m le h. subst (Tells limit bound ds r) (is meaning l s j bound m h) (led.says bound m le h);
        leaves = led.leaves;
        frame = led.frame;
      }

  pub register_arm_as : ((meaning : Meaning) (l : Listed) → Standard limit meaning → Judged l x → (m : MemoryState) → f m ≡ register_arm meaning l m o) → RegisterArm limit cs ds a x o r
  register_arm_as is = register_arm_where (λ meaning l s j bound m h. is meaning l s j m)

-- a refusal, and a map left as it is
module _ {limit : ℕ} {cs : List Cell} {a : IntMap} {x : Row} {o : RegisterOperation} where
  pub register_arm_refuses : (n : Refusal) → ((meaning : Meaning) (l : Listed) → Standard limit meaning → Judged l x → (bound : ℕ) (m : MemoryState) → HoldsMap limit bound cs a m → register_arm meaning l m o ≡ refused (number_of n)) → RegisterArm limit cs cs a x o (Err n)
  register_arm_refuses n is =
      record {
        says = λ meaning l s j bound m le h. is meaning l s j bound m h;
        leaves = tt;
        frame = frame_same cs cs a.base (limit + limit) refl;
      }

  pub register_arm_same : Current limit cs a → ((meaning : Meaning) (l : Listed) → Standard limit meaning → Judged l x → (bound : ℕ) (m : MemoryState) → HoldsMap limit bound cs a m → register_arm meaning l m o ≡ done m) → RegisterArm limit cs cs a x o (Ok a)
  register_arm_same current is =
      record {
        says = λ meaning l s j bound m le h. record { state = m; answer = is meaning l s j bound m h; holds = h };
        leaves = record { base = refl; room = current.room };
        frame = frame_same cs cs a.base (limit + limit) refl;
      }
