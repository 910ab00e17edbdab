-- The laws of `get`: the four ways of a judged index and a search. Assumes nothing.
use mathlib.Core.Path.{◌≡◌, sym, ap, ◌∙◌}
use mathlib.Core.List.{List}
use Prim.Native.Nat.{ℕ}
use Rattle.model.specs.Walk.{Tried, refused, done}
use Rattle.model.specs.Access.{index, ◌>>=◌}
use Rattle.area.specs.declared.Cell.{Cell}
use Rattle.intmap.specs.Pack.{class_key}
use Rattle.intmap.specs.Swap.{lookup}
use Rattle.intmap.specs.Find.{seek}
use Rattle.intmap.specs.Map.{levels, runs_at, IsMap}
use Rattle.intmap.specs.Signed.{int_of}
use Rattle.std.specs.Prelude.{Some, None, Ok, Err}
use Rattle.refusal.specs.Numbers.{number_of}
use Rattle.refusal.specs.declared.Refusal.{Refusal}
use Rattle.intmap.specs.Get.{Index, index_of, read_runs, Gets}
use Rattle.intmap.specs.declared.Place.{Place}
use Rattle.intmap.specs.declared.IntMap.{IntMap}
use Rattle.intmap.proofs.Swapped.{seek_ok, seek_err}
use Rattle.intmap.proofs.StoreLaws.{found_in, found_all}

module _ (cs : List Cell) (m : IntMap) (class i : ℕ) (x : Index) (ix : index_of x ≡ index (int_of i)) where
  -- what is looked up, once the index is known
  looked : (t : Tried ℕ) → index_of x ≡ t → (t >>= λ k. done (lookup (class_key class k) (runs_at cs m))) ≡ read_runs class (int_of i) (runs_at cs m)
  unfolding read_runs
  looked t e = ap (λ (y : Tried ℕ). y >>= λ k. done (lookup (class_key class k) (runs_at cs m))) (sym e ∙ ix)

  pub get_bad : (n : Refusal) → x ≡ Err n → Gets cs m class i (Err n)
  get_bad n e = record { answer = looked (refused (number_of n)) (ap index_of e); place = tt }

  module _ (is : IsMap cs m) (k : ℕ) (e : x ≡ Ok k) {w : Place} where
    pub get_absent : Err w ≡ seek cs levels (class_key class k) m.len m.base → Gets cs m class i (Ok None)
    get_absent h = record { answer = ap done (sym (seek_err cs levels (class_key class k) m.len m.base w h)) ∙ looked (done k) (ap index_of e); place = tt }

    pub get_at : Ok w ≡ seek cs levels (class_key class k) m.len m.base → Gets cs m class i (Ok (Some w.at))
    get_at h =
        record {
          answer = ap done (sym (seek_ok cs levels (class_key class k) m.len m.base w h)) ∙ looked (done k) (ap index_of e);
          place = ((found_in cs m (class_key class k) is (Ok w) h).0, found_all cs m (class_key class k) is h);
        }
