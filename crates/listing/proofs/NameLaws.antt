-- A row's address and its operation's name, byte by byte. Assumes nothing.
use mathlib.Core.Path.{◌≡◌, refl, sym, ap, ◌∙◌}
use mathlib.Core.Bool.{Bool, true, false, ◌&&◌, ◌||◌}
use Rattle.std.specs.Prelude.{Option, None, Some}
use mathlib.Core.List.{List, [], ◌∷◌}
use Rattle.std.specs.Bool.{then_some}
use Rattle.std.specs.List.{list_all}
use Rattle.std.specs.Char.{is_ascii_alphanumeric}
use Prim.Native.Nat.{ℕ, ◌≤◌, ◌<◌}
use native.Mathlib.Omega.{arith}
use lib.Dec.{leb, eqb}
use lib.ListN.{length}
use borrow.Author.Tests.{leb-false, ne_eqb}
use Rattle.type_info.specs.Ascii.{within}
use Rattle.type_info.specs.All.{all_of}
use Rattle.model.specs.Reader.{◌then◌, only_if, read_if}
use Rattle.model.specs.Numbers.{is_digit, read_natural, read_up_to, read_index}
use Rattle.model.specs.ListingText.{is_alnum, is_operation}
use Rattle.model.proofs.TestLaws.{cases, within_above}
use Rattle.model.proofs.ReaderLaws.{never, some_same}
use Rattle.text.proofs.NumberLaws.{within_below, within_both}
use Rattle.text.proofs.ReadLaws.{some_if}

-- an item's own number: one that is at most k, and is k
module _ (k : ℕ) (t : List ℕ) where
  pub index_none : None ≡ read_up_to k t → None ≡ read_index k t
  unfolding read_up_to read_if read_index
  index_none h = go (read_natural t) h
    where
      go : (o : Option ℕ) → None ≡ (o then λ n. only_if (leb n k) (Some n)) → None ≡ (o then λ n. only_if (eqb n k) (Some (tt {0})))
      go None h = refl
      go (Some n) h = cases (leb n k) (λ e. never (h ∙ ap (λ b. only_if b (Some n)) e)) (λ e. ap (λ b. only_if b (Some (tt {0}))) (sym (ne_eqb n k (λ d. absurd (omega (arith, d, leb-false n k e))))))

  index_as : {n : ℕ} → Some n ≡ read_up_to k t → only_if (eqb n k) (Some (tt {0})) ≡ read_index k t
  unfolding read_up_to read_if read_index
  index_as {n} h = go (read_natural t) h
    where
      go : (o : Option ℕ) → Some n ≡ (o then λ m. only_if (leb m k) (Some m)) → only_if (eqb n k) (Some (tt {0})) ≡ (o then λ m. only_if (eqb m k) (Some (tt {0})))
      go None h = never (sym h)
      go (Some m) h = cases (leb m k) (λ e. ap (λ x. only_if (eqb x k) (Some (tt {0}))) (some_same (h ∙ ap (λ b. only_if b (Some m)) e))) (λ e. never (sym (h ∙ ap (λ b. only_if b (Some m)) e)))

  pub index_tested : {n : ℕ} → Some n ≡ read_up_to k t → then_some (eqb n k) (tt {0}) ≡ read_index k t
  index_tested {n} h = some_if (eqb n k) tt ∙ index_as h

-- a letter or a digit
or_three : (x y z : Bool) → (x || y) || z ≡ x || (y || z)
or_three true y z = refl
or_three false y z = refl

pub is_alnum_as : (b : ℕ) → is_ascii_alphanumeric b ≡ is_alnum b
is_alnum_as b = or_three (is_digit b) (within 65 90 b) (within 97 122 b)

all_as : (s : List ℕ) → list_all is_ascii_alphanumeric s ≡ all_of is_alnum s
all_as [] = refl
all_as (b ∷ s) = ap (λ x. x && list_all is_ascii_alphanumeric s) (is_alnum_as b) ∙ ap (λ x. is_alnum b && x) (all_as s)

-- a name: its length, then its bytes
module _ (t : List ℕ) where
  name_as : {x : Bool} → within 1 32 (length t) ≡ x → (x && all_of is_alnum t) ≡ is_operation t
  unfolding is_operation
  name_as e = ap (λ b. b && all_of is_alnum t) (sym e)

  pub name_empty : length t < 1 → false ≡ is_operation t
  name_empty h = name_as (within_below 1 32 (length t) h)

  pub name_long : 32 < length t → false ≡ is_operation t
  name_long h = name_as (within_above 1 32 (length t) h)

  pub name_is : 1 ≤ length t → length t ≤ 32 → list_all is_ascii_alphanumeric t ≡ is_operation t
  name_is h k = all_as t ∙ name_as (within_both 1 32 (length t) h k)
