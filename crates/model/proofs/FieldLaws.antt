-- Laws of fields: what takes a field takes exactly what its printer prints. Assumes nothing.
use mathlib.Core.Path.{◌≡◌, refl, sym, ap, ◌∙◌, subst}
use mathlib.Core.Logic.{◌↔◌}
use mathlib.Core.Bool.{Bool, true, not, and-eq-true_iff}
use Rattle.std.specs.Prelude.{Option, Some}
use mathlib.Core.List.{List, [], ◌∷◌, ◌++◌, append_assoc, append-nil}
use Prim.Native.Nat.{ℕ, ◌<◌}
use native.Mathlib.Omega.{arith}
use lib.Dec.{eqb}
use borrow.Author.Tests.{eq-eqb, ne_eqb, eqb-true, not-true}
use Rattle.type_info.specs.Ascii.{within}
use Rattle.type_info.specs.All.{all_of}
use Rattle.model.specs.Reader.{◌then◌, read_if, read_name}
use Rattle.model.specs.Fields.{take_line, take_key, take_value, take_field, print_field}
use Rattle.model.specs.TextClaims.{Exactly, Takes}
use Rattle.model.proofs.TestLaws.{cases, within-true}
use Rattle.model.proofs.ReaderLaws.{Any, never, some_same, then_some, only_if-true, only_if-some, exactly, reads, only, if_exact, name_exact, takes_from, yields, gives, yields_as, given_yields, given_gives, then_yields, then_gives}

-- no byte of it is LF
abbrev pub NoLf : List ℕ → Type 0
NoLf s = all_of (λ b. not (eqb b 10)) s ≡ true

-- no byte of a range above LF is LF
pub within_no_lf : (low high b : ℕ) → 10 < low → within low high b ≡ true → not (eqb b 10) ≡ true
within_no_lf low high b h e = ap not (ne_eqb b 10 (λ is. absurd (omega (arith, is, (within-true low high b).0 e))))

-- A value that stands on one line: what its reader accepts, and that no printing holds an LF.
pub record Value {A : Type 0} (read : List ℕ → Option A) (Valid : A → Type 0) (print : A → List ℕ) : Type 0 where
  pub exact : Exactly read Valid print
  pub one_line : (v : A) → Valid v → NoLf (print v)

pub if_value : {A : Type 0} {read : List ℕ → Option A} {Valid Wanted : A → Type 0} {print : A → List ℕ} {test : A → Bool} → Value read Valid print → ((a : A) → (Valid a × (test a ≡ true)) ↔ Wanted a) → Value (read_if test read) Wanted print
if_value value w = record { exact = if_exact value.exact w; one_line = λ v h. value.one_line v ((w v).1 h).0 }

-- a text that passes a test which no LF passes
pub text_value : {test : List ℕ → Bool} → ((s : List ℕ) → test s ≡ true → NoLf s) → Value (read_if test Some) (λ s. test s ≡ true) (λ s. s)
text_value clean = record {
  exact = if_exact {Valid = Any} (exactly (λ v _. refl) (λ t v e. (tt, some_same e))) (λ s. (λ h. h.1, λ h. (tt, h)));
  one_line = clean;
}

pub name_value : {A : Type 0} (name : A → List ℕ) (list : List A) → ((a : A) → (read_name name list (name a) ≡ Some a) × NoLf (name a)) → Value (read_name name list) Any name
name_value name list good = record { exact = name_exact name list (λ a. (good a).0); one_line = λ a _. (good a).1 }

-- Lines and keys.
line_on : (v u : List ℕ) → NoLf v → take_line ((v ++ (10 ∷ [])) ++ u) ≡ Some (v, u)
unfolding take_line
line_on [] u h = refl
line_on (b ∷ v) u h =
    let (first, rest) = (and-eq-true_iff (not (eqb b 10)) (all_of (λ b. not (eqb b 10)) v)).0 h in
    rw (not-true (eqb b 10) first, take_line) (ap (λ o. o then λ l. Some (b ∷ l.0, l.1)) (line_on v u rest))

-- a line and what stands behind it
abbrev Line : List ℕ → List ℕ × List ℕ → Type 0
Line t l = NoLf l.0 × (t ≡ (l.0 ++ (10 ∷ [])) ++ l.1)

line_back : (t : List ℕ) (l : List ℕ × List ℕ) → take_line t ≡ Some l → Line t l
unfolding take_line
line_back [] l e = never e
line_back (b ∷ t) l e =
    cases (eqb b 10)
    (λ y. let here : take_line (b ∷ t) ≡ Some ([], t) = rw (y, take_line) in
    subst (Line (b ∷ t)) (some_same (sym here ∙ e)) (refl, ap (λ x. x ∷ t) (eqb-true b 10 y)))
    (λ y. let later : take_line (b ∷ t) ≡ (take_line t then λ l. Some (b ∷ l.0, l.1)) = rw (y, take_line) in
    then_some (take_line t) (sym later ∙ e) λ rest is same.
    let (clean, split) = line_back t rest is in
    subst (Line (b ∷ t)) (some_same same) (rw y clean, ap (λ x. b ∷ x) split))

pub line_takes : Takes take_line NoLf (λ v. v ++ (10 ∷ []))
line_takes = takes_from (λ v h. record { is = λ u. line_on v u h }) (record { is = λ t v u. line_back t (v, u) })

key_on : (key u : List ℕ) → take_key key (key ++ u) ≡ Some (tt, u)
unfolding take_key
key_on [] u = refl
key_on (k ∷ key) u = only_if-true (eq-eqb k k refl) ∙ key_on key u

key_back : (key t : List ℕ) (x : Unit) (u : List ℕ) → take_key key t ≡ Some (x, u) → Unit {0} × (t ≡ key ++ u)
unfolding take_key
key_back [] t x u e = (tt, ap (λ (p : Unit × List ℕ). p.1) (some_same e))
key_back (k ∷ key) [] x u e = never e
key_back (k ∷ key) (b ∷ t) x u e =
    let (same, more) = only_if-some (eqb k b) e in
    let p : k ≡ b = eqb-true k b same in
    let q : t ≡ key ++ u = (key_back key t x u more).1 in
    (tt, cc)

pub key-takes : (key : List ℕ) → Takes (take_key key) Any (λ _. key)
key-takes key = takes_from (λ v h. record { is = λ u. key_on key u }) (record { is = key_back key })

pub value-takes : (key : List ℕ) → Takes (take_value key) NoLf (print_field key)
unfolding take_value print_field
value-takes key = takes_from
    (λ v h. then_yields (key-takes key) _ tt (yields line_takes h))
    (then_gives (key-takes key) _ λ _ _. gives line_takes λ v h u. (h, sym (append_assoc key (v ++ (10 ∷ [])) u)))

-- a field
pub field-takes : {A : Type 0} {read : List ℕ → Option A} {Valid : A → Type 0} {print : A → List ℕ} (key : List ℕ) → Value read Valid print → Takes (take_field key read) Valid (λ v. print_field key (print v))
unfolding take_field
field-takes {print = print} key value = takes_from
    (λ v h. yields_as (append-nil (print_field key (print v))) (then_yields (value-takes key) _ (value.one_line v h) (given_yields (reads value.exact h))))
    (then_gives (value-takes key) _ λ s _. given_gives λ a e u. let (good, is) = only value.exact e in (good, ap (λ x. print_field key x ++ u) is))
