-- Laws of specs/Header.antt: a link and its word, which link a digit picks, a link added to their word, and the parts of the sizes' word. Assumes
-- nothing.
use Rattle.std.proofs.Common.{◌≡◌, ℕ, ◌+◌, ◌-◌, ◌*◌, ◌/◌, ◌%◌, ◌^◌, ◌<◌, ◌≤◌, ◌⊎◌, List, get_or, sym, refl, ap, ◌∙◌, subst, ap₂, inl, inr, mul_assoc, div-lt_iff_lt-mul, arith, pow_pos, pow-add, shr-shr, zero, suc, Bool, not, eqb, ne_eqb, None, Some}
use Rattle.std.specs.Bool.{then_some}
use Rattle.std.proofs.lemmas.Option.{none-some}
use native.Mathlib.Nat.{zero-div, add-mul-div_right, add-mul-mod_self_right}
use Rattle.area.specs.Cells.{blank}
use Rattle.area.specs.declared.Cell.{Cell}
use Rattle.state.specs.declared.MemoryState.{MemoryState}
use Rattle.branches.specs.Header.{third, links_at, shift, sizes_at, child, sizes_word, len_at, used_at, next_at, state_at, link_of, place_of}

-- the word of the place that a word leads to is that word; a word leads nowhere where it is 0, and else to that place
pub link_place : (w : ℕ) → link_of (place_of w) ≡ w
link_place zero = refl
link_place (suc w) = refl

pub place_some : (p : ℕ) → (p ≡ 0 → ⊥) → Some p ≡ place_of p
place_some zero ne = absurd (ne refl)
place_some (suc p) ne = refl

pub place_tested : (w : ℕ) → then_some (not (eqb w 0)) w ≡ place_of w
place_tested zero = refl
place_tested (suc w) = ap (λ (b : Bool). then_some (not b) (suc w)) (ne_eqb (suc w) 0 (λ z. omega (arith, z)))

pub place_none : (w : ℕ) → None ≡ place_of w → w ≡ 0
place_none w e = sym (link_place w) ∙ ap link_of (sym e)

pub place_at : (w p : ℕ) → Some p ≡ place_of w → (p ≡ w) × (p ≡ 0 → ⊥)
place_at zero p e = absurd (none-some _ (sym e))
place_at (suc w) p e = let f : p ≡ suc w = ap link_of e in (f, λ z. omega (arith, f, z))

-- a link as it is read
pub child-read : (cs : List Cell) (p bits s : ℕ) (c : Cell) → c ≡ get_or cs (p + 1) blank → s ≡ shift bits → c.head / 2 ^ s % third ≡ child cs p bits
unfolding child
child-read cs p bits s c read is = ap₂ (λ (d : Cell) (x : ℕ). d.head / 2 ^ x % third) read is

-- a digit alone picks it
pub child_alike : (cs : List Cell) (p a b : ℕ) → a % 3 ≡ b % 3 → child cs p a ≡ child cs p b
unfolding child
child_alike cs p a b e = ap (λ d. links_at cs p / 2 ^ (21 * d) % third) e

-- it depends on the header's second cell
pub child-same : (cs ds : List Cell) (p bits : ℕ) → get_or ds (p + 1) blank ≡ get_or cs (p + 1) blank → child ds p bits ≡ child cs p bits
unfolding child
child-same cs ds p bits e = ap (λ (c : Cell). c.head / 2 ^ shift bits % third) e

-- no links lead nowhere
pub child-none : (cs : List Cell) (p bits : ℕ) → links_at cs p ≡ 0 → child cs p bits ≡ 0
unfolding child
child-none cs p bits e = ap (λ (w : ℕ). w / 2 ^ shift bits % third) e ∙ ap (λ (x : ℕ). x % third) (zero-div (2 ^ shift bits))

-- ---- a link is added to the word of links

-- 21 bits of a power, and of a shift, apart from the rest
pow_third : (n j : ℕ) → 2 ^ (n + 21 + j) ≡ 2 ^ n * third * 2 ^ j
pow_third n j = pow-add 2 (n + 21) j ∙ ap (λ (x : ℕ). x * 2 ^ j) (pow-add 2 n 21)

shr_third : (w k n : ℕ) → w / 2 ^ (k + 21 + n) ≡ w / 2 ^ k / third / 2 ^ n
shr_third w k n = sym (ap (λ (x : ℕ). x / 2 ^ n) (shr-shr w k 21) ∙ shr-shr w (k + 21) n)

-- q is added from bit k on, where a third of the word is 0
module _ (w q k : ℕ) (free : w / 2 ^ k % third ≡ 0) (small : q < third) where
  added : (w + q * 2 ^ k) / 2 ^ k ≡ w / 2 ^ k + q
  added = add-mul-div_right w q (pow_pos k)

  -- this third is q
  pub third_there : (w + q * 2 ^ k) / 2 ^ k % third ≡ q
  third_there = ap (λ (x : ℕ). x % third) added ∙ omega arith

  -- those below and above are as they were
  pub third_other : (j : ℕ) → (j + 21 ≤ k) ⊎ (k + 21 ≤ j) → (w + q * 2 ^ k) / 2 ^ j % third ≡ w / 2 ^ j % third
  third_other j (inl le) =
      let n : ℕ = k - (j + 21) in
      let more : q * 2 ^ k ≡ q * 2 ^ n * third * 2 ^ j = ap (λ (x : ℕ). q * 2 ^ x) (omega arith) ∙ ap (λ (x : ℕ). q * x) (pow_third n j) ∙ simp mul_assoc in
      ap (λ (x : ℕ). (w + x) / 2 ^ j % third) more ∙ ap (λ (x : ℕ). x % third) (add-mul-div_right w (q * 2 ^ n * third) (pow_pos j)) ∙ add-mul-mod_self_right (w / 2 ^ j) (q * 2 ^ n) third
  third_other j (inr le) =
      let n : ℕ = j - (k + 21) in
      let same : (w + q * 2 ^ k) / 2 ^ k / third ≡ w / 2 ^ k / third = ap (λ (x : ℕ). x / third) added ∙ omega arith in
      subst (λ (x : ℕ). (w + q * 2 ^ k) / 2 ^ x % third ≡ w / 2 ^ x % third) (omega arith)
      (ap (λ (x : ℕ). x % third) (shr_third (w + q * 2 ^ k) k n ∙ ap (λ (x : ℕ). x / 2 ^ n) same ∙ sym (shr_third w k n)))

  -- it is still a word
  pub third_fits : k + 21 ≤ 64 → w < 2 ^ 64 → w + q * 2 ^ k < 2 ^ 64
  third_fits le lt =
      let n : ℕ = 64 - (k + 21) in
      let word : 2 ^ 64 ≡ 2 ^ n * third * 2 ^ k = ap (λ (x : ℕ). 2 ^ x) {x = 64} (omega arith) ∙ pow_third n k in
      let then : w / 2 ^ k < 2 ^ n * third = (div-lt_iff_lt-mul (pow_pos k)).1 (subst (λ (x : ℕ). w < x) word lt) in
      let now : (w + q * 2 ^ k) / 2 ^ k < 2 ^ n * third = omega (arith, added) in
      subst (λ (x : ℕ). w + q * 2 ^ k < x) (sym word) ((div-lt_iff_lt-mul (pow_pos k)).0 now)

-- the parts of the sizes' word
module _ (cs : List Cell) (p len used next : ℕ) (w : sizes_at cs p ≡ sizes_word len used next) (few : len ≤ 65535) (small : used ≤ 65535) where
  pub len_part : len_at cs p ≡ len
  len_part = omega arith

  pub used_part : used_at cs p ≡ used
  used_part = omega arith

  pub next_part : next_at cs p ≡ next
  next_part = omega arith

-- a state is told by its row and its sizes
pub state_parts : (cs : List Cell) (p : ℕ) (s : MemoryState) → (get_or cs p blank).payload ≡ s.row → len_at cs p ≡ s.map.len → used_at cs p ≡ s.map.used → state_at cs p ≡ record { row = s.row; map = record { base = p + 2; len = s.map.len; used = s.map.used } }
state_parts cs p s r l u = λ i. record { row = r i; map = record { base = p + 2; len = l i; used = u i } }

pub state_same : (cs ds : List Cell) (p : ℕ) → get_or ds p blank ≡ get_or cs p blank → sizes_at ds p ≡ sizes_at cs p → state_at ds p ≡ state_at cs p
state_same cs ds p h w = state_parts ds p (state_at cs p) (ap (λ (c : Cell). c.payload) h) (ap (λ (x : ℕ). x % 65536) w) (ap (λ (x : ℕ). x / 65536 % 65536) w)
