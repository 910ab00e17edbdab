-- The check's turns: a state and what is left to read say what the whole text says. Assumes nothing.
use mathlib.Core.Path.{◌≡◌, refl, sym, ap, ◌∙◌}
use mathlib.Core.Bool.{Bool, true, false}
use Rattle.std.specs.Prelude.{Option, None, Some}
use mathlib.Core.List.{List, [], ◌∷◌}
use Prim.Native.Nat.{ℕ, zero, suc, ◌+◌, ◌-◌, ◌<◌, ◌≤◌}
use native.Mathlib.Numerals.{add-one}
use native.Mathlib.Omega.{arith}
use lib.Dec.{eqb}
use lib.ListN.{length, get_or, take, drop, drop_of_length-le, length-drop}
use lib.Seq.{drop-cons, take_all}
use Rattle.std.specs.Prelude.{not, position}
use Rattle.std.specs.Option.{unwrap_or}
use Rattle.std.specs.List.{position_or_len}
use Rattle.std.specs.Char.{is_ascii}
use Rattle.std.specs.Str.{IsAscii}
use Rattle.std.proofs.lemmas.Grind.{common_steps}
use Rattle.std.proofs.lemmas.List.Sums.{fails_before_first}
use Rattle.type_info.specs.Utf8.{Range, ◌‥◌, utf8_char, begun, after_byte, is_empty, reads, is_utf8, Checked}
use Rattle.type_info.specs.ByteClass.{ClassOf, expectations, expectation, or_none, expected, StateAfter}
use Rattle.type_info.proofs.Grammar.{in_range_lem, sound, complete, reads_on, reads_stops}
use Rattle.type_info.proofs.Tables.{passes, passes_at}

-- every state but 8 expects something
goes_on : Option (List Range) → Bool
goes_on None = false
goes_on (Some rs) = true

is_some : (o : Option (List Range)) → goes_on o ≡ true → o ≡ Some (or_none o)
unfolding goes_on
is_some None e = cc
is_some (Some rs) e = refl

expects : (q : ℕ) → q < 8 → expectation q ≡ Some (expected q)
unfolding expectation expectations expected goes_on passes
expects q h = is_some (expectation q) (passes_at (λ k. goes_on (expectation k)) 0 8 refl q (omega arith) (omega arith))

-- and only state 0 expects nothing more
same_bool : Bool → Bool → Bool
same_bool true b = b
same_bool false true = false
same_bool false false = true

bool_same : (a b : Bool) → same_bool a b ≡ true → b ≡ a
unfolding same_bool
bool_same true b e = e
bool_same false true e = sym e
bool_same false false e = refl

ends : (q : ℕ) → q < 8 → eqb q 0 ≡ is_empty (expected q)
unfolding expectation expectations expected same_bool passes
ends q h = bool_same (is_empty (expected q)) (eqb q 0) (passes_at (λ k. same_bool (is_empty (expected k)) (eqb k 0)) 0 8 refl q (omega arith) (omega arith))

pub at_end : (s : List ℕ) (i q : ℕ) → length s ≤ i → q < 8 → eqb q 0 ≡ reads (expected q) (drop i s)
unfolding reads
at_end s i q h hq = ends q hq ∙ ap (reads (expected q)) (sym (drop_of_length-le s h))

-- the first byte of what is left
byte_read : (rs : List Range) (s : List ℕ) (i : ℕ) → i < length s → reads rs (drop i s) ≡ reads rs (get_or s i 0 ∷ drop (i + 1) s)
byte_read rs s i inside = ap (reads rs) (drop-cons s i 0 inside ∙ ap (λ k. get_or s i 0 ∷ drop k s) (sym (add-one i)))

-- one byte: its class c, and the state r behind it
module _ (s : List ℕ) (i q c r : ℕ) (inside : i < length s) (class : ClassOf (get_or s i 0) c) (after : StateAfter q c r) where
  pub byte_taken : r < 8 → reads (expected r) (drop (i + 1) s) ≡ reads (expected q) (drop i s)
  byte_taken h = sym (byte_read (expected q) s i inside ∙ reads_on (expected q) (get_or s i 0) (drop (i + 1) s) (expected r) (sym (after.is (get_or s i 0) class.has) ∙ expects r h))

  pub byte_refused : r ≡ 8 → false ≡ reads (expected q) (drop i s)
  unfolding expectation expectations
  byte_refused e = sym (byte_read (expected q) s i inside ∙ reads_stops (expected q) (get_or s i 0) (drop (i + 1) s) (sym (after.is (get_or s i 0) class.has) ∙ ap expectation e))

-- a byte below 128 is a character: behind it nothing more is expected
ascii_char : (b : ℕ) (s : List ℕ) → b ≤ 127 → is_utf8 (b ∷ s) ≡ is_utf8 s
unfolding is_utf8 after_byte begun utf8_char
ascii_char b s low = reads_on [] b s [] (rw (in_range_lem (0x00 ‥ 0x7F) b (omega arith) low))

-- so what stands behind such bytes decides
pub front_passed : (n : ℕ) (s : List ℕ) → n ≤ length s → ((k : ℕ) → k < n → get_or s k 0 ≤ 127) → is_utf8 (drop n s) ≡ is_utf8 s
front_passed zero s inside low = refl
front_passed (suc n) [] inside low = absurd (omega (arith, inside))
front_passed (suc n) (b ∷ s) inside low = front_passed n s (omega (arith, inside)) (λ k h. low (suc k) (omega (arith, h))) ∙ sym (ascii_char b s (low 0 (omega arith)))

-- what stands before the first byte that is none of them, or before the end
ascii_byte : (b : ℕ) → not (is_ascii b) ≡ false → b ≤ 127
ascii_byte b e = grind (arith, common_steps)

pub start_passed : (s : List ℕ) (o : Option ℕ) → o ≡ position (λ b. not (is_ascii b)) s → (n : ℕ) → n ≡ unwrap_or o (length s) → is_utf8 (take (length s - n) (drop n s)) ≡ is_utf8 s
start_passed s o found n start =
    let test : ℕ → Bool = λ b. not (is_ascii b) in
    let at : n ≤ position_or_len test s = grind (arith, common_steps) in
    let inside : n ≤ length s = grind (arith, common_steps) in
    ap is_utf8 (take_all (length s - n) (drop n s) (omega (arith, length-drop n s)))
    ∙ front_passed n s inside (λ k h. ascii_byte (get_or s k 0) (fails_before_first test s k 0 (omega arith)))

-- and a text of them is UTF-8
pub ascii_utf8 : (s : List ℕ) → IsAscii s → is_utf8 s ≡ true
unfolding is_utf8 reads
ascii_utf8 [] ascii = refl
ascii_utf8 (b ∷ s) ascii = ascii_char b s (omega (arith, ascii 0)) ∙ ascii_utf8 s (λ i. ascii (suc i))

pub checked : (s : List ℕ) (r : Bool) → r ≡ is_utf8 s → Checked s r
checked s r e = record { is = e; sound = λ h. sound s (sym e ∙ h); complete = λ u. e ∙ complete u }
