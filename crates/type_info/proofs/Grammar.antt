-- The test of specs/Utf8.antt says what its grammar says, both ways. Assumes nothing.
use mathlib.Core.Path.{◌≡◌, refl, sym, ap, subst, ◌∙◌}
use mathlib.Core.Bool.{Bool, true, false, and-eq-true_iff}
use Rattle.std.specs.Prelude.{Option, None, Some}
use Rattle.std.proofs.lemmas.Option.{none-some, same_Some}
use mathlib.Core.List.{List, [], ◌∷◌, ◌++◌}
use Prim.Native.Nat.{ℕ, suc, ◌≤◌, ◌<◌}
use native.Mathlib.Omega.{arith}
use lib.Dec.{leb, lit≤}
use borrow.Author.Tests.{le-leb, lt-leb, leb-true}
use Rattle.type_info.specs.Utf8.{Range, utf8_char, Sequence, empty, byte, OneOf, this, later, Utf8Octets, char, in_range, some_if, begun, after_byte, reads, is_utf8}

-- a byte in a range, as the test has it
pub in_range_lem : (r : Range) (b : ℕ) → r.first ≤ b → b ≤ r.last → in_range r b ≡ true
unfolding in_range
in_range_lem r b lo hi = rw (le-leb r.first b lo, le-leb b r.last hi)

past_range : (r : Range) (b : ℕ) → r.first ≤ b → r.last < b → in_range r b ≡ false
unfolding in_range
past_range r b lo hi = rw (le-leb r.first b lo, lt-leb b r.last hi)

pub range_in : (r : Range) (b : ℕ) → in_range r b ≡ true → (r.first ≤ b) × (b ≤ r.last)
unfolding in_range
range_in r b e = let h = (and-eq-true_iff (leb r.first b) (leb b r.last)).0 e in (leb-true r.first b h.0, leb-true b r.last h.1)

-- first bytes rise from one alternative to the next, so that a byte begins one of them only
data Rising : ℕ → List (List Range) → Type 0 where
  end : {k : ℕ} → Rising k []
  next : {k : ℕ} {r : Range} {rs : List Range} {more : List (List Range)} → k ≤ r.first → r.first ≤ r.last → Rising (suc r.last) more → Rising k ((r ∷ rs) ∷ more)

rising : Rising 0 utf8_char
unfolding utf8_char
rising =
    next (lit≤ tt) (lit≤ tt)
    (next (lit≤ tt) (lit≤ tt)
    (next (lit≤ tt) (lit≤ tt)
    (next (lit≤ tt) (lit≤ tt)
    (next (lit≤ tt) (lit≤ tt)
    (next (lit≤ tt) (lit≤ tt)
    (next (lit≤ tt) (lit≤ tt)
    (next (lit≤ tt) (lit≤ tt)
    (next (lit≤ tt) (lit≤ tt) end))))))))

-- what a byte leaves of the alternative that it begins
record Begun (alts : List (List Range)) (b : ℕ) (s : List ℕ) : Type 0 where
  rest : List Range
  is : begun alts b ≡ Some rest
  fits : Sequence rest s

begins : {k : ℕ} {alts : List (List Range)} {b : ℕ} {s : List ℕ} → Rising k alts → OneOf alts (b ∷ s) → (k ≤ b) × Begun alts b s
unfolding begun
begins {b = b} {s = s} (end {k = k}) o = elim o [ ]
begins {b} {s} (next {r} {rs} {more} low order up) (this (byte lo hi q)) =
    (omega arith, record { rest = rs; is = ap (λ x. some_if x rs (begun more b)) (in_range_lem r b lo hi); fits = q })
begins {b} {s} (next {r} {rs} {more} low order up) (later o) =
    let x = begins up o in
    (omega (arith, x.0), record { rest = x.1.rest; is = ap (λ y. some_if y rs (begun more b)) (past_range r b (omega (arith, x.0)) (omega (arith, x.0))) ∙ x.1.is; fits = x.1.fits })

not-empty : {k : ℕ} {alts : List (List Range)} → Rising k alts → OneOf alts [] → ⊥
not-empty (end {k = k}) o = elim o [ ]
not-empty (next {k = k} {r = r} {rs = rs} {more = more} low order up) (this q) = elim q [ ]
not-empty (next low order up) (later o) = not-empty up o

-- one byte of the test
pub reads_on : (rs : List Range) (b : ℕ) (s : List ℕ) (more : List Range) → after_byte rs b ≡ Some more → reads rs (b ∷ s) ≡ reads more s
unfolding reads
reads_on rs b s more e = ap (λ o. elim o as (λ _. Bool) [ None ↦ false | Some more₂ ↦ reads more₂ s ]) e

pub reads_stops : (rs : List Range) (b : ℕ) (s : List ℕ) → after_byte rs b ≡ None → reads rs (b ∷ s) ≡ false
unfolding reads
reads_stops rs b s e = ap (λ o. elim o as (λ _. Bool) [ None ↦ false | Some more ↦ reads more s ]) e

-- the grammar is accepted
sequence_read : {rs : List Range} {c : List ℕ} (t : List ℕ) → Sequence rs c → reads [] t ≡ true → reads rs (c ++ t) ≡ true
unfolding reads after_byte
sequence_read t empty h = h
sequence_read t (byte {r} {rs} {b} {s} lo hi q) h =
    reads_on (r ∷ rs) b (s ++ t) rs (ap (λ x. some_if x rs None) (in_range_lem r b lo hi)) ∙ sequence_read t q h

char_read : (c t : List ℕ) → OneOf utf8_char c → reads [] t ≡ true → reads [] (c ++ t) ≡ true
unfolding reads after_byte
char_read [] t o h = absurd (not-empty rising o)
char_read (b ∷ s) t o h = let x = (begins rising o).1 in reads_on [] b (s ++ t) x.rest x.is ∙ sequence_read t x.fits h

pub complete : {s : List ℕ} → Utf8Octets s → is_utf8 s ≡ true
unfolding is_utf8 reads
complete empty = refl
complete (char c rest o u e) = ap is_utf8 e ∙ char_read c rest o (complete u)

-- what is accepted is in the grammar
record Read (rs : List Range) (s : List ℕ) : Type 0 where
  start : List ℕ
  rest : List ℕ
  fits : Sequence rs start
  octets : Utf8Octets rest
  joined : s ≡ start ++ rest

began : (alts : List (List Range)) (b : ℕ) (s : List ℕ) (rs : List Range) → begun alts b ≡ Some rs → Sequence rs s → OneOf alts (b ∷ s)
unfolding begun
began [] b s rs e q = absurd (none-some rs e)
began ([] ∷ more) b s rs e q = later (began more b s rs e q)
began ((r ∷ ranges) ∷ more) b s rs e q = go (in_range r b) refl e (λ f. began more b s rs f q)
  where
    go : (x : Bool) → in_range r b ≡ x → some_if x ranges (begun more b) ≡ Some rs → (begun more b ≡ Some rs → OneOf more (b ∷ s)) → OneOf ((r ∷ ranges) ∷ more) (b ∷ s)
    go true ex f back = let i = range_in r b ex in this (byte i.0 i.1 (subst (λ l. Sequence l s) (sym (same_Some ranges rs f)) q))
    go false ex f back = later (back f)

read : (rs : List Range) (s : List ℕ) → reads rs s ≡ true → Read rs s
unfolding reads after_byte
read [] [] e = record { start = []; rest = []; fits = empty; octets = empty; joined = refl }
read (r ∷ rs) [] e = cc
read [] (b ∷ s) e = go (begun utf8_char b) refl e (λ rs. read rs s)
  where
    go : (o : Option (List Range)) → begun utf8_char b ≡ o → elim o as (λ _. Bool) [ None ↦ false | Some more ↦ reads more s ] ≡ true → ((rs : List Range) → reads rs s ≡ true → Read rs s) → Read [] (b ∷ s)
    go None eb h back = cc
    go (Some rs) eb h back =
        let x = back rs h in
        record {
          start = [];
          rest = b ∷ s;
          fits = empty;
          octets = char (b ∷ x.start) x.rest (began utf8_char b x.start rs eb x.fits) x.octets (ap (λ l. b ∷ l) x.joined);
          joined = refl;
        }
read (r ∷ rs) (b ∷ s) e = go (in_range r b) refl e (read rs s)
  where
    go : (x : Bool) → in_range r b ≡ x → elim (some_if x rs None) as (λ _. Bool) [ None ↦ false | Some more ↦ reads more s ] ≡ true → (reads rs s ≡ true → Read rs s) → Read (r ∷ rs) (b ∷ s)
    go true ex h back =
        let x = back h in
        let i = range_in r b ex in
        record { start = b ∷ x.start; rest = x.rest; fits = byte i.0 i.1 x.fits; octets = x.octets; joined = ap (λ l. b ∷ l) x.joined }
    go false ex h back = cc

pub sound : (s : List ℕ) → is_utf8 s ≡ true → Utf8Octets s
unfolding is_utf8
sound s e = whole (read [] s e)
  where
    whole : Read [] s → Utf8Octets s
    whole x = from x.start x.fits x.rest x.octets x.joined
      where
        from : (c : List ℕ) → Sequence [] c → (rest : List ℕ) → Utf8Octets rest → s ≡ c ++ rest → Utf8Octets s
        from [] q rest o j = subst Utf8Octets (sym j) o
        from (_ ∷ _) q rest o j = elim q [ ]
