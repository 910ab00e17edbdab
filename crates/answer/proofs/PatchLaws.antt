-- A buffer with text written over it: nothing, one text behind another, a number's digits, and a copy byte by byte. Assumes nothing.
use Rattle.std.proofs.Common.{◌≡◌, ℕ, ◌+◌, ◌≤◌, ◌<◌, List, [], ◌++◌, length, take, drop, sym, ap, ap₂, ◌∙◌, arith, append_assoc, append-nil, add-zero, add_assoc, add-one, length-append, length-drop}
use lib.ListN.{set, get_or, take-append-drop}
use lib.Seq.{length-take-le, take_at, drop-append-add, drop-drop, paste, paste-zero, paste-suc, take-length}
use Rattle.answer.specs.Writing.{patch}

head-length : (out : List ℕ) (at : ℕ) (v : List ℕ) → at ≤ length out → length (take at out ++ v) ≡ at + length v
head-length out at v h = length-append (take at out) v ∙ ap (λ k. k + length v) (length-take-le at out h)

module _ (out : List ℕ) (at : ℕ) where
  pub patch_nil : patch out at [] ≡ out
  unfolding patch
  patch_nil = rw (append-nil, add-zero) (take-append-drop at out)

  pub patch_length : (v : List ℕ) → at + length v ≤ length out → length (patch out at v) ≡ length out
  unfolding patch
  patch_length v h = length-append (take at out ++ v) (drop (at + length v) out) ∙ rw (head-length out at v (omega arith), length-drop) (omega arith)

  pub patch_patch : (a b : List ℕ) → at + length a + length b ≤ length out → patch (patch out at a) (at + length a) b ≡ patch out at (a ++ b)
  unfolding patch
  patch_patch a b h =
      let lp : length (take at out ++ a) ≡ at + length a = head-length out at a (omega arith) in
      ap (λ x. (x ++ b) ++ drop (at + length a + length b) ((take at out ++ a) ++ drop (at + length a) out)) (take_at (take at out ++ a) (drop (at + length a) out) (at + length a) lp)
      ∙ ap (λ x. ((take at out ++ a) ++ b) ++ x)
      (ap (λ k. drop (k + length b) ((take at out ++ a) ++ drop (at + length a) out)) (sym lp)
      ∙ drop-append-add (take at out ++ a) (drop (at + length a) out) (length b)
      ∙ drop-drop (length b) (at + length a) out)
      ∙ ap (λ x. x ++ drop (at + length a + length b) out) (append_assoc (take at out) a b)
      ∙ ap (λ k. (take at out ++ (a ++ b)) ++ drop k out) (add_assoc at (length a) (length b) ∙ ap (λ k. at + k) (sym (length-append a b)))

  -- the digits of a number, written up to `end`
  pub patch_before : (o v : List ℕ) (start : ℕ) → start + length v ≡ at + length v → drop start o ≡ v ++ drop (at + length v) out → take start o ≡ take start out → o ≡ patch out at v
  unfolding patch
  patch_before o v start e after before =
      let s : start ≡ at = omega arith in
      sym (take-append-drop start o) ∙ ap₂ (λ x y. x ++ y) (before ∙ ap (λ k. take k out) s) after ∙ sym (append_assoc (take at out) v (drop (at + length v) out))

-- copying bytes, so many so far
unfoldable pub pasted : List ℕ → ℕ → List ℕ → ℕ → List ℕ
pasted out at v i = paste out at v i

module _ (out v : List ℕ) (at : ℕ) where
  pub copy_none : out ≡ pasted out at v 0
  unfolding pasted
  copy_none = paste-zero out at v

  pub copy_turn : {exit : List ℕ} {i : ℕ} → at + length v ≤ length out → i < length v → exit ≡ pasted out at v i → set exit (at + i) (get_or v i 0) ≡ pasted out at v (i + 1)
  unfolding pasted
  copy_turn {exit} {i} h l e = rw (add-one, e) (paste-suc out at v i 0 (omega arith) l)

  pub copy_done : {exit : List ℕ} {i : ℕ} → i ≡ length v → exit ≡ pasted out at v i → exit ≡ patch out at v
  unfolding patch pasted
  copy_done {exit} {i} n e = e ∙ ap (λ k. paste out at v k) n ∙ ap (λ x. (take at out ++ x) ++ drop (at + length v) out) (take-length v)
