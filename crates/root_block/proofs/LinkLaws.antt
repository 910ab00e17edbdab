-- The second pass: what a link changes and what it leaves, and that the records linked so far are the chains. Assumes nothing.
use mathlib.Core.Path.{◌≡◌, refl, sym, ap, ap₂, subst, ◌∙◌}
use mathlib.Core.Bool.{Bool, true, false, not}
use mathlib.Core.List.{List, [], ◌∷◌, ◌++◌, append_assoc, append-nil}
use Rattle.std.specs.Bool.{then_some}
use Prim.Native.Nat.{ℕ, zero, suc, ◌+◌, ◌-◌, ◌%◌, ◌<◌, ◌≤◌}
use native.Mathlib.Omega.{arith}
use native.Mathlib.Nat.{mod-lt}
use lib.Dec.{eqb}
use lib.ListN.{length, get_or, set, length-set, length-append}
use borrow.Author.Tests.{eqb-true, eqb-false, ne_eqb}
use Rattle.model.specs.Catalogue.{CatalogueRecord}
use Rattle.model.proofs.CatalogueTextLaws.{catalogue_exact}
use Rattle.area.specs.Cells.{cell, blank, cells, Inside, CellsNow}
use Rattle.area.specs.declared.Cell.{Cell}
use Rattle.area.proofs.CellLaws.{cells-kept}
use Rattle.intmap.specs.Pick.{pick}
use Rattle.intmap.specs.Signed.{offset}
use Rattle.root_block.specs.Blocks.{page_of, db_of, next_of, column_of, first_of, leads_to, IsBlock, in_bucket, Chain, IsBlocks}
use Rattle.root_block.specs.Build.{Indexable, Indexed, StandFrom, Stand, with_next, with_first, bucket_at, follows, linked, linked_all}
use Rattle.root_block.proofs.FillLaws.{at_set}

-- a link is told from 0
pub link_tested : (link : ℕ) → then_some (not (eqb link 0)) link ≡ leads_to link
link_tested zero = refl
link_tested (suc i) = ap (λ (b : Bool). then_some (not b) (suc i)) (ne_eqb (suc i) 0 (λ z. omega (arith, z)))

-- ---- the same record in another cell

record Keeps (c d : Cell) : Type 0 where
  column : column_of d ≡ column_of c
  db : db_of d ≡ db_of c
  page : page_of d ≡ page_of c

keeps_same : (c : Cell) → Keeps c c
keeps_same c = record { column = refl; db = refl; page = refl }

keeps_next : (c : Cell) (link : ℕ) → Keeps c (with_next link c)
keeps_next c link = record { column = refl; db = omega arith; page = omega arith }

keeps_first : (c d : Cell) (link : ℕ) → Keeps c d → Keeps c (with_first link d)
keeps_first c d link k = record { column = ap (λ h. cell h 0) (omega arith) ∙ k.column; db = k.db; page = k.page }

block_kept : {c d : Cell} {r : CatalogueRecord} → Keeps c d → IsBlock c r → IsBlock d r
block_kept k b = record { db = k.db ∙ b.db; page = k.page ∙ b.page; column = ap (λ x. x ∷ []) k.column ∙ b.column }

-- ---- one record linked

-- both stores make the link
pub link_made :
    (xs ys zs : List ℕ) (i : ℕ) (c : Cell) (f b : ℕ) (d : Cell) →
    c ≡ get_or (cells xs) i blank →
    f ≡ first_of (get_or (cells xs) ((offset + page_of c) % length (cells xs)) blank) →
    CellsNow xs ys (set (cells xs) i (with_next f c)) →
    b ≡ (offset + page_of c) % length (cells ys) →
    d ≡ get_or (cells ys) b blank →
    CellsNow ys zs (set (cells ys) b (with_first (i + 1) d)) →
    CellsNow xs zs (linked (cells xs) i)
unfolding linked
link_made xs ys zs i c f b d ce fe s be de u =
    let cs : List Cell = cells xs in
    let old : f ≡ first_of (get_or cs (bucket_at cs i) blank) = fe ∙ ap (λ x. first_of (get_or cs ((offset + page_of x) % length cs) blank)) ce in
    let followed : cells ys ≡ follows cs i = s.cells ∙ ap₂ (λ x g. set cs i (with_next g x)) ce old in
    let its : b ≡ bucket_at cs i = be ∙ ap₂ (λ x n. (offset + page_of x) % n) ce s.same in
    record {
      same = u.same ∙ s.same;
      bytes = u.bytes ∙ s.bytes;
      rest = λ j le. u.rest j (omega (arith, s.same)) ∙ s.rest j le;
      cells = u.cells ∙ ap (λ x. set (cells ys) b (with_first (i + 1) x)) de ∙ ap₂ (λ l k. set l k (with_first (i + 1) (get_or l k blank))) followed its;
    }

module _ (cs : List Cell) (i : ℕ) (lt : i < length cs) where
  -- its bucket, and the bucket's first
  abbrev its : ℕ
  its = bucket_at cs i

  abbrev old : ℕ
  old = first_of (get_or cs its blank)

  inside : its < length cs
  inside = mod-lt (offset + page_of (get_or cs i blank)) (omega arith)

  within : its < length (follows cs i)
  within = omega (arith, inside, length-set cs i (with_next old (get_or cs i blank)))

  pub linked_long : length (linked cs i) ≡ length cs
  unfolding linked
  linked_long = length-set (follows cs i) its (with_first (i + 1) (get_or (follows cs i) its blank)) ∙ length-set cs i (with_next old (get_or cs i blank))

  -- a cell after both stores
  linked_at : (P : Cell → Type 0) (j : ℕ) → (j ≡ its → P (with_first (i + 1) (get_or (follows cs i) j blank))) → ((j ≡ its → ⊥) → P (get_or (follows cs i) j blank)) → P (get_or (linked cs i) j blank)
  unfolding linked
  linked_at P j here there = at_set P (follows cs i) its (with_first (i + 1) (get_or (follows cs i) its blank)) j within (λ e. subst (λ k. P (with_first (i + 1) (get_or (follows cs i) k blank))) e (here e)) there

  followed_at : (P : Cell → Type 0) (j : ℕ) → (j ≡ i → P (with_next old (get_or cs j blank))) → ((j ≡ i → ⊥) → P (get_or cs j blank)) → P (get_or (follows cs i) j blank)
  followed_at P j here there = at_set P cs i (with_next old (get_or cs i blank)) j lt (λ e. subst (λ k. P (with_next old (get_or cs k blank))) e (here e)) there

  linked_keeps : (j : ℕ) → Keeps (get_or cs j blank) (get_or (linked cs i) j blank)
  linked_keeps j =
      let k : Keeps (get_or cs j blank) (get_or (follows cs i) j blank) = followed_at (Keeps (get_or cs j blank)) j (λ _. keeps_next (get_or cs j blank) old) (λ _. keeps_same (get_or cs j blank)) in
      linked_at (Keeps (get_or cs j blank)) j (λ _. keeps_first (get_or cs j blank) (get_or (follows cs i) j blank) (i + 1) k) (λ _. k)

  -- the next of each but this one is as it was, and the first of each bucket but its own
  next-same : (j : ℕ) → (j ≡ i → ⊥) → next_of (get_or (linked cs i) j blank) ≡ next_of (get_or cs j blank)
  next-same j ne =
      let same : next_of (get_or (follows cs i) j blank) ≡ next_of (get_or cs j blank) = followed_at (λ d. next_of d ≡ next_of (get_or cs j blank)) j (λ e. absurd (ne e)) (λ _. refl) in
      linked_at (λ d. next_of d ≡ next_of (get_or cs j blank)) j (λ _. same) (λ _. same)

  next_new : next_of (get_or (linked cs i) i blank) ≡ old
  next_new =
      let new : next_of (get_or (follows cs i) i blank) ≡ old = followed_at (λ d. next_of d ≡ old) i (λ _. omega arith) (λ ne. absurd (ne refl)) in
      linked_at (λ d. next_of d ≡ old) i (λ _. new) (λ _. new)

  first_same : (b : ℕ) → (b ≡ its → ⊥) → first_of (get_or (linked cs i) b blank) ≡ first_of (get_or cs b blank)
  first_same b ne = linked_at (λ d. first_of d ≡ first_of (get_or cs b blank)) b (λ e. absurd (ne e)) (λ _. followed_at (λ d. first_of d ≡ first_of (get_or cs b blank)) b (λ _. refl) (λ _. refl))

  first_new : first_of (get_or (linked cs i) its blank) ≡ i + 1
  first_new = linked_at (λ d. first_of d ≡ i + 1) its (λ _. omega arith) (λ ne. absurd (ne refl))

-- ---- chains

chain_kept : (cs ds : List Cell) (low link : ℕ) (rs : List CatalogueRecord) → length ds ≡ length cs → ((j : ℕ) → Keeps (get_or cs j blank) (get_or ds j blank)) → ((j : ℕ) → low ≤ j → next_of (get_or ds j blank) ≡ next_of (get_or cs j blank)) → Chain cs low link rs → Chain ds low link rs
chain_kept cs ds low link [] len keeps next c = c
chain_kept cs ds low link (r ∷ rs) len keeps next c =
    let above : low < link = c.0 in
    let fits : link ≤ length cs = c.1 in (
      above,
      omega arith,
      block_kept (keeps (link - 1)) c.2,
      subst (λ n. Chain ds link n rs) (sym (next (link - 1) (omega arith))) (chain_kept cs ds link (next_of (get_or cs (link - 1) blank)) rs len keeps (λ j l. next j (omega arith)) c.3),
    )

chain_lower : (cs : List Cell) (low high link : ℕ) (rs : List CatalogueRecord) → low ≤ high → Chain cs high link rs → Chain cs low link rs
chain_lower cs low high link [] le c = c
chain_lower cs low high link (r ∷ rs) le c = let above : high < link = c.0 in (omega arith, c.1, c.2, c.3)

-- these records are in the chains of their buckets, all from the cell `at` on
record Chained (n : ℕ) (cs : List Cell) (at : ℕ) (done : List CatalogueRecord) : Type 0 where
  long : length cs ≡ n
  chains : (b : ℕ) → b < n → Chain cs at (first_of (get_or cs b blank)) (in_bucket n b done)

-- one more record before them
chained_more : (n : ℕ) (cs : List Cell) (i : ℕ) (r : CatalogueRecord) (done : List CatalogueRecord) → i < n → IsBlock (get_or cs i blank) r → Chained n cs (i + 1) done → Chained n (linked cs i) i (r ∷ done)
unfolding in_bucket
chained_more n cs i r done l is h = record { long = linked_long cs i lt ∙ h.long; chains = λ b m. go b m (eqb ((offset + r.page) % n) b) refl }
  where
    lt : i < length cs
    lt = omega (arith, h.long)

    ds : List Cell
    ds = linked cs i

    -- the bucket is the record's
    home : bucket_at cs i ≡ (offset + r.page) % n
    home = ap₂ (λ p m. (offset + p) % m) is.page h.long

    -- the chains are as they were
    kept : (b : ℕ) → b < n → Chain ds (i + 1) (first_of (get_or cs b blank)) (in_bucket n b done)
    kept b m = chain_kept cs ds (i + 1) (first_of (get_or cs b blank)) (in_bucket n b done) (linked_long cs i lt) (linked_keeps cs i lt) (λ j le. next-same cs i lt j (λ e. omega arith)) (h.chains b m)

    go : (b : ℕ) → b < n → (t : Bool) → eqb ((offset + r.page) % n) b ≡ t → Chain ds i (first_of (get_or ds b blank)) (pick t (r ∷ in_bucket n b done) (in_bucket n b done))
    go b m true e =
        let own : b ≡ bucket_at cs i = sym (home ∙ eqb-true ((offset + r.page) % n) b e) in
        let first : first_of (get_or ds b blank) ≡ i + 1 = ap (λ k. first_of (get_or ds k blank)) own ∙ first_new cs i lt in
        let z : i + 1 - 1 ≡ i = omega arith in
        subst (λ k. Chain ds i k (r ∷ in_bucket n b done)) (sym first) (
          omega arith,
          omega (arith, linked_long cs i lt),
          subst (λ k. IsBlock (get_or ds k blank) r) (sym z) (block_kept (linked_keeps cs i lt i) is),
          subst (λ k. Chain ds (i + 1) k (in_bucket n b done)) (sym (ap (λ k. next_of (get_or ds k blank)) z ∙ next_new cs i lt ∙ ap (λ k. first_of (get_or cs k blank)) (sym own))) (kept b m),
        )
    go b m false e =
        subst (λ k. Chain ds i k (in_bucket n b done)) (sym (first_same cs i lt b (λ q. eqb-false ((offset + r.page) % n) b e (sym (q ∙ home)))))
        (chain_lower ds i (i + 1) (first_of (get_or cs b blank)) (in_bucket n b done) (omega arith) (kept b m))

-- ---- all records

stand_kept : (cs ds : List Cell) (at : ℕ) (rs : List CatalogueRecord) → ((j : ℕ) → Keeps (get_or cs j blank) (get_or ds j blank)) → StandFrom cs at rs → StandFrom ds at rs
stand_kept cs ds at [] keeps s = tt
stand_kept cs ds at (r ∷ rs) keeps s = (block_kept (keeps at) s.0, stand_kept cs ds (at + 1) rs keeps s.1)

stand_init : (cs : List Cell) (at : ℕ) (init : List CatalogueRecord) (r : CatalogueRecord) → StandFrom cs at (init ++ (r ∷ [])) → StandFrom cs at init × IsBlock (get_or cs (at + length init) blank) r
stand_init cs at [] r s = let z : at ≡ at + 0 = omega arith in (tt, subst (λ j. IsBlock (get_or cs j blank) r) z s.0)
stand_init cs at (x ∷ init) r s =
    let more = stand_init cs (at + 1) init r s.1 in
    let z : at + 1 + length init ≡ at + length (x ∷ init) = omega arith in
    ((s.0, more.0), subst (λ j. IsBlock (get_or cs j blank) r) z more.1)

record Last (l : List CatalogueRecord) : Type 0 where
  init : List CatalogueRecord
  last : CatalogueRecord
  is : l ≡ init ++ (last ∷ [])

last_of : (l : List CatalogueRecord) → 0 < length l → Last l
last_of [] h = absurd (omega arith)
last_of (x ∷ []) h = record { init = []; last = x; is = refl }
last_of (x ∷ y ∷ l) h = let m = last_of (y ∷ l) (omega arith) in record { init = x ∷ m.init; last = m.last; is = ap (λ k. x ∷ k) m.is }

chained_all : (n : ℕ) (cs : List Cell) (i : ℕ) (left done : List CatalogueRecord) → length left ≡ i → i ≤ n → StandFrom cs 0 left → Chained n cs i done → Chained n (linked_all cs i) 0 (left ++ done)
unfolding linked_all
chained_all n cs zero [] done e le s h = h
chained_all n cs zero (r ∷ left) done e le s h = absurd (omega arith)
chained_all n cs (suc i) left done e le s h =
    let m = last_of left (omega arith) in
    let init = m.init in
    let r = m.last in
    let k : length init ≡ i = omega (arith, ap length m.is, length-append init (r ∷ [])) in
    let lt : i < length cs = omega (arith, h.long) in
    let z : suc i ≡ i + 1 = omega arith in
    let stands = stand_init cs 0 init r (subst (StandFrom cs 0) m.is s) in
    let q : 0 + length init ≡ i = omega arith in
    subst (Chained n (linked_all (linked cs i) i) 0) (sym (ap (λ l. l ++ done) m.is ∙ append_assoc init (r ∷ []) done))
    (chained_all n (linked cs i) i init (r ∷ done) k (omega arith) (stand_kept cs (linked cs i) 0 init (linked_keeps cs i lt) stands.0)
    (chained_more n cs i r done (omega arith) (subst (λ j. IsBlock (get_or cs j blank) r) q stands.1) (subst (λ j. Chained n cs j done) z h)))

-- a turn of the loop
pub linked_all-turn : (cs ds : List Cell) (i : ℕ) → 0 < i → ds ≡ linked cs (i - 1) → linked_all ds (i - 1) ≡ linked_all cs i
unfolding linked_all
linked_all-turn cs ds zero lt e = absurd (omega arith)
linked_all-turn cs ds (suc i) lt e = let z : suc i - 1 ≡ i = omega arith in ap (λ l. linked_all l (suc i - 1)) e ∙ ap (λ j. linked_all (linked cs j) j) z

pub linked_all_end : (cs : List Cell) (i : ℕ) → i ≤ 0 → linked_all cs i ≡ cs
unfolding linked_all
linked_all_end cs zero le = refl
linked_all_end cs (suc i) le = absurd (omega arith)

-- ---- the blocks

module _ (t xs ys : List ℕ) (n : ℕ) (h : Indexable t xs) (s : Stand t xs ys n) where
  -- there is a cell for each record
  pub stand_inside : Inside ys 0 n
  stand_inside =
      let long : length (cells ys) ≡ length (cells xs) = cells-kept xs ys s.bytes in
      record { within = omega (arith, h.few, (s.says h.records h.reads).1); small = omega (arith, h.small) }

  pub indexed : (zs : List ℕ) → CellsNow ys zs (linked_all (cells ys) n) → Indexed t xs zs
  unfolding in_bucket
  indexed zs l =
      record {
        says = λ records e.
            (let all = s.says records e in
            let start : Chained (length (cells ys)) (cells ys) n [] = record { long = refl; chains = λ b m. s.none b } in
            let c = chained_all (length (cells ys)) (cells ys) n records [] all.1 (omega (arith, stand_inside.within)) all.0 start in
            let d : Chained (length (cells zs)) (cells zs) 0 records = subst (λ m. Chained m (cells zs) 0 records) (sym l.same) (subst (λ k. Chained (length (cells ys)) k 0 records) (sym l.cells) (subst (Chained (length (cells ys)) (linked_all (cells ys) n) 0) (append-nil records) c)) in
            record {
              some = omega (arith, l.same, cells-kept xs ys s.bytes, h.some);
              small = omega (arith, l.same, cells-kept xs ys s.bytes, h.small);
              valid = ((catalogue_exact.is t records).0 e).0;
              chains = d.chains;
            });
        bytes = l.bytes ∙ s.bytes;
      }

-- the bytes are then the blocks of some records
pub made_blocks : (t xs zs : List ℕ) → Indexable t xs → Indexed t xs zs → ∥ IsBlocks zs ∥₁
made_blocks t xs zs h made = ∣ record { records = h.records; has = made.says h.records h.reads } ∣₁
